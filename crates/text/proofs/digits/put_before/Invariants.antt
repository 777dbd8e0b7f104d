use Prim.Native.Nat.{◌-◌, ◌≤◌, ◌<◌}
use mathlib.Core.Path.{◌≡◌}
use mathlib.Core.List.{◌++◌}
use lib.ListN.{length, drop}
use Rattle.text.specs.Texts.{decimal}
use Rattle.text.proofs.Decimal.{digits, DigitsLeft}
use Rattle.text.proofs.digits.put_before.Given as goal

abbrev pub invariant-loop-rest : goal.invariant-loop-rest
invariant-loop-rest l =
    DigitsLeft l.rest (l.end - 10) l.at × (l.at < l.end) × (l.end ≤ length l.initial.text) × (length l.text ≡ length l.initial.text)
    × (digits l.rest ++ drop l.at l.text ≡ decimal l.number ++ drop l.end l.initial.text)

abbrev pub decreases-loop-rest : goal.decreases-loop-rest
decreases-loop-rest l = l.at
