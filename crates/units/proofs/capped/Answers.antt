-- `units::capped` meets its contract: where there is a cap, the smaller of the two is the one that the test picks.
use native.Mathlib.Nat.{min-eq_left, min-eq_right, le_of_lt}
use mathlib.Core.Path.{sym}
use Rattle.units.proofs.Caps.{up_to}
use Rattle.units.proofs.capped.Goals as goal

pub returns-then-amount-most : goal.returns-then-amount-most
returns-then-amount-most c = up_to _ _ _ _ c.in-UpTo.is (sym (min-eq_left c.if-amount-most.true))

pub returns-else-amount-most : goal.returns-else-amount-most
returns-else-amount-most c = up_to _ _ _ _ c.in-UpTo.is (sym (min-eq_right (le_of_lt c.if-amount-most.false)))
