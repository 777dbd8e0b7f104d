-- `tally::count` meets its contract: one record more, which adds what its parts can say at most.
use Prim.Native.Nat.{◌≤◌}
use native.Mathlib.Omega.{arith}
use mathlib.Core.Path.{◌≡◌, sym, ap, subst}
use Rattle.roll.specs.declared.Line.{Line}
use Rattle.roll.specs.Clauses.{line_cents, most_line_cents}
use Rattle.lines.specs.Turns.{counted}
use Rattle.lines.proofs.tally.count.Goals as goal

-- what a line says, where it is known which it is
said : {line same : Line} → line ≡ same → line_cents line ≤ most_line_cents → line_cents same ≤ most_line_cents
said is most = subst (λ (l : Line). line_cents l ≤ most_line_cents) is most

pub returns-in-Charged : goal.returns-in-Charged
unfolding counted
returns-in-Charged c =
    let charge = said c.in-Charged.is c.requires.1 in
    record { is = sym (ap (counted c.args.tally) c.in-Charged.is); one = omega arith; cents = omega arith }

pub returns-in-Both : goal.returns-in-Both
unfolding counted
returns-in-Both c =
    let charge = said c.in-Both.is c.requires.1 in
    record { is = sym (ap (counted c.args.tally) c.in-Both.is); one = omega arith; cents = omega arith }

pub returns-in-Refused : goal.returns-in-Refused
unfolding counted
returns-in-Refused c = record { is = sym (ap (counted c.args.tally) c.in-Refused.is); one = omega arith; cents = omega arith }
