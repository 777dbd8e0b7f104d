-- `fare::towns::town_refuses` meets its contract: second class never is; first class by the area of the whole trip, or of its parts.
use native.Mathlib.Omega.{arith}
use mathlib.Core.Path.{sym, ◌∙◌}
use Rattle.fare.proofs.TownLaws.{not_first, first_whole, first_parts}
use Rattle.fare.proofs.towns.town_refuses.Goals as goal

pub returns-then-class-ne1 : goal.returns-then-class-ne1
returns-then-class-ne1 c = not_first _ _ _ c.if-class-ne1.true

pub between_in_town-requires-in-At : goal.between_in_town-requires-in-At
between_in_town-requires-in-At c = (c.requires.0, (omega arith, omega (arith, (c.requires.1.1.change _ c.in-At.is).1)))

pub between_in_town-requires-in-At-2 : goal.between_in_town-requires-in-At-2
between_in_town-requires-in-At-2 c = (c.requires.0, (omega (arith, (c.requires.1.1.change _ c.in-At.is).1), omega (arith, c.requires.1.0)))

pub returns-in-Unbroken : goal.returns-in-Unbroken
returns-in-Unbroken c =
    first_whole _ _ _ c.if-class-ne1.false (sym c.requires.1.1.value ∙ c.in-Unbroken.is)
    c.between_in_town.ensures

pub returns-in-At : goal.returns-in-At
returns-in-At c =
    first_parts _ _ _ _ c.if-class-ne1.false
    (sym c.requires.1.1.value ∙ c.in-At.is)
    (rw (c.between_in_town-in-At.ensures, c.between_in_town-in-At-2.ensures))
