-- Each way through is one of the laws of breaking.
use native.Mathlib.Omega.{arith}
use mathlib.Core.Path.{ap}
use Rattle.layout.specs.declared.Factor.{Factor}
use Rattle.fare.proofs.Breaks.{break_few, break_never, break_kept, break_at, break_nowhere}
use Rattle.fare.proofs.parts.break_of.Goals as goal

pub returns-then-stops-lt3 : goal.returns-then-stops-lt3
returns-then-stops-lt3 c = break_few c.requires (omega arith)

pub farthest_change-c-requires : goal.farthest_change-c-requires
farthest_change-c-requires c = (c.requires, omega arith)

pub comes_back_from-requires : goal.comes_back_from-requires
comes_back_from-requires c = (c.requires, (omega (arith, c.farthest_change-c.ensures.before_last), omega arith))

pub returns-then-not-comes_back_from : goal.returns-then-not-comes_back_from
returns-then-not-comes_back_from c =
    break_never c.requires (omega arith) c.farthest_change-c.ensures c.comes_back_from.ensures
    (c.if-not-comes_back_from.true)

pub area_of_stops-area-requires : goal.area_of_stops-area-requires
area_of_stops-area-requires c = (c.requires, (omega arith, omega arith))

pub factor_of-says-requires : goal.factor_of-says-requires
factor_of-says-requires c = (c.requires.read, omega (arith, c.area_of_stops-area.ensures.there))

pub kept_whole-requires : goal.kept_whole-requires
kept_whole-requires c = (c.requires.read, (c.area_of_stops-area.ensures.there, ap (λ (f : Factor). f.mark) c.factor_of-says.ensures.value))

pub returns-then-kept_whole : goal.returns-then-kept_whole
returns-then-kept_whole c = break_kept c.requires (omega arith) c.area_of_stops-area.ensures c.kept_whole.ensures c.if-kept_whole.true

pub comes_back_from-requires-2 : goal.comes_back_from-requires-2
comes_back_from-requires-2 c =
    let change = c.farthest_change-c.ensures in
    (c.requires, (omega (arith, change.before_last), c.factor_of-says.ensures.most))

pub returns-then-comes_back_from : goal.returns-then-comes_back_from
returns-then-comes_back_from c =
    break_at c.requires (omega arith) c.area_of_stops-area.ensures c.kept_whole.ensures
    c.if-kept_whole.false c.farthest_change-c.ensures (ap (λ (f : Factor). f.factor) c.factor_of-says.ensures.value)
    c.comes_back_from-2.ensures c.if-comes_back_from.true

pub returns-else-comes_back_from : goal.returns-else-comes_back_from
returns-else-comes_back_from c =
    break_nowhere c.requires (omega arith) c.area_of_stops-area.ensures c.kept_whole.ensures
    c.if-kept_whole.false c.farthest_change-c.ensures (ap (λ (f : Factor). f.factor) c.factor_of-says.ensures.value)
    c.comes_back_from-2.ensures c.if-comes_back_from.false
