-- `cycles::terms::terms_of` meets its contract: each number as the tariff has it, the price only where there is one.
use mathlib.Core.Path.{sym, ◌∙◌}
use mathlib.Core.Bool.{false≢true}
use Rattle.cycles.proofs.terms.terms_of.Goals as goal

pub bicycle_price-requires : goal.bicycle_price-requires
bicycle_price-requires c = let p = c.requires in (p.0, p.1, sym c.is_aachen.ensures ∙ c.if-is_aachen.true)

pub returns-then-is_aachen : goal.returns-then-is_aachen
returns-then-is_aachen c =
    let flat = c.flat-whole.ensures in
    record {
      kind = sym c.if-is_aachen.true ∙ c.is_aachen.ensures;
      flat = flat.value;
      price = λ is. c.bicycle_price.ensures.value;
      range = flat.range;
    }

pub returns-else-is_aachen : goal.returns-else-is_aachen
returns-else-is_aachen c =
    let flat = c.flat-whole.ensures in
    let common = sym c.if-is_aachen.false ∙ c.is_aachen.ensures in
    record { kind = common; flat = flat.value; price = λ is. absurd (false≢true (common ∙ is)); range = flat.range }
