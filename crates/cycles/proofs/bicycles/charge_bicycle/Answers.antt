-- `cycles::bicycles::charge_bicycle` meets its contract: the new covering area decides by its kind. It contains the old one, so where both are
-- of kind 1 its flat is no less.
use native.Mathlib.Omega.{arith}
use Rattle.cycles.proofs.BicycleLaws.{bicycle_pays, bicycle-flat, bicycle_fits}
use Rattle.cycles.proofs.bicycles.charge_bicycle.Goals as goal

pub new_cover-new-requires : goal.new_cover-new-requires
new_cover-new-requires c = let p = c.requires in (p.0, p.1.1)

pub terms_by-terms-requires : goal.terms_by-terms-requires
terms_by-terms-requires c = let p = c.requires in (p.0, (p.1.0, c.new_cover-new.ensures.there))

pub flat_before-before-requires : goal.flat_before-before-requires
flat_before-before-requires c = let p = c.requires in (p.0, (p.1.0, p.1.1.1))

pub overflow_sub-amount : goal.overflow_sub-amount
overflow_sub-amount c =
    let p = c.requires in
    omega (
      arith,
      bicycle_fits _ _ _ p.0 p.1.1.0 c.new_cover-new.ensures c.terms_by-terms.ensures p.1.1.1 c.if-terms.false
          c.flat_before-before.ensures,
    )

pub returns-then-terms : goal.returns-then-terms
returns-then-terms c =
    let p = c.requires in
    bicycle_pays _ _ _ p.0 p.1.1.0 c.new_cover-new.ensures c.terms_by-terms.ensures c.if-terms.true c.payment.ensures

pub returns-else-terms : goal.returns-else-terms
returns-else-terms c =
    let p = c.requires in
    bicycle-flat _ _ _ p.0 p.1.1.0 c.new_cover-new.ensures c.terms_by-terms.ensures c.if-terms.false
    c.flat_before-before.ensures
