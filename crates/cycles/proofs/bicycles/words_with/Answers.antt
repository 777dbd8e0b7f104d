-- `cycles::bicycles::words_with` meets its contract: the payments are those by the terms of the new covering area.
use native.Mathlib.Omega.{arith}
use Rattle.areas.proofs.Faultless.{faultless}
use Rattle.cycles.proofs.BicycleLaws.{paid_terms}
use Rattle.cycles.proofs.bicycles.words_with.Goals as goal

pub new_cover-new-requires : goal.new_cover-new-requires
new_cover-new-requires c = let p = c.requires in (p.0, (p.1.1.0, p.1.1.1.0))

pub terms_by-terms-requires : goal.terms_by-terms-requires
terms_by-terms-requires c = let p = c.requires in (p.0, (p.1.0, c.new_cover-new.ensures.there))

pub overflow_add-cover : goal.overflow_add-cover
overflow_add-cover c = omega (arith, c.new_cover-new.ensures.there)

pub paid_with-requires : goal.paid_with-requires
paid_with-requires c = (c.terms_by-terms.ensures.range, c.requires.1.1.1.1)

pub returns : goal.returns
returns c =
    let p = c.requires in
    let cover = c.new_cover-new.ensures in
    let paid = paid_terms (faultless _ _ p.0) _ cover.there c.terms_by-terms.ensures p.1.1.1.1 c.paid_with.ensures in
    record {
      cover = rw cover.value;
      known = omega (arith, cover.there);
      payments = rw (← cover.value) paid.value;
      range = paid.range;
    }
