-- `reader::records::read_record` meets its contract: the refusals in their order, else the record.
use native.Mathlib.Omega.{arith}
use mathlib.Core.Path.{sym, ap, ◌∙◌}
use Rattle.wire.proofs.Frames.{whole, broken_is}
use Rattle.reader.specs.Clauses.{read_as}
use Rattle.reader.proofs.Accepted.{whole_unbroken, broken_way, unfit_way, fit_told}
use Rattle.reader.proofs.records.read_record.Goals as goal

pub whose_at-requires : goal.whose_at-requires
whose_at-requires c = sym c.frame_at.ensures ∙ c.in-Whole.is

pub overflow_add-body : goal.overflow_add-body
overflow_add-body c = let frame = whole _ _ _ _ (sym c.frame_at.ensures ∙ c.in-Whole.is) in omega arith

pub in_range-requires : goal.in_range-requires
in_range-requires c =
    record {
      whole = whole_unbroken _ _ _ _ (sym c.frame_at.ensures ∙ c.in-Whole.is);
      fits = sym c.whose_at.ensures ∙ c.in-Fits.is;
    }

pub returns-in-Broken : goal.returns-in-Broken
returns-in-Broken c = sym (ap read_as (broken_way _ _ (broken_is _ _ (sym c.frame_at.ensures ∙ c.in-Broken.is))))

pub returns-in-Unfit : goal.returns-in-Unfit
returns-in-Unfit c =
    let unbroken = whole_unbroken _ _ _ _ (sym c.frame_at.ensures ∙ c.in-Whole.is) in
    sym (ap read_as (unfit_way _ _ unbroken (sym c.whose_at.ensures ∙ c.in-Unfit.is)))

pub returns-in-Fits : goal.returns-in-Fits
returns-in-Fits c =
    fit_told _ _ (sym c.frame_at.ensures ∙ c.in-Whole.is) (sym c.whose_at.ensures ∙ c.in-Fits.is)
    c.in_range.ensures
