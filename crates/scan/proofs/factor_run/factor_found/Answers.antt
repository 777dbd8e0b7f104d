-- `scan::factor_run::factor_found` meets its contract: length and kind as one number tell the frame, and its values are tested.
use Rattle.std.proofs.Common.{sym, arith}
use mathlib.Core.Bool.{false≢true}
use Rattle.scan.proofs.FactorRunLaws.{due_and_room, found_factor}
use Rattle.scan.proofs.factor_run.factor_found.Goals as goal

pub four_at-requires : goal.four_at-requires
four_at-requires c =
    let a = c.args in
    omega (arith, (due_and_room a.b.now a.run c.if-so_far-run.true).1)

pub factor_fields-requires : goal.factor_fields-requires
factor_fields-requires c =
    let a = c.args in
    (due_and_room a.b.now a.run c.if-so_far-run.true).1

pub returns-then-so_far-run : goal.returns-then-so_far-run
returns-then-so_far-run c =
    let (few, fits) = due_and_room c.args.b.now c.args.run c.if-so_far-run.true in
    record {
      told =
          λ e.
          found_factor c.args.b.now c.args.run c.requires
          (λ i. (c.type_inv.b i).fits) few fits
          (rw (sym c.four_at.ensures.value, sym c.factor_fields.ensures, sym c.factor_right.ensures) e);
    }

pub returns : goal.returns
returns c = record { told = λ e. absurd (false≢true e) }
