-- `take_step` meets its contract: a kept record ends within the roll, and what is kept before it is no longer than what is passed.
use native.Mathlib.Omega.{arith}
use mathlib.Core.Path.{sym}
use Rattle.salvage.specs.Clauses.{one_dropped, one_kept}
use Rattle.salvage.proofs.Records.{kept_range}
use Rattle.salvage.proofs.take_step.Goals as goal

pub returns-in_default : goal.returns-in_default
returns-in_default c = one_dropped (sym c.in_default.ensures)

pub move_to-requires : goal.move_to-requires
move_to-requires c =
    (omega arith, (kept_range c.args.roll.now c.args.pass.at c.in-Some.size (sym c.in-Some.ensures)).0)

pub overflow_add-at : goal.overflow_add-at
overflow_add-at c = omega (arith, kept_range c.args.roll.now c.args.pass.at c.in-Some.size (sym c.in-Some.ensures))

pub overflow_add-result-2 : goal.overflow_add-result-2
overflow_add-result-2 c = omega (arith, kept_range c.args.roll.now c.args.pass.at c.in-Some.size (sym c.in-Some.ensures))

pub returns : goal.returns
returns c = one_kept (sym c.in-Some.ensures) c.put_run.ensures c.move_to.ensures
