-- `corrections::runs::write_statements` meets its contract: at each turn the statements written and those of the rest are all.
use native.Mathlib.Omega.{arith}
use mathlib.Core.Path.{refl}
use borrow.Author.Rules.{rules}
use Rattle.corrections.proofs.Turns.{statements_start, end_inside, next_fits, statements_go, statements_end}
use Rattle.corrections.proofs.runs.write_statements.Goals as goal

pub loop-size-init : goal.loop-size-init
loop-size-init c =
    let a = c.args in (
      statements_start a.file.now a.roll.now a.n a.replacement.now a.statements.now c.clear.ensures c.start-cursor.ensures,
      (refl, refl),
    )

pub slice_bounds-take_turn-count : goal.slice_bounds-take_turn-count
slice_bounds-take_turn-count c = omega (arith, end_inside c.loop-size.invariant.0, c.requires.1.1, c.loop-size.invariant.1.1)

pub slice_bounds-take_turn-start : goal.slice_bounds-take_turn-start
slice_bounds-take_turn-start c = omega (arith, end_inside c.loop-size.invariant.0, c.requires.1.1, c.loop-size.invariant.1.1)

pub take_turn-requires : goal.take_turn-requires
take_turn-requires c = (c.requires.0, next_fits c.args.file.now c.loop-size.book c.loop-size.invariant.0 (omega (arith, c.requires.1.1, c.loop-size.invariant.1.1)))

pub overflow_add-end : goal.overflow_add-end
overflow_add-end c =
    let turn = rw c.in-Settled.is at c.take_turn.ensures in
    omega (arith, end_inside (statements_go c.args.file.now c.loop-size.book c.loop-size.invariant.0 turn.0), c.requires.1.1, c.well_formed)

pub loop-size-smaller : goal.loop-size-smaller
loop-size-smaller c = let turn = rw c.in-Settled.is at c.take_turn.ensures in omega (arith, turn.1)

pub loop-size-preserved : goal.loop-size-preserved
loop-size-preserved c =
    let turn = rw c.in-Settled.is at c.take_turn.ensures in
    (statements_go c.args.file.now c.loop-size.book c.loop-size.invariant.0 turn.0, search rules)

pub returns : goal.returns
returns c =
    let turn = rw c.in-End.is at c.take_turn.ensures in
    statements_end c.args.file.now c.loop-size.book c.loop-size.invariant.0 turn.0 turn.1.1
