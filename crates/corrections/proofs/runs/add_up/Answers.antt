-- `corrections::runs::add_up` meets its contract: at each turn the bytes and charges added up and those of the rest are all.
use native.Mathlib.Omega.{arith}
use mathlib.Core.Path.{refl, ap, ◌∙◌}
use borrow.Author.Rules.{rules}
use lib.ListN.{length}
use Rattle.ledger.proofs.WordLaws.{fresh_size}
use Rattle.corrections.proofs.Rooms.{any_fits}
use Rattle.corrections.proofs.Turns.{adding_start, sums_near, bytes_near, adding_goes, bytes_added, bytes_few, all_paid}
use Rattle.corrections.proofs.runs.add_up.Goals as goal

pub loop-size-init : goal.loop-size-init
loop-size-init c =
    let a = c.args in
    (adding_start a.file.now a.roll.now a.n a.replacement.now c.clear.ensures c.start-cursor.ensures c.requires.1.1, (refl, refl))

pub take_turn-requires : goal.take_turn-requires
take_turn-requires c = (c.requires.0, any_fits c.args.file.now c.args.editions c.requires.0 c.loop-size.book c.loop-size.invariant.1.1)

pub add_statement-requires : goal.add_statement-requires
add_statement-requires c =
    let turn = rw c.in-Settled.is at c.take_turn.ensures in
    record { records = turn.0.sized.records; sums_most = sums_near c.loop-size.invariant.0 }

pub overflow_add-bytes : goal.overflow_add-bytes
overflow_add-bytes c =
    let turn = rw c.in-Settled.is at c.take_turn.ensures in
    omega (arith, bytes_near c.args.file.now c.loop-size.book _ c.loop-size.invariant.0 turn.0 turn.1)

pub loop-size-smaller : goal.loop-size-smaller
loop-size-smaller c = let turn = rw c.in-Settled.is at c.take_turn.ensures in omega (arith, turn.1)

pub loop-size-preserved : goal.loop-size-preserved
loop-size-preserved c =
    let turn = rw c.in-Settled.is at c.take_turn.ensures in
    (adding_goes c.args.file.now c.loop-size.book _ c.loop-size.invariant.0 turn.0 turn.1 c.add_statement.ensures, search rules)

pub returns : goal.returns
returns c =
    let turn = rw c.in-End.is at c.take_turn.ensures in
    let file = c.args.file.now in
    let l = c.loop-size in (
      record {
        bytes = bytes_added file l.book l.invariant.0 turn.0;
        bytes_most = bytes_few file l.book l.invariant.0 turn.0;
        paid = all_paid file l.book l.invariant.0 turn.0;
      },
      ap length turn.1.0 ∙ l.invariant.1.0 ∙ ap length c.clear.ensures ∙ fresh_size,
    )
