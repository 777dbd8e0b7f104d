-- `corrections::correct_under` meets its contract: both rolls are added up, each from a fresh book, and the corrected one is written where it fits.
use native.Mathlib.Omega.{arith}
use mathlib.Core.Path.{sym}
use lib.ListN.{length}
use Rattle.corrections.proofs.Outcomes.{no_room_way, corrected_way, room_tested, room_there, told_uncorrected, no_sums, told_corrected}
use Rattle.corrections.proofs.correct_under.Goals as goal

pub add_up-requires : goal.add_up-requires
add_up-requires c = (c.requires.0, (sym c.fresh_book-book.ensures.size, no_sums))

pub add_up-bytes-requires : goal.add_up-bytes-requires
add_up-bytes-requires c = (c.requires.0, (c.add_up.ensures.1, no_sums))

pub returns-then-statements-bytes : goal.returns-then-statements-bytes
returns-then-statements-bytes c =
    let a = c.args in
    told_uncorrected a.statements.now a.differences.now
    (no_room_way a.file.now a.roll.now a.n a.replacement.now (length a.statements.now) (length a.differences.now) c.requires.1
    a.editions c.requires.0 (room_tested (length a.statements.now) (length a.differences.now) _ _ c.add_up-bytes.ensures.0.bytes c.if-statements-bytes.true))
    (omega arith)

pub write_statements-requires : goal.write_statements-requires
write_statements-requires c =
    let a = c.args in
    let there = room_there (length a.statements.now) (length a.differences.now) _ c.if-statements-bytes.false in
    (c.requires.0, (c.add_up-bytes.ensures.1, omega (arith, there.0, c.add_up-bytes.ensures.0.bytes)))

pub put_differences-requires : goal.put_differences-requires
put_differences-requires c =
    let a = c.args in
    (room_there (length a.statements.now) (length a.differences.now) _ c.if-statements-bytes.false).1

pub returns : goal.returns
returns c =
    let a = c.args in
    let new = c.add_up-bytes.ensures.0 in
    told_corrected a.file.now a.roll.now a.n a.replacement.now a.statements.now a.differences.now
    (corrected_way a.file.now a.roll.now a.n a.replacement.now (length a.statements.now) (length a.differences.now) c.requires.1
    a.editions c.requires.0 (room_tested (length a.statements.now) (length a.differences.now) _ _ new.bytes c.if-statements-bytes.false))
    c.add_up.ensures.0 new c.write_statements.ensures c.put_differences.ensures
