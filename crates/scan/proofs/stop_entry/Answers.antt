-- `scan::stop_entry` meets its contract: its two tests are those of `stop_entry`, and past the first one the record has
-- its 13 bytes.
use Rattle.std.proofs.Common.{◌≡◌, sym, ◌∙◌, arith}
use Rattle.layout.specs.Fields.{stop_fields}
use Rattle.layout.specs.Rules.{stop_right}
use Rattle.layout.proofs.Entries.{stop_tests, stop_is_due, stop_not_due}
use Rattle.scan.proofs.stop_entry.Goals as goal

pub stop_fields-requires : goal.stop_fields-requires
stop_fields-requires c =
    let a = c.args in
    let due = stop_tests a.body a.so_far a.due c.if-body-so_far.true in
    omega arith

pub returns-then-stop_right : goal.returns-then-stop_right
returns-then-stop_right c =
    let right : stop_right (stop_fields c.args.b.now c.args.at)
    c.args.so_far.areas
    ≡ c.stop_right.result = rw (c.stop_right.ensures, c.stop_fields.ensures) in
    sym (stop_is_due _ _ _ _ c.args.due c.requires.0 c.if-body-so_far.true (right ∙ c.if-stop_right.true))

pub returns-else-stop_right : goal.returns-else-stop_right
returns-else-stop_right c =
    let right : stop_right (stop_fields c.args.b.now c.args.at)
    c.args.so_far.areas
    ≡ c.stop_right.result = rw (c.stop_right.ensures, c.stop_fields.ensures) in
    sym (stop_is_due _ _ _ _ c.args.due c.requires.0 c.if-body-so_far.true (right ∙ c.if-stop_right.false))

pub returns-else-body-so_far : goal.returns-else-body-so_far
returns-else-body-so_far c = sym (stop_not_due _ _ _ _ c.args.due c.requires.0 c.if-body-so_far.false)
