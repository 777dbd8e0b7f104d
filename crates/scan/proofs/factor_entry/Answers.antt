-- `scan::factor_entry` meets its contract: its two tests are those of `factor_entry`, and past the first one the record has
-- its 6 bytes.
use Rattle.std.proofs.Common.{◌≡◌, sym, ◌∙◌, arith}
use Rattle.layout.specs.Fields.{factor_fields}
use Rattle.layout.specs.Rules.{factor_right}
use Rattle.layout.proofs.Entries.{factor_tests, factor_is_due, factor_not_due}
use Rattle.scan.proofs.factor_entry.Goals as goal

pub factor_fields-requires : goal.factor_fields-requires
factor_fields-requires c =
    let a = c.args in
    let due = factor_tests a.body a.so_far a.due c.if-body-so_far.true in
    omega arith

pub returns-then-factor_right : goal.returns-then-factor_right
returns-then-factor_right c =
    let right : factor_right (factor_fields c.args.b.now c.args.at)
    c.args.so_far.factors
    ≡ c.factor_right.result = rw (c.factor_right.ensures, c.factor_fields.ensures) in
    sym (factor_is_due _ _ _ _ c.args.due c.requires.0 c.if-body-so_far.true (right ∙ c.if-factor_right.true))

pub returns-else-factor_right : goal.returns-else-factor_right
returns-else-factor_right c =
    let right : factor_right (factor_fields c.args.b.now c.args.at)
    c.args.so_far.factors
    ≡ c.factor_right.result = rw (c.factor_right.ensures, c.factor_fields.ensures) in
    sym (factor_is_due _ _ _ _ c.args.due c.requires.0 c.if-body-so_far.true (right ∙ c.if-factor_right.false))

pub returns-else-body-so_far : goal.returns-else-body-so_far
returns-else-body-so_far c = sym (factor_not_due _ _ _ _ c.args.due c.requires.0 c.if-body-so_far.false)
