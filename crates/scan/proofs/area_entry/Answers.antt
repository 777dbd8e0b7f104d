-- `scan::area_entry` meets its contract: its two tests are those of `area_entry`, and past the first one the record has the bytes
-- of its kind, and the areas before it theirs.
use Rattle.std.proofs.Common.{◌≡◌, true, ◌&&◌, sym, ◌∙◌, arith}
use Rattle.layout.specs.Fields.{area_fields, long_fields}
use Rattle.layout.specs.Rules.{area_right}
use Rattle.scan.proofs.AreaRunLaws.{areas_there}
use Rattle.layout.proofs.Entries.{area_due, area_tests, area_is_due, area_not_due}
use Rattle.scan.proofs.area_entry.Goals as goal

pub area_fields-f-requires : goal.area_fields-f-requires
area_fields-f-requires c =
    let due : area_due c.args.kind c.args.body
    c.args.so_far
    ≡ true = rw c.long_of.ensures.0 at c.if-body-long_of.true in
    let a = c.args in
    let (long, _, _, _) = area_tests a.kind a.body a.so_far due in
    omega (arith, long, c.requires.1)

pub place_right-requires : goal.place_right-requires
place_right-requires c = areas_there c.args.b.now c.args.at c.args.so_far c.requires.0

pub rest_right-requires : goal.rest_right-requires
rest_right-requires c =
    let due : area_due c.args.kind c.args.body
    c.args.so_far
    ≡ true = rw c.long_of.ensures.0 at c.if-body-long_of.true in
    let (long, _, _, _) = area_tests c.args.kind c.args.body c.args.so_far due in
    omega (arith, long, c.requires.1)

pub returns-then-prices_right-caps_right : goal.returns-then-prices_right-caps_right
returns-then-prices_right-caps_right c =
    let due : area_due c.args.kind c.args.body
    c.args.so_far
    ≡ true = rw c.long_of.ensures.0 at c.if-body-long_of.true in
    let right : area_right c.args.b.now c.args.so_far
    c.args.kind
    (area_fields c.args.b.now c.args.at)
    (long_fields c.args.b.now c.args.at)
    ≡ c.prices_right.result && c.caps_right.result && c.place_right.result
    && c.rest_right.result = rw (
      c.prices_right.ensures,
      c.caps_right.ensures,
      c.place_right.ensures,
      c.rest_right.ensures,
      c.area_fields-f.ensures,
    ) in
    sym (area_is_due _ _ _ _ _ due (right ∙ c.if-prices_right-caps_right.true))

pub returns-else-prices_right-caps_right : goal.returns-else-prices_right-caps_right
returns-else-prices_right-caps_right c =
    let due : area_due c.args.kind c.args.body
    c.args.so_far
    ≡ true = rw c.long_of.ensures.0 at c.if-body-long_of.true in
    let right : area_right c.args.b.now c.args.so_far
    c.args.kind
    (area_fields c.args.b.now c.args.at)
    (long_fields c.args.b.now c.args.at)
    ≡ c.prices_right.result && c.caps_right.result && c.place_right.result
    && c.rest_right.result = rw (
      c.prices_right.ensures,
      c.caps_right.ensures,
      c.place_right.ensures,
      c.rest_right.ensures,
      c.area_fields-f.ensures,
    ) in
    sym (area_is_due _ _ _ _ _ due (right ∙ c.if-prices_right-caps_right.false))

pub returns-else-body-long_of : goal.returns-else-body-long_of
returns-else-body-long_of c = sym (area_not_due _ _ _ _ _ (rw c.long_of.ensures.0 at c.if-body-long_of.false))
