-- `reader::fields::put_amounts` meets its contract. The loop's invariant: behind the place stand the first `i` charges.
use native.Mathlib.Omega.{arith}
use mathlib.Core.Path.{refl, ◌∙◌}
use Rattle.statement.proofs.Head.{length_person}
use Rattle.reader.specs.Reading.{fields_for}
use Rattle.reader.proofs.Filled.{none_put, one_put, all_put}
use Rattle.reader.proofs.fields.put_amounts.Goals as goal

pub loop-i-init : goal.loop-i-init
loop-i-init c = (omega arith, refl, omega arith, none_put (fields_for _ _ _) _ _)

pub amount_at-requires : goal.amount_at-requires
amount_at-requires c = record { readable = c.requires.0; there = omega (arith, c.requires.1.0) }

pub loop-i-preserved : goal.loop-i-preserved
loop-i-preserved c =
    let before = c.loop-i in
    let amount = c.amount_at.result in
    let wrote = c.put_amount-next in (
      omega arith,
      wrote.auto.fields ∙ before.invariant.1,
      omega (arith, wrote.ensures.next, length_person amount.charge.0 amount.cut),
      one_put (fields_for _ _ _) _ _ before.i before.next before.invariant.3 c.amount_at.ensures wrote.ensures,
    )

pub shape_of-fields : goal.shape_of-fields
shape_of-fields c = c.loop-i.invariant.1

pub returns : goal.returns
returns c = all_put (fields_for _ _ _) _ _ _ _ c.loop-i.invariant.0 c.loop-i-test.false c.loop-i.invariant.3
