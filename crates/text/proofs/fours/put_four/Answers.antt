-- `fours::put_four` meets its contract: the zeros that are shifted out are those in front of the number's digits, and the mark stands behind what is left.
use native.Mathlib.Omega.{arith}
use Rattle.text.proofs.Puts.{shorter, behind_same}
use Rattle.text.proofs.Zeros.{four_small, four_few, four_text}
use Rattle.text.proofs.fours.put_four.Goals as goal

pub overflow_add-zeros : goal.overflow_add-zeros
overflow_add-zeros c = omega (arith, four_small c.args.number c.requires.0 c.args.digits c.requires.1.0)

pub overflow_add-digits : goal.overflow_add-digits
overflow_add-digits c = omega (arith, four_small c.args.number c.requires.0 c.args.digits c.requires.1.0)

pub overflow_add-digits-2 : goal.overflow_add-digits-2
overflow_add-digits-2 c = omega (arith, four_small c.args.number c.requires.0 c.args.digits c.requires.1.0)

pub overflow_mul-zeros : goal.overflow_mul-zeros
overflow_mul-zeros c = omega (arith, four_few c.args.number c.requires.0 c.args.digits c.requires.1.0)

pub overflow_cast-zeros : goal.overflow_cast-zeros
overflow_cast-zeros c = omega (arith, four_few c.args.number c.requires.0 c.args.digits c.requires.1.0)

pub overflow_shr-digits : goal.overflow_shr-digits
overflow_shr-digits c = omega (arith, four_few c.args.number c.requires.0 c.args.digits c.requires.1.0)

pub overflow_cast-result : goal.overflow_cast-result
overflow_cast-result c = omega (arith, four_few c.args.number c.requires.0 c.args.digits c.requires.1.0)

pub overflow_sub-result : goal.overflow_sub-result
overflow_sub-result c = omega (arith, four_few c.args.number c.requires.0 c.args.digits c.requires.1.0)

pub returns : goal.returns
returns c =
    let put = c.put_eight.ensures in
    let args = c.args in
    let few = four_few args.number c.requires.0 args.digits c.requires.1.0 in
    behind_same (shorter put (omega arith) _ (omega arith))
    (four_text args.number c.requires.0 args.digits c.requires.1.0 args.mark (omega arith))
    (omega arith)
