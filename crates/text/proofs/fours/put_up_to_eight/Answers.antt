-- `fours::put_up_to_eight` meets its contract: the zeros that are shifted out are those in front of the number's digits, and what is left is its text.
use Prim.Native.Nat.{◌+◌, ◌*◌, ◌/◌, ◌%◌}
use native.Mathlib.Omega.{arith}
use mathlib.Core.Path.{◌≡◌, ap, ◌∙◌}
use Rattle.text.specs.Texts.{decimal}
use Rattle.text.proofs.Puts.{shorter, behind_same}
use Rattle.text.proofs.Zeros.{eight_few, eight_text}
use Rattle.text.proofs.fours.put_up_to_eight.Goals as goal

pub overflow_mul-zeros : goal.overflow_mul-zeros
overflow_mul-zeros c = omega (arith, eight_few (c.args.number / 10000) (c.args.number % 10000) (omega arith) (omega arith) c.digits_of-digits.result c.digits_of-digits.ensures.0)

pub overflow_cast-zeros : goal.overflow_cast-zeros
overflow_cast-zeros c = omega (arith, eight_few (c.args.number / 10000) (c.args.number % 10000) (omega arith) (omega arith) c.digits_of-digits.result c.digits_of-digits.ensures.0)

pub overflow_shr-digits : goal.overflow_shr-digits
overflow_shr-digits c = omega (arith, eight_few (c.args.number / 10000) (c.args.number % 10000) (omega arith) (omega arith) c.digits_of-digits.result c.digits_of-digits.ensures.0)

pub overflow_cast-result : goal.overflow_cast-result
overflow_cast-result c = omega (arith, eight_few (c.args.number / 10000) (c.args.number % 10000) (omega arith) (omega arith) c.digits_of-digits.result c.digits_of-digits.ensures.0)

pub overflow_sub-result : goal.overflow_sub-result
overflow_sub-result c = omega (arith, eight_few (c.args.number / 10000) (c.args.number % 10000) (omega arith) (omega arith) c.digits_of-digits.result c.digits_of-digits.ensures.0)

pub returns : goal.returns
returns c =
    let put = c.put_eight.ensures in
    let digits = c.digits_of-digits in
    let n = c.args.number in
    let few = eight_few (n / 10000) (n % 10000) (omega arith) (omega arith) digits.result digits.ensures.0 in
    let whole : 10000 * (n / 10000) + n % 10000 ≡ n = omega arith in
    behind_same (shorter put (omega arith) _ (omega arith))
    (eight_text (n / 10000) (n % 10000) (omega arith) (omega arith) digits.result digits.ensures.0 ∙ ap decimal whole)
    (omega arith)
