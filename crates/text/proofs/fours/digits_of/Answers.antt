-- `fours::digits_of` meets its contract: hundreds, pairs and tens are those of both numbers, and nothing overflows on the way.
use native.Mathlib.Omega.{arith}
use Rattle.text.proofs.Split.{hundreds_fit, pairs_are, tens_fit, digits_found, word_small}
use Rattle.text.proofs.fours.digits_of.Goals as goal

pub overflow_sub-pairs : goal.overflow_sub-pairs
overflow_sub-pairs c = hundreds_fit c.args.front c.args.back c.requires.0 c.requires.1

pub overflow_mul-by_10 : goal.overflow_mul-by_10
overflow_mul-by_10 c = omega (arith, pairs_are c.args.front c.args.back c.requires.0 c.requires.1)

pub overflow_sub-result : goal.overflow_sub-result
overflow_sub-result c = tens_fit c.args.front c.args.back c.requires.0 c.requires.1

pub overflow_mul-result-2 : goal.overflow_mul-result-2
overflow_mul-result-2 c = omega (arith, pairs_are c.args.front c.args.back c.requires.0 c.requires.1)

pub overflow_add-result : goal.overflow_add-result
overflow_add-result c = omega (arith, digits_found c.args.front c.args.back c.requires.0 c.requires.1, word_small c.args.front c.args.back c.requires.0 c.requires.1)

pub returns : goal.returns
returns c = (digits_found c.args.front c.args.back c.requires.0 c.requires.1, omega (arith, digits_found c.args.front c.args.back c.requires.0 c.requires.1, word_small c.args.front c.args.back c.requires.0 c.requires.1))
