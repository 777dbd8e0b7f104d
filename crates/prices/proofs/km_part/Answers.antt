-- `prices::km_part` meets its contract: with at most 1,415 kilometres the product fits 32 bits.
use native.Mathlib.Omega.{arith}
use mathlib.Core.Path.{refl}
use Rattle.prices.specs.Prices.{most_km_part, km_part}
use Rattle.prices.specs.Clauses.{Amount}
use Rattle.prices.proofs.Steps.{km_most}
use Rattle.prices.proofs.km_part.Goals as goal

pub overflow_mul-result : goal.overflow_mul-result
unfolding km_part
overflow_mul-result c =
    let part : Amount most_km_part (km_part c.args.area c.args.km.0) (km_part c.args.area c.args.km.0) = record { value = refl; range = km_most c.args.area c.args.km.0 c.requires.0 c.requires.1 } in
    omega (arith, part.range)

pub returns : goal.returns
unfolding km_part
returns c =
    let part : Amount most_km_part (km_part c.args.area c.args.km.0) (km_part c.args.area c.args.km.0) = record { value = refl; range = km_most c.args.area c.args.km.0 c.requires.0 c.requires.1 } in
    part
