-- No price is above 37,900 euros. Rules, section 8, give what makes it up (prices/Steps: price-most).
use Rattle.std.specs.Prelude.{ℕ}

abbrev pub most_price : ℕ
most_price = 3790000
