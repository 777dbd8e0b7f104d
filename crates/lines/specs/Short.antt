-- A part's line in two, for the fast way of short.rt, which puts a number with the blank behind it. Only that way goes by them.
use Rattle.std.specs.Prelude.{ℕ, ◌<◌, List, ◌++◌}
use Rattle.text.specs.Texts.{bytes, decimal}

-- the trip's number, the area and the kilometres
abbrev pub front_text : ℕ → ℕ → ℕ → List ℕ
front_text number area km = ((decimal number ++ bytes " ") ++ (decimal area ++ bytes " ")) ++ (decimal km ++ bytes " ")

-- the minutes, the opening minute and the cents
abbrev pub rest_text : ℕ → ℕ → ℕ → List ℕ
rest_text minutes opening cents = (((decimal minutes ++ bytes " ") ++ decimal opening) ++ bytes " ") ++ (decimal cents ++ bytes "\n")

-- both have 33 bytes at most
abbrev pub most_half : ℕ
most_half = 33

-- numbers that are put at once: two of eight digits at most, and four of four
pub record Short (number area km minutes opening cents : ℕ) : Type 0 where
  pub number_short : number < 100000000
  pub area_short : area < 10000
  pub km_short : km < 10000
  pub minutes_short : minutes < 10000
  pub opening_short : opening < 100000000
  pub cents_short : cents < 10000
