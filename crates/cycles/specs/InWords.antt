-- Rules, section 11: what a bicycle's covering area and charge are, in the rules' words, without a way to find them.
-- `old` is a bicycle's word: 0 if unused, else 1 + its old covering area; `paid` its payments per trip in the window.
use Rattle.std.specs.Prelude.{ℕ, ◌+◌, ◌≤◌, ◌<◌, ◌≡◌, List, true, false}
use Rattle.layout.specs.declared.Counts.{Counts}
use Rattle.layout.specs.Rules.{flat_of}
use Rattle.areas.specs.Areas.{lies_within, is_aachen, bicycle_price_of}

-- an area contains another and the old covering area, if any
pub record ContainsBoth (tariff : List ℕ) (counts : Counts) (area old outer : ℕ) : Type 0 where
  pub trips : lies_within tariff area outer ≡ true
  pub olds : (inner : ℕ) → old ≡ 1 + inner → lies_within tariff inner outer ≡ true

-- the new covering area is the smallest containing the trip's area and the old one: it contains both, and lies within every area that does
pub record CoverSays (tariff : List ℕ) (counts : Counts) (area old new : ℕ) : Type 0 where
  pub there : new < counts.areas
  pub contains : ContainsBoth tariff counts area old new
  pub least : (outer : ℕ) → ContainsBoth tariff counts area old outer → lies_within tariff new outer ≡ true

-- a payment per trip, where the covering area is of kind 8: never above the area's price per trip; the payments never pass its cap; less than
-- the price only where the cap is then full. Where the cap was passed before, by payments under another tariff, nothing is paid
pub record PerTrip (tariff : List ℕ) (counts : Counts) (cover paid charge : ℕ) : Type 0 where
  pub at_most_price : charge ≤ bicycle_price_of tariff cover
  pub within_cap : paid ≤ flat_of tariff cover → paid + charge ≤ flat_of tariff cover
  pub full : paid ≤ flat_of tariff cover → charge < bicycle_price_of tariff cover → paid + charge ≡ flat_of tariff cover
  pub passed : flat_of tariff cover < paid → charge ≡ 0

-- the charge by flats: what was paid before and the charge are together the new covering area's flat. Before is the old one's flat, 0 if
-- unused or of kind 8
pub record ByFlats (tariff : List ℕ) (counts : Counts) (old new charge : ℕ) : Type 0 where
  pub unused : old ≡ 0 → charge ≡ flat_of tariff new
  pub per_trip_before : (inner : ℕ) → old ≡ 1 + inner → is_aachen tariff inner ≡ true → charge ≡ flat_of tariff new
  pub flat-before :
      (inner : ℕ) → old ≡ 1 + inner → is_aachen tariff inner ≡ false → flat_of tariff inner + charge ≡ flat_of tariff new

-- the new covering area decides: by its kind the charge is a payment per trip, or goes by flats
pub record BicycleSays (tariff : List ℕ) (counts : Counts) (area old paid charge : ℕ) : Type 0 where
  pub new : ℕ
  pub covers : CoverSays tariff counts area old new
  pub per_trip : is_aachen tariff new ≡ true → PerTrip tariff counts new paid charge
  pub by_flats : is_aachen tariff new ≡ false → ByFlats tariff counts old new charge

-- ---- A bicycle's payments over a window.

-- they are within the cap of its covering area, where that is of kind 8; an unused bicycle has none
pub record WithinCap (tariff : List ℕ) (counts : Counts) (old paid : ℕ) : Type 0 where
  pub unused : old ≡ 0 → paid ≡ 0
  pub covered : (cover : ℕ) → old ≡ 1 + cover → is_aachen tariff cover ≡ true → paid ≤ flat_of tariff cover

-- a ride that an area of kind 8 covers: the charge is added to the payments; it is at most the price per trip; the payments with it do not pass
-- the cap; and it is less than the price only where they are then the cap
pub record RidePays (tariff : List ℕ) (counts : Counts) (cover paid charge paid' : ℕ) : Type 0 where
  pub added : paid' ≡ paid + charge
  pub at_most_price : charge ≤ bicycle_price_of tariff cover
  pub within_cap : paid' ≤ flat_of tariff cover
  pub full : charge < bicycle_price_of tariff cover → paid' ≡ flat_of tariff cover
