-- docs/RULES.md, section 20: the ranges of a charge record's fields, in the rules' words, and as the test that a reader makes.
use Rattle.std.specs.Prelude.{ℕ, ◌+◌, ◌≤◌, ◌<◌, ◌≡◌, ◌⊎◌, Bool, true, cond, ◌&&◌, ◌||◌, leb, eqb}
use Rattle.units.specs.Day.{day_minutes}
use Rattle.wire.specs.Each.{each}
use Rattle.calendar.specs.Stamps.{last_minute}
use Rattle.units.specs.Plane.{most_km}
use Rattle.units.specs.Price.{most_price}
use Rattle.caps.specs.Named.{no_name}
use Rattle.caps.specs.declared.Cut.{Cut}
use Rattle.statement.specs.Record.{most_carried}
use Rattle.reader.specs.declared.Head.{Head}
use Rattle.reader.specs.declared.Whose.{Whose}
use Rattle.reader.specs.declared.Whose.TheVariants.{Unsaid, Of}
use Rattle.reader.specs.declared.Amount.{Amount}
use Rattle.reader.specs.Fields.{Fields, head_in, whose_in, charges_of, amount_of}

-- the last of 32 areas
abbrev pub last_area : ℕ
last_area = 31

-- ---- In words.

pub record HeadInRange (head : Head) : Type 0 where
  pub opening : head.opening.0 ≤ last_minute
  pub area : head.area ≤ last_area
  pub km : head.km.0 ≤ most_km
  pub minutes : head.minutes.0 ≤ day_minutes

-- at most ten adults, ten children, ten bicycles, where the record tells the party
abbrev pub WhoseInRange : Whose → Type 0
WhoseInRange (Unsaid charges) = Unit {0}
WhoseInRange (Of party) = (party.adults ≤ most_carried) × ((party.children ≤ most_carried) × (party.bicycles ≤ most_carried))

-- no cap is named exactly where nothing was taken off; where something was, it is the area of a cap and its class 1 or 2
pub record CutInRange (cut : Cut) : Type 0 where
  pub unnamed : cut.reduction.0 ≡ 0 → (cut.area ≡ no_name.area) × (cut.class ≡ no_name.class)
  pub named : (cut.reduction.0 ≡ 0 → ⊥) → (cut.area ≤ last_area) × ((cut.class ≡ 1) ⊎ (cut.class ≡ 2))

-- a charge, or charge plus reduction, is a price
pub record AmountInRange (amount : Amount) : Type 0 where
  pub price : amount.charge.0 + amount.cut.reduction.0 ≤ most_price
  pub cut : CutInRange amount.cut

pub record InRange (fields : Fields) : Type 0 where
  pub head : HeadInRange (head_in fields)
  pub whose : WhoseInRange (whose_in fields)
  pub amounts : (i : ℕ) → i < charges_of (whose_in fields) → AmountInRange (amount_of fields i)

-- ---- As a test.

abbrev pub head_right : Head → Bool
head_right head = leb head.opening.0 last_minute && leb head.area last_area && leb head.km.0 most_km && leb head.minutes.0 day_minutes

abbrev pub whose_right : Whose → Bool
whose_right (Unsaid charges) = true
whose_right (Of party) = leb party.adults most_carried && leb party.children most_carried && leb party.bicycles most_carried

abbrev pub cut_right : Cut → Bool
cut_right cut =
    cond (eqb cut.reduction.0 0) (eqb cut.area no_name.area && eqb cut.class no_name.class)
    (leb cut.area last_area && (eqb cut.class 1 || eqb cut.class 2))

abbrev pub amount_right : Amount → Bool
amount_right amount = leb (amount.charge.0 + amount.cut.reduction.0) most_price && cut_right amount.cut

-- each of the first n charges
abbrev pub amounts_right : Fields → ℕ → Bool
amounts_right fields n = each n (λ (i : ℕ). amount_right (amount_of fields i))

abbrev pub in_range : Fields → Bool
in_range fields = (head_right (head_in fields) && whose_right (whose_in fields)) && amounts_right fields (charges_of (whose_in fields))
