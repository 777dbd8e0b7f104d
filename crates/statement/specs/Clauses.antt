-- What the functions that write and read a record ask and answer.
use Rattle.std.specs.Prelude.{ℕ, suc, ◌+◌, ◌*◌, ◌^◌, ◌≤◌, ◌<◌, ◌≡◌, List, [], ◌∷◌, ◌++◌, length, drop}
use Rattle.std.proofs.lemmas.List.Edits.{sets}
use Rattle.caps.specs.declared.Cut.{Cut}
use Rattle.statement.specs.Record.{Part, long_with, most_carried, most_persons, most_charges, most_parts, record_of, Recordable}
use Rattle.statement.specs.Reading.{
  long_in,
  adults_in,
  children_in,
  bicycles_in,
  size_in,
  persons_in,
  charge_in,
  reduction_in,
  cents_up_to,
  cents_in,
  cents_over,
}

-- ---- Writing.

-- a cut of plain numbers
abbrev pub cut_with : ℕ → ℕ → ℕ → Cut
cut_with reduction area class = record { reduction = record { 0 = reduction }; area = area; class = class }

-- each of some parts has fields that their widths hold
pub data Recordables : List Part → Type 0 where
  none : Recordables []
  more : {part : Part} {parts : List Part} → Recordable part → Recordables parts → Recordables (part ∷ parts)

-- bytes stored at a place, and nothing else changed; the answer is the place behind them
pub record Wrote (bytes before : List ℕ) (place : ℕ) (after : List ℕ) (r : ℕ) : Type 0 where
  pub next : r ≡ place + length bytes
  pub stored : after ≡ sets before place bytes

-- ---- Reading.

-- a part's record stands at a place of a statement, whatever is behind it
pub record StandsAt (part : Part) (statement : List ℕ) (place : ℕ) : Type 0 where
  pub rest : List ℕ
  pub is : drop place statement ≡ record_of part ++ rest

-- the records of some parts stand one behind the other from a place of a statement on
pub data StandFrom (statement : List ℕ) : List Part → ℕ → Type 0 where
  over : {place : ℕ} → StandFrom statement [] place
  then : {part : Part} {parts : List Part} {place : ℕ} → StandsAt part statement place → StandFrom statement parts (place + length (record_of part))
      → StandFrom statement (part ∷ parts) place

-- what reading a record at a place asks: its party is one that a trip can have, its length that of such a party's record, and the statement
-- goes so far
pub record RecordAt (statement : List ℕ) (place : ℕ) : Type 0 where
  pub adults : adults_in statement place ≤ most_carried
  pub children : children_in statement place ≤ most_carried
  pub bicycles : bicycles_in statement place ≤ most_carried
  pub long : long_in statement place ≡ long_with (persons_in statement place) (bicycles_in statement place)
  pub inside : place + size_in statement place ≤ length statement

-- at most so many of them stand one behind the other from a place of a statement up to an end
pub data RecordsTo (statement : List ℕ) (end : ℕ) : ℕ → ℕ → Type 0 where
  no_more : {most place : ℕ} → place ≡ end → RecordsTo statement end most place
  one_more :
      {most place : ℕ} → RecordAt statement place → RecordsTo statement end most (place + size_in statement place)
      → RecordsTo statement end (suc most) place

-- how many persons
pub record PersonsIs (statement : List ℕ) (place r : ℕ) : Type 0 where
  pub value : r ≡ persons_in statement place
  pub range : r ≤ most_persons

-- one charge, and charges added up
pub record ChargeIs (statement : List ℕ) (place i r : ℕ) : Type 0 where
  pub value : r ≡ charge_in statement place i
  pub range : r < 2 ^ 32

pub record CentsUpTo (statement : List ℕ) (place n r : ℕ) : Type 0 where
  pub value : r ≡ cents_up_to statement place n
  pub range : r ≤ n * 2 ^ 32

-- the most that a record's charges can add up to
abbrev pub most_cents : ℕ
most_cents = most_charges * 2 ^ 32

pub record CentsOf (statement : List ℕ) (place r : ℕ) : Type 0 where
  pub value : r ≡ cents_in statement place
  pub range : r ≤ most_cents

pub record CentsOver (statement : List ℕ) (size r : ℕ) : Type 0 where
  pub value : r ≡ cents_over statement size
  pub range : r ≤ most_parts * most_cents

-- what caps took off a person's price
pub record ReductionIs (statement : List ℕ) (place i r : ℕ) : Type 0 where
  pub value : r ≡ reduction_in statement place i
  pub range : r < 2 ^ 32
