-- docs/RULES.md, section 15, and docs/FORMAT.md, kind 6: window's opening minute 4, area 1, km 2, minutes 2, adults 1, children 1, bicycles 1;
-- then for each person (account holder, adults, children) charge 4, what caps took off 4, the named cap's area 1 and class 1; then for each
-- bicycle its charge 4. A statement is charge records one after another.
use Rattle.std.specs.Prelude.{ℕ, ◌+◌, ◌*◌, ◌^◌, ◌≤◌, ◌<◌, ◌≡◌, List, [], ◌∷◌, ◌++◌, length, get_or}
use Rattle.wire.specs.Number.{bytes_of}
use Rattle.caps.specs.Named.{no_name}
use Rattle.caps.specs.declared.Cut.{Cut}
use Rattle.trip.specs.declared.Party.{Party}
use Rattle.trip.specs.declared.Ride.{Ride}

-- a part of a trip, which is what one charge record tells: the window's opening minute, a ride, the charge of each of its party, and what
-- caps took off the price of each of its persons
pub record Part : Type 0 where
  pub opening : ℕ
  pub ride : Ride
  pub charges : List ℕ
  pub cuts : List Cut

-- ---- Sizes.

-- length, kind, opening minute, area, km, minutes and the party's three numbers stand before the charges
abbrev pub head_size : ℕ
head_size = 16

abbrev pub charge_size : ℕ
charge_size = 4

-- what caps took off, and the named cap's area and class
abbrev pub cut_size : ℕ
cut_size = 6

abbrev pub person_size : ℕ
person_size = charge_size + cut_size

-- a record of so many persons and bicycles; its length field counts all but its own two bytes
abbrev pub size_with : ℕ → ℕ → ℕ
size_with persons bicycles = head_size + person_size * persons + charge_size * bicycles

abbrev pub long_with : ℕ → ℕ → ℕ
long_with persons bicycles = 14 + person_size * persons + charge_size * bicycles

-- at most ten adults are carried, ten children and ten bicycles
abbrev pub most_carried : ℕ
most_carried = 10

-- the account holder and those carried
abbrev pub most_persons : ℕ
most_persons = 21

abbrev pub most_charges : ℕ
most_charges = 31

-- the largest record, 266 bytes
abbrev pub largest_size : ℕ
largest_size = size_with most_persons most_carried

-- a statement has one record, or two where the trip was broken into two parts
abbrev pub most_parts : ℕ
most_parts = 2

-- the largest statement, 532 bytes
abbrev pub largest_statement : ℕ
largest_statement = most_parts * largest_size

-- the account holder, adults and children
abbrev pub persons_of : Party → ℕ
persons_of party = 1 + party.adults + party.children

-- each of them and each bicycle has a charge
abbrev pub count_of : Party → ℕ
count_of party = persons_of party + party.bicycles

abbrev pub record_size : Party → ℕ
record_size party = size_with (persons_of party) party.bicycles

-- ---- Bytes.

-- the record's kind
abbrev pub charge_kind : ℕ
charge_kind = 6

-- the record's bytes up to its first charge: its length and its kind, 2 bytes each, stand before the body
unfoldable pub head_bytes : ℕ → ℕ → ℕ → ℕ → ℕ → ℕ → ℕ → ℕ → List ℕ
head_bytes long opening area km minutes adults children bicycles =
    bytes_of 2 long
    ++ (bytes_of 2 charge_kind
    ++ (bytes_of 4 opening
    ++ (bytes_of 1 area ++ (bytes_of 2 km ++ (bytes_of 2 minutes ++ (bytes_of 1 adults ++ (bytes_of 1 children ++ bytes_of 1 bicycles)))))))

-- what caps took off, and the named cap
unfoldable pub cut_bytes : Cut → List ℕ
cut_bytes cut = bytes_of 4 cut.reduction.0 ++ (bytes_of 1 cut.area ++ bytes_of 1 cut.class)

-- a person's charge, and behind it the cut
unfoldable pub person_bytes : ℕ → Cut → List ℕ
person_bytes charge cut = bytes_of 4 charge ++ cut_bytes cut

-- the charges one after another: those that have a cut are the persons', those behind them the bicycles'
unfoldable pub charge_bytes : List ℕ → List Cut → List ℕ
charge_bytes [] cuts = []
charge_bytes (charge ∷ more) [] = bytes_of 4 charge ++ charge_bytes more []
charge_bytes (charge ∷ more) (cut ∷ cuts) = person_bytes charge cut ++ charge_bytes more cuts

-- the head of a ride's record
unfoldable pub head_of : ℕ → Ride → List ℕ
head_of opening ride =
    let party = ride.party in
    head_bytes (long_with (persons_of party) party.bicycles) opening ride.area ride.km.0 ride.minutes.0 party.adults party.children
    party.bicycles

-- the charge record of a part
unfoldable pub record_of : Part → List ℕ
record_of part = head_of part.opening part.ride ++ charge_bytes part.charges part.cuts

-- the parts' records one after another
unfoldable pub statement_of : List Part → List ℕ
statement_of [] = []
statement_of (part ∷ more) = record_of part ++ statement_of more

-- the bytes that the records of some rides take together
unfoldable pub statement_size : List Ride → ℕ
statement_size [] = 0
statement_size (ride ∷ more) = record_size ride.party + statement_size more

-- ---- What a record can tell.

-- a charge for each of the party, and a cut for each person
pub record Complete (part : Part) : Type 0 where
  pub charges : length part.charges ≡ count_of part.ride.party
  pub cuts : length part.cuts ≡ persons_of part.ride.party

-- nothing taken off, and no cap named
abbrev pub uncut : Cut
uncut = record { reduction = record { 0 = 0 }; area = no_name.area; class = no_name.class }

-- a cut whose fields their widths hold
pub record CutFits (cut : Cut) : Type 0 where
  pub reduction : cut.reduction.0 < 2 ^ 32
  pub area : cut.area < 2 ^ 8
  pub class : cut.class < 2 ^ 8

-- a ride whose fields their widths hold, and whose party is one that a trip can have
pub record RideFits (ride : Ride) : Type 0 where
  pub area : ride.area < 2 ^ 8
  pub km : ride.km.0 < 2 ^ 16
  pub minutes : ride.minutes.0 < 2 ^ 16
  pub adults : ride.party.adults ≤ most_carried
  pub children : ride.party.children ≤ most_carried
  pub bicycles : ride.party.bicycles ≤ most_carried

-- a part whose fields their widths hold
pub record Recordable (part : Part) : Type 0 where
  pub opening : part.opening < 2 ^ 32
  pub ride : RideFits part.ride
  pub complete : Complete part
  pub charges : (i : ℕ) → get_or part.charges i 0 < 2 ^ 32
  pub cuts : (i : ℕ) → i < length part.cuts → CutFits (get_or part.cuts i uncut)
