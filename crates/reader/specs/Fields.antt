-- docs/RULES.md, section 20, and docs/FORMAT.md, kinds 4 and 6: what a charge record tells, and the bytes that it is written as.
use Rattle.std.specs.Prelude.{ℕ, ◌≤◌, ◌≡◌, List, [], ◌++◌, length, get_or}
use Rattle.caps.specs.declared.Cut.{Cut}
use Rattle.trip.specs.declared.Party.{Party}
use Rattle.trip.specs.declared.Ride.{Ride}
use Rattle.statement.specs.Record.{Part, long_with, most_charges, persons_of, count_of, head_bytes, charge_bytes, uncut}
use Rattle.statement.specs.Kind4.{charges_long, charges_head}
use Rattle.reader.specs.declared.Head.{Head}
use Rattle.reader.specs.declared.Whose.{Whose}
use Rattle.reader.specs.declared.Whose.TheVariants.{Unsaid, Of}
use Rattle.reader.specs.declared.Amount.{Amount}

-- kind 4 has its charges in order and does not say whose they are; kind 6 has a charge for each of a party, and a cut for each of its persons
pub data Fields : Type 0 where
  kind4 : Head → List ℕ → Fields
  kind6 : Head → Party → List ℕ → List Cut → Fields

abbrev pub head_in : Fields → Head
head_in (kind4 head charges) = head
head_in (kind6 head party charges cuts) = head

abbrev pub whose_in : Fields → Whose
whose_in (kind4 head charges) = Unsaid (length charges)
whose_in (kind6 head party charges cuts) = Of party

-- how many charges there are
abbrev pub charges_of : Whose → ℕ
charges_of (Unsaid charges) = charges
charges_of (Of party) = count_of party

-- a charge that nothing was taken off
abbrev pub uncut_amount : ℕ → Amount
uncut_amount charge = record { charge = record { 0 = charge }; cut = uncut }

-- charge i, counted from 0, and what caps took off: nothing where the record tells no cut
abbrev pub amount_of : Fields → ℕ → Amount
amount_of (kind4 head charges) i = uncut_amount (get_or charges i 0)
amount_of (kind6 head party charges cuts) i = record { charge = record { 0 = get_or charges i 0 }; cut = get_or cuts i uncut }

-- as many charges as a party can have; and where the party is told, a charge for each of it and a cut for each of its persons
abbrev pub Complete : Fields → Type 0
Complete (kind4 head charges) = (1 ≤ length charges) × (length charges ≤ most_charges)
Complete (kind6 head party charges cuts) = (length charges ≡ count_of party) × (length cuts ≡ persons_of party)

-- the record, by the definitions that settling writes by
unfoldable pub written : Fields → List ℕ
written (kind4 head charges) =
    charges_head (charges_long (length charges)) head.opening.0 head.area head.km.0 head.minutes.0 ++ charge_bytes charges []
written (kind6 head party charges cuts) =
    head_bytes (long_with (persons_of party) party.bicycles) head.opening.0 head.area head.km.0 head.minutes.0 party.adults
    party.children party.bicycles
    ++ charge_bytes charges cuts

-- what a part's record tells of it: the class and the ticket level it does not
abbrev pub head_of : ℕ → Ride → Head
head_of opening ride = record { opening = record { 0 = opening }; area = ride.area; km = ride.km; minutes = ride.minutes }

-- as settling writes it, in kind 6
abbrev pub fields_of : Part → Fields
fields_of part = kind6 (head_of part.opening part.ride) part.ride.party part.charges part.cuts

-- and as it wrote it in kind 4
abbrev pub charges_alone : Part → Fields
charges_alone part = kind4 (head_of part.opening part.ride) part.charges
