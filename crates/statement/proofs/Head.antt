-- The charge record's head, and a person's charge and cut: what their fields make, put one after another, and how many bytes they are.
-- Assumes nothing.
use Prim.Native.Nat.{ℕ}
use mathlib.Core.Path.{◌≡◌, refl}
use mathlib.Core.List.{◌++◌}
use lib.ListN.{length}
use Rattle.wire.specs.Number.{bytes_of}
use Rattle.caps.specs.declared.Cut.{Cut}
use Rattle.trip.specs.declared.Ride.{Ride}
use Rattle.statement.specs.Record.{head_size, cut_size, person_size, head_bytes, head_of, cut_bytes, person_bytes}
use Rattle.statement.specs.Clauses.{cut_with}

-- Length, kind, opening minute, area, kilometres, minutes and the party's numbers, each put after those before it, are the head.
pub head_put :
    (long opening area km minutes adults children bicycles : ℕ)
    → bytes_of 2 long
    ++ bytes_of 2 6
    ++ bytes_of 4 opening
    ++ bytes_of 1 area
    ++ bytes_of 2 km
    ++ bytes_of 2 minutes
    ++ bytes_of 1 adults
    ++ bytes_of 1 children
    ++ bytes_of 1 bicycles
    ≡ head_bytes long opening area km minutes adults children bicycles
unfolding bytes_of head_bytes
head_put long opening area km minutes adults children bicycles = refl

-- The head has 16 bytes.
pub length_fields : (long opening area km minutes adults children bicycles : ℕ) → length (head_bytes long opening area km minutes adults children bicycles) ≡ head_size
unfolding bytes_of head_bytes
length_fields long opening area km minutes adults children bicycles = refl

pub length_head : (opening : ℕ) (ride : Ride) → length (head_of opening ride) ≡ head_size
unfolding bytes_of head_bytes head_of
length_head opening ride = refl

-- A charge, what was taken off, and the named cap's area and class, each put after those before it, are a person's.
pub person_put :
    (charge reduction area class : ℕ)
    → bytes_of 4 charge ++ bytes_of 4 reduction ++ bytes_of 1 area ++ bytes_of 1 class ≡ person_bytes charge (cut_with reduction area class)
unfolding bytes_of person_bytes cut_bytes
person_put charge reduction area class = refl

-- A cut has 6 bytes, a person 10.
pub length_cut : (cut : Cut) → length (cut_bytes cut) ≡ cut_size
unfolding bytes_of cut_bytes
length_cut cut = refl

pub length_person : (charge : ℕ) (cut : Cut) → length (person_bytes charge cut) ≡ person_size
unfolding bytes_of cut_bytes person_bytes
length_person charge cut = refl
