-- A charge record read off its bytes, wherever in a statement it stands: each field of the record at a place, and what its charges add up
-- to.
use Rattle.std.specs.Prelude.{ℕ, zero, suc, ◌+◌, ◌*◌, min, cond, List, [], ◌∷◌, ltb}
use Rattle.wire.specs.Number.{get_le}
use Rattle.statement.specs.Record.{Part, head_size, charge_size, cut_size, person_size, most_parts}

-- what the length field counts: kind and body
abbrev pub long_in : List ℕ → ℕ → ℕ
long_in statement place = get_le 2 statement place

abbrev pub kind_in : List ℕ → ℕ → ℕ
kind_in statement place = get_le 2 statement (place + 2)

abbrev pub opening_in : List ℕ → ℕ → ℕ
opening_in statement place = get_le 4 statement (place + 4)

abbrev pub area_in : List ℕ → ℕ → ℕ
area_in statement place = get_le 1 statement (place + 8)

abbrev pub km_in : List ℕ → ℕ → ℕ
km_in statement place = get_le 2 statement (place + 9)

abbrev pub minutes_in : List ℕ → ℕ → ℕ
minutes_in statement place = get_le 2 statement (place + 11)

abbrev pub adults_in : List ℕ → ℕ → ℕ
adults_in statement place = get_le 1 statement (place + 13)

abbrev pub children_in : List ℕ → ℕ → ℕ
children_in statement place = get_le 1 statement (place + 14)

abbrev pub bicycles_in : List ℕ → ℕ → ℕ
bicycles_in statement place = get_le 1 statement (place + 15)

-- the record's own bytes: the next one stands behind them
abbrev pub size_in : List ℕ → ℕ → ℕ
size_in statement place = 2 + long_in statement place

-- account holder, adults and children
abbrev pub persons_in : List ℕ → ℕ → ℕ
persons_in statement place = 1 + adults_in statement place + children_in statement place

-- how many charges the record has
abbrev pub count_in : List ℕ → ℕ → ℕ
count_in statement place = persons_in statement place + bicycles_in statement place

-- where charge i stands, in a record of so many persons at a place: behind the charges before it, and the cuts of those of them that are
-- persons'
abbrev pub charge_place : ℕ → ℕ → ℕ → ℕ
charge_place place persons i = place + head_size + charge_size * i + cut_size * min i persons

-- charge i of the party, counted from 0: account holder, adults, children, bicycles
abbrev pub charge_in : List ℕ → ℕ → ℕ → ℕ
charge_in statement place i = get_le 4 statement (charge_place place (persons_in statement place) i)

-- bicycle k's charge, counted from 0
abbrev pub bicycle_in : List ℕ → ℕ → ℕ → ℕ
bicycle_in statement place k = charge_in statement place (persons_in statement place + k)

-- where person i's cut stands: behind the persons before, and the person's charge
abbrev pub cut_place : ℕ → ℕ → ℕ
cut_place place i = place + head_size + person_size * i + charge_size

-- what caps took off person i's price, and the named cap's area and class
abbrev pub reduction_in : List ℕ → ℕ → ℕ → ℕ
reduction_in statement place i = get_le 4 statement (cut_place place i)

abbrev pub cap_area_in : List ℕ → ℕ → ℕ → ℕ
cap_area_in statement place i = get_le 1 statement (cut_place place i + 4)

abbrev pub cap_class_in : List ℕ → ℕ → ℕ → ℕ
cap_class_in statement place i = get_le 1 statement (cut_place place i + 5)

-- the first so many charges, added up
unfoldable pub cents_up_to : List ℕ → ℕ → ℕ → ℕ
cents_up_to statement place zero = 0
cents_up_to statement place (suc n) = cents_up_to statement place n + charge_in statement place n

-- all of the record's
abbrev pub cents_in : List ℕ → ℕ → ℕ
cents_in statement place = cents_up_to statement place (count_in statement place)

-- of the records that stand one behind the other from a place up to an end, of which there are at most `most`
unfoldable pub cents_from : ℕ → List ℕ → ℕ → ℕ → ℕ
cents_from zero statement place end = 0
cents_from (suc most) statement place end =
    let more = cents_from most statement (place + size_in statement place) end in
    cond (ltb place end) (cents_in statement place + more) 0

-- of all records in a statement's first `size` bytes
abbrev pub cents_over : List ℕ → ℕ → ℕ
cents_over statement size = cents_from most_parts statement 0 size

-- a list of charges, added up
unfoldable pub sum_of : List ℕ → ℕ
sum_of [] = 0
sum_of (charge ∷ more) = charge + sum_of more

-- the charges of some parts, added up
unfoldable pub charged_for : List Part → ℕ
charged_for [] = 0
charged_for (part ∷ more) = sum_of part.charges + charged_for more
