-- Lists of what something is of numbers one after another: how long they are, what stands where, and when two are the same. So of the persons of
-- a party: account holder and adults from 0 on, children from 1 + adults on.
-- Assumes nothing.
use Prim.Native.Nat.{ℕ, zero, suc, ◌+◌, ◌-◌, ◌≤◌, ◌<◌}
use native.Mathlib.Nat.{not-suc-le-zero, zero-add}
use native.Mathlib.Omega.{arith}
use native.Mathlib.Numerals.{add-one}
use native.Mathlib.Decide.{ℕ_discrete, dec_lt}
use mathlib.Core.Path.{◌≡◌, refl, sym, ap, ◌∙◌}
use mathlib.Core.Bool.{Bool, true, false, cond}
use mathlib.Core.List.{List, [], ◌∷◌, ◌++◌}
use lib.ListN.{length, get_or, length-append, get_or-append, get_or-eq_default}
use lib.Seq.{get_or-append-add, get_or_at}
use lib.Dec.{leb, ltb}
use borrow.Author.Tests.{ltb-true, leb-true}
use Rattle.trip.specs.declared.Party.{Party}
use Rattle.ledger.specs.Words.{first_child}
use Rattle.charging.specs.Charging.{is_child, carries, place_of, in_turn, each_person}

module _ {A : Type 0} (of : ℕ → A) (first : ℕ) where
  pub turn_length : (n : ℕ) → length (in_turn of first n) ≡ n
  unfolding in_turn
  turn_length zero = refl
  turn_length (suc n) = omega (arith, length-append (in_turn of first n) (of (first + n) ∷ []), turn_length n)

  pub turn_more : (n : ℕ) → in_turn of first (n + 1) ≡ in_turn of first n ++ (of (first + n) ∷ [])
  unfolding in_turn
  turn_more n = rw (add-one n) refl

  pub turn_at : (d : A) (n i : ℕ) → i < n → get_or (in_turn of first n) i d ≡ of (first + i)
  unfolding in_turn
  turn_at d zero i h = absurd (not-suc-le-zero h)
  turn_at d (suc n) i h =
      elim (ℕ_discrete i n) [
        | yes e ↦ rw e (get_or_at (in_turn of first n) (of (first + n)) [] d n (turn_length n))
        | no ne ↦
            let before : i < n = omega arith in
            get_or-append (in_turn of first n) (of (first + n) ∷ []) d i (omega (arith, turn_length n)) ∙ turn_at d n i before
      ]

-- Values that are the same make the same list.
pub turn_same :
    {A : Type 0} (of of' : ℕ → A) (first first' n : ℕ) → ((i : ℕ) → i < n → of (first + i) ≡ of' (first' + i)) → in_turn of first n ≡ in_turn of' first' n
unfolding in_turn
turn_same of of' first first' zero same = refl
turn_same of of' first first' (suc n) same = rw (turn_same of of' first first' n (λ i h. same i (omega arith)), same n (omega arith))

-- What each value is at most, each element is; and so of two lists joined.
pub turn_most :
    (of : ℕ → ℕ) (first n most : ℕ) → ((i : ℕ) → i < n → of (first + i) ≤ most) → (i : ℕ) → get_or (in_turn of first n) i 0 ≤ most
turn_most of first n most each i =
    elim (dec_lt i n) [
      | yes there ↦ omega (arith, turn_at of first 0 n i there, each i there)
      | no past ↦ omega (arith, get_or-eq_default (in_turn of first n) 0 {n = i} (omega (arith, turn_length of first n)))
    ]

pub joined_most :
    (xs ys : List ℕ) (most : ℕ) → ((i : ℕ) → get_or xs i 0 ≤ most) → ((i : ℕ) → get_or ys i 0 ≤ most) → (i : ℕ) → get_or (xs ++ ys) i 0 ≤ most
joined_most [] ys most one other i = other i
joined_most (x ∷ xs) ys most one other zero = one zero
joined_most (x ∷ xs) ys most one other (suc i) = joined_most xs ys most (λ j. one (suc j)) other i

-- What stands behind n values of a list stands there in the list that is joined to them.
pub at_second : {A : Type 0} (xs ys : List A) (d : A) (n i : ℕ) → length xs ≡ n → get_or (xs ++ ys) (n + i) d ≡ get_or ys i d
at_second xs ys d n i long = ap (λ (k : ℕ). get_or (xs ++ ys) (k + i) d) (sym long) ∙ get_or-append-add xs ys i d

module _ {A : Type 0} (party : Party) (of : Bool → ℕ → A) where
  abbrev older : List A
  older = in_turn (of false) 0 (1 + party.adults)

  abbrev children : List A
  children = in_turn (of true) first_child party.children

  pub persons_length : length (each_person party of) ≡ 1 + party.adults + party.children
  unfolding each_person
  persons_length =
      omega (arith, length-append older children, turn_length (of false) 0 (1 + party.adults), turn_length (of true) first_child party.children)

  pub adult_at : (d : A) (i : ℕ) → i < 1 + party.adults → get_or (each_person party of) i d ≡ of false i
  unfolding each_person
  adult_at d i h =
      get_or-append older children d i (rw (turn_length (of false) 0 (1 + party.adults)) h)
      ∙ turn_at (of false) 0 d (1 + party.adults) i h ∙ ap (of false) (zero-add i)

  pub child_at : (d : A) (i : ℕ) → i < party.children → get_or (each_person party of) (1 + party.adults + i) d ≡ of true (first_child + i)
  unfolding each_person
  child_at d i h =
      at_second older children d (1 + party.adults) i (turn_length (of false) 0 (1 + party.adults))
      ∙ turn_at (of true) first_child d party.children i h

  -- Each carried rider's stands at the rider's place.
  pub rider_at :
      (d : A) (rider : ℕ) → carries party rider ≡ true → get_or (each_person party of) (place_of party rider) d ≡ of (is_child rider) rider
  rider_at d rider = go (is_child rider) refl
    where
      go :
          (child : Bool) → is_child rider ≡ child → cond child (ltb (rider - first_child) party.children) (leb rider party.adults) ≡ true
          → get_or (each_person party of) (cond child (1 + party.adults + (rider - first_child)) rider) d ≡ of child rider
      go true e on =
          let same : first_child + (rider - first_child) ≡ rider = omega (arith, ltb-true) in
          child_at d (rider - first_child) (ltb-true _ _ on) ∙ ap (of true) same
      go false e on = adult_at d rider (omega (arith, leb-true))
