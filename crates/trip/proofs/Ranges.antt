-- What the tests of a party and of two moments say, in the rules' words, and that the words are enough.
-- Assumes nothing.
use Prim.Native.Nat.{ℕ, ◌+◌, ◌≤◌, ◌<◌}
use native.Mathlib.Omega.{arith}
use native.Mathlib.Decide.{dec_lt}
use mathlib.Core.Path.{◌≡◌, refl, sym, ◌∙◌}
use mathlib.Core.Logic.{◌↔◌, ◌⊎◌, inl, inr, ⊎_elim}
use mathlib.Core.Bool.{Bool, true, false, ◌||◌, and-false, false≢true}
use borrow.Author.Tests.{eqb-true, leb-false, le-leb, lt-leb}
use lib.Dec.{leb, eqb}
use Rattle.units.specs.Day.{day_minutes}
use Rattle.wire.proofs.Tests.{told, one_of}
use Rattle.trip.specs.declared.Party.{Party}
use Rattle.trip.specs.Trips.{party_right, in_order}
use Rattle.trip.specs.Conditions.{
  WrongParty,
  no_class,
  high_level,
  many_adults,
  many_children,
  many_bicycles,
  few_stops,
  many_stops,
  WrongOrder,
  backward,
  too_long,
}

-- Class 1 or 2, level at most 5, adults, children and bicycles at most 10, n 2..32.
pub record PartyRanges (class level : ℕ) (p : Party) (n : ℕ) : Type 0 where
  pub class_is : (class ≡ 1) ⊎ (class ≡ 2)
  pub level_most : level ≤ 5
  pub adults : p.adults ≤ 10
  pub children : p.children ≤ 10
  pub bicycles : p.bicycles ≤ 10
  pub least : 2 ≤ n
  pub most : n ≤ 32

pub party_ranges : (class level : ℕ) (p : Party) (n : ℕ) → party_right class level p n ≡ true → PartyRanges class level p n
unfolding party_right
party_ranges class level p n e =
    record {
      class_is = one_of (eqb class 1) (eqb class 2) (search told depth 9) (λ t. inl (eqb-true _ _ t)) (λ t. inr (eqb-true _ _ t));
      level_most = search told depth 9;
      adults = search told depth 9;
      children = search told depth 9;
      bicycles = search told depth 9;
      least = search told depth 9;
      most = search told depth 9;
    }

pub ranges_right : (class level : ℕ) (p : Party) (n : ℕ) → PartyRanges class level p n → party_right class level p n ≡ true
unfolding party_right
ranges_right class level p n r =
    rw (
      classes r.class_is,
      le-leb level 5 r.level_most,
      le-leb p.adults 10 r.adults,
      le-leb p.children 10 r.children,
      le-leb p.bicycles 10 r.bicycles,
      le-leb 2 n r.least,
      le-leb n 32 r.most,
    )
  where
    classes : (class ≡ 1) ⊎ (class ≡ 2) → eqb class 1 || eqb class 2 ≡ true
    classes (inl e) = rw e
    classes (inr e) = rw e

-- a number is above another, or at most that
at_most : {A : Type 0} (n most : ℕ) → (most < n → A) → (n ≤ most → A) → A
at_most n most above within = elim (dec_lt most n) [ yes h ↦ above h | no h ↦ within (omega arith) ]

-- 6 in the rules' words.
pub six : (class level : ℕ) (party : Party) (n : ℕ) → party_right class level party n ≡ false ↔ WrongParty class level party n
six class level party n =
    (λ e. wrong (λ r. false≢true (sym e ∙ ranges_right class level party n r)), λ w. go (party_right class level party n) refl w)
  where
    wrong : (PartyRanges class level party n → ⊥) → WrongParty class level party n
    wrong out =
        at_most level 5 high_level λ low.
        at_most party.adults 10 many_adults λ adults.
        at_most party.children 10 many_children λ children.
        at_most party.bicycles 10 many_bicycles λ bicycles.
        at_most 2 n few_stops λ least.
        at_most n 32 many_stops λ most.
        let ranges : (class ≡ 1) ⊎ (class ≡ 2) → PartyRanges class level party n =
        λ is.
        record { class_is = is; level_most = low; adults = adults; children = children; bicycles = bicycles; least = least; most = most }
        in
        no_class (λ e. out (ranges (inl e))) (λ e. out (ranges (inr e)))

    never : PartyRanges class level party n → WrongParty class level party n → ⊥
    never r (no_class one two) = ⊎_elim one two r.class_is
    never r (high_level h) = omega (arith, r.level_most)
    never r (many_adults h) = omega (arith, r.adults)
    never r (many_children h) = omega (arith, r.children)
    never r (many_bicycles h) = omega (arith, r.bicycles)
    never r (few_stops h) = omega (arith, r.least)
    never r (many_stops h) = omega (arith, r.most)

    go : (t : Bool) → party_right class level party n ≡ t → WrongParty class level party n → party_right class level party n ≡ false
    go true e w = absurd (never (party_ranges class level party n e) w)
    go false e w = e

-- Check-out is not before check-in, nor over 1,440 minutes after it.
pub in-order : (from to : ℕ) → in_order from to ≡ true → (from ≤ to) × (to ≤ from + day_minutes)
in-order from to e = search told

-- 9 in the rules' words.
pub nine : (from to : ℕ) → in_order from to ≡ false ↔ WrongOrder from to
nine from to = (
  λ e.
      elim (dec_lt to from) [
        | yes h ↦ backward h
        | no h ↦ too_long (leb-false to (from + day_minutes) (rw (le-leb from to (omega arith)) at e))
      ],
  back,
)
  where
    back : WrongOrder from to → in_order from to ≡ false
    back (backward h) = rw (lt-leb from to h)
    back (too_long h) = rw (lt-leb to (from + day_minutes) h) (and-false (leb from to))
