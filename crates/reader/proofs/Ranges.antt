-- The ranges as tests and in words.
-- Assumes nothing.
use Prim.Native.Nat.{ℕ, ◌+◌, ◌≤◌, ◌<◌}
use native.Mathlib.Nat.{le_antisymm}
use native.Mathlib.Decide.{ℕ_discrete}
use mathlib.Core.Path.{◌≡◌, refl, sym, ap, ◌∙◌}
use mathlib.Core.Logic.{inl, inr, ⊎_elim}
use mathlib.Core.Bool.{Bool, true, false, ◌&&◌, ◌||◌, or-true}
use borrow.Author.Tests.{le-leb, leb-true, eq-eqb, ne_eqb, eqb-true}
use lib.Dec.{leb, eqb}
use Rattle.units.specs.Day.{day_minutes}
use Rattle.wire.proofs.Each.{each_none, each_more, each_fails, each_at, each_all}
use Rattle.wire.proofs.Tests.{both_left, both_right, one_of, told}
use Rattle.calendar.specs.Stamps.{last_minute}
use Rattle.caps.specs.declared.Cut.{Cut}
use Rattle.caps.specs.Named.{no_name}
use Rattle.units.specs.Plane.{most_km}
use Rattle.units.specs.Price.{most_price}
use Rattle.statement.specs.Record.{most_carried}
use Rattle.reader.specs.declared.Head.{Head}
use Rattle.reader.specs.declared.Whose.{Whose}
use Rattle.reader.specs.declared.Whose.TheVariants.{Unsaid, Of}
use Rattle.reader.specs.declared.Amount.{Amount}
use Rattle.reader.specs.Fields.{Fields, head_in, whose_in, charges_of, amount_of}
use Rattle.reader.specs.Ranges.{
  last_area,
  HeadInRange,
  WhoseInRange,
  CutInRange,
  AmountInRange,
  InRange,
  head_right,
  whose_right,
  cut_right,
  amount_right,
  amounts_right,
  in_range,
}

-- ---- The loop over the charges.

module _ (fields : Fields) where
  pub none_wrong : amounts_right fields 0 ≡ true
  none_wrong = each_none (λ (i : ℕ). amount_right (amount_of fields i))

  module _ (i : ℕ) {amount : Amount} {r : Bool} (read : amount ≡ amount_of fields i) (is : r ≡ amount_right amount) where
    -- One turn: a charge more is in range.
    pub one_right : amounts_right fields i ≡ true → r ≡ true → amounts_right fields (i + 1) ≡ true
    one_right so_far right =
        each_more i (λ (j : ℕ). amount_right (amount_of fields j)) ∙ rw (so_far, sym (ap amount_right read) ∙ sym is ∙ right)

    -- Or one is not.
    pub one_wrong : (count : ℕ) → i < count → r ≡ false → false ≡ amounts_right fields count
    one_wrong count there wrong =
        sym (each_fails count (λ (j : ℕ). amount_right (amount_of fields j)) i there (sym (ap amount_right read) ∙ sym is ∙ wrong))

  -- After the last turn all are.
  pub all_right : (i count : ℕ) → i ≤ count → count ≤ i → amounts_right fields i ≡ true → true ≡ amounts_right fields count
  all_right i count most least so_far = sym (rw (le_antisymm most least) at so_far)

-- ---- In words.

pub head_told : (head : Head) → head_right head ≡ true → HeadInRange head
head_told head e = record { opening = search told depth 9; area = search told depth 9; km = search told depth 9; minutes = search told depth 9 }

pub head_tests : (head : Head) → HeadInRange head → head_right head ≡ true
head_tests head ok =
    rw (
      le-leb head.opening.0 last_minute ok.opening,
      le-leb head.area last_area ok.area,
      le-leb head.km.0 most_km ok.km,
      le-leb head.minutes.0 day_minutes ok.minutes,
    )

pub whose_told : (whose : Whose) → whose_right whose ≡ true → WhoseInRange whose
whose_told (Unsaid n) e = tt
whose_told (Of party) e = (search told depth 9, (search told depth 9, search told depth 9))

pub whose_tests : (whose : Whose) → WhoseInRange whose → whose_right whose ≡ true
whose_tests (Unsaid n) ok = refl
whose_tests (Of party) ok =
    rw (
      le-leb party.adults most_carried ok.0,
      le-leb party.children most_carried ok.1.0,
      le-leb party.bicycles most_carried ok.1.1,
    )

pub cut_told : (cut : Cut) → cut_right cut ≡ true → CutInRange cut
cut_told cut e =
    elim (ℕ_discrete cut.reduction.0 0) [
      | yes none ↦
          let both = rw (eq-eqb cut.reduction.0 0 none) at e in
          record { unnamed = λ _. (search told depth 9, search told depth 9); named = λ some. absurd (some none) }
      | no some ↦
          let both = rw (ne_eqb cut.reduction.0 0 some) at e in
          let class = both_right (leb cut.area last_area) (eqb cut.class 1 || eqb cut.class 2) both in
          record {
            unnamed = λ none. absurd (some none);
            named = λ _. (
              leb-true cut.area last_area (both_left (leb cut.area last_area) (eqb cut.class 1 || eqb cut.class 2) both),
              one_of (eqb cut.class 1) (eqb cut.class 2) class (λ is. inl (eqb-true cut.class 1 is)) (λ is. inr (eqb-true cut.class 2 is)),
            );
          }
    ]

pub cut_tests : (cut : Cut) → CutInRange cut → cut_right cut ≡ true
cut_tests cut ok =
    elim (ℕ_discrete cut.reduction.0 0) [
      | yes none ↦
          let (area, class) = ok.unnamed none in
          rw (eq-eqb cut.reduction.0 0 none, eq-eqb cut.area no_name.area area, eq-eqb cut.class 0 class)
      | no some ↦
          let (area, class) = ok.named some in
          rw (ne_eqb cut.reduction.0 0 some, le-leb cut.area last_area area)
          (⊎_elim (λ is. rw (eq-eqb cut.class 1 is)) (λ is. rw (eq-eqb cut.class 2 is, or-true)) class)
    ]

pub amount_told : (amount : Amount) → amount_right amount ≡ true → AmountInRange amount
amount_told amount e =
    let price = leb (amount.charge.0 + amount.cut.reduction.0) most_price in
    record {
      price = leb-true (amount.charge.0 + amount.cut.reduction.0) most_price (both_left price (cut_right amount.cut) e);
      cut = cut_told amount.cut (both_right price (cut_right amount.cut) e);
    }

pub amount_tests : (amount : Amount) → AmountInRange amount → amount_right amount ≡ true
amount_tests amount ok =
    rw (le-leb (amount.charge.0 + amount.cut.reduction.0) most_price ok.price) (cut_tests amount.cut ok.cut)

-- The test holds exactly where the fields are in range.
pub range_told : (fields : Fields) → in_range fields ≡ true → InRange fields
range_told fields e =
    let head = head_right (head_in fields) in
    let whose = whose_right (whose_in fields) in
    let n = charges_of (whose_in fields) in
    let front = both_left (head && whose) (amounts_right fields n) e in
    record {
      head = head_told (head_in fields) (both_left head whose front);
      whose = whose_told (whose_in fields) (both_right head whose front);
      amounts = λ i h.
          amount_told (amount_of fields i)
          (each_at n (λ (j : ℕ). amount_right (amount_of fields j)) (both_right (head && whose) (amounts_right fields n) e) i h);
    }

pub range_tests : (fields : Fields) → InRange fields → in_range fields ≡ true
range_tests fields ok =
    rw (
      head_tests (head_in fields) ok.head,
      whose_tests (whose_in fields) ok.whose,
      each_all (charges_of (whose_in fields)) (λ (j : ℕ). amount_right (amount_of fields j)) (λ i h. amount_tests (amount_of fields i) (ok.amounts i h)),
    )
