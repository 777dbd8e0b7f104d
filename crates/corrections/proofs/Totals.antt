-- Nothing is lost between the payers: what they are charged, over all of them, is what a record, a statement and a run charge.
-- Assumes nothing.
use Prim.Native.Nat.{ℕ, zero, suc, ◌+◌, ◌-◌, ◌≤◌, ◌<◌}
use native.Mathlib.Omega.{arith}
use native.Mathlib.Nat.{zero-add, add-zero}
use mathlib.Core.Path.{◌≡◌, refl, sym, ap, ◌∙◌}
use mathlib.Core.List.{List, [], ◌∷◌, append-nil}
use borrow.Author.Tests.{lt-ltb, le-ltb}
use lib.ListN.{length}
use Rattle.statement.specs.Record.{Part, most_parts, statement_of}
use Rattle.statement.specs.Reading.{
  adults_in,
  children_in,
  bicycles_in,
  size_in,
  charge_in,
  cents_up_to,
  cents_in,
  cents_from,
  cents_over,
  charged_for,
}
use Rattle.statement.specs.Clauses.{RecordAt, RecordsTo, no_more, one_more, Recordables}
use Rattle.statement.proofs.Sums.{cents_go_on, cents_end}
use Rattle.statement.proofs.Records.{stand_from, records_to, cents-over}
use Rattle.settle.specs.Outcome.{parts_in}
use Rattle.settle.specs.Runs.{Settlement}
use Rattle.corrections.specs.Corrections.{payers, kth_in, paid_in, paid_from, paid_over, paid_by, statement_in}
use Rattle.corrections.proofs.Paid.{kth_person, kth_child, kth_bicycle, paid_go_on, paid_end}

-- ---- Sums of the first so many.

unfoldable pub sum_to : ℕ → (ℕ → ℕ) → ℕ
sum_to zero f = 0
sum_to (suc n) f = sum_to n f + f n

sum_same : (n : ℕ) (f g : ℕ → ℕ) → ((k : ℕ) → k < n → f k ≡ g k) → sum_to n f ≡ sum_to n g
unfolding sum_to
sum_same zero f g same = refl
sum_same (suc n) f g same = omega (arith, sum_same n f g (λ k h. same k (omega arith)), same n (omega arith))

sum_none : (n : ℕ) (f : ℕ → ℕ) → ((k : ℕ) → k < n → f k ≡ 0) → sum_to n f ≡ 0
unfolding sum_to
sum_none zero f none = refl
sum_none (suc n) f none = omega (arith, sum_none n f (λ k h. none k (omega arith)), none n (omega arith))

sum_add : (n : ℕ) (f g : ℕ → ℕ) → sum_to n (λ k. f k + g k) ≡ sum_to n f + sum_to n g
unfolding sum_to
sum_add zero f g = refl
sum_add (suc n) f g = omega (arith, sum_add n f g)

sum_split : (n m : ℕ) (f : ℕ → ℕ) → sum_to (m + n) f ≡ sum_to m f + sum_to n (λ k. f (m + k))
unfolding sum_to
sum_split zero m f = ap (λ (k : ℕ). sum_to k f) (add-zero m) ∙ sym (add-zero (sum_to m f))
sum_split (suc n) m f =
    let place : m + suc n ≡ suc (m + n) = omega arith in
    ap (λ (k : ℕ). sum_to k f) place ∙ omega (arith, sum_split n m f)

-- ---- A record.

module _ (statement : List ℕ) (place : ℕ) where
  -- charges that stand together, which are no more than the payers that may have them
  sum_kth :
      (first count more : ℕ)
      → sum_to (count + more) (kth_in statement place first count) ≡ sum_to count (λ k. charge_in statement place (first + k))
  sum_kth first count more =
      let some = sum_same count (kth_in statement place first count) (λ k. charge_in statement place (first + k)) (λ k h. rw (lt-ltb k count h)) in
      let none = sum_none more (λ k. kth_in statement place first count (count + k)) (λ k h. rw (le-ltb (count + k) count (omega arith))) in
      omega (arith, sum_split more count (kth_in statement place first count), some, none)

  sum_kth_to :
      (first count n : ℕ) → count ≤ n → sum_to n (kth_in statement place first count) ≡ sum_to count (λ k. charge_in statement place (first + k))
  sum_kth_to first count n most =
      let all : n ≡ count + (n - count) = omega arith in
      ap (λ (k : ℕ). sum_to k (kth_in statement place first count)) all ∙ sum_kth first count (n - count)

  cents_sum : (n : ℕ) → cents_up_to statement place n ≡ sum_to n (charge_in statement place)
  unfolding cents_up_to sum_to
  cents_sum zero = refl
  cents_sum (suc n) = omega (arith, cents_sum n)

  pub record_paid : RecordAt statement place → sum_to payers (paid_in statement place) ≡ cents_in statement place
  record_paid at =
      let paid = paid_in statement place in
      let charge = charge_in statement place in
      let adults = 1 + adults_in statement place in
      let children = children_in statement place in
      let bicycles = bicycles_in statement place in
      let split₁ : sum_to payers paid ≡ sum_to 11 paid + sum_to 20 (λ k. paid (11 + k)) = sum_split 20 11 paid in
      let split₂ : sum_to 20 (λ k. paid (11 + k)) ≡ sum_to 10 (λ k. paid (11 + k)) + sum_to 10 (λ k. paid (11 + (10 + k))) =
      sum_split 10 10 (λ k. paid (11 + k))
      in
      let persons : sum_to 11 paid ≡ sum_to adults (λ k. charge (0 + k)) =
      sum_same 11 paid (kth_in statement place 0 adults) (λ k h. kth_person statement place k h) ∙ sum_kth_to 0 adults 11 (omega (arith, at.adults))
      in
      let kids : sum_to 10 (λ k. paid (11 + k)) ≡ sum_to children (λ k. charge (adults + k)) =
      sum_same 10 (λ k. paid (11 + k)) (kth_in statement place adults children)
      (λ k h. kth_child statement place (11 + k) (omega arith) (omega arith) ∙ ap (kth_in statement place adults children) (omega arith))
      ∙ sum_kth_to adults children 10 at.children
      in
      let bikes : sum_to 10 (λ k. paid (11 + (10 + k))) ≡ sum_to bicycles (λ k. charge (adults + children + k)) =
      sum_same 10 (λ k. paid (11 + (10 + k))) (kth_in statement place (adults + children) bicycles)
      (λ k h. kth_bicycle statement place (11 + (10 + k)) (omega arith) ∙ ap (kth_in statement place (adults + children) bicycles) (omega arith))
      ∙ sum_kth_to (adults + children) bicycles 10 at.bicycles
      in
      let first : sum_to adults (λ k. charge (0 + k)) ≡ sum_to adults charge =
      sum_same adults (λ k. charge (0 + k)) charge (λ k h. ap charge (zero-add k))
      in
      let joined₁ = sum_split children adults charge in
      let joined₂ = sum_split bicycles (adults + children) charge in
      omega (arith, split₁, split₂, persons, kids, bikes, first, joined₁, joined₂, cents_sum (adults + children + bicycles))

-- ---- A statement.

-- records end no earlier than they begin
records_end : {statement : List ℕ} {end most place : ℕ} → RecordsTo statement end most place → place ≤ end
records_end (no_more is) = omega (arith, is)
records_end (one_more at rest) = omega (arith, records_end rest)

from_paid :
    (statement : List ℕ) (end most place : ℕ) → RecordsTo statement end most place
    → sum_to payers (paid_from most statement place end) ≡ cents_from most statement place end
from_paid statement end most place (no_more is) =
    sum_none payers (paid_from most statement place end) (λ payer h. paid_end statement most payer (omega (arith, is)))
    ∙ sym (cents_end statement most (omega (arith, is)))
from_paid statement end (suc most) place (one_more at rest) =
    let on : place < end = omega (arith, records_end rest) in
    let later = paid_from most statement (place + size_in statement place) end in
    let apart : sum_to payers (paid_from (suc most) statement place end) ≡ sum_to payers (paid_in statement place) + sum_to payers later =
    sum_same payers (paid_from (suc most) statement place end) (λ payer. paid_in statement place payer + later payer)
    (λ payer h. paid_go_on statement most payer on)
    ∙ sum_add payers (paid_in statement place) later
    in
    let next = from_paid statement end most (place + size_in statement place) rest in
    omega (arith, apart, record_paid statement place at, next, cents_go_on statement most on)

-- All payers together are charged what the statement's records charge.
pub statement_paid :
    (statement : List ℕ) (size : ℕ) → RecordsTo statement size most_parts 0 → sum_to payers (paid_over statement size) ≡ cents_over statement size
statement_paid statement size records = from_paid statement size most_parts 0 records

pub parts_paid :
    (parts : List Part) → length parts ≤ most_parts → Recordables parts
    → sum_to payers (paid_over (statement_of parts) (length (statement_of parts))) ≡ charged_for parts
parts_paid parts few ok =
    let statement = statement_of parts in
    let stand = stand_from parts statement [] 0 (sym (append-nil statement)) in
    let end : length statement ≡ 0 + length statement = sym (zero-add (length statement)) in
    statement_paid statement (length statement) (records_to statement most_parts parts few ok stand end)
    ∙ cents-over statement most_parts parts few ok stand end

-- ---- A run.

-- each of its records has one or two parts, whose fields their widths hold, or none
pub data Written : List Settlement → Type 0 where
  over : Written []
  then :
      {s : Settlement} {later : List Settlement} → length (parts_in s.outcome) ≤ most_parts → Recordables (parts_in s.outcome) → Written later
      → Written (s ∷ later)

-- its parts' charges, added up
unfoldable pub charged_in : List Settlement → ℕ
charged_in [] = 0
charged_in (s ∷ later) = charged_for (parts_in s.outcome) + charged_in later

pub run_paid : (settled : List Settlement) → Written settled → sum_to payers (λ payer. paid_by payer settled) ≡ charged_in settled
unfolding charged_in paid_by
run_paid [] over = sum_none payers (λ payer. 0) (λ payer h. refl)
run_paid (s ∷ later) (then few ok rest) =
    let here = paid_over (statement_in s) (length (statement_in s)) in
    omega (arith, sum_add payers here (λ payer. paid_by payer later), parts_paid (parts_in s.outcome) few ok, run_paid later rest)
