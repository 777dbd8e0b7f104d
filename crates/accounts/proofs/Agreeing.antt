-- Two pages that agree in some places: what is found there, answered and written is the same on both, and they agree there afterwards. And
-- nothing outside of these places is written.
-- Assumes nothing.
use Prim.Native.Nat.{ℕ, zero, suc, ◌+◌, ◌*◌, ◌-◌, ◌≤◌, ◌<◌}
use native.Mathlib.Omega.{arith}
use native.Mathlib.Decide.{dec_lt}
use mathlib.Core.Path.{◌≡◌, refl, sym, ap, ◌∙◌}
use mathlib.Core.Logic.{◌⊎◌, inl, inr, ⊎_elim}
use mathlib.Core.List.{List}
use mathlib.Core.Bool.{Bool}
use lib.ListN.{length, get_or, drop}
use lib.Seq.{get_or-take, get_or-drop}
use lib.Dec.{leb}
use Rattle.wire.specs.Each.{each}
use Rattle.wire.proofs.Number.{get_same}
use Rattle.editions.specs.declared.Editions.{Editions}
use Rattle.editions.specs.Reading.{ReadFile}
use Rattle.ledger.specs.Words.{book_size}
use Rattle.settle.specs.Outcome.{Outcome, refused, accepted, settled_under, book_after}
use Rattle.page.specs.declared.Spot.{Spot}
use Rattle.page.specs.declared.Spot.TheVariants.{Nowhere, At}
use Rattle.page.specs.declared.checks.Account.{Account}
use Rattle.page.specs.declared.checks.Account.TheVariants.{WrongPage, Absent, Present}
use Rattle.page.specs.Pages.{
  number_size,
  place_size,
  places,
  page_size,
  start_of,
  number_at,
  book_at,
  replaced,
  most_number,
  cleared_place,
  new_place,
  lowest_with,
  numbers_right,
  only_here,
  numbers_once,
  page_right,
  account_of,
  unchanged,
  added,
  closed,
  page_after,
}
use Rattle.accounts.specs.Members.{on_page, member_settled_under, member_settled}
use Rattle.page.specs.InWords.{Touched, Agree, OnlyIn}
use Rattle.accounts.specs.InWords.{ChangesAgree, TripsAgree}
use Rattle.page.proofs.Replacing.{part_alike, length_replaced, byte_there, byte_other}
use Rattle.page.proofs.Lowest.{lowest_says}
use Rattle.page.proofs.Conditions.{absent_looked, present_there, present_lowest}
use Rattle.page.proofs.Touching.{place_touched, book_touched}
use Rattle.accounts.proofs.Effects.{
  accepted_size,
  cleared_long,
  new_long,
  Adding,
  add_wrong_page,
  add_present,
  add_full,
  add_at,
  adding,
  adds_wrong_page,
  adds_present,
  adds_nowhere,
  adds_there,
  Closing,
  close_wrong_page,
  close_absent,
  close_at,
  closing,
  closes_wrong_page,
  closes_absent,
  closes_there,
  Settling,
  at_fault,
  settle_wrong_page,
  settle_absent,
  settle_at,
  settling,
  under_wrong_page,
  under_absent,
  under_present,
}

-- ---- Agreeing, byte for byte.

pub agree_self : {first count : ℕ} {page : List ℕ} → Agree first count page page
agree_self = record { size = refl; same = refl }

pub agree_sym : {first count : ℕ} {page page' : List ℕ} → Agree first count page page' → Agree first count page' page
agree_sym agree = record { size = sym agree.size; same = sym agree.same }

pub agree_trans :
    {first count : ℕ} {a b c : List ℕ} → Agree first count a b → Agree first count b c → Agree first count a c
agree_trans one other = record { size = one.size ∙ other.size; same = one.same ∙ other.same }

pub by_bytes :
    {first count : ℕ} {page page' : List ℕ} → length page ≡ length page'
    → ((i : ℕ) → start_of first ≤ i → i < start_of (first + count) → get_or page i 0 ≡ get_or page' i 0) → Agree first count page page'
by_bytes {first} {count} {page} {page'} size same =
    record {
      size = size;
      same = part_alike page page' (count * place_size) (start_of first) size (λ i low high. same i low (omega arith));
    }

module _ {first count : ℕ} {page page' : List ℕ} (agree : Agree first count page page') where
  pub byte_agrees : (i : ℕ) → start_of first ≤ i → i < start_of (first + count) → get_or page i 0 ≡ get_or page' i 0
  byte_agrees i low high = at (i - start_of first) (omega arith) (omega arith)
    where
      at : (k : ℕ) → i ≡ start_of first + k → k < count * place_size → get_or page i 0 ≡ get_or page' i 0
      at k is few =
          rw is
          (sym (get_or-take (count * place_size) (drop (start_of first) page) k 0 few ∙ get_or-drop (start_of first) page k 0)
          ∙ ap (λ (l : List ℕ). get_or l k 0) agree.same
          ∙ get_or-take (count * place_size) (drop (start_of first) page') k 0 few
          ∙ get_or-drop (start_of first) page' k 0)

  pub number_agrees : (i : ℕ) → first ≤ i → i < first + count → number_at page i ≡ number_at page' i
  number_agrees i low high = get_same 4 page page' (start_of i) (λ j from to. byte_agrees j (omega arith) (omega arith))

  pub book_agrees : (i : ℕ) → first ≤ i → i < first + count → book_at page i ≡ book_at page' i
  book_agrees i low high =
      part_alike page page' book_size (start_of i + number_size) agree.size (λ j from to. byte_agrees j (omega arith) (omega arith))

  -- the same bytes put to the same place among them
  pub replaced_agrees :
      (start size : ℕ) (bytes : List ℕ) → length page ≡ page_size → first + count ≤ places → start_of first ≤ start
      → start + size ≤ start_of (first + count) → length bytes ≡ size
      → Agree first count (replaced page start size bytes) (replaced page' start size bytes)
  replaced_agrees start size bytes long few low high filled =
      by_bytes (length_replaced page start size bytes fits filled ∙ agree.size ∙ sym (length_replaced page' start size bytes fits' filled)) at
    where
      fits : start + size ≤ length page
      fits = omega (arith, long, few, high)

      fits' : start + size ≤ length page'
      fits' = omega (arith, agree.size, fits)

      outside :
          (i : ℕ) → start_of first ≤ i → i < start_of (first + count) → (i < start) ⊎ (start + size ≤ i)
          → get_or (replaced page start size bytes) i 0 ≡ get_or (replaced page' start size bytes) i 0
      outside i from to out =
          byte_other page start size bytes fits filled i out ∙ byte_agrees i from to ∙ sym (byte_other page' start size bytes fits' filled i out)

      inside : (i k : ℕ) → i ≡ start + k → k < size → get_or (replaced page start size bytes) i 0 ≡ get_or (replaced page' start size bytes) i 0
      inside i k is less =
          rw is (byte_there page start size bytes fits filled k less ∙ sym (byte_there page' start size bytes fits' filled k less))

      at :
          (i : ℕ) → start_of first ≤ i → i < start_of (first + count)
          → get_or (replaced page start size bytes) i 0 ≡ get_or (replaced page' start size bytes) i 0
      at i from to =
          elim (dec_lt i start) [
            | yes less ↦ outside i from to (inl less)
            | no more ↦
                elim (dec_lt i (start + size)) [
                  | yes within ↦ inside i (i - start) (omega (arith, more)) (omega (arith, more))
                  | no behind ↦ outside i from to (inr (omega (arith, behind)))
                ]
          ]

-- ---- What is found.

-- the same numbers stand in some places
module _ (page page' : List ℕ) where
  abbrev SameNumbers : ℕ → ℕ → Type 0
  SameNumbers first end = (i : ℕ) → first ≤ i → i < end → number_at page i ≡ number_at page' i

  lowest_alike :
      (number first count : ℕ) → SameNumbers first (first + count) → lowest_with page first count number ≡ lowest_with page' first count number
  unfolding lowest_with
  lowest_alike number first zero same = refl
  lowest_alike number first (suc count) same =
      rw (same first (omega arith) (omega arith), lowest_alike number (first + 1) count (λ i low high. same i (omega arith) (omega arith)))

  only_alike : (end place : ℕ) → place < end → SameNumbers place end → only_here page end place ≡ only_here page' end place
  unfolding only_here
  only_alike end place less same =
      rw (
        same place (omega arith) less,
        lowest_alike (number_at page' place) (place + 1) (end - (place + 1)) (λ i low high. same i (omega arith) (omega arith)),
      )

each_alike : (n : ℕ) (one other : ℕ → Bool) → ((k : ℕ) → k < n → one k ≡ other k) → each n one ≡ each n other
unfolding each
each_alike zero one other same = refl
each_alike (suc n) one other same = rw (each_alike n one other (λ k h. same k (omega arith)), same n (omega arith))

module _ {first count : ℕ} {page page' : List ℕ} (agree : Agree first count page page') where
  pub lowest_agrees : (number : ℕ) → lowest_with page first count number ≡ lowest_with page' first count number
  lowest_agrees number = lowest_alike page page' number first count (number_agrees agree)

  numbers_right_agree : numbers_right page first count ≡ numbers_right page' first count
  unfolding numbers_right
  numbers_right_agree =
      each_alike count (λ k. leb (number_at page (first + k)) most_number) (λ k. leb (number_at page' (first + k)) most_number)
      (λ k h. ap (λ (n : ℕ). leb n most_number) (number_agrees agree (first + k) (omega arith) (omega arith)))

  numbers_once_agree : numbers_once page first count ≡ numbers_once page' first count
  unfolding numbers_once
  numbers_once_agree =
      each_alike count (λ k. only_here page (first + count) (first + k)) (λ k. only_here page' (first + count) (first + k))
      (λ k h.
      only_alike page page' (first + count) (first + k) (omega arith) (λ i low high. number_agrees agree i (omega arith) high))

  right_agrees : (member : ℕ) → page_right first count page member ≡ page_right first count page' member
  unfolding page_right
  right_agrees member = rw (agree.size, numbers_right_agree, numbers_once_agree)

  pub account_agrees : (member : ℕ) → account_of first count page member ≡ account_of first count page' member
  unfolding account_of
  account_agrees member = rw (right_agrees member, lowest_agrees member)

-- ---- What comes of it.

-- what is refused on both in the same way
module _ {first count : ℕ} {page page' : List ℕ} (agree : Agree first count page page') where
  pub unchanged_agree : (number : ℕ) → ChangesAgree first count page page' (unchanged number) (unchanged number)
  unchanged_agree number = record { answers = refl; pages = agree }

  pub refused_agree : (number at : ℕ) → TripsAgree first count page page' (refused number at) (refused number at)
  refused_agree number at =
      record { answers = refl; parts = refl; statements = λ statement. refl; books = λ i low high. refl; pages = agree }

module _ {first count : ℕ} {page page' : List ℕ} (few : first + count ≤ places) (agree : Agree first count page page') (member : ℕ) where
  abbrev on_other : {a : Account} → account_of first count page member ≡ a → account_of first count page' member ≡ a
  on_other e = sym (account_agrees agree member) ∙ e

  -- a whole place written on both
  whole_agrees :
      (place : ℕ) → length page ≡ page_size → first ≤ place → place < first + count → (bytes : List ℕ) → length bytes ≡ place_size
      → Agree first count (replaced page (start_of place) place_size bytes) (replaced page' (start_of place) place_size bytes)
  whole_agrees place size low high bytes long =
      replaced_agrees agree (start_of place) place_size bytes size few (omega arith) (omega arith) long

  pub added_agrees : ChangesAgree first count page page' (added first count page member) (added first count page' member)
  added_agrees = go (account_of first count page member) refl
    where
      free :
          account_of first count page member ≡ Absent → (s : Spot) → lowest_with page first count 0 ≡ s
          → ChangesAgree first count page page' (added first count page member) (added first count page' member)
      free e Nowhere f =
          rw (
            adds_nowhere first count page member e f,
            adds_nowhere first count page' member (on_other e) (sym (lowest_agrees agree 0) ∙ f),
          ) (unchanged_agree agree _)
      free e (At place) f =
          let l = lowest_says page 0 first count place f in
          rw (
            adds_there first count page member place e f,
            adds_there first count page' member place (on_other e) (sym (lowest_agrees agree 0) ∙ f),
          )
          (record {
            answers = refl;
            pages = whole_agrees place (absent_looked first count page member few e).size l.from l.within (new_place member) (new_long member);
          })

      go :
          (a : Account) → account_of first count page member ≡ a
          → ChangesAgree first count page page' (added first count page member) (added first count page' member)
      go WrongPage e =
          rw (adds_wrong_page first count page member e, adds_wrong_page first count page' member (on_other e)) (unchanged_agree agree _)
      go (Present place) e = rw (adds_present first count page member e, adds_present first count page' member (on_other e)) (unchanged_agree agree _)
      go Absent e = free e (lowest_with page first count 0) refl

  pub closed_agrees : ChangesAgree first count page page' (closed first count page member) (closed first count page' member)
  closed_agrees = go (account_of first count page member) refl
    where
      go :
          (a : Account) → account_of first count page member ≡ a
          → ChangesAgree first count page page' (closed first count page member) (closed first count page' member)
      go WrongPage e =
          rw (closes_wrong_page first count page member e, closes_wrong_page first count page' member (on_other e)) (unchanged_agree agree _)
      go Absent e = rw (closes_absent first count page member e, closes_absent first count page' member (on_other e)) (unchanged_agree agree _)
      go (Present place) e =
          let l = present_lowest first count page member e in
          rw (closes_there first count page member place e, closes_there first count page' member place (on_other e))
          (record {
            answers = refl;
            pages = whole_agrees place (present_there first count page member few e).size l.from l.within cleared_place cleared_long;
          })

  module _ (file : List ℕ) (editions : Editions) (read : ReadFile file editions) (trip : List ℕ) (room : ℕ) where
    pub settled_agrees :
        TripsAgree first count page page' (member_settled_under file editions first count page member trip room)
        (member_settled_under file editions first count page' member trip room)
    settled_agrees = go (account_of first count page member) refl
      where
        on-book :
            (place : ℕ) → account_of first count page member ≡ Present place → (o : Outcome)
            → settled_under file editions (book_at page place) trip room ≡ o
            → TripsAgree first count page page' (on_page page place o) (on_page page' place o)
        on-book place e (refused number at) is = refused_agree agree number at
        on-book place e (accepted new parts) is =
            let l = present_lowest first count page member e in
            let pages =
            replaced_agrees agree (start_of place + number_size) book_size new (present_there first count page member few e).size few
            (omega (arith, l.from))
            (omega (arith, l.within))
            (accepted_size file editions read (book_at page place) trip room is)
            in
            record {
              answers = refl;
              parts = refl;
              statements = λ statement. refl;
              books = λ i low high. ap (λ (book : List ℕ). accepted book parts) (book_agrees pages i low high);
              pages = pages;
            }

        go :
            (a : Account) → account_of first count page member ≡ a
            → TripsAgree first count page page' (member_settled_under file editions first count page member trip room)
            (member_settled_under file editions first count page' member trip room)
        go WrongPage e =
            rw (
              under_wrong_page first count page member file trip room editions e,
              under_wrong_page first count page' member file trip room editions (on_other e),
            ) (refused_agree agree _ 0)
        go Absent e =
            rw (
              under_absent first count page member file trip room editions e,
              under_absent first count page' member file trip room editions (on_other e),
            ) (refused_agree agree _ 0)
        go (Present place) e =
            let l = present_lowest first count page member e in
            rw (
              under_present first count page member file trip room editions place e,
              under_present first count page' member file trip room editions place (on_other e),
              ← book_agrees agree place l.from l.within,
            ) (on-book place e (settled_under file editions (book_at page place) trip room) refl)

-- ---- Nothing else is written.

pub only_self : {first count : ℕ} {page : List ℕ} → OnlyIn first count page page
only_self = record { size = refl; others = λ i out. refl }

pub touched_in :
    {first count place : ℕ} {page page' : List ℕ} → Touched page page' place → first ≤ place → place < first + count → OnlyIn first count page page'
touched_in touched low high =
    record {
      size = touched.size;
      others = λ i out. touched.others i (⊎_elim (λ less. inl (omega arith)) (λ more. inr (omega arith)) out);
    }

module _ (first count : ℕ) (few : first + count ≤ places) (page : List ℕ) (member : ℕ) where
  pub added_only : OnlyIn first count page (page_after (added first count page member) page)
  added_only = go (adding first count page member)
    where
      go : Adding first count page member → OnlyIn first count page (page_after (added first count page member) page)
      go (add_wrong_page why e) = rw e only_self
      go (add_present q p can l e) = rw e only_self
      go (add_full p can none full e) = rw e only_self
      go (add_at place p can none l e) =
          rw e
          (touched_in (place_touched page place p.size (omega (arith, l.within, few)) (new_place member) (new_long member)) l.from l.within)

  pub closed_only : OnlyIn first count page (page_after (closed first count page member) page)
  closed_only = go (closing first count page member)
    where
      go : Closing first count page member → OnlyIn first count page (page_after (closed first count page member) page)
      go (close_wrong_page why e) = rw e only_self
      go (close_absent p can none e) = rw e only_self
      go (close_at place p can l e) =
          rw e
          (touched_in (place_touched page place p.size (omega (arith, l.within, few)) cleared_place cleared_long) l.from l.within)

  pub settled_only :
      (file trip : List ℕ) (room : ℕ) → OnlyIn first count page (book_after (member_settled file first count page member trip room) page)
  settled_only file trip room = go (settling first count page member file trip room)
    where
      after :
          (editions : Editions) (place : ℕ) → ReadFile file editions → length page ≡ page_size → first ≤ place → place < first + count → (o : Outcome)
          → settled_under file editions (book_at page place) trip room ≡ o → OnlyIn first count page (book_after (on_page page place o) page)
      after editions place read size low high (refused number at) is = only_self
      after editions place read size low high (accepted new parts) is =
          touched_in
          (book_touched page place size (omega (arith, few)) new (accepted_size file editions read (book_at page place) trip room is))
          low
          high

      go :
          Settling first count page member file trip room
          → OnlyIn first count page (book_after (member_settled file first count page member trip room) page)
      go (at_fault number at is e) = rw e only_self
      go (settle_wrong_page editions read why e) = rw e only_self
      go (settle_absent editions read p can none e) = rw e only_self
      go (settle_at editions place read p can l e) =
          rw e (after editions place read p.size l.from l.within (settled_under file editions (book_at page place) trip room) refl)

-- what lies outside of some places agrees
pub only_agrees :
    {first count low many : ℕ} {page page' : List ℕ} → OnlyIn first count page page' → (low + many ≤ first) ⊎ (first + count ≤ low)
    → Agree low many page page'
only_agrees only apart =
    by_bytes (sym only.size)
    (λ i from to. sym (only.others i (⊎_elim (λ less. inl (omega arith)) (λ more. inr (omega arith)) apart)))
