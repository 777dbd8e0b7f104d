-- What is true of some places of a page is true of an association's: its answers, its records and its places afterwards depend on nothing but
-- the call, the page's length and its own places; the other's places are left byte for byte; and each refusal is given exactly when its
-- condition holds and none before it does, 21 before 18.
-- Assumes nothing.
use Prim.Native.Nat.{ℕ, zero, suc, ◌+◌, ◌≤◌}
use native.Mathlib.Omega.{arith}
use native.Mathlib.Decide.{dec_le}
use mathlib.Core.Path.{◌≡◌, refl, sym, subst, ◌∙◌}
use mathlib.Core.Logic.{◌↔◌, inl, inr, ⊎_elim}
use mathlib.Core.List.{List}
use mathlib.Core.Bool.{true, false}
use borrow.Author.Tests.{le-leb, lt-leb}
use Rattle.editions.specs.declared.Editions.{Editions}
use Rattle.editions.specs.declared.FileReading.{FileReading}
use Rattle.editions.specs.declared.FileReading.TheVariants.{Fault, Faultless}
use Rattle.editions.specs.Reading.{read_file, ReadFile}
use Rattle.statement.specs.Record.{Part}
use Rattle.settle.specs.Outcome.{refused, accepted, book_after}
use Rattle.page.specs.Pages.{place_size, places, start_of, number_at, replaced, new_place, no_place, unchanged, changed, added, closed, page_after}
use Rattle.accounts.specs.Members.{member_settled_under, member_settled}
use Rattle.page.specs.InWords.{InNone, Lowest, Touched}
use Rattle.accounts.specs.InWords.{ChangesAgree, TripsAgree}
use Rattle.accounts.specs.Associations.{
  own_places,
  first_place,
  no_association,
  is_association,
  added_for,
  closed_for,
  settled_for_under,
  settled_for,
  Association,
  AgreeFor,
  OnlyOf,
  twenty_one,
  other_refusal,
  AddingRefusedFor,
  ClosingRefusedFor,
  SettlingRefusedFor,
  for_faulty,
  for_twenty_one,
  for_others,
}
use Rattle.accounts.proofs.Effects.{by_file, by_page, Addable, no_room_exactly, takes_the_lowest, settling_touches_one}
use Rattle.accounts.proofs.Refusing.{same_number, same_refusal, adding_refused_exactly, closing_refused_exactly, settling_refused_exactly}
use Rattle.accounts.proofs.Agreeing.{
  added_agrees,
  closed_agrees,
  settled_agrees,
  unchanged_agree,
  refused_agree,
  only_self,
  added_only,
  closed_only,
  settled_only,
  only_agrees,
}

-- ---- There is such an association, or there is not.

pub data Which (association : ℕ) : Type 0 where
  is_one : Association association → is_association association ≡ true → Which association
  is_none : (Association association → ⊥) → is_association association ≡ false → Which association

pub which : (association : ℕ) → Which association
which association =
    elim (dec_le association 1) [
      | yes low ↦ is_one (one_of association low) (le-leb association 1 low)
      | no high ↦
          is_none (λ one. high (⊎_elim (λ is. omega arith) (λ is. omega arith) one)) (lt-leb association 1 (omega (arith, high)))
    ]
  where
    one_of : (n : ℕ) → n ≤ 1 → Association n
    one_of zero low = inl refl
    one_of (suc n) low = inr (omega arith)

-- its places are the page's
pub few_own : {association : ℕ} → Association association → first_place association + own_places ≤ places
few_own one = ⊎_elim (λ is. omega arith) (λ is. omega arith) one

pub one_is : {association : ℕ} → Association association → is_association association ≡ true
one_is {association} one = le-leb association 1 (⊎_elim (λ is. omega arith) (λ is. omega arith) one)

-- ---- What comes of a call: what comes of it in the association's places, or 21.

module _ (association : ℕ) (page : List ℕ) (member : ℕ) where
  module _ (one : is_association association ≡ true) where
    pub added-for : added_for association page member ≡ added (first_place association) own_places page member
    unfolding added_for
    added-for = rw one

    pub closed-for : closed_for association page member ≡ closed (first_place association) own_places page member
    unfolding closed_for
    closed-for = rw one

    pub settled-for-under :
        (file : List ℕ) (editions : Editions) (trip : List ℕ) (room : ℕ)
        → settled_for_under file editions association page member trip room
        ≡ member_settled_under file editions (first_place association) own_places page member trip room
    unfolding settled_for_under
    settled-for-under file editions trip room = rw one

  module _ (none : is_association association ≡ false) where
    pub added_none : added_for association page member ≡ unchanged no_association
    unfolding added_for
    added_none = rw none

    pub closed_none : closed_for association page member ≡ unchanged no_association
    unfolding closed_for
    closed_none = rw none

    pub settled_none_under :
        (file : List ℕ) (editions : Editions) (trip : List ℕ) (room : ℕ)
        → settled_for_under file editions association page member trip room ≡ refused no_association 0
    unfolding settled_for_under
    settled_none_under file editions trip room = rw none

  module _ (file trip : List ℕ) (room : ℕ) where
    pub for_fault : (number at : ℕ) → read_file file ≡ Fault number at → settled_for file association page member trip room ≡ refused number at
    unfolding settled_for
    for_fault number at e = rw (e, settled_for)

    pub for_read :
        (editions : Editions) → ReadFile file editions
        → settled_for file association page member trip room ≡ settled_for_under file editions association page member trip room
    unfolding settled_for
    for_read editions e = rw (e, settled_for)

    pub settled-for :
        is_association association ≡ true
        → settled_for file association page member trip room ≡ member_settled file (first_place association) own_places page member trip room
    settled-for one = go (read_file file) refl
      where
        go :
            (r : FileReading) → read_file file ≡ r
            → settled_for file association page member trip room ≡ member_settled file (first_place association) own_places page member trip room
        go (Fault number at) e =
            for_fault number at e ∙ sym (by_file (first_place association) own_places page member file trip room number at e)
        go (Faultless editions) e =
            for_read editions e ∙ settled-for-under one file editions trip room
            ∙ sym (by_page (first_place association) own_places page member file trip room editions e)

-- ---- An association learns nothing of the other. For the same call, two pages of one length that agree in its places give it equal answers,
-- "no room" included, and equal places afterwards.

module _ (association : ℕ) {page page' : List ℕ} (agree : AgreeFor association page page') (member : ℕ) where
  pub adding_alike :
      ChangesAgree (first_place association) own_places page page' (added_for association page member) (added_for association page' member)
  adding_alike = go (which association)
    where
      go :
          Which association
          → ChangesAgree (first_place association) own_places page page' (added_for association page member) (added_for association page' member)
      go (is_one one e) =
          rw (added-for association page member e, added-for association page' member e) (added_agrees (few_own one) agree member)
      go (is_none none e) = rw (added_none association page member e, added_none association page' member e) (unchanged_agree agree no_association)

  pub closing_alike :
      ChangesAgree (first_place association) own_places page page' (closed_for association page member) (closed_for association page' member)
  closing_alike = go (which association)
    where
      go :
          Which association
          → ChangesAgree (first_place association) own_places page page' (closed_for association page member) (closed_for association page' member)
      go (is_one one e) =
          rw (closed-for association page member e, closed-for association page' member e) (closed_agrees (few_own one) agree member)
      go (is_none none e) = rw (closed_none association page member e, closed_none association page' member e) (unchanged_agree agree no_association)

  -- Of a trip also equal records.
  pub settling_alike :
      (file trip : List ℕ) (room : ℕ)
      → TripsAgree (first_place association) own_places page page' (settled_for file association page member trip room)
      (settled_for file association page' member trip room)
  settling_alike file trip room = go (read_file file) refl
    where
      under :
          (editions : Editions) → ReadFile file editions → Which association
          → TripsAgree (first_place association) own_places page page' (settled_for_under file editions association page member trip room)
          (settled_for_under file editions association page' member trip room)
      under editions read (is_one one e) =
          rw (
            settled-for-under association page member e file editions trip room,
            settled-for-under association page' member e file editions trip room,
          ) (settled_agrees (few_own one) agree member file editions read trip room)
      under editions read (is_none none e) =
          rw (
            settled_none_under association page member e file editions trip room,
            settled_none_under association page' member e file editions trip room,
          ) (refused_agree agree no_association 0)

      go :
          (r : FileReading) → read_file file ≡ r
          → TripsAgree (first_place association) own_places page page' (settled_for file association page member trip room)
          (settled_for file association page' member trip room)
      go (Fault number at) e =
          rw (
            for_fault association page member file trip room number at e,
            for_fault association page' member file trip room number at e,
          ) (refused_agree agree number at)
      go (Faultless editions) e =
          rw (
            for_read association page member file trip room editions e,
            for_read association page' member file trip room editions e,
          ) (under editions e (which association))

-- ---- The other's places are left byte for byte.

module _ (association : ℕ) (page : List ℕ) (member : ℕ) where
  pub adding_only : OnlyOf association page (page_after (added_for association page member) page)
  adding_only = go (which association)
    where
      go : Which association → OnlyOf association page (page_after (added_for association page member) page)
      go (is_one one e) = rw (added-for association page member e) (added_only (first_place association) own_places (few_own one) page member)
      go (is_none none e) = rw (added_none association page member e) only_self

  pub closing_only : OnlyOf association page (page_after (closed_for association page member) page)
  closing_only = go (which association)
    where
      go : Which association → OnlyOf association page (page_after (closed_for association page member) page)
      go (is_one one e) = rw (closed-for association page member e) (closed_only (first_place association) own_places (few_own one) page member)
      go (is_none none e) = rw (closed_none association page member e) only_self

  pub settling_only :
      (file trip : List ℕ) (room : ℕ) → OnlyOf association page (book_after (settled_for file association page member trip room) page)
  settling_only file trip room = go (which association)
    where
      none_under :
          is_association association ≡ false → (r : FileReading) → read_file file ≡ r
          → OnlyOf association page (book_after (settled_for file association page member trip room) page)
      none_under none (Fault number at) e = rw (for_fault association page member file trip room number at e) only_self
      none_under none (Faultless editions) e =
          rw (
            for_read association page member file trip room editions e,
            settled_none_under association page member none file editions trip room,
          ) only_self

      go : Which association → OnlyOf association page (book_after (settled_for file association page member trip room) page)
      go (is_one one e) =
          rw (settled-for association page member file trip room e)
          (settled_only (first_place association) own_places (few_own one) page member file trip room)
      go (is_none none e) = none_under e (read_file file) refl

-- So another association's agree with what they were.
pub other_agrees :
    {association other : ℕ} {page page' : List ℕ} → (association ≡ other → ⊥) → OnlyOf association page page' → AgreeFor other page page'
other_agrees {association} {other} ne only =
    only_agrees only
    (elim (dec_le other association) [ yes low ↦ inl (omega (arith, ne)) | no high ↦ inr (omega (arith, high)) ])

-- ---- The refusals in their order.

module _ (association : ℕ) (page : List ℕ) (member : ℕ) where
  pub adding_refused_for : (n : ℕ) → added_for association page member ≡ unchanged n ↔ AddingRefusedFor association page member n
  adding_refused_for n = (says (which association), back (which association))
    where
      says : Which association → added_for association page member ≡ unchanged n → AddingRefusedFor association page member n
      says (is_one one e) is =
          other_refusal n one
          ((adding_refused_exactly (first_place association) own_places page member n).0 (sym (added-for association page member e) ∙ is))
      says (is_none none e) is =
          subst (AddingRefusedFor association page member) (same_number (sym (added_none association page member e) ∙ is)) (twenty_one none)

      back : {m : ℕ} → Which association → AddingRefusedFor association page member m → added_for association page member ≡ unchanged m
      back (is_one one e) (twenty_one none) = absurd (none one)
      back (is_one one e) (other_refusal m _ w) =
          added-for association page member e ∙ (adding_refused_exactly (first_place association) own_places page member m).1 w
      back (is_none none e) (twenty_one _) = added_none association page member e
      back (is_none none e) (other_refusal m one w) = absurd (none one)

  pub closing_refused_for : (n : ℕ) → closed_for association page member ≡ unchanged n ↔ ClosingRefusedFor association page member n
  closing_refused_for n = (says (which association), back (which association))
    where
      says : Which association → closed_for association page member ≡ unchanged n → ClosingRefusedFor association page member n
      says (is_one one e) is =
          other_refusal n one
          ((closing_refused_exactly (first_place association) own_places page member n).0 (sym (closed-for association page member e) ∙ is))
      says (is_none none e) is =
          subst (ClosingRefusedFor association page member) (same_number (sym (closed_none association page member e) ∙ is)) (twenty_one none)

      back : {m : ℕ} → Which association → ClosingRefusedFor association page member m → closed_for association page member ≡ unchanged m
      back (is_one one e) (twenty_one none) = absurd (none one)
      back (is_one one e) (other_refusal m _ w) =
          closed-for association page member e ∙ (closing_refused_exactly (first_place association) own_places page member m).1 w
      back (is_none none e) (twenty_one _) = closed_none association page member e
      back (is_none none e) (other_refusal m one w) = absurd (none one)

  module _ (file trip : List ℕ) (room : ℕ) where
    abbrev Says : ℕ → ℕ → Type 0
    Says = SettlingRefusedFor file association page member trip room

    pub settling_refused_for : (n at : ℕ) → settled_for file association page member trip room ≡ refused n at ↔ Says n at
    settling_refused_for n at = (says (which association) (read_file file) refl, back (which association))
      where
        renamed : {m b : ℕ} → refused m b ≡ refused n at → Says m b → Says n at
        renamed {m} {b} e s = let (same, near) = same_refusal e in rw (← same, ← near) s

        says :
            Which association → (r : FileReading) → read_file file ≡ r → settled_for file association page member trip room ≡ refused n at
            → Says n at
        says w (Fault m b) read is = renamed (sym (for_fault association page member file trip room m b read) ∙ is) (for_faulty m b read)
        says (is_one one e) (Faultless editions) read is =
            for_others editions read one n at
            ((settling_refused_exactly (first_place association) own_places page member file trip room n at).0
            (sym (settled-for association page member file trip room e) ∙ is))
        says (is_none none e) (Faultless editions) read is =
            renamed
            (sym
            (for_read association page member file trip room editions read ∙ settled_none_under association page member e file editions trip room)
            ∙ is)
            (for_twenty_one editions read none)

        back : {m b : ℕ} → Which association → Says m b → settled_for file association page member trip room ≡ refused m b
        back w (for_faulty m b read) = for_fault association page member file trip room m b read
        back (is_one one e) (for_twenty_one editions read none) = absurd (none one)
        back (is_none _ e) (for_twenty_one editions read none) =
            for_read association page member file trip room editions read ∙ settled_none_under association page member e file editions trip room
        back (is_one _ e) (for_others editions read one m b w) =
            settled-for association page member file trip room e
            ∙ (settling_refused_exactly (first_place association) own_places page member file trip room m b).1 w
        back (is_none none e) (for_others editions read one m b w) = absurd (none one)

  -- Room is lacking exactly when the association's own six are taken.
  pub no_room_for :
      Association association
      → added_for association page member ≡ unchanged no_place
      ↔ (Addable (first_place association) own_places page member × InNone page 0 (first_place association) own_places)
  no_room_for one =
      rw (added-for association page member (one_is one)) (no_room_exactly (first_place association) own_places page member)

  -- Else the member gets the lowest free one of these.
  pub takes_the_lowest_for :
      Association association → {new : List ℕ} → added_for association page member ≡ changed new
      → (place : ℕ)
      × (Addable (first_place association) own_places page member
      × (Lowest page 0 (first_place association) own_places place × (new ≡ replaced page (start_of place) place_size (new_place member))))
  takes_the_lowest_for one e =
      takes_the_lowest (first_place association) own_places page member (sym (added-for association page member (one_is one)) ∙ e)

  -- Settling changes no byte of another's place, and not the number of the member's own.
  pub settling_touches_one_for :
      Association association → (file trip : List ℕ) (room : ℕ) {new : List ℕ} {parts : List Part}
      → settled_for file association page member trip room ≡ accepted new parts
      → (place : ℕ)
      × (Lowest page member (first_place association) own_places place × (Touched page new place × (number_at new place ≡ member)))
  settling_touches_one_for one file trip room e =
      settling_touches_one (first_place association) own_places page member file trip room (few_own one)
      (sym (settled-for association page member file trip room (one_is one)) ∙ e)
