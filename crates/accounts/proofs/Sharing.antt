-- Both associations on one page, in any order: what one of them learns, its places and its members' books are those of its own calls alone,
-- whatever the other calls and whatever stands in the other's places.
-- Assumes nothing.
use Prim.Native.Nat.{ℕ, ◌+◌, ◌≤◌, ◌<◌}
use native.Mathlib.Omega.{arith}
use native.Mathlib.Decide.{ℕ_discrete}
use mathlib.Core.Path.{◌≡◌, refl, sym, ap, ◌∙◌}
use mathlib.Core.List.{List, [], ◌∷◌}
use mathlib.Core.Bool.{true}
use borrow.Author.Tests.{eq-eqb, ne_eqb}
use Rattle.ledger.specs.Words.{fresh_book}
use Rattle.statement.specs.Record.{statement_of}
use Rattle.settle.specs.Posting.{posting_answer}
use Rattle.settle.specs.Runs.{Settlement}
use Rattle.settle.specs.Steps.{each_from, book_after_each}
use Rattle.page.specs.Pages.{book_at, changed}
use Rattle.page.specs.InWords.{InNone, Lowest}
use Rattle.accounts.specs.Calls.{Call, adds, closes, settles, posts, page_with, page_from, stays, steps_of, settlements_of}
use Rattle.accounts.specs.Associations.{own_places, first_place, added_for, closed_for, Association, AgreeFor, OnlyOf}
use Rattle.accounts.specs.Sharing.{Asked, page_with_for, page_shared, calls_of, Reply, reply_to, replies_to, settlement_before, settlements_for}
use Rattle.accounts.proofs.Effects.{Addable}
use Rattle.accounts.proofs.Members.{Stands, ClosedThere, closed_there, from_adding_to_closing}
use Rattle.accounts.proofs.Agreeing.{agree_self, agree_sym, agree_trans, number_agrees, book_agrees}
use Rattle.accounts.proofs.Halves.{
  few_own,
  one_is,
  added-for,
  closed-for,
  settled-for,
  adding_alike,
  closing_alike,
  settling_alike,
  adding_only,
  closing_only,
  settling_only,
  other_agrees,
}
use Rattle.accounts.proofs.Lending.{posted-for, posting_only, posting_alike}

-- ---- One call.

same_reply :
    {a a' : ℕ} {w w' p p' : List ℕ} → a ≡ a' → w ≡ w' → p ≡ p'
    → ◌≡◌ {A = Reply} (record { answer = a; written = w; places = p }) (record { answer = a'; written = w'; places = p' })
same_reply one two three = rw (one, two, three)

-- Two pages of one length that agree in an association's places give it equal replies to the same call, and agree there afterwards.
module _ (association : ℕ) {page page' : List ℕ} (agree : AgreeFor association page page') where
  pub call_alike :
      (call : Call)
      → (reply_to association page call ≡ reply_to association page' call)
      × AgreeFor association (page_with_for association page call) (page_with_for association page' call)
  unfolding reply_to page_with_for
  call_alike (adds member) =
      let a = adding_alike association agree member in (same_reply a.answers refl a.pages.same, a.pages)
  call_alike (closes member) =
      let a = closing_alike association agree member in (same_reply a.answers refl a.pages.same, a.pages)
  call_alike (settles file member o) =
      let a = settling_alike association agree member file o.bytes o.room in
      (same_reply a.answers (ap statement_of a.parts) a.pages.same, a.pages)
  call_alike (posts file place trip offered) =
      let a = posting_alike association agree file place trip offered in
      (same_reply (ap posting_answer a.same) refl a.pages.same, a.pages)

-- No call changes a byte outside of its association's places.
pub call_only : (association : ℕ) (page : List ℕ) (call : Call) → OnlyOf association page (page_with_for association page call)
unfolding page_with_for
call_only association page (adds member) = adding_only association page member
call_only association page (closes member) = closing_only association page member
call_only association page (settles file member o) = settling_only association page member file o.bytes o.room
call_only association page (posts file place trip offered) = posting_only file association page place trip offered

-- So it leaves the other's places as they were, also where both have a member with the same number: these are two people.
pub other_left :
    (association other : ℕ) (page : List ℕ) (call : Call) → (association ≡ other → ⊥)
    → AgreeFor other page (page_with_for association page call)
other_left association other page call ne = other_agrees ne (call_only association page call)

-- ---- Some calls.

module _ (association : ℕ) where
  -- an association by itself: its page and its replies where only it calls
  unfoldable page_alone : List ℕ → List Call → List ℕ
  page_alone page [] = page
  page_alone page (call ∷ calls) = page_alone (page_with_for association page call) calls

  unfoldable replies_alone : List ℕ → List Call → List Reply
  replies_alone page [] = []
  replies_alone page (call ∷ calls) = reply_to association page call ∷ replies_alone (page_with_for association page call) calls

  -- a call of the other leaves its places
  other_call :
      {page page' : List ℕ} (asked : Asked) → (asked.association ≡ association → ⊥) → AgreeFor association page page'
      → AgreeFor association (page_with_for asked.association page asked.call) page'
  other_call {page} asked ne agree =
      agree_trans (agree_sym (other_left asked.association association page asked.call ne)) agree

  alone :
      (calls : List Asked) {page page' : List ℕ} → AgreeFor association page page'
      → (replies_to association page calls ≡ replies_alone page' (calls_of association calls))
      × AgreeFor association (page_shared page calls) (page_alone page' (calls_of association calls))
  unfolding replies_to calls_of page_shared replies_alone page_alone
  alone [] agree = (refl, agree)
  alone (asked ∷ later) {page} {page'} agree =
      elim (ℕ_discrete asked.association association) [
        | yes e ↦
            let (same, next) = call_alike association agree asked.call in
            let (rest, pages) = alone later next in
            rw (eq-eqb asked.association association e, e) (rw (same, rest), pages)
        | no ne ↦ rw (ne_eqb asked.association association ne) (alone later (other_call asked ne agree))
      ]

  -- Two runs from two pages of one length that agree in an association's places, in which its calls are the same, and the other's are any:
  -- its replies are equal, and so are its places at the end.
  pub runs_alike :
      (calls calls' : List Asked) {page page' : List ℕ} → AgreeFor association page page' → calls_of association calls ≡ calls_of association calls'
      → (replies_to association page calls ≡ replies_to association page' calls')
      × AgreeFor association (page_shared page calls) (page_shared page' calls')
  runs_alike calls calls' {page} {page'} agree same =
      let (one, pages) = alone calls agree in
      let (other, pages') = alone calls' (agree_self {page = page'}) in (
        one ∙ ap (replies_alone page') same ∙ sym other,
        agree_trans (rw same at pages) (agree_sym pages'),
      )

-- ---- A member's trips.

module _ (association : ℕ) (is : Association association) where
  -- a call in an association's places
  with_for : (page : List ℕ) (call : Call) → page_with_for association page call ≡ page_with (first_place association) own_places page call
  unfolding page_with_for page_with
  with_for page (adds member) = rw (added-for association page member (one_is is))
  with_for page (closes member) = rw (closed-for association page member (one_is is))
  with_for page (settles file member o) = rw (settled-for association page member file o.bytes o.room (one_is is))
  with_for page (posts file place trip offered) = rw (posted-for file association page place trip offered (one_is is))

  module _ (member place : ℕ) (low : first_place association ≤ place) (high : place < first_place association + own_places) where
    -- one of its calls, before others
    before :
        (call : Call) (calls : List Call) {page page' : List ℕ} {later : List Settlement} → AgreeFor association page page'
        → later
        ≡ settlements_of (first_place association) own_places (page_with (first_place association) own_places page' call) member place calls
        → settlement_before association page member place call later
        ≡ settlements_of (first_place association) own_places page' member place (call ∷ calls)
    unfolding settlement_before settlements_of
    before (adds other) calls agree e = e
    before (closes other) calls agree e = e
    before (posts file other trip offered) calls {page} {page'} agree e = rw (book_agrees agree place low high, e)
    before (settles file other o) calls {page} {page'} agree e =
        let a = settling_alike association agree other file o.bytes o.room in
        rw (
          book_agrees agree place low high,
          a.books place low high,
          settled-for association page' other file o.bytes o.room (one_is is),
          e,
        )

    -- what a member's trips come to, and the places that are left, are those of the association's calls alone
    own_calls :
        (calls : List Asked) {page page' : List ℕ} → AgreeFor association page page'
        → (settlements_for association page member place calls
        ≡ settlements_of (first_place association) own_places page' member place (calls_of association calls))
        × AgreeFor association (page_shared page calls)
        (page_from (first_place association) own_places page' (calls_of association calls))
    unfolding settlements_for calls_of page_shared page_from settlements_of
    own_calls [] agree = (refl, agree)
    own_calls (asked ∷ later) {page} {page'} agree =
        elim (ℕ_discrete asked.association association) [
          | yes e ↦
              let next = rw (with_for page' asked.call) at (call_alike association agree asked.call).1 in
              let (rest, pages) = own_calls later next in
              rw (eq-eqb asked.association association e, e) (before asked.call (calls_of association later) agree rest, pages)
          | no ne ↦
              rw (ne_eqb asked.association association ne) (own_calls later (other_call association asked ne agree))
        ]

  -- a member stands on every page that agrees
  stands_alike :
      {page page' : List ℕ} {member place : ℕ} → AgreeFor association page page' → Stands (first_place association) own_places page' member place
      → Stands (first_place association) own_places page member place
  stands_alike {page} {page'} {member} {place} agree s =
      record {
        passing = record {
          size = agree.size ∙ s.passing.size;
          ranges = λ i low high. rw (number_agrees agree i low high) (s.passing.ranges i low high);
          once = λ i j low less high same.
              number_agrees agree i low (omega arith)
              ∙ s.passing.once i j low less high
              (sym (number_agrees agree j (omega arith) high) ∙ same ∙ number_agrees agree i low (omega arith));
        };
        can = s.can;
        from = s.from;
        within = s.within;
        is = number_agrees agree place s.from s.within ∙ s.is;
      }

  -- all that a member of an association is promised, from adding to closing, with the other's calls in between: added in the lowest free place
  -- of the association; then, whatever is called but the closing of this account by its association, the trips come to what they come to
  -- on a fresh book of their own, in answers, records and book; and closing clears that place, and no other byte
  pub record OwnBookFor (page : List ℕ) (member : ℕ) (calls : List Asked) : Type 0 where
    pub place : ℕ
    pub lowest : Lowest page 0 (first_place association) own_places place
    pub page_added : List ℕ
    pub added_is : added_for association page member ≡ changed page_added
    pub settlements :
        settlements_for association page_added member place calls ≡ each_from fresh_book (steps_of member place (calls_of association calls))
    pub book : book_at (page_shared page_added calls) place ≡ book_after_each fresh_book (steps_of member place (calls_of association calls))
    pub closing :
        ClosedThere (first_place association) own_places (few_own is) (page_shared page_added calls) member place
    pub closed_is : closed_for association (page_shared page_added calls) member ≡ changed closing.page_closed

  -- On any page whose half passes, lacks the member and has a free place, whatever else the page holds.
  pub shared_from_adding_to_closing :
      (page : List ℕ) (member : ℕ) (calls : List Asked) → Addable (first_place association) own_places page member
      → (InNone page 0 (first_place association) own_places → ⊥) → stays member (calls_of association calls) ≡ true
      → OwnBookFor page member calls
  shared_from_adding_to_closing page member calls a free stay =
      let own =
      from_adding_to_closing (first_place association) own_places (few_own is) page member (calls_of association calls) a free stay
      in
      let low = own.lowest.from in
      let high = own.lowest.within in
      let (settlements, pages) = own_calls member own.place low high calls (agree_self {page = own.page_added}) in
      let closing = closed_there (first_place association) own_places (few_own is) (stands_alike pages own.stands) in
      record {
        place = own.place;
        lowest = own.lowest;
        page_added = own.page_added;
        added_is = added-for association page member (one_is is) ∙ own.added_is;
        settlements = settlements ∙ own.settlements;
        book = book_agrees pages own.place low high ∙ own.book;
        closing = closing;
        closed_is = closed-for association (page_shared own.page_added calls) member (one_is is) ∙ closing.closed_is;
      }
