-- A member from adding to closing: whatever else is called on the page, and whatever the other places hold, the member's trips come to what
-- they come to on a book of their own.
-- Assumes nothing.
use Prim.Native.Nat.{ℕ, ◌+◌, ◌≤◌, ◌<◌}
use native.Mathlib.Omega.{arith}
use native.Mathlib.Decide.{ℕ_discrete, dec_lt}
use mathlib.Core.Path.{◌≡◌, refl, sym, ap, ◌∙◌}
use mathlib.Core.List.{List, [], ◌∷◌}
use mathlib.Core.Logic.{inr}
use mathlib.Core.Bool.{true, not, false≢true}
use borrow.Author.Tests.{eq-eqb, ne_eqb}
use lib.ListN.{length, get_or, drop, length-take, length-drop, get_or-replicate}
use lib.Seq.{get_or-take, get_or-drop, ext_get_or}
use lib.Dec.{eqb}
use Rattle.wire.specs.Number.{get_le}
use Rattle.wire.proofs.Number.{read_back}
use Rattle.wire.proofs.Number as number
use Rattle.wire.proofs.Tests.{both_left, both_right}
use Rattle.editions.specs.declared.Editions.{Editions}
use Rattle.editions.specs.declared.FileReading.{FileReading}
use Rattle.editions.specs.declared.FileReading.TheVariants.{Fault, Faultless}
use Rattle.editions.specs.Reading.{read_file, ReadFile}
use Rattle.ledger.specs.Words.{book_size, fresh_book}
use Rattle.ledger.proofs.WordLaws.{fresh_size}
use Rattle.statement.specs.Record.{largest_statement}
use Rattle.settle.specs.Outcome.{Outcome, refused, accepted, quoted, settled_under, settled, answer_of, parts_priced, book_after, statement_after}
use Rattle.settle.specs.Posting.{Posting, unposted, renewed, posting_of}
use Rattle.settle.specs.Runs.{Offer}
use Rattle.settle.specs.Steps.{posting, posted_in, step_outcome, each_from, book_after_each}
use Rattle.settle.proofs.Ways.{fault_way, faultless_way}
use Rattle.page.specs.Pages.{
  number_size,
  place_size,
  places,
  page_size,
  start_of,
  place_at,
  number_at,
  book_at,
  replaced,
  cleared_place,
  new_place,
  changed,
  added,
  closed,
  page_after,
}
use Rattle.accounts.specs.Members.{on_page, on_book, member_settled}
use Rattle.page.specs.InWords.{InNone, Lowest, CanHave, Passing, Touched}
use Rattle.accounts.specs.Lent.{place_posted, page_posted}
use Rattle.accounts.specs.Calls.{Call, adds, closes, settles, posts, page_with, page_from, stays, steps_of, settlements_of}
use Rattle.page.proofs.Replacing.{byte_there}
use Rattle.page.proofs.Conditions.{found_there, not_both}
use Rattle.page.proofs.Touching.{other_number, other_book, passing_again, place_touched, place_is, place_number, book_touched, book_is, number_kept}
use Rattle.accounts.proofs.Effects.{
  accepted_size,
  cleared_long,
  new_long,
  Adding,
  add_wrong_page,
  add_present,
  add_full,
  add_at,
  adding,
  Closing,
  close_wrong_page,
  close_absent,
  close_at,
  closing,
  Settling,
  at_fault,
  settle_wrong_page,
  settle_absent,
  settle_at,
  settling,
  by_file,
  by_page,
  under_present,
  closes_there,
  Addable,
}
use Rattle.accounts.proofs.Lending.{settled_size, renewed_size, lends_there, posted_there, Lending, leaves, renews, lending}

-- a member stands in a place of a page that passes
pub record Stands (first count : ℕ) (page : List ℕ) (member place : ℕ) : Type 0 where
  pub passing : Passing first count page
  pub can : CanHave member
  pub from : first ≤ place
  pub within : place < first + count
  pub is : number_at page place ≡ member

-- An outcome on the page answers as one on a place's book, and writes the same to the statement.
pub same_told :
    (place : ℕ) (o : Outcome)
    → (answer_of (on_book place o) ≡ answer_of o) × ((statement : List ℕ) → statement_after (on_book place o) statement ≡ statement_after o statement)
same_told place (refused number at) = (refl, λ statement. refl)
same_told place (accepted new parts) = (refl, λ statement. refl)

-- ---- A new place.

new_number : (member : ℕ) → CanHave member → get_le 4 (new_place member) 0 ≡ member
new_number member can = read_back 4 cleared_place 0 member (omega (arith, cleared_long)) (omega (arith, can.most))

cleared_number : get_le 4 cleared_place 0 ≡ 0
unfolding get_le
cleared_number = refl

-- the book of a place that was written whole with a new member's bytes
new_book :
    (page : List ℕ) (place member : ℕ) → length page ≡ page_size → place < places
    → book_at (replaced page (start_of place) place_size (new_place member)) place ≡ fresh_book
new_book page place member size there = ext_get_or 0 (book_at new place) fresh_book (long ∙ sym fresh_size) at
  where
    new : List ℕ
    new = replaced page (start_of place) place_size (new_place member)

    kept : length new ≡ length page
    kept = (place_touched page place size there (new_place member) (new_long member)).size

    long : length (book_at new place) ≡ book_size
    long =
        omega (
          arith,
          kept,
          size,
          there,
          length-take book_size (drop (start_of place + number_size) new),
          length-drop (start_of place + number_size) new,
        )

    zero_behind : (i : ℕ) → i < book_size → get_or (new_place member) (4 + i) 0 ≡ 0
    zero_behind i h =
        number.byte_other 4 cleared_place 0 member (4 + i) (inr (omega arith)) ∙ get_or-replicate {A = ℕ} place_size (4 + i) 0 0 (omega arith)

    at : (i : ℕ) → i < length (book_at new place) → get_or (book_at new place) i 0 ≡ get_or fresh_book i 0
    at i h =
        let few : i < book_size = omega (arith, long, h) in
        get_or-take book_size (drop (start_of place + number_size) new) i 0 few
        ∙ get_or-drop (start_of place + number_size) new i 0
        ∙ ap (λ (n : ℕ). get_or new n 0) (omega arith)
        ∙ byte_there page (start_of place) place_size (new_place member) (omega (arith, size, there)) (new_long member) (4 + i) (omega arith)
        ∙ zero_behind i few
        ∙ sym (get_or-replicate {A = ℕ} book_size i 0 0 few)

-- ---- What a call leaves.

module _ (first count : ℕ) (few : first + count ≤ places) where
  -- another's place touched: the member stands as before, with the same book
  module _ {page page' : List ℕ} {member place other : ℕ} (s : Stands first count page member place) (touched : Touched page page' other)
      (ne : place ≡ other → ⊥) (passing : Passing first count page') where
    pub still_stands : Stands first count page' member place × (book_at page' place ≡ book_at page place)
    still_stands = (
      record { passing = passing; can = s.can; from = s.from; within = s.within; is = other_number touched place ne ∙ s.is },
      other_book touched place ne,
    )

  -- what a call leaves of a page that it does not touch
  untouched :
      {page page' : List ℕ} {member place : ℕ} → Stands first count page member place → page' ≡ page
      → Stands first count page' member place × (book_at page' place ≡ book_at page place)
  untouched s e = rw e (s, refl)

  -- ---- Adding.

  -- A member added stands in the lowest free place, with a fresh book.
  module _ {page : List ℕ} {member place : ℕ} (passing : Passing first count page) (can : CanHave member)
      (absent : InNone page member first count) (l : Lowest page 0 first count place) where
    abbrev page_added : List ℕ
    page_added = replaced page (start_of place) place_size (new_place member)

    on-page : place < places
    on-page = omega (arith, l.within, few)

    added_touched : Touched page page_added place
    added_touched = place_touched page place passing.size on-page (new_place member) (new_long member)

    added_is : number_at page_added place ≡ member
    added_is = place_number page place passing.size on-page (new_place member) (new_long member) ∙ new_number member can

    pub added_passing : Passing first count page_added
    added_passing =
        passing_again added_touched passing (rw added_is can.most)
        (λ i low high ne same. absurd (absent i low high (same ∙ added_is)))

    pub added_stands : Stands first count page_added member place × (book_at page_added place ≡ fresh_book)
    added_stands = (
      record { passing = added_passing; can = can; from = l.from; within = l.within; is = added_is },
      new_book page place member passing.size on-page,
    )

  -- ---- Each call of others.

  added_other :
      {page : List ℕ} {member place : ℕ} (other : ℕ) → Stands first count page member place
      → Stands first count (page_after (added first count page other) page) member place
      × (book_at (page_after (added first count page other) page) place ≡ book_at page place)
  added_other {page} {member} {place} other s = go (adding first count page other)
    where
      go :
          Adding first count page other
          → Stands first count (page_after (added first count page other) page) member place
          × (book_at (page_after (added first count page other) page) place ≡ book_at page place)
      go (add_wrong_page why e) = rw e (s, refl)
      go (add_present q p can l e) = rw e (s, refl)
      go (add_full p can none full e) = rw e (s, refl)
      go (add_at q p can none l e) =
          rw e
          (still_stands s (added_touched p can none l)
          (λ same. omega (arith, s.can.some, sym s.is ∙ ap (number_at page) same ∙ l.there))
          (added_passing p can none l))

  closed_other :
      {page : List ℕ} {member place : ℕ} (other : ℕ) → (other ≡ member → ⊥) → Stands first count page member place
      → Stands first count (page_after (closed first count page other) page) member place
      × (book_at (page_after (closed first count page other) page) place ≡ book_at page place)
  closed_other {page} {member} {place} other ne s = go (closing first count page other)
    where
      go :
          Closing first count page other
          → Stands first count (page_after (closed first count page other) page) member place
          × (book_at (page_after (closed first count page other) page) place ≡ book_at page place)
      go (close_wrong_page why e) = rw e (s, refl)
      go (close_absent p can none e) = rw e (s, refl)
      go (close_at q p can l e) =
          let on-page : q < places = omega (arith, l.within, few) in
          let touched = place_touched page q p.size on-page cleared_place cleared_long in
          let zero-there = place_number page q p.size on-page cleared_place cleared_long ∙ cleared_number in
          rw e
          (still_stands s touched (λ same. ne (sym l.there ∙ ap (number_at page) (sym same) ∙ s.is))
          (passing_again touched p (rw zero-there (omega arith)) (λ i low high other_place same. zero-there)))

  -- a trip settled on a place: the numbers stay
  settled_passing :
      {page : List ℕ} {q : ℕ} (book : List ℕ) → Passing first count page → first ≤ q → q < first + count → length book ≡ book_size
      → Touched page (replaced page (start_of q + number_size) book_size book) q
      × Passing first count (replaced page (start_of q + number_size) book_size book)
  settled_passing {page} {q} book p low high long =
      let on-page : q < places = omega (arith, few) in
      let touched = book_touched page q p.size on-page book long in
      let kept = number_kept page q p.size on-page book long in (
        touched,
        passing_again touched p (rw kept (p.ranges q low high)) (λ i from to ne same. kept ∙ alone p i q low high from to ne (same ∙ kept)),
      )
    where
      alone :
          Passing first count page → (i q : ℕ) → first ≤ q → q < first + count → first ≤ i → i < first + count → (i ≡ q → ⊥)
          → number_at page i ≡ number_at page q → number_at page q ≡ 0
      alone p i q low high from to ne same =
          elim (dec_lt i q) [
            | yes less ↦ sym same ∙ p.once i q from less high (sym same)
            | no more ↦ p.once q i low (omega (arith, more, ne)) to same
          ]

  settled_other :
      (file : List ℕ) {page : List ℕ} {member place : ℕ} (other : ℕ) (o : Offer) → (other ≡ member → ⊥) → Stands first count page member place
      → Stands first count (book_after (member_settled file first count page other o.bytes o.room) page) member place
      × (book_at (book_after (member_settled file first count page other o.bytes o.room) page) place ≡ book_at page place)
  settled_other file {page} {member} {place} other o ne s = go (settling first count page other file o.bytes o.room)
    where
      after :
          (editions : Editions) (q : ℕ) → ReadFile file editions → Passing first count page → Lowest page other first count q → (out : Outcome)
          → settled_under file editions (book_at page q) o.bytes o.room ≡ out
          → Stands first count (book_after (on_page page q out) page) member place
          × (book_at (book_after (on_page page q out) page) place ≡ book_at page place)
      after editions q read p l (refused number at) is = (s, refl)
      after editions q read p l (accepted book parts) is =
          let long = accepted_size file editions read (book_at page q) o.bytes o.room is in
          let (touched, passing) = settled_passing book p l.from l.within long in
          still_stands s touched (λ same. ne (sym l.there ∙ ap (number_at page) (sym same) ∙ s.is)) passing

      go :
          Settling first count page other file o.bytes o.room
          → Stands first count (book_after (member_settled file first count page other o.bytes o.room) page) member place
          × (book_at (book_after (member_settled file first count page other o.bytes o.room) page) place ≡ book_at page place)
      go (at_fault number at is e) = rw e (s, refl)
      go (settle_wrong_page editions read why e) = rw e (s, refl)
      go (settle_absent editions read p can none e) = rw e (s, refl)
      go (settle_at editions q read p can l e) =
          rw e (after editions q read p l (settled_under file editions (book_at page q) o.bytes o.room) refl)

  -- a trip posted in another place
  posted_other :
      (file : List ℕ) {page : List ℕ} {member place : ℕ} (other : ℕ) (trip offered : List ℕ) → (other ≡ place → ⊥)
      → Stands first count page member place
      → Stands first count (page_posted page other (place_posted file first count page other trip offered)) member place
      × (book_at (page_posted page other (place_posted file first count page other trip offered)) place ≡ book_at page place)
  posted_other file {page} {member} {place} other trip offered ne s = go (lending file first count page other trip offered)
    where
      go :
          Lending file first count page other trip offered
          → Stands first count (page_posted page other (place_posted file first count page other trip offered)) member place
          × (book_at (page_posted page other (place_posted file first count page other trip offered)) place ≡ book_at page place)
      go (leaves e) = rw e (s, refl)
      go (renews {new} l long e) =
          let (touched, passing) = settled_passing new s.passing l.from l.within long in
          rw e (still_stands s touched (λ same. ne (sym same)) passing)

  -- ---- The member's own trips.

  -- a new book in the member's place: the member stands there as before, with that book
  renewed_stands :
      {page : List ℕ} {member place : ℕ} → Stands first count page member place → (new : List ℕ) → length new ≡ book_size
      → Stands first count (replaced page (start_of place + number_size) book_size new) member place
      × (book_at (replaced page (start_of place + number_size) book_size new) place ≡ new)
  renewed_stands {page} {member} {place} s new long =
      let on-page : place < places = omega (arith, s.within, few) in
      let (touched, passing) = settled_passing new s.passing s.from s.within long in (
        record {
          passing = passing;
          can = s.can;
          from = s.from;
          within = s.within;
          is = number_kept page place s.passing.size on-page new long ∙ s.is;
        },
        book_is page place s.passing.size on-page new long,
      )

  module _ (file : List ℕ) {page : List ℕ} {member place : ℕ} (s : Stands first count page member place) (bytes : List ℕ) (room : ℕ) where
    abbrev own : Outcome
    own = settled file (book_at page place) bytes room

    -- A member's trip comes to what it comes to on the member's book.
    pub own_settled : member_settled file first count page member bytes room ≡ on_page page place own
    own_settled = go (read_file file) refl
      where
        go : (r : FileReading) → read_file file ≡ r → member_settled file first count page member bytes room ≡ on_page page place own
        go (Fault number at) is =
            by_file first count page member file bytes room number at is
            ∙ ap (on_page page place) (sym (fault_way file (book_at page place) bytes room number at is))
        go (Faultless editions) is =
            by_page first count page member file bytes room editions is
            ∙ under_present first count page member file bytes room editions place
            (found_there first count page member place s.passing s.can s.from s.within s.is)
            ∙ ap (on_page page place) (sym (faultless_way file (book_at page place) bytes room editions is))

    -- what is left for the member, and what the trip came to on the place's book
    pub record OwnLeft (page' : List ℕ) : Type 0 where
      pub stands : Stands first count page' member place
      pub book : book_at page' place ≡ book_after own (book_at page place)
      pub outcome : on_book place (member_settled file first count page member bytes room) ≡ own

    pub own_left : OwnLeft (book_after (member_settled file first count page member bytes room) page)
    own_left = rw own_settled (go own refl)
      where
        go : (out : Outcome) → own ≡ out → OwnLeft (book_after (on_page page place own) page)
        go (refused number at) is = rw is (record { stands = s; book = rw is; outcome = rw (own_settled, is) })
        go (accepted new parts) is =
            let (stands, book-there) = renewed_stands s new (settled_size file (book_at page place) bytes room is) in
            rw is (record { stands = stands; book = rw is book-there; outcome = rw (own_settled, is, book-there) })

  -- A trip posted on the member's book leaves the book that it leaves by itself.
  module _ (file : List ℕ) {page : List ℕ} {member place : ℕ} (s : Stands first count page member place) (trip offered : List ℕ) where
    abbrev page-posted : List ℕ
    page-posted = page_posted page place (place_posted file first count page place trip offered)

    pub own_posted :
        Stands first count page-posted member place
        × (book_at page-posted place ≡ book_after (step_outcome file (book_at page place) (posting trip offered)) (book_at page place))
    unfolding step_outcome
    own_posted =
        let there =
        posted_there file first count page place trip offered
        (lends_there first count page place (record { size = s.passing.size; from = s.from; within = s.within }))
        in
        rw there (go (posting_of file (book_at page place) trip offered) refl)
      where
        go :
            (p : Posting) → posting_of file (book_at page place) trip offered ≡ p
            → Stands first count (page_posted page place p) member place
            × (book_at (page_posted page place p) place
            ≡ book_after (posted_in (parts_priced (quoted file (book_at page place) trip largest_statement)) p) (book_at page place))
        go (unposted number at) is = (s, refl)
        go (renewed new) is = renewed_stands s new (renewed_size file (book_at page place) trip offered is)

  -- ---- Calls one after another.

  -- what calls leave for a member whose account none of them closes: the member still stands there; the trips came to what they come to
  -- when settled one after another on the book that stood there; and the book is the one that this leaves
  pub record Kept (page : List ℕ) (member place : ℕ) (calls : List Call) : Type 0 where
    pub stands : Stands first count (page_from first count page calls) member place
    pub settlements : settlements_of first count page member place calls ≡ each_from (book_at page place) (steps_of member place calls)
    pub book : book_at (page_from first count page calls) place ≡ book_after_each (book_at page place) (steps_of member place calls)

  -- one call that leaves the member's book, and then others
  kept_on :
      {page : List ℕ} {member place : ℕ} (call : Call) (calls : List Call)
      → book_at (page_with first count page call) place ≡ book_at page place
      → settlements_of first count page member place (call ∷ calls) ≡ settlements_of first count (page_with first count page call) member place calls
      → steps_of member place (call ∷ calls) ≡ steps_of member place calls → Kept (page_with first count page call) member place calls
      → Kept page member place (call ∷ calls)
  unfolding page_from
  kept_on call calls same its none k =
      record {
        stands = k.stands;
        settlements = its ∙ k.settlements ∙ rw (same, none);
        book = k.book ∙ rw (same, none);
      }

  -- one of the member's own, and then others
  kept_own :
      (file : List ℕ) {page : List ℕ} {member place : ℕ} (s : Stands first count page member place) (o : Offer) (calls : List Call)
      → Kept (page_with first count page (settles file member o)) member place calls → Kept page member place (settles file member o ∷ calls)
  unfolding page_from page_with steps_of settlements_of each_from book_after_each step_outcome
  kept_own file {page} {member} {place} s o calls k =
      let left = own_left file s o.bytes o.room in
      record {
        stands = k.stands;
        settlements = rw (eq-eqb member member refl, left.outcome, k.settlements, left.book);
        book = rw (eq-eqb member member refl) (k.book ∙ rw left.book);
      }

  kept_posted :
      (file : List ℕ) {page : List ℕ} {member place : ℕ} (s : Stands first count page member place) (trip offered : List ℕ) (calls : List Call)
      → Kept (page_with first count page (posts file place trip offered)) member place calls
      → Kept page member place (posts file place trip offered ∷ calls)
  unfolding page_from page_with steps_of settlements_of each_from book_after_each
  kept_posted file {page} {member} {place} s trip offered calls k =
      let left = (own_posted file s trip offered).1 in
      record {
        stands = k.stands;
        settlements = rw (eq-eqb place place refl, k.settlements, left);
        book = rw (eq-eqb place place refl) (k.book ∙ rw left);
      }

  pub member_kept :
      (calls : List Call) {page : List ℕ} {member place : ℕ} → Stands first count page member place → stays member calls ≡ true
      → Kept page member place calls
  unfolding page_from page_with stays steps_of settlements_of each_from book_after_each
  member_kept [] s stay = record { stands = s; settlements = refl; book = refl }
  member_kept (adds other ∷ calls) s stay =
      let (s', same) = added_other other s in
      kept_on (adds other) calls same refl refl (member_kept calls s' stay)
  member_kept (closes other ∷ calls) {page} {member} {place} s stay =
      elim (ℕ_discrete other member) [
        | yes e ↦ absurd (false≢true (rw (eq-eqb other member e) at (both_left (not (eqb other member)) (stays member calls) stay)))
        | no ne ↦
            let (s', same) = closed_other other ne s in
            kept_on (closes other) calls same refl refl
            (member_kept calls s' (both_right (not (eqb other member)) (stays member calls) stay))
      ]
  member_kept (settles file other o ∷ calls) {page} {member} {place} s stay =
      elim (ℕ_discrete other member) [
        | no ne ↦
            let (s', same) = settled_other file other o ne s in
            kept_on (settles file other o) calls same (rw (ne_eqb other member ne)) (rw (ne_eqb other member ne)) (member_kept calls s' stay)
        | yes e ↦ rw e (kept_own file s o calls (member_kept calls (own_left file s o.bytes o.room).stands stay))
      ]
  member_kept (posts file other trip offered ∷ calls) {page} {member} {place} s stay =
      elim (ℕ_discrete other place) [
        | no ne ↦
            let (s', same) = posted_other file other trip offered ne s in
            kept_on (posts file other trip offered) calls same (rw (ne_eqb other place ne)) (rw (ne_eqb other place ne)) (member_kept calls s' stay)
        | yes e ↦ rw e (kept_posted file s trip offered calls (member_kept calls (own_posted file s trip offered).0 stay))
      ]

  -- ---- From adding to closing.

  -- closing a member's account clears the member's place, and no other byte
  pub record ClosedThere (page : List ℕ) (member place : ℕ) : Type 0 where
    pub page_closed : List ℕ
    pub closed_is : closed first count page member ≡ changed page_closed
    pub touched : Touched page page_closed place
    pub cleared : place_at page_closed place ≡ cleared_place

  pub closed_there : {page : List ℕ} {member place : ℕ} → Stands first count page member place → ClosedThere page member place
  closed_there {page} {member} {place} s =
      let on-page : place < places = omega (arith, s.within, few) in
      record {
        page_closed = replaced page (start_of place) place_size cleared_place;
        closed_is = closes_there first count page member place
            (found_there first count page member place s.passing s.can s.from s.within s.is);
        touched = place_touched page place s.passing.size on-page cleared_place cleared_long;
        cleared = place_is page place s.passing.size on-page cleared_place cleared_long;
      }

  -- all that a member is promised: added in the lowest free place; then, whatever is called but the closing of this account, the trips
  -- come to what they come to on a fresh book of their own, in answers, records and book; and closing clears that place, and no other byte
  pub record OwnBook (page : List ℕ) (member : ℕ) (calls : List Call) : Type 0 where
    pub place : ℕ
    pub lowest : Lowest page 0 first count place
    pub page_added : List ℕ
    pub added_is : added first count page member ≡ changed page_added
    pub settlements : settlements_of first count page_added member place calls ≡ each_from fresh_book (steps_of member place calls)
    pub book : book_at (page_from first count page_added calls) place ≡ book_after_each fresh_book (steps_of member place calls)
    pub stands : Stands first count (page_from first count page_added calls) member place
    pub closing : ClosedThere (page_from first count page_added calls) member place

  -- On any page that passes, lacks the member and has a free place, whatever the books on it hold.
  pub from_adding_to_closing :
      (page : List ℕ) (member : ℕ) (calls : List Call) → Addable first count page member → (InNone page 0 first count → ⊥)
      → stays member calls ≡ true → OwnBook page member calls
  from_adding_to_closing page member calls a free stay = go (adding first count page member)
    where
      go : Adding first count page member → OwnBook page member calls
      go (add_wrong_page why e) = absurd (not_both first count page member why a.passing a.can)
      go (add_present q p can l e) = absurd (a.absent q l.from l.within l.there)
      go (add_full p can none full e) = absurd (free full)
      go (add_at place p can none l e) =
          let (s, fresh) = added_stands p can none l in
          let k = member_kept calls s stay in
          record {
            place = place;
            lowest = l;
            page_added = replaced page (start_of place) place_size (new_place member);
            added_is = e;
            settlements = k.settlements ∙ rw fresh;
            book = k.book ∙ rw fresh;
            stands = k.stands;
            closing = closed_there k.stands;
          }
