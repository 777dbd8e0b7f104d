-- A trip posted on the book in a place: the place's book alone is written, and what comes back goes by that book.
-- Assumes nothing.
use Prim.Native.Nat.{ℕ, ◌+◌, ◌≤◌, ◌<◌}
use native.Mathlib.Omega.{arith}
use mathlib.Core.Path.{◌≡◌, refl, sym, ap, ◌∙◌}
use mathlib.Core.List.{List}
use mathlib.Core.Bool.{Bool, true, false, ◌&&◌}
use borrow.Author.Tests.{eq-eqb, le-leb, lt-ltb, eqb-true, leb-true, ltb-true}
use lib.ListN.{length}
use lib.Dec.{leb, ltb, eqb}
use Rattle.wire.proofs.Tests.{both_left, both_right}
use Rattle.editions.specs.declared.FileReading.{FileReading}
use Rattle.editions.specs.declared.FileReading.TheVariants.{Fault, Faultless}
use Rattle.editions.specs.Reading.{read_file}
use Rattle.ledger.specs.Words.{book_size}
use Rattle.statement.specs.Record.{Part, largest_statement}
use Rattle.settle.specs.Outcome.{accepted, quoted, settled, parts_priced}
use Rattle.settle.specs.Posting.{Posting, unposted, renewed, posting_of}
use Rattle.settle.specs.Steps.{posted_in}
use Rattle.settle.proofs.Ways.{fault_way, faultless_way}
use Rattle.settle.proofs.Steps.{posting_settles}
use Rattle.page.specs.Pages.{number_size, places, page_size, start_of, book_at}
use Rattle.page.specs.InWords.{Agree, OnlyIn}
use Rattle.accounts.specs.Associations.{own_places, first_place, is_association, AgreeFor, OnlyOf}
use Rattle.accounts.specs.Lent.{lends, place_posted, posted_for, page_posted}
use Rattle.page.proofs.Touching.{book_touched}
use Rattle.accounts.proofs.Effects.{accepted_size}
use Rattle.accounts.proofs.Agreeing.{book_agrees, replaced_agrees, only_self, touched_in}
use Rattle.accounts.proofs.Halves.{Which, is_one, is_none, which, few_own}

-- The new book of an accepted trip is as long as every book, under any file.
pub settled_size :
    (file book trip : List ℕ) (room : ℕ) {new : List ℕ} {parts : List Part} → settled file book trip room ≡ accepted new parts
    → length new ≡ book_size
settled_size file book trip room {new} {parts} e = go (read_file file) refl
  where
    go : (r : FileReading) → read_file file ≡ r → length new ≡ book_size
    go (Fault number at) is = absurd (let z : ◌≡◌ {A = ℕ} 0 1 = cc (fault_way file book trip room number at is, e) in omega arith)
    go (Faultless editions) is = accepted_size file editions is book trip room (sym (faultless_way file book trip room editions is) ∙ e)

-- And that of a posting.
pub renewed_size :
    (file book trip offered : List ℕ) {new : List ℕ} → posting_of file book trip offered ≡ renewed new → length new ≡ book_size
renewed_size file book trip offered e =
    settled_size file book trip largest_statement
    (posting_settles file book trip offered (ap (posted_in (parts_priced (quoted file book trip largest_statement))) e))

-- ---- In some places.

-- a book can be lent: the page is long enough, and the place is one of these
pub record Lends (first count : ℕ) (page : List ℕ) (place : ℕ) : Type 0 where
  pub size : length page ≡ page_size
  pub from : first ≤ place
  pub within : place < first + count

pub lends_there : (first count : ℕ) (page : List ℕ) (place : ℕ) → Lends first count page place → lends first count page place ≡ true
lends_there first count page place l =
    rw (eq-eqb (length page) page_size l.size, le-leb first place l.from, lt-ltb place (first + count) l.within)

lends_says : (first count : ℕ) (page : List ℕ) (place : ℕ) → lends first count page place ≡ true → Lends first count page place
lends_says first count page place e =
    let rest = both_right (eqb (length page) page_size) _ e in
    record {
      size = eqb-true (length page) page_size (both_left (eqb (length page) page_size) _ e);
      from = leb-true first place (both_left (leb first place) _ rest);
      within = ltb-true place (first + count) (both_right (leb first place) _ rest);
    }

module _ (file : List ℕ) (first count : ℕ) (page : List ℕ) (place : ℕ) (trip offered : List ℕ) where
  pub posted_there :
      lends first count page place ≡ true → place_posted file first count page place trip offered ≡ posting_of file (book_at page place) trip offered
  unfolding place_posted
  posted_there e = rw e

  not_lent : lends first count page place ≡ false → place_posted file first count page place trip offered ≡ unposted 0 0
  unfolding place_posted
  not_lent e = rw e

  -- it leaves the page; or the place has a new book of the right length
  pub data Lending : Type 0 where
    leaves : {number at : ℕ} → place_posted file first count page place trip offered ≡ unposted number at → Lending
    renews :
        {new : List ℕ} → Lends first count page place → length new ≡ book_size → place_posted file first count page place trip offered ≡ renewed new
        → Lending

  pub lending : Lending
  lending = go (lends first count page place) refl
    where
      by_book :
          Lends first count page place → (p : Posting) → posting_of file (book_at page place) trip offered ≡ p
          → place_posted file first count page place trip offered ≡ posting_of file (book_at page place) trip offered → Lending
      by_book l (unposted number at) is there = leaves (there ∙ is)
      by_book l (renewed new) is there = renews l (renewed_size file (book_at page place) trip offered is) (there ∙ is)

      go : (t : Bool) → lends first count page place ≡ t → Lending
      go false e = leaves (not_lent e)
      go true e = by_book (lends_says first count page place e) (posting_of file (book_at page place) trip offered) refl (posted_there e)

  -- No byte outside of these places changes.
  pub posted_only : first + count ≤ places → OnlyIn first count page (page_posted page place (place_posted file first count page place trip offered))
  posted_only few = go lending
    where
      go : Lending → OnlyIn first count page (page_posted page place (place_posted file first count page place trip offered))
      go (leaves e) = rw e only_self
      go (renews {new} l long e) =
          rw e (touched_in (book_touched page place l.size (omega (arith, few, l.within)) new long) l.from l.within)

-- two pages that agree in some places
pub record PostingsAgree (first count : ℕ) (page page' : List ℕ) (place : ℕ) (one other : Posting) : Type 0 where
  pub same : one ≡ other
  pub pages : Agree first count (page_posted page place one) (page_posted page' place other)

module _ {first count : ℕ} {page page' : List ℕ} (few : first + count ≤ places) (agree : Agree first count page page') (file : List ℕ) (place : ℕ)
    (trip offered : List ℕ) where
  same_posted : place_posted file first count page place trip offered ≡ place_posted file first count page' place trip offered
  same_posted = go (lends first count page place) refl
    where
      alike : lends first count page place ≡ lends first count page' place
      alike = ap (λ (n : ℕ). eqb n page_size && (leb first place && ltb place (first + count))) agree.size

      go :
          (t : Bool) → lends first count page place ≡ t
          → place_posted file first count page place trip offered ≡ place_posted file first count page' place trip offered
      go false e = not_lent file first count page place trip offered e ∙ sym (not_lent file first count page' place trip offered (sym alike ∙ e))
      go true e =
          let l = lends_says first count page place e in
          posted_there file first count page place trip offered e
          ∙ ap (λ (b : List ℕ). posting_of file b trip offered) (book_agrees agree place l.from l.within)
          ∙ sym (posted_there file first count page' place trip offered (sym alike ∙ e))

  pub posted_agrees :
      PostingsAgree first count page page' place (place_posted file first count page place trip offered)
      (place_posted file first count page' place trip offered)
  posted_agrees = rw (← same_posted) (go (lending file first count page place trip offered))
    where
      go :
          Lending file first count page place trip offered
          → PostingsAgree first count page page' place (place_posted file first count page place trip offered)
          (place_posted file first count page place trip offered)
      go (leaves e) = rw e (record { same = refl; pages = agree })
      go (renews {new} l long e) =
          rw e
          (record {
            same = refl;
            pages =
                replaced_agrees agree (start_of place + number_size) book_size new l.size few (omega (arith, l.from)) (omega (arith, l.within)) long;
          })

-- ---- In an association's places.

module _ (file : List ℕ) (association : ℕ) (page : List ℕ) (place : ℕ) (trip offered : List ℕ) where
  pub posted-for :
      is_association association ≡ true
      → posted_for file association page place trip offered ≡ place_posted file (first_place association) own_places page place trip offered
  unfolding posted_for
  posted-for one = rw one

  posted_none : is_association association ≡ false → posted_for file association page place trip offered ≡ unposted 0 0
  unfolding posted_for
  posted_none none = rw none

  pub posting_only : OnlyOf association page (page_posted page place (posted_for file association page place trip offered))
  posting_only = go (which association)
    where
      go : Which association → OnlyOf association page (page_posted page place (posted_for file association page place trip offered))
      go (is_one one e) = rw (posted-for e) (posted_only file (first_place association) own_places page place trip offered (few_own one))
      go (is_none none e) = rw (posted_none e) only_self

pub posting_alike :
    (association : ℕ) {page page' : List ℕ} → AgreeFor association page page' → (file : List ℕ) (place : ℕ) (trip offered : List ℕ)
    → PostingsAgree (first_place association) own_places page page' place (posted_for file association page place trip offered)
    (posted_for file association page' place trip offered)
posting_alike association {page} {page'} agree file place trip offered = go (which association)
  where
    go :
        Which association
        → PostingsAgree (first_place association) own_places page page' place (posted_for file association page place trip offered)
        (posted_for file association page' place trip offered)
    go (is_one one e) =
        rw (posted-for file association page place trip offered e, posted-for file association page' place trip offered e)
        (posted_agrees (few_own one) agree file place trip offered)
    go (is_none none e) =
        rw (posted_none file association page place trip offered e, posted_none file association page' place trip offered e)
        (record { same = refl; pages = agree })
