-- What is lent of a page and comes back, a place or its book; and what is told of the page then.
-- Assumes nothing.
use Prim.Native.Nat.{ℕ, ◌+◌}
use native.Mathlib.Omega.{arith}
use mathlib.Core.Path.{◌≡◌, refl, ap}
use mathlib.Core.List.{List}
use lib.ListN.{length, take, drop}
use Rattle.editions.specs.declared.Editions.{Editions}
use Rattle.ledger.specs.Words.{book_size}
use Rattle.settle.specs.declared.Answer.{Answer}
use Rattle.settle.specs.declared.Answer.TheVariants.{Refused, Written}
use Rattle.settle.specs.Outcome.{Outcome, refused, accepted, settled_under}
use Rattle.settle.specs.Clauses.{Told}
use Rattle.page.specs.Pages.{number_size, place_size, start_of, book_at, replaced, Change, unchanged, changed}
use Rattle.page.proofs.Replacing.{put_back}
use Rattle.accounts.specs.Members.{on_page}
use Rattle.accounts.specs.Clauses.{ChangeTold, PlaceSettled}

-- What is told of a place's book is told of the page.
on_page_told :
    (o : Outcome) (page : List ℕ) (place : ℕ) {book' statement statement' : List ℕ} {r : Answer}
    → Told o (book_at page place) book' statement statement' r
    → Told (on_page page place o) page (replaced page (start_of place + number_size) book_size book') statement statement' r
on_page_told (refused number at) page place told =
    record {
      answer = told.answer;
      fits = told.fits;
      recordable = told.recordable;
      book_is = rw told.book_is (put_back page (start_of place + number_size) book_size);
      statement_is = told.statement_is;
    }
on_page_told (accepted new parts) page place told =
    record {
      answer = told.answer;
      fits = told.fits;
      recordable = told.recordable;
      book_is = ap (replaced page (start_of place + number_size) book_size) told.book_is;
      statement_is = told.statement_is;
    }

-- the book is lent from where it begins to where it ends
pub place_told :
    (file : List ℕ) (editions : Editions) (page : List ℕ) (place size : ℕ) (trip statement : List ℕ) {book' statement' : List ℕ} {r : Answer}
    → size ≡ book_size
    → let book = take size (drop (start_of place + number_size) page) in
    Told (settled_under file editions book trip (length statement)) book book' statement statement' r
    → PlaceSettled file editions page place trip statement (replaced page (start_of place + number_size) size book') statement' r
place_told file editions page place size trip statement e told =
    rw e (on_page_told (settled_under file editions (book_at page place) trip (length statement)) page place (rw e at told))

-- ---- What a change tells.

-- A refusal leaves the page.
pub refusal_told :
    {change : Change} {page : List ℕ} {number : ℕ} {r : Answer} → change ≡ unchanged number → r ≡ Refused number 0 → ChangeTold change page page r
refusal_told e is = rw (e, is) (record { answer = refl; fits = omega arith; page_is = refl })

-- What was written is the new page.
pub written_told :
    {change : Change} {page page' new : List ℕ} → change ≡ changed new → page' ≡ new → ChangeTold change page page' (Written place_size)
written_told e is = rw e (record { answer = refl; fits = omega arith; page_is = is })
