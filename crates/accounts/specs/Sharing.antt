-- Both associations call on one page, one after another and in any order, each call under a file of its own.
use Rattle.std.specs.Prelude.{ℕ, List, [], ◌∷◌, cond, eqb}
use Rattle.statement.specs.Record.{statement_of}
use Rattle.settle.specs.Outcome.{Outcome, answer_of, parts_in, book_after}
use Rattle.settle.specs.Posting.{Posting, posting_answer}
use Rattle.settle.specs.Runs.{Settlement}
use Rattle.settle.specs.Steps.{posting, offer_of, step_outcome}
use Rattle.page.specs.Pages.{book_at, Change, page_after}
use Rattle.accounts.specs.Members.{change_answer, on_book}
use Rattle.accounts.specs.Calls.{Call, adds, closes, settles, posts}
use Rattle.accounts.specs.Associations.{places_of, added_for, closed_for, settled_for}
use Rattle.accounts.specs.Lent.{posted_for, page_posted}

-- a call, and the association whose it is
pub record Asked : Type 0 where
  pub association : ℕ
  pub call : Call

-- the page that a call of an association leaves
unfoldable pub page_with_for : ℕ → List ℕ → Call → List ℕ
page_with_for association page (adds member) = page_after (added_for association page member) page
page_with_for association page (closes member) = page_after (closed_for association page member) page
page_with_for association page (settles file member o) =
    book_after (settled_for file association page member o.bytes o.room) page
page_with_for association page (posts file place trip offered) =
    page_posted page place (posted_for file association page place trip offered)

-- and some calls
unfoldable pub page_shared : List ℕ → List Asked → List ℕ
page_shared page [] = page
page_shared page (asked ∷ later) = page_shared (page_with_for asked.association page asked.call) later

-- the calls of one association
unfoldable pub calls_of : ℕ → List Asked → List Call
calls_of association [] = []
calls_of association (asked ∷ later) =
    cond (eqb asked.association association) (asked.call ∷ calls_of association later) (calls_of association later)

-- ---- What an association learns.

-- of a call: the number answered, the bytes written to the statement, and its places afterwards
pub record Reply : Type 0 where
  pub answer : ℕ
  pub written : List ℕ
  pub places : List ℕ

abbrev pub change_reply : Change → ℕ → List ℕ → Reply
change_reply change association page =
    record { answer = change_answer change; written = []; places = places_of association (page_after change page) }

abbrev pub trip_reply : Outcome → ℕ → List ℕ → Reply
trip_reply outcome association page =
    record {
      answer = answer_of outcome;
      written = statement_of (parts_in outcome);
      places = places_of association (book_after outcome page);
    }

abbrev pub posting_reply : Posting → ℕ → List ℕ → ℕ → Reply
posting_reply posted association page place =
    record { answer = posting_answer posted; written = []; places = places_of association (page_posted page place posted) }

unfoldable pub reply_to : ℕ → List ℕ → Call → Reply
reply_to association page (adds member) = change_reply (added_for association page member) association page
reply_to association page (closes member) = change_reply (closed_for association page member) association page
reply_to association page (settles file member o) =
    trip_reply (settled_for file association page member o.bytes o.room) association page
reply_to association page (posts file place trip offered) =
    posting_reply (posted_for file association page place trip offered) association page place

-- of its calls among all, first to last
unfoldable pub replies_to : ℕ → List ℕ → List Asked → List Reply
replies_to association page [] = []
replies_to association page (asked ∷ later) =
    let rest = replies_to association (page_with_for asked.association page asked.call) later in
    cond (eqb asked.association association) (reply_to association page asked.call ∷ rest) rest

-- ---- A member's trips.

-- what a call came to for a member in a place, before those that came later
unfoldable pub settlement_before : ℕ → List ℕ → ℕ → ℕ → Call → List Settlement → List Settlement
settlement_before association page member place (adds other) later = later
settlement_before association page member place (closes other) later = later
settlement_before association page member place (settles file other o) later =
    let outcome = settled_for file association page other o.bytes o.room in
    cond (eqb other member) (record { book = book_at page place; offer = o; outcome = on_book place outcome } ∷ later) later
settlement_before association page member place (posts file other trip offered) later =
    let outcome = step_outcome file (book_at page place) (posting trip offered) in
    cond (eqb other place) (record { book = book_at page place; offer = offer_of (posting trip offered); outcome = outcome } ∷ later) later

-- what the trips of an association's member came to, with the book that stood in a place before each
unfoldable pub settlements_for : ℕ → List ℕ → ℕ → ℕ → List Asked → List Settlement
settlements_for association page member place [] = []
settlements_for association page member place (asked ∷ later) =
    let rest = settlements_for association (page_with_for asked.association page asked.call) member place later in
    cond (eqb asked.association association) (settlement_before association page member place asked.call rest) rest
