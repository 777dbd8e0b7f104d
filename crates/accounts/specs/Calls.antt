-- Calls on a page one after another: members added, closed, and settled trip by trip, and trips posted on the book in a place, in any order,
-- for any members and each under any file.
use Rattle.std.specs.Prelude.{ℕ, List, [], ◌∷◌, Bool, true, cond, not, ◌&&◌, eqb}
use Rattle.settle.specs.Outcome.{book_after}
use Rattle.settle.specs.Runs.{Offer, Settlement}
use Rattle.settle.specs.Steps.{settling, posting, offer_of, step_outcome, StepUnder}
use Rattle.page.specs.Pages.{book_at, added, closed, page_after}
use Rattle.accounts.specs.Members.{on_book, member_settled}
use Rattle.accounts.specs.Lent.{place_posted, page_posted}

-- settling takes a file, a member and a trip; a posting a file, a place, a trip and a record
pub data Call : Type 0 where
  adds : ℕ → Call
  closes : ℕ → Call
  settles : List ℕ → ℕ → Offer → Call
  posts : List ℕ → ℕ → List ℕ → List ℕ → Call

-- the page that a call leaves
unfoldable pub page_with : ℕ → ℕ → List ℕ → Call → List ℕ
page_with first count page (adds member) = page_after (added first count page member) page
page_with first count page (closes member) = page_after (closed first count page member) page
page_with first count page (settles file member o) = book_after (member_settled file first count page member o.bytes o.room) page
page_with first count page (posts file place trip offered) = page_posted page place (place_posted file first count page place trip offered)

-- and some calls
unfoldable pub page_from : ℕ → ℕ → List ℕ → List Call → List ℕ
page_from first count page [] = page
page_from first count page (call ∷ calls) = page_from first count (page_with first count page call) calls

-- no call closes the member's account
unfoldable pub stays : ℕ → List Call → Bool
stays member [] = true
stays member (adds other ∷ calls) = stays member calls
stays member (closes other ∷ calls) = not (eqb other member) && stays member calls
stays member (settles file other o ∷ calls) = stays member calls
stays member (posts file place trip offered ∷ calls) = stays member calls

-- the steps of a member in a place: the trips that are settled for the member, and those that are posted in the place, each with its file
unfoldable pub steps_of : ℕ → ℕ → List Call → List StepUnder
steps_of member place [] = []
steps_of member place (adds other ∷ calls) = steps_of member place calls
steps_of member place (closes other ∷ calls) = steps_of member place calls
steps_of member place (settles file other o ∷ calls) =
    let later = steps_of member place calls in
    cond (eqb other member) (record { file = file; step = settling o } ∷ later) later
steps_of member place (posts file other trip offered ∷ calls) =
    let later = steps_of member place calls in
    cond (eqb other place) (record { file = file; step = posting trip offered } ∷ later) later

-- what they came to, with the book that stood in the place before each
unfoldable pub settlements_of : ℕ → ℕ → List ℕ → ℕ → ℕ → List Call → List Settlement
settlements_of first count page member place [] = []
settlements_of first count page member place (adds other ∷ calls) =
    settlements_of first count (page_with first count page (adds other)) member place calls
settlements_of first count page member place (closes other ∷ calls) =
    settlements_of first count (page_with first count page (closes other)) member place calls
settlements_of first count page member place (settles file other o ∷ calls) =
    let outcome = member_settled file first count page other o.bytes o.room in
    let later = settlements_of first count (page_with first count page (settles file other o)) member place calls in
    cond (eqb other member) (record { book = book_at page place; offer = o; outcome = on_book place outcome } ∷ later) later
settlements_of first count page member place (posts file other trip offered ∷ calls) =
    let outcome = step_outcome file (book_at page place) (posting trip offered) in
    let later = settlements_of first count (page_with first count page (posts file other trip offered)) member place calls in
    cond (eqb other place) (record { book = book_at page place; offer = offer_of (posting trip offered); outcome = outcome } ∷ later) later
