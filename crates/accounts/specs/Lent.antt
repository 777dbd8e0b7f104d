-- docs/RULES.md, R21.10: a trip is posted on the book in a place, lent to the posting where it stands on the page.
use Rattle.std.specs.Prelude.{ℕ, ◌+◌, List, Bool, cond, ◌&&◌, length, leb, ltb, eqb}
use Rattle.ledger.specs.Words.{book_size}
use Rattle.settle.specs.Posting.{Posting, unposted, renewed, posting_of}
use Rattle.page.specs.Pages.{number_size, page_size, start_of, book_at, replaced}
use Rattle.accounts.specs.Associations.{own_places, first_place, is_association}

-- the page has its length, and the place is one of some, so that its book can be lent
abbrev pub lends : ℕ → ℕ → List ℕ → ℕ → Bool
lends first count page place = eqb (length page) page_size && (leb first place && ltb place (first + count))

-- what a posting on it comes to. Where there is no book to lend nothing is called, and 0 stands for that
unfoldable pub place_posted : List ℕ → ℕ → ℕ → List ℕ → ℕ → List ℕ → List ℕ → Posting
place_posted file first count page place trip offered =
    cond (lends first count page place) (posting_of file (book_at page place) trip offered) (unposted 0 0)

-- in one of an association's places
unfoldable pub posted_for : List ℕ → ℕ → List ℕ → ℕ → List ℕ → List ℕ → Posting
posted_for file association page place trip offered =
    cond (is_association association) (place_posted file (first_place association) own_places page place trip offered) (unposted 0 0)

-- the page that it leaves: the book in the place is the new one
abbrev pub page_posted : List ℕ → ℕ → Posting → List ℕ
page_posted page place (unposted number at) = page
page_posted page place (renewed new) = replaced page (start_of place + number_size) book_size new
