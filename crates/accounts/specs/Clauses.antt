-- What the functions over a page ask and answer, up to those that the exported ones call.
use Rattle.std.specs.Prelude.{ℕ, ◌≡◌, List, length}
use Rattle.editions.specs.declared.Editions.{Editions}
use Rattle.settle.specs.declared.Answer.{Answer}
use Rattle.settle.specs.declared.Answer.TheVariants.{Refused, Written}
use Rattle.settle.specs.Outcome.{settled_under}
use Rattle.settle.specs.Clauses.{AnswerFits, Told}
use Rattle.page.specs.Pages.{place_size, book_at, Change, unchanged, changed, page_after}
use Rattle.accounts.specs.Members.{on_page, member_settled_under}
use Rattle.accounts.specs.Associations.{settled_for_under, settled_for}

-- acceptance answers the bytes written, which are a place's
abbrev pub told_change : Change → Answer
told_change (unchanged number) = Refused number 0
told_change (changed new) = Written place_size

-- the answer and every byte of the page are the change's
pub record ChangeTold (change : Change) (page page' : List ℕ) (r : Answer) : Type 0 where
  pub answer : r ≡ told_change change
  pub fits : AnswerFits r
  pub page_is : page' ≡ page_after change page

-- ---- What each function answers, of the slices at its entry and at its exit.

-- `settle_at`
abbrev pub PlaceSettled : List ℕ → Editions → List ℕ → ℕ → List ℕ → List ℕ → List ℕ → List ℕ → Answer → Type 0
PlaceSettled file editions page place trip statement page' statement' r =
    Told (on_page page place (settled_under file editions (book_at page place) trip (length statement))) page page' statement statement' r

-- `settle_found`
abbrev pub FoundSettled : List ℕ → Editions → ℕ → ℕ → List ℕ → ℕ → List ℕ → List ℕ → List ℕ → List ℕ → Answer → Type 0
FoundSettled file editions first count page member trip statement page' statement' r =
    Told (member_settled_under file editions first count page member trip (length statement)) page page' statement statement' r

-- `settle_own`
abbrev pub OwnSettled : List ℕ → Editions → ℕ → List ℕ → ℕ → List ℕ → List ℕ → List ℕ → List ℕ → Answer → Type 0
OwnSettled file editions association page member trip statement page' statement' r =
    Told (settled_for_under file editions association page member trip (length statement)) page page' statement statement' r

-- `settle_for`
abbrev pub ForSettled : List ℕ → ℕ → List ℕ → ℕ → List ℕ → List ℕ → List ℕ → List ℕ → Answer → Type 0
ForSettled file association page member trip statement page' statement' r =
    Told (settled_for file association page member trip (length statement)) page page' statement statement' r
