-- docs/RULES.md, section 21: a page of accounts. Twelve places one after another, each a member's number and a book; members are added
-- and closed. What is said of the page's places is said of some that follow each other, `count` of them from `first` on: nothing
-- else of the page is looked at but its length. Which of them are whose: accounts/Associations.
use Rattle.std.specs.Prelude.{ℕ, zero, suc, ◌+◌, ◌-◌, ◌*◌, List, ◌++◌, Bool, true, false, cond, not, ◌&&◌, length, take, drop, replicate, leb, eqb}
use Rattle.wire.specs.Number.{get_le, put_le}
use Rattle.wire.specs.Each.{each}
use Rattle.ledger.specs.Words.{book_size}
use Rattle.page.specs.declared.Spot.{Spot}
use Rattle.page.specs.declared.Spot.TheVariants.{Nowhere, At}
use Rattle.page.specs.declared.checks.Account.{Account}
use Rattle.page.specs.declared.checks.Account.TheVariants.{WrongPage, Absent, Present}

-- ---- The layout.

abbrev pub number_size : ℕ
number_size = 4

-- a place: the member's number, then the book
abbrev pub place_size : ℕ
place_size = 5476

abbrev pub places : ℕ
places = 12

abbrev pub page_size : ℕ
page_size = 65712

-- where a place begins
abbrev pub start_of : ℕ → ℕ
start_of place = place * place_size

abbrev pub place_at : List ℕ → ℕ → List ℕ
place_at page place = take place_size (drop (start_of place) page)

-- some places that follow each other, as one part of the page
abbrev pub places_at : List ℕ → ℕ → ℕ → List ℕ
places_at page first count = take (count * place_size) (drop (start_of first) page)

-- 0 in a free place
abbrev pub number_at : List ℕ → ℕ → ℕ
number_at page place = get_le 4 page (start_of place)

abbrev pub book_at : List ℕ → ℕ → List ℕ
book_at page place = take book_size (drop (start_of place + number_size) page)

-- the page with `size` bytes replaced from `start` on, and every other byte as it was
abbrev pub replaced : List ℕ → ℕ → ℕ → List ℕ → List ℕ
replaced page start size bytes = take start page ++ (bytes ++ drop size (drop start page))

-- ---- The conditions, as tests.

-- a member's number is 1 to 999,999,999
abbrev pub most_number : ℕ
most_number = 999999999

abbrev pub number_right : ℕ → Bool
number_right number = leb 1 number && leb number most_number

-- the lowest of the places in which a number stands
unfoldable pub lowest_with : List ℕ → ℕ → ℕ → ℕ → Spot
lowest_with page first zero number = Nowhere
lowest_with page first (suc count) number = cond (eqb (number_at page first) number) (At first) (lowest_with page (first + 1) count number)

abbrev pub somewhere : Spot → Bool
somewhere Nowhere = false
somewhere (At place) = true

-- each stored number is one that a member can have, or 0
unfoldable pub numbers_right : List ℕ → ℕ → ℕ → Bool
numbers_right page first count = each count (λ k. leb (number_at page (first + k)) most_number)

-- a place is free, or its number stands in no place behind it, up to `end`
unfoldable pub only_here : List ℕ → ℕ → ℕ → Bool
only_here page end place =
    cond (eqb (number_at page place) 0) true (not (somewhere (lowest_with page (place + 1) (end - (place + 1)) (number_at page place))))

-- no number is stored twice
unfoldable pub numbers_once : List ℕ → ℕ → ℕ → Bool
numbers_once page first count = each count (λ k. only_here page (first + count) (first + k))

-- the page has its length, the number asked for is one that a member can have, and so are those stored, none of them twice
unfoldable pub page_right : ℕ → ℕ → List ℕ → ℕ → Bool
page_right first count page member =
    eqb (length page) page_size && (number_right member && numbers_right page first count && numbers_once page first count)

-- 18; or whether the member stands there, and where
unfoldable pub account_of : ℕ → ℕ → List ℕ → ℕ → Account
account_of first count page member =
    cond (page_right first count page member)
    (elim (lowest_with page first count member) [
      | Nowhere ↦ Absent
      | At place ↦ Present place
    ])
    WrongPage

-- ---- What comes of it.

-- 18: page of the wrong length, a number stored or asked for outside its range, or one stored twice
abbrev pub wrong_page : ℕ
wrong_page = 18

-- 19: member not found, or already present when adding
abbrev pub wrong_member : ℕ
wrong_member = 19

-- 20: no free place
abbrev pub no_place : ℕ
no_place = 20

-- adding and closing: a refusal with its number; or the new page
pub data Change : Type 0 where
  unchanged : ℕ → Change
  changed : List ℕ → Change

-- a cleared place is all zero; a new member's has the number, and with it a fresh book
abbrev pub cleared_place : List ℕ
cleared_place = replicate place_size 0

abbrev pub new_place : ℕ → List ℕ
new_place member = put_le 4 cleared_place 0 member

-- adding a member takes the lowest free place
unfoldable pub added : ℕ → ℕ → List ℕ → ℕ → Change
added first count page member =
    elim (account_of first count page member) [
      | WrongPage ↦ unchanged wrong_page
      | Present place ↦ unchanged wrong_member
      | Absent ↦
          elim (lowest_with page first count 0) [
            | Nowhere ↦ unchanged no_place
            | At place ↦ changed (replaced page (start_of place) place_size (new_place member))
          ]
    ]

-- closing an account clears its place
unfoldable pub closed : ℕ → ℕ → List ℕ → ℕ → Change
closed first count page member =
    elim (account_of first count page member) [
      | WrongPage ↦ unchanged wrong_page
      | Absent ↦ unchanged wrong_member
      | Present place ↦ changed (replaced page (start_of place) place_size cleared_place)
    ]

-- a refusal leaves the page
abbrev pub page_after : Change → List ℕ → List ℕ
page_after (unchanged number) page = page
page_after (changed new) page = new
