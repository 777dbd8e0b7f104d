-- Rules, section 9: which window a trip falls into.
use Rattle.std.specs.Prelude.{ℕ, ◌+◌, Bool, cond, not, ◌&&◌, List, ◌==◌, nat_le, nat_lt}
use Rattle.units.specs.Day.{day_minutes}
use Rattle.ledger.specs.declared.Window.{Window}
use Rattle.ledger.specs.Words.{fresh_book, trips_of, opening_of, last_out_of, edition_of, edition_place, put_word}

-- 10: check-in before the book's last check-out (word 0 not 0)
unfoldable pub too_early : List ℕ → ℕ → Bool
too_early book checkin = not (trips_of book == 0) && nat_lt checkin (last_out_of book)

-- with word 0 at 0 no window is open; a trip belongs to the open window when its check-out is at most opening + 1,440
unfoldable pub belongs : List ℕ → ℕ → Bool
belongs book checkout = not (trips_of book == 0) && nat_le checkout (opening_of book + day_minutes)

-- otherwise it opens the next one at its own check-in. The trips are those before this one: none in the next window. The open window keeps
-- the edition that the book has, and the next has the one that is next: in force at its opening
unfoldable pub window_of : List ℕ → ℕ → ℕ → ℕ → Window
window_of book checkin checkout next =
    record {
      current = belongs book checkout;
      opening = record { 0 = cond (belongs book checkout) (opening_of book) checkin };
      trips = cond (belongs book checkout) (trips_of book) 0;
      edition = cond (belongs book checkout) (edition_of book) next;
    }

-- the sums and bicycles that count: the book's own in the open window, and none in the next
abbrev pub in_window : Bool → List ℕ → List ℕ
in_window current book = cond current book fresh_book

-- the trips in the window with this one, its opening, the last check-out, and its edition
unfoldable pub opened : Window → ℕ → List ℕ → List ℕ
opened window checkout book =
    let head = put_word (put_word (put_word book 0 (window.trips + 1)) 1 window.opening.0) 2 checkout in
    put_word head edition_place window.edition
