-- The window that a trip falls into, by the one test that decides it, and what the window has.
-- Assumes nothing.
use Rattle.std.proofs.Common.{◌≡◌, ℕ, ◌+◌, ◌≤◌, Bool, true, false, cond, not, ◌&&◌, eqb, leb, List, sym, refl, ap, ◌∙◌, subst, ⊎_elim, eq-zero-or-pos, arith, ltb-false, ne_eqb, leb-true}
use mathlib.Core.Bool.{false≢true}
use borrow.Author.Tests.{eqb-false, not-true}
use Rattle.units.specs.Day.{day_minutes}
use Rattle.calendar.specs.Stamps.{last_minute}
use Rattle.wire.proofs.Tests.{both_left, both_right}
use Rattle.ledger.specs.declared.Window.{Window}
use Rattle.ledger.specs.Words.{trips_of, opening_of, last_out_of, edition_of}
use Rattle.ledger.specs.Windows.{belongs, window_of, too_early}
use Rattle.ledger.specs.Clauses.{WindowRight}
use Rattle.ledger.proofs.SoundLaws.{AloneBook}

module _ (b : List ℕ) (checkin checkout next trips opening : ℕ) (t : trips ≡ trips_of b) (o : opening ≡ opening_of b) where
  -- A trip that belongs to the open window finds its trips before it, and its edition.
  pub same_window : (edition : ℕ) → edition ≡ edition_of b → not (eqb trips 0) && leb checkout (opening + day_minutes) ≡ true
      → record { current = true; opening = record { 0 = opening }; trips = trips; edition = edition } ≡ window_of b checkin checkout next
  unfolding belongs window_of
  same_window edition k e = rw (← t, ← o, e, k)

  -- Any other opens the next at its check-in, as its first, under the edition that is next.
  pub next_window : not (eqb trips 0) && leb checkout (opening + day_minutes) ≡ false
      → record { current = false; opening = record { 0 = checkin }; trips = 0; edition = next } ≡ window_of b checkin checkout next
  unfolding belongs window_of
  next_window e = rw (← t, ← o, e)

-- where the book has trips, a check-in that is not too early is not before the last check-out
not_early : (book : List ℕ) (checkin : ℕ) → too_early book checkin ≡ false → (trips_of book ≡ 0 → ⊥) → last_out_of book ≤ checkin
unfolding too_early
not_early book checkin e some = ltb-false checkin (last_out_of book) (rw (ne_eqb (trips_of book) 0 some) at e)

-- a trip belongs to a window that is open, within a day of its opening
belonging : (book : List ℕ) (checkout : ℕ) → belongs book checkout ≡ true → (1 ≤ trips_of book) × (checkout ≤ opening_of book + day_minutes)
unfolding belongs
belonging book checkout e =
    let some = eqb-false (trips_of book) 0 (not-true _ (both_left (not (eqb (trips_of book) 0)) _ e)) in
    (pos_of_ne some, leb-true _ _ (both_right (not (eqb (trips_of book) 0)) _ e))
  where
    pos_of_ne : {n : ℕ} → (n ≡ 0 → ⊥) → 1 ≤ n
    pos_of_ne {n} some = ⊎_elim (λ none. absurd (some none)) (λ pos. pos) (eq-zero-or-pos n)

-- The open window keeps the edition that the book has, whatever is next.
pub edition_kept :
    (book : List ℕ) (checkin checkout next : ℕ) → belongs book checkout ≡ true → (window_of book checkin checkout next).edition ≡ edition_of book
unfolding window_of
edition_kept book checkin checkout next e = rw e

-- One that a trip opens has the next.
pub edition_next :
    (book : List ℕ) (checkin checkout next : ℕ) → belongs book checkout ≡ false → (window_of book checkin checkout next).edition ≡ next
unfolding window_of
edition_next book checkin checkout next e = rw e

-- So a window's edition is one of so many where both are.
pub edition_most :
    (book : List ℕ) (checkin checkout next most : ℕ) → edition_of book ≤ most → next ≤ most → (window_of book checkin checkout next).edition ≤ most
unfolding window_of
edition_most book checkin checkout next most old new = go (belongs book checkout)
  where
    go : (current : Bool) → cond current (edition_of book) next ≤ most
    go true = old
    go false = new

-- The window of a trip that is not too early, of at most a day, for which there is room, and an edition.
module _ {book : List ℕ} (s : AloneBook book) {checkin checkout : ℕ} (next : ℕ) (order : checkin ≤ checkout)
    (day : checkout ≤ checkin + day_minutes) (last : checkout ≤ last_minute) (early : too_early book checkin ≡ false) where
  right_by :
      (current : Bool) → belongs book checkout ≡ current → cond current (trips_of book) 0 + 1 ≤ 256
      → 1 ≤ cond current (edition_of book) next → cond current (edition_of book) next ≤ 255
      → WindowRight book
      (record {
        current = current;
        opening = record { 0 = cond current (opening_of book) checkin };
        trips = cond current (trips_of book) 0;
        edition = cond current (edition_of book) next;
      })
      checkout
  right_by true e few some small =
      let (used, till) = belonging book checkout e in
      let head = s.opened used in
      let since = not_early book checkin early (λ none. omega arith) in
      record {
        trips = refl;
        used = λ _. used;
        head = record { some = omega arith; few = few; order = omega arith; last = last; day = till };
        edition = some;
        small = small;
      }
  right_by false e few some small =
      record {
        trips = refl;
        used = λ never. absurd (false≢true never);
        head = record { some = omega arith; few = few; order = order; last = last; day = day };
        edition = some;
        small = small;
      }

  pub window_right :
      (window : Window) → window ≡ window_of book checkin checkout next → window.trips + 1 ≤ 256 → 1 ≤ window.edition → window.edition ≤ 255
      → WindowRight book window checkout
  unfolding window_of
  window_right window is few some small =
      subst (λ (v : Window). WindowRight book v checkout) (sym is)
      (right_by (belongs book checkout) refl
      (subst (λ (v : Window). v.trips + 1 ≤ 256) is few)
      (subst (λ (v : Window). 1 ≤ v.edition) is some)
      (subst (λ (v : Window). v.edition ≤ 255) is small))

-- The open window has room for one trip more.
pub window_room :
    {book : List ℕ} {window : Window} {checkout : ℕ} → WindowRight book window checkout → window.current ≡ true → trips_of book ≤ 255
window_room {book} {window} right current =
    omega (arith, right.trips ∙ ap (λ (s : Bool). cond s (trips_of book) 0) current, right.head.few)
