-- Posting records in turn: at each turn those of some rides are left, on the book and in the window that the ones before them left; and in the end
-- the book has all of them.
-- Assumes nothing.
use Prim.Native.Nat.{ℕ, ◌+◌, ◌≤◌, ◌<◌}
use native.Mathlib.Nat.{le_of_eq}
use native.Mathlib.Omega.{arith}
use mathlib.Core.Path.{◌≡◌, refl, sym, ◌∙◌}
use mathlib.Core.List.{List, [], ◌∷◌}
use Rattle.units.specs.declared.Minutes.{Minutes}
use Rattle.layout.specs.declared.Counts.{Counts}
use Rattle.trip.specs.declared.Ride.{Ride}
use Rattle.statement.specs.Record.{record_size}
use Rattle.statement.specs.Reading.{size_in}
use Rattle.statement.proofs.Charges.{length_record}
use Rattle.statement.proofs.Records.{size_is}
use Rattle.ledger.specs.declared.Window.{Window}
use Rattle.charging.specs.After.{posted}
use Rattle.posting.specs.Clauses.{Postable, PostableAt, PostedAt}
use Rattle.settle.specs.Outcome.{part_of, one_more, posted_all}
use Rattle.settle.specs.Clauses.{RidesPostable, over, then, RecordsPosted}

-- rides that are posted from one book on are, from another, the rest of them
pub record Rest (tariff : List ℕ) (counts : Counts) (checkout : Minutes) (class : ℕ) (statement : List ℕ) (end : ℕ) (book : List ℕ) (window : Window)
    (book' : List ℕ) (within : Window) (place : ℕ) (rides : List Ride) : Type 0 where
  pub rest : List Ride
  pub postable : RidesPostable tariff counts checkout class statement end book' within place rest
  pub same : posted_all tariff counts book window checkout.0 rides ≡ posted_all tariff counts book' within checkout.0 rest

-- so of whatever rides the records are
pub record Left (tariff : List ℕ) (counts : Counts) (checkout : Minutes) (class : ℕ) (statement : List ℕ) (end : ℕ) (book : List ℕ) (window : Window)
    (book' : List ℕ) (within : Window) (place : ℕ) : Type 0 where
  pub left :
      (rides : List Ride) → RidesPostable tariff counts checkout class statement end book window 0 rides
      → Rest tariff counts checkout class statement end book window book' within place rides

-- the record that stands there has the ride's size
sized :
    {tariff : List ℕ} {counts : Counts} {class : ℕ} {statement book : List ℕ} {window : Window} {place : ℕ} (ride : Ride)
    → Postable tariff counts book window class (part_of tariff counts book window ride) statement place → size_in statement place ≡ record_size ride.party
unfolding part_of
sized ride ok = size_is ok.stands ok.recordable ∙ length_record _ ok.recordable.complete

module _ {tariff : List ℕ} {counts : Counts} {checkout : Minutes} {class : ℕ} {statement : List ℕ} {end : ℕ} where
  pub nothing_posted : (book : List ℕ) (window : Window) → Left tariff counts checkout class statement end book window book window 0
  nothing_posted book window = record { left = λ rides ok. record { rest = rides; postable = ok; same = refl } }

  -- ---- A turn.

  within_end : {book : List ℕ} {window : Window} {place : ℕ} (rides : List Ride) → RidesPostable tariff counts checkout class statement end book window place rides → place ≤ end
  within_end [] (over there) = le_of_eq there
  within_end {book = book} {window = window} {place = place} (ride ∷ rest) (then ok more) =
      omega (arith, within_end {book = posted tariff counts book window checkout.0 ride} rest more)

  pub turn_postable :
      {book : List ℕ} {window : Window} {place : ℕ} {rides : List Ride} → RidesPostable tariff counts checkout class statement end book window place rides
      → place < end → PostableAt tariff counts book window class statement place × (window.trips ≤ 255)
  turn_postable (over there) before = absurd (omega arith)
  turn_postable (then ok more) before = (record { part = _; postable = ok }, ok.few)

  module _ {book book' : List ℕ} {window : Window} {place r : ℕ} (before : place < end)
      (posted-one : PostedAt tariff counts book window checkout class statement place book' r) where
    pub turn_goes : {rides : List Ride} → RidesPostable tariff counts checkout class statement end book window place rides → (place < r) × (r ≤ end)
    turn_goes (over there) = absurd (omega arith)
    turn_goes (then {ride = ride} {rest} ok more) =
        (omega (arith, posted-one.next, sized ride ok), omega (arith, posted-one.next, sized ride ok, within_end rest more))

    next_rest :
        {within : Window} → within ≡ one_more window → (rides : List Ride)
        → RidesPostable tariff counts checkout class statement end book window place rides
        → Rest tariff counts checkout class statement end book window book' within r rides
    unfolding posted_all part_of
    next_rest is [] (over there) = absurd (omega arith)
    next_rest is (ride ∷ rest) (then ok more) =
        let left : book' ≡ posted tariff counts book window checkout.0 ride = posted-one.book_is _ ok in
        let at : r ≡ place + record_size ride.party = omega (arith, posted-one.next, sized ride ok) in
        record { rest = rest; postable = rw (left, is, at) more; same = rw (left, is) refl }

    pub turn_left :
        {start : List ℕ} {opening within : Window} → within ≡ one_more window
        → Left tariff counts checkout class statement end start opening book window place
        → Left tariff counts checkout class statement end start opening book' within r
    turn_left is so_far =
        record {
          left =
              λ rides ok.
              let here = so_far.left rides ok in
              let next = next_rest is here.rest here.postable in
              record { rest = next.rest; postable = next.postable; same = here.same ∙ next.same };
        }

  -- ---- Behind the last.

  none_left :
      {book : List ℕ} {window : Window} {place : ℕ} (rides : List Ride)
      → RidesPostable tariff counts checkout class statement end book window place rides → end ≤ place → posted_all tariff counts book window checkout.0 rides ≡ book
  unfolding posted_all
  none_left [] (over there) past = refl
  none_left (ride ∷ rest) (then ok more) past = absurd (omega (arith, within_end rest more))

  pub all_posted :
      {book : List ℕ} {window : Window} {book' : List ℕ} {within : Window} {place : ℕ} → Left tariff counts checkout class statement end book window book' within place → end ≤ place
      → RecordsPosted tariff counts book window checkout class statement end book'
  all_posted so_far past =
      record {
        book_is =
            λ rides ok.
            let here = so_far.left rides ok in
            sym (here.same ∙ none_left here.rest here.postable past);
      }
