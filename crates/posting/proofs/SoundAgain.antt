-- A sound book with room for the trip is sound again after the ride, under the same tariff: the window takes its trip, every sum grows by
-- one charge of at most 3,790,000, second class never more than all classes, each covering area is one of the tariff's, and
-- a bicycle's payments pass no cap that they have not passed.
-- Assumes nothing.
use Prim.Native.Nat.{ℕ, ◌+◌, ◌*◌, ◌≤◌, ◌<◌}
use native.Mathlib.Nat.{le_refl}
use native.Mathlib.Omega.{arith}
use mathlib.Core.Path.{◌≡◌}
use mathlib.Core.Bool.{Bool, true, false, cond, ◌&&◌}
use mathlib.Core.List.{List}
use lib.Dec.{eqb}
use Rattle.units.specs.Day.{day_minutes}
use Rattle.units.specs.Price.{most_price}
use Rattle.caps.specs.Tree.{within}
use Rattle.calendar.specs.Stamps.{last_minute}
use Rattle.layout.specs.declared.Counts.{Counts}
use Rattle.trip.specs.declared.Ride.{Ride}
use Rattle.ledger.specs.declared.Window.{Window}
use Rattle.ledger.specs.Sound.{sound}
use Rattle.ledger.specs.Windows.{too_early, window_of}
use Rattle.ledger.specs.Clauses.{WindowRight}
use Rattle.ledger.proofs.SoundLaws.{PairSound, head_back, sound_back}
use Rattle.ledger.proofs.Counting.{counting}
use Rattle.ledger.proofs.WindowLaws.{window_right, window_room}
use Rattle.charging.specs.Caps.{tree_of}
use Rattle.charging.proofs.ChargeLaws.{ride_book, ride_words}
use Rattle.charging.specs.Clauses.{Rideable}
use Rattle.charging.specs.After.{posted}
use Rattle.charging.proofs.PostedLaws.{
  charges_in,
  own_charge,
  posted_size,
  posted_trips,
  posted_opening,
  posted_out,
  posted_edition,
  posted_covers,
  posted_payments,
  posted_sum,
  own_range,
  added_most,
}

-- a charge adds itself or nothing, and to second class no more than to all classes
added_less : (s v : Bool) (c : ℕ) → cond (s && v) c 0 ≤ cond v c 0
added_less true v c = le_refl _
added_less false v c = omega arith

module _ {tariff : List ℕ} {counts : Counts} {book : List ℕ} {ride : Ride} {window : Window} (ok : Rideable tariff counts book window.current ride)
    {checkout : ℕ} (right : WindowRight book window checkout) where
  -- Each rider's sums in an area are right for one trip more.
  pub posted_pair :
      (rider area : ℕ) → rider < 21 → area < 32 → PairSound (posted tariff counts book window checkout ride) ((window.trips + 1) * most_price) rider area
  posted_pair rider area hr ha =
      let room = window_room right in
      let own = own_charge ride (charges_in tariff counts book window ride) rider in
      let inside = within (tree_of tariff counts false) ride.area area in
      let before = (counting window.current book (ride_words ok) room).pairs rider area hr ha in
      let second = posted_sum window ok checkout room true rider area hr ha in
      let all = posted_sum window ok checkout room false rider area hr ha in
      let less = added_less (eqb ride.class 2) inside own in
      let most = added_most inside own in
      let charge = own_range window ok rider in
      let one = right.trips in
      (omega arith, omega arith)

  -- A sound book is sound again.
  pub posted_sound : sound (posted tariff counts book window checkout ride) counts.areas ≡ true
  posted_sound =
      let room = window_room right in
      let head = right.head in
      let trips = posted_trips window ok checkout room (omega arith) in
      let opening = posted_opening window ok checkout room (omega arith) in
      let out = posted_out window ok checkout room (omega arith) in
      let edition = posted_edition window ok checkout room (omega (arith, right.small)) in
      sound_back (posted tariff counts book window checkout ride) counts.areas (posted_size window ok checkout room)
      (rw (trips, opening, out) (head_back _ _ _ head)) (rw edition right.edition)
      (λ rider area hr ha. rw trips (posted_pair rider area hr ha)) (posted_covers window ok checkout room)
      (posted_payments window ok checkout room)

-- A sound book with room for the trip is sound again after the ride, under the same tariff.
pub sound_again :
    {tariff : List ℕ} {counts : Counts} {book : List ℕ} {ride : Ride} (window : Window) → Rideable tariff counts book window.current ride
    → {checkin checkout : ℕ} (next : ℕ) → window ≡ window_of book checkin checkout next → window.trips + 1 ≤ 256 → 1 ≤ window.edition
    → window.edition ≤ 255 → checkin ≤ checkout → checkout ≤ checkin + day_minutes → checkout ≤ last_minute → too_early book checkin ≡ false
    → sound (posted tariff counts book window checkout ride) counts.areas ≡ true
sound_again window ok next is few some small order day last early =
    posted_sound ok (window_right (ride_book ok) next order day last early window is few some small)
