-- The windows of a run, whose trips are settled or posted: those that count in each, and a rider's rides in it, read off the parts that the
-- trips were charged in.
use Rattle.std.specs.Prelude.{ℕ, ◌+◌, ◌≤◌, ◌<◌, ◌≡◌, List, [], ◌∷◌, ◌++◌, true, cond, get_or, leb}
use Rattle.units.specs.Day.{day_minutes}
use Rattle.caps.specs.Limits.{Full}
use Rattle.caps.specs.Tree.{Tree}
use Rattle.caps.specs.Named.{NamedCap, cap_named, sum_named, Passed}
use Rattle.caps.specs.Rides.{ChargedRide, all_total, second_total}
use Rattle.layout.specs.declared.Counts.{Counts}
use Rattle.editions.specs.declared.Editions.{Editions}
use Rattle.editions.specs.Editions.{counts_in, tariff_in, in_force}
use Rattle.areas.specs.Areas.{is_aachen}
use Rattle.trip.specs.Moments.{checkin_of, checkout_of}
use Rattle.trip.specs.Trips.{trip_of}
use Rattle.caps.specs.declared.Cut.{Cut}
use Rattle.ledger.specs.Words.{fresh_book, trips_of, opening_of, edition_of}
use Rattle.ledger.specs.Windows.{belongs}
use Rattle.charging.specs.Caps.{tree_of}
use Rattle.charging.specs.Charging.{is_child, carries, place_of, price_for}
use Rattle.cycles.specs.InWords.{RidePays}
use Rattle.statement.specs.Record.{Part, uncut}
use Rattle.deciding.specs.Refusals.{window_in, tariff_for, counts_for}
use Rattle.settle.specs.Outcome.{Outcome, refused, accepted, trip_parts}
use Rattle.settle.specs.Runs.{Settlement}
use Rattle.settle.specs.Steps.{Step, steps_from, book_after_steps}
use Rattle.promises.specs.Conditions.{name_of_cut}
use Rattle.promises.specs.Books.{bicycle_charge_of, BicycleTakes}

-- a rider's ride: the area, class and price of a part's ride, and the charge at the rider's place
unfoldable pub entry_of : List ℕ → Counts → ℕ → Part → ChargedRide
entry_of tariff counts rider part =
    let ride = part.ride in
    record {
      area = ride.area;
      class = ride.class;
      price = price_for tariff counts ride (is_child rider);
      charge = get_or part.charges (place_of ride.party rider) 0;
    }

-- the rider's rides so far, with some parts: one more for each that carries the rider
unfoldable pub rides_with : List ℕ → Counts → ℕ → List Part → List ChargedRide → List ChargedRide
rides_with tariff counts rider [] before = before
rides_with tariff counts rider (part ∷ parts) before =
    rides_with tariff counts rider parts (cond (carries part.ride.party rider) (entry_of tariff counts rider part ∷ before) before)

-- ---- What caps took off a rider's rides.

-- the cut at the rider's place
unfoldable pub cut_of : ℕ → Part → Cut
cut_of rider part = get_or part.cuts (place_of part.ride.party rider) uncut

-- the rider's sum that counts for the cap that a cut names, over some rides
abbrev pub total_named : Tree → List ChargedRide → Cut → ℕ
total_named t rides cut = sum_named (λ x. second_total t x rides) (λ x. all_total t x rides) (name_of_cut cut)

-- a ride's cut, where `before` are the rides before it in the window: it makes up the price with the charge. Where it is nothing, no cap is
-- named. Else the named cap is the one that left the least over the rides before; these had not passed it, and with this ride it is exactly full
pub record CutFull (t : Tree) (e : ChargedRide) (before : List ChargedRide) (cut : Cut) : Type 0 where
  pub makes_up : e.charge + cut.reduction.0 ≡ e.price
  pub none : cut.reduction.0 ≡ 0 → (cut.area ≡ 255) × (cut.class ≡ 0)
  pub named :
      0 < cut.reduction.0
      → NamedCap t (λ x. second_total t x before) (λ x. all_total t x before) e.class e.area e.charge (name_of_cut cut)
  pub not_passed : 0 < cut.reduction.0 → Passed (total_named t before cut) (cap_named t (name_of_cut cut)) → ⊥
  pub full : 0 < cut.reduction.0 → Full (total_named t (e ∷ before) cut) (cap_named t (name_of_cut cut))

-- so it is of each part that carries the rider, one after another; `before` are the rides before them in the window
pub data CutsFull (tariff : List ℕ) (counts : Counts) (rider : ℕ) : List Part → List ChargedRide → Type 0 where
  no_more : {before : List ChargedRide} → CutsFull tariff counts rider [] before
  part_more :
      {part : Part} {parts : List Part} {before : List ChargedRide}
      → (carries part.ride.party rider ≡ true
      → CutFull (tree_of tariff counts (is_child rider)) (entry_of tariff counts rider part) before (cut_of rider part))
      → CutsFull tariff counts rider parts (cond (carries part.ride.party rider) (entry_of tariff counts rider part ∷ before) before)
      → CutsFull tariff counts rider (part ∷ parts) before

-- ---- A bicycle's payments per trip. `old` is its word, 0 if unused, else 1 + its covering area; `paid` its payments in the window.

-- each part that it is on, one after another; the others leave its words. Where its new covering area is of kind 8 the charge is a payment: at
-- most the price per trip, never past the cap with those before it in the window, and less than the price only where the cap is then full
pub data PaysInTurn (tariff : List ℕ) (counts : Counts) (k : ℕ) : ℕ → ℕ → List Part → ℕ → ℕ → Type 0 where
  pays_no_more : {old paid : ℕ} → PaysInTurn tariff counts k old paid [] old paid
  pays_on :
      {part : Part} {parts : List Part} {old paid between paid-between old' paid' : ℕ} → k < part.ride.party.bicycles
      → (takes : BicycleTakes tariff counts part.ride.area (bicycle_charge_of part.ride part.charges k) old paid between paid-between)
      → (is_aachen tariff takes.new ≡ true
      → RidePays tariff counts takes.new paid (bicycle_charge_of part.ride part.charges k) paid-between)
      → PaysInTurn tariff counts k between paid-between parts old' paid' → PaysInTurn tariff counts k old paid (part ∷ parts) old' paid'
  pays_off :
      {part : Part} {parts : List Part} {old paid old' paid' : ℕ} → part.ride.party.bicycles ≤ k
      → PaysInTurn tariff counts k old paid parts old' paid' → PaysInTurn tariff counts k old paid (part ∷ parts) old' paid'

-- ---- The window that is open at the end, by the book before each trip.

-- the rider's rides so far, with an outcome: a refusal leaves them, and an accepted trip that opens a window begins anew. The edition is that of
-- the trip's window
unfoldable pub rides_after : List ℕ → Editions → ℕ → List ℕ → List ℕ → Outcome → List ChargedRide → List ChargedRide
rides_after file editions rider book bytes (refused number place) before = before
rides_after file editions rider book bytes (accepted new parts) before =
    rides_with (tariff_for file editions book bytes) (counts_for editions book bytes) rider parts (cond (belongs book (checkout_of bytes)) before [])

-- a rider's rides in the window that is open at the end of some settlements, the latest first; `before` are those that the window had
-- before them
unfoldable pub rides_over : List ℕ → Editions → ℕ → List Settlement → List ChargedRide → List ChargedRide
rides_over file editions rider [] before = before
rides_over file editions rider (s ∷ more) before =
    rides_over file editions rider more (rides_after file editions rider s.book s.offer.bytes s.outcome before)

-- ---- All windows, by the trips' own minutes.

-- a trip's check-in and check-out
pub record Span : Type 0 where
  pub checkin : ℕ
  pub checkout : ℕ

abbrev pub span_of : List ℕ → Span
span_of bytes = record { checkin = checkin_of bytes; checkout = checkout_of bytes }

-- a window: its opening minute, the trips that count in it, and a rider's rides in it, the latest first
pub record RiderWindow : Type 0 where
  pub opening : ℕ
  pub trips : List Span
  pub rides : List ChargedRide

-- it opens at a check-in
abbrev pub opens_at : ℕ → RiderWindow
opens_at checkin = record { opening = checkin; trips = []; rides = [] }

-- the tariff that settles all of a window that opens at some minute: that of the edition in force then; and its tree with a rider's caps
abbrev pub tariff_at : List ℕ → Editions → ℕ → List ℕ
tariff_at file editions opening = tariff_in file editions (in_force editions opening)

abbrev pub counts_at : Editions → ℕ → Counts
counts_at editions opening = counts_in editions (in_force editions opening)

abbrev pub tree_at : List ℕ → Editions → ℕ → ℕ → Tree
tree_at file editions opening rider = tree_of (tariff_at file editions opening) (counts_at editions opening) (is_child rider)

-- with an accepted trip: its opening stays, and with it its edition
abbrev pub with_trip : List ℕ → Editions → ℕ → List ℕ → List Part → RiderWindow → RiderWindow
with_trip file editions rider bytes parts window =
    record {
      opening = window.opening;
      trips = span_of bytes ∷ window.trips;
      rides = rides_with (tariff_at file editions window.opening) (counts_at editions window.opening) rider parts window.rides;
    }

-- the windows so far, the open one first, with an accepted trip: it belongs to the open window when its check-out is at most
-- opening + 1,440; otherwise it opens the next one at its own check-in
unfoldable pub windows_with : List ℕ → Editions → ℕ → List ℕ → List Part → List RiderWindow → List RiderWindow
windows_with file editions rider bytes parts [] = with_trip file editions rider bytes parts (opens_at (checkin_of bytes)) ∷ []
windows_with file editions rider bytes parts (latest ∷ earlier) =
    cond (leb (checkout_of bytes) (latest.opening + day_minutes)) (with_trip file editions rider bytes parts latest ∷ earlier)
    (with_trip file editions rider bytes parts (opens_at (checkin_of bytes)) ∷ latest ∷ earlier)

-- the windows so far, with an outcome: a refusal leaves them
unfoldable pub windows_after : List ℕ → Editions → ℕ → List ℕ → Outcome → List RiderWindow → List RiderWindow
windows_after file editions rider bytes (refused number place) windows = windows
windows_after file editions rider bytes (accepted new parts) windows = windows_with file editions rider bytes parts windows

-- the windows after some settlements; `windows` are those before them
unfoldable pub windows_over : List ℕ → Editions → ℕ → List Settlement → List RiderWindow → List RiderWindow
windows_over file editions rider [] windows = windows
windows_over file editions rider (s ∷ more) windows =
    windows_over file editions rider more (windows_after file editions rider s.offer.bytes s.outcome windows)

-- a trip lies within the 24 hours from a window's opening on
pub record WithinDay (opening : ℕ) (trip : Span) : Type 0 where
  pub since : opening ≤ trip.checkin
  pub forward : trip.checkin ≤ trip.checkout
  pub till : trip.checkout ≤ opening + day_minutes

-- a book has no window open, and there is none; or the first is the one that it has open, since the same minute, under the edition in force
-- then, and with these rides
pub data OpenFirst (editions : Editions) (book : List ℕ) (rides : List ChargedRide) : List RiderWindow → Type 0 where
  none_open : trips_of book ≡ 0 → rides ≡ [] → OpenFirst editions book rides []
  one_open :
      {latest : RiderWindow} {earlier : List RiderWindow} → 1 ≤ trips_of book → opening_of book ≡ latest.opening
      → edition_of book ≡ in_force editions latest.opening → rides ≡ latest.rides → OpenFirst editions book rides (latest ∷ earlier)

-- the trips of some windows, all together
unfoldable pub trips_in : List RiderWindow → List Span
trips_in [] = []
trips_in (window ∷ windows) = window.trips ++ trips_in windows

-- the trips that some settlements accepted, the latest first, before those of `before`
unfoldable pub accepted_after : List ℕ → Outcome → List Span → List Span
accepted_after bytes (refused number place) before = before
accepted_after bytes (accepted new parts) before = span_of bytes ∷ before

unfoldable pub accepted_over : List Settlement → List Span → List Span
accepted_over [] before = before
accepted_over (s ∷ more) before = accepted_over more (accepted_after s.offer.bytes s.outcome before)

-- ---- A window's edition.

-- an accepted trip, on the book before it: its window's edition is the one in force at the window's opening, and its parts are those of its rides
-- by that edition's tariff. The book that it leaves names them both; and in the open window both are as they were
pub record UnderOpening (file : List ℕ) (editions : Editions) (book bytes new : List ℕ) (parts : List Part) : Type 0 where
  pub in-force : (window_in editions book bytes).edition ≡ in_force editions (window_in editions book bytes).opening.0
  pub parts_are :
      parts
      ≡ trip_parts (tariff_at file editions (window_in editions book bytes).opening.0) (counts_at editions (window_in editions book bytes).opening.0) book bytes
      (trip_of bytes) (window_in editions book bytes)
  pub opening : opening_of new ≡ (window_in editions book bytes).opening.0
  pub edition : edition_of new ≡ in_force editions (opening_of new)
  pub stays : belongs book (checkout_of bytes) ≡ true → (opening_of new ≡ opening_of book) × (edition_of new ≡ edition_of book)

-- ---- A run from a fresh book.

-- the book that it leaves
abbrev pub book_of : List ℕ → List Step → List ℕ
book_of file run = book_after_steps file fresh_book run

-- a rider's rides in the window that is open at its end, the latest first
abbrev pub rides_of : List ℕ → Editions → ℕ → List Step → List ChargedRide
rides_of file editions rider run = rides_over file editions rider (steps_from file fresh_book run) []

-- its windows, the latest first, with a rider's rides in each
abbrev pub windows_of : List ℕ → Editions → ℕ → List Step → List RiderWindow
windows_of file editions rider run = windows_over file editions rider (steps_from file fresh_book run) []
