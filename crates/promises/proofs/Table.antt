-- docs/RULES.md, section 18: the starred sums. Whether a whole book is sound is too much to compute; but every book that a run leaves is
-- sound, by a law. So the trips of the table are settled by the other rows of the table of refusals, on whole books, by computation; and by the
-- tariff of the sample's one edition, whatever window it is.
-- Assumes nothing.
use Prim.Native.Nat.{ℕ}
use mathlib.Core.Path.{◌≡◌, refl, sym, ap, ◌∙◌}
use mathlib.Core.List.{List, [], ◌∷◌, ◌++◌, map, Memᴰ}
use mathlib.Core.Bool.{true, cond}
use lib.ListN.{drop}
use lib.Count.{ones}
use lib.Dec.{ltb}
use Rattle.units.specs.Rounding.{divided_up, hundredths_of, periods}
use Rattle.wire.specs.Number.{get_le, put_le, bytes_of}
use Rattle.wire.specs.Each.{each}
use Rattle.wire.specs.Frame.{broken, frame_at}
use Rattle.calendar.specs.Days.{month_days, days_of_months, days_of_years, day_number}
use Rattle.calendar.specs.Stamps.{local_minute, minute_number}
use Rattle.caps.specs.Limits.{left_of, capped_here}
use Rattle.caps.specs.Named.{leaves, named_here, name_in}
use Rattle.caps.specs.Rides.{ChargedRide}
use Rattle.caps.specs.Tree.{fold_up, among, charge_in}
use Rattle.layout.specs.declared.Counts.{Counts}
use Rattle.layout.specs.Layout.{long_of, area_place, long_bits}
use Rattle.layout.specs.Fields.{area_fields, long_fields, factor_fields, stop_fields}
use Rattle.layout.specs.Rules.{caps_right, long_right, place_right, wide_among}
use Rattle.layout.specs.Scan.{area_entry, factor_entry, stop_entry, entry_at, read_from, read_tariff, Read}
use Rattle.editions.specs.declared.Edition.{Edition}
use Rattle.editions.specs.declared.Editions.{Editions}
use Rattle.editions.specs.declared.openings.Opening.TheVariants.{Since}
use Rattle.editions.specs.Openings.{since_at, opening_at}
use Rattle.editions.specs.Editions.{counts_in, tariff_in, in_force}
use Rattle.editions.specs.Reading.{ReadFile}
use Rattle.editions.specs.InWords.{first_tariff, one_edition}
use Rattle.editions.proofs.OpeningLaws.{opening_opened}
use Rattle.editions.proofs.FileLaws.{said}
use Rattle.editions.proofs.Parts.{edition_one, tariff_one}
use Rattle.units.specs.Levels.{level_cap}
use Rattle.areas.specs.Areas.{cap_of, trip_cap_of, child_ticket_of, town_of, kind_with, day_cap_of, area_of, area_at, stop_at, town_at, lies_within, smallest_of, is_marked, in_marked_town}
use Rattle.trip.specs.Record.{shape_at, party_at, stop_number}
use Rattle.trip.specs.Moments.{checkin_of, checkout_of}
use Rattle.trip.specs.Trips.{is_trip, party_right, stops_known, stamps_right, one_stop, trip_of}
use Rattle.fare.specs.Distance.{apart, km_from, km_of}
use Rattle.fare.specs.Rides.{stop_of, area_of_stops, ride_between, ride_of}
use Rattle.fare.specs.Parts.{break_of, rides_of as trip_rides}
use Rattle.prices.specs.Prices.{base_part, km_part, step1, step2, step3, step4, trip_cap, common_price, town_step1, ticket_in, raised_or_compared, aachen_adult, aachen_child, price_of}
use Rattle.fare.specs.Towns.{some_in_town, town_refuses}
use Rattle.ledger.specs.Words.{fresh_book}
use Rattle.charging.specs.Caps.{second_cap, all_cap}
use Rattle.charging.specs.Charging.{rider_charge, in_turn, each_person, charges_of}
use Rattle.charging.specs.Cuts.{rider_cut, cuts_of}
use Rattle.ledger.specs.Windows.{belongs, too_early, window_of, opened}
use Rattle.charging.specs.After.{add_here, add_up, add_list, posted}
use Rattle.cycles.specs.Bicycles.{new_cover, payment, flat_before, bicycle_charge, paid_with, cover_bicycles}
use Rattle.statement.specs.Record.{statement_size}
use Rattle.deciding.specs.declared.refusals.Refusal.TheVariants.{NoRoom}
use Rattle.deciding.specs.Refusals.{refusal, Row, row, sound_in, window_in, rows_under, rows, Verdict, nothing, found, first_of}
use Rattle.settle.specs.Outcome.{Outcome, refused, accepted, part_of, one_more, parts_of, posted_all, accepted_trip, settled, book_after}
use Rattle.settle.specs.Runs.{Offer, Settlement, run_from, book_from}
use Rattle.deciding.proofs.Decisions.{clear_first, refused_first}
use Rattle.settle.proofs.Ways.{refused_way, accepted_way}
use Rattle.settle.specs.Steps.{settlings}
use Rattle.settle.proofs.Steps.{settlings_run, settlings_book}
use Rattle.promises.specs.Runs.{entry_of, cut_of, rides_with, rides_after, rides_over}
use Rattle.promises.specs.Cases.{
  sample_fields,
  sample_area,
  aachen_area,
  fields_bytes,
  more_bytes,
  area_bytes,
  areas_bytes,
  sample_factor,
  factor_bytes,
  factors_bytes,
  sample_stop,
  stop_bytes,
  stops_bytes,
  sample_areas,
  sample_factors,
  sample_stops,
  sample_tariff,
  sample_counts,
  opening_bytes,
  sample,
  sample_editions,
  stamp_bytes,
  numbers_bytes,
  trip_bytes,
  along,
  Result,
  part_results,
  outcome_results,
  results_of,
  rides_in,
  Case,
  offers,
  results,
  Holds,
  cases,
}
use Rattle.promises.proofs.Promises.{book_stays_sound}

-- ---- Settling on a sound book.

-- the table's rows by a tariff and its counts
abbrev rows_by : Editions → List ℕ → Counts → List ℕ → List ℕ → ℕ → List Row
rows_by editions tariff counts book bytes room =
    rows_under editions tariff counts book bytes (window_in editions book bytes)
    (row NoRoom (ltb room (statement_size (trip_rides tariff counts bytes (trip_of bytes)))))

-- by all of them but the first, which asks whether the book is sound
unfoldable on_sound : Editions → List ℕ → Counts → List ℕ → List ℕ → ℕ → Outcome
on_sound editions tariff counts book bytes room =
    elim (first_of (drop 1 (rows_by editions tariff counts book bytes room))) [
      | found why ↦ refused (refusal why) 0
      | nothing ↦ accepted_trip tariff counts book bytes (trip_of bytes) (window_in editions book bytes)
    ]

-- and a run so settled
unfoldable run_on_sound : Editions → List ℕ → Counts → List ℕ → List Offer → List Settlement
run_on_sound editions tariff counts book [] = []
run_on_sound editions tariff counts book (o ∷ run) =
    let outcome = on_sound editions tariff counts book o.bytes o.room in
    record { book = book; offer = o; outcome = outcome } ∷ run_on_sound editions tariff counts (book_after outcome book) run

-- a rider's rides in the open window, by one tariff for every window
unfoldable ride_on : List ℕ → Counts → ℕ → List ℕ → List ℕ → Outcome → List ChargedRide → List ChargedRide
ride_on tariff counts rider book bytes (refused number place) before = before
ride_on tariff counts rider book bytes (accepted new parts) before =
    rides_with tariff counts rider parts (cond (belongs book (checkout_of bytes)) before [])

unfoldable rides_on : List ℕ → Counts → ℕ → List Settlement → List ChargedRide → List ChargedRide
rides_on tariff counts rider [] before = before
rides_on tariff counts rider (s ∷ more) before =
    rides_on tariff counts rider more (ride_on tariff counts rider s.book s.offer.bytes s.outcome before)

-- the book after some trips and one more
book_more :
    (file book : List ℕ) (done : List Offer) (o : Offer)
    → book_from file book (done ++ o ∷ [])
    ≡ book_after (settled file (book_from file book done) o.bytes o.room) (book_from file book done)
unfolding book_from
book_more file book [] o = refl
book_more file book (d ∷ done) o = book_more file (book_after (settled file book d.bytes d.room) book) done o

-- under a file whose editions all have one tariff
module _ (file : List ℕ) (editions : Editions) (read : ReadFile file editions) (tariff : List ℕ) (counts : Counts)
    (tariff-is : (edition : ℕ) → tariff_in file editions edition ≡ tariff) (counts-is : (edition : ℕ) → counts_in editions edition ≡ counts) where
  module _ (book bytes : List ℕ) (room : ℕ) (is-sound : sound_in editions book ≡ true) where
    -- the rows but the first
    abbrev others : Verdict
    others = first_of (drop 1 (rows_by editions tariff counts book bytes room))

    abbrev edition : ℕ
    edition = (window_in editions book bytes).edition

    skipped : first_of (rows file editions book bytes room) ≡ others
    unfolding rows first_of
    skipped = rw (is-sound, tariff-is edition, counts-is edition)

    on-sound : settled file book bytes room ≡ on_sound editions tariff counts book bytes room
    unfolding on_sound
    on-sound = go others refl
      where
        go : (f : Verdict) → others ≡ f → settled file book bytes room ≡ on_sound editions tariff counts book bytes room
        go (found why) e =
            rw (e, on_sound) (refused_way file book bytes room editions read (refused_first file editions book bytes room (skipped ∙ e)))
        go nothing e =
            rw (e, on_sound)
            (accepted_way file book bytes room editions read _ _ (clear_first file editions book bytes room (skipped ∙ e))
            ∙ rw (tariff-is edition, counts-is edition))

  -- every book of a run from a fresh book is sound; `done` are the trips that this one comes from
  run-from :
      (run done : List Offer) (book : List ℕ) → book ≡ book_from file fresh_book done → run_from file book run ≡ run_on_sound editions tariff counts book run
  unfolding run_from run_on_sound
  run-from [] done book from = refl
  run-from (o ∷ run) done book from =
      let outcome = settled file book o.bytes o.room in
      let stays = rw (settlings_book file fresh_book done) at (book_stays_sound file editions read (settlings done)) in
      let here = on-sound book o.bytes o.room (rw from stays) in
      rw (← here)
      (ap (λ more. record { book = book; offer = o; outcome = outcome } ∷ more)
      (run-from run (done ++ o ∷ []) (book_after outcome book) (rw from (sym (book_more file fresh_book done o)))))

  run_fresh : (run : List Offer) → run_from file fresh_book run ≡ run_on_sound editions tariff counts fresh_book run
  unfolding book_from
  run_fresh run = run-from run [] fresh_book refl

  -- the rides are by that tariff
  ride-on :
      (rider : ℕ) (book bytes : List ℕ) (outcome : Outcome) (before : List ChargedRide)
      → rides_after file editions rider book bytes outcome before ≡ ride_on tariff counts rider book bytes outcome before
  unfolding rides_after ride_on
  ride-on rider book bytes (refused number place) before = refl
  ride-on rider book bytes (accepted new parts) before =
      rw (tariff-is (window_in editions book bytes).edition, counts-is (window_in editions book bytes).edition)

  rides-on :
      (rider : ℕ) (settlements : List Settlement) (before : List ChargedRide)
      → rides_over file editions rider settlements before ≡ rides_on tariff counts rider settlements before
  unfolding rides_over rides_on
  rides-on rider [] before = refl
  rides-on rider (s ∷ more) before =
      rides-on rider more (rides_after file editions rider s.book s.offer.bytes s.outcome before)
      ∙ ap (rides_on tariff counts rider more) (ride-on rider s.book s.offer.bytes s.outcome before)

-- ---- The sample.

-- its tariff is a faultless one of ten areas, three of them of kind 8, four factor records and 35 stops
tariff_read : Read sample_tariff sample_counts
unfolding long_of area_place long_bits ones read_tariff read_from entry_at area_entry factor_entry stop_entry frame_at broken area_fields long_fields factor_fields stop_fields
    caps_right long_right place_right wide_among get_le bytes_of sample_tariff sample_areas sample_factors sample_stops areas_bytes area_bytes fields_bytes more_bytes sample_fields sample_area
    aachen_area factors_bytes factor_bytes sample_factor stops_bytes stop_bytes sample_stop
tariff_read = refl

-- it stands behind the record that opens the edition
behind_opening : first_tariff sample ≡ sample_tariff
unfolding sample opening_bytes bytes_of
behind_opening = refl

opening_there : opening_at sample 0 0 ≡ Since (record { 0 = 0 })
unfolding opening_at since_at frame_at broken get_le month_days days_of_months days_of_years day_number sample opening_bytes bytes_of sample_tariff areas_bytes
    sample_areas area_bytes sample_area fields_bytes aachen_area more_bytes factors_bytes sample_factors factor_bytes stops_bytes sample_stops stop_bytes
opening_there = refl

-- The sample is a faultless file of one edition, from 2000-01-01.
pub sample_read : ReadFile sample sample_editions
sample_read = said sample (one_edition (opening_opened sample 0 0 opening_there) (ap read_tariff behind_opening ∙ tariff_read))

one_tariff : (edition : ℕ) → tariff_in sample sample_editions edition ≡ sample_tariff
one_tariff edition = tariff_one sample _ edition ∙ behind_opening

one_counts : (edition : ℕ) → counts_in sample_editions edition ≡ sample_counts
one_counts edition = ap (λ (e : Edition). e.counts) (edition_one _ edition)

-- ---- The table.

-- what the trips of a case come to, and the rider's rides in the window
record Sums : Type 0 where
  come_to : List Result
  window : List ChargedRide

-- as they are settled on books that are sound; and as the case says
abbrev settled_sums : Case → Sums
settled_sums c =
    let run = run_on_sound sample_editions sample_tariff sample_counts fresh_book (offers c) in
    record { come_to = results_of c.rider run; window = rides_on sample_tariff sample_counts c.rider run [] }

abbrev said_sums : Case → Sums
said_sums c = record { come_to = results c; window = rides_in (results c) [] }

-- all cases, computed
computed : map settled_sums cases ≡ map said_sums cases
unfolding divided_up hundredths_of periods get_le put_le bytes_of each broken frame_at month_days days_of_months days_of_years day_number local_minute minute_number
    left_of capped_here fold_up among charge_in leaves named_here name_in long_of area_place long_bits ones area_fields long_fields stop_fields level_cap cap_of trip_cap_of
    child_ticket_of town_of kind_with
    day_cap_of area_of area_at stop_at town_at lies_within smallest_of shape_at party_at stop_number checkin_of checkout_of is_trip party_right stops_known
    stamps_right one_stop apart km_from km_of stop_of area_of_stops ride_between ride_of base_part km_part step1 step2 step3 step4 trip_cap common_price town_step1 ticket_in
    raised_or_compared aachen_adult aachen_child is_marked in_marked_town price_of some_in_town town_refuses second_cap all_cap rider_charge in_turn each_person charges_of rider_cut cuts_of cut_of
    belongs too_early window_of add_here add_up add_list new_cover payment flat_before bicycle_charge paid_with cover_bicycles opened posted statement_size break_of trip_rides in_force first_of part_of one_more parts_of
    posted_all accepted_trip on_sound run_on_sound ride_on rides_on entry_of rides_with sample_fields sample_area aachen_area fields_bytes more_bytes area_bytes
    areas_bytes sample_factor factor_bytes
    factors_bytes sample_stop stop_bytes stops_bytes sample_areas sample_factors sample_stops sample_tariff stamp_bytes numbers_bytes trip_bytes along part_results
    outcome_results results_of rides_in cases
computed = refl

-- where two functions agree all along a list, they agree on each of it
on_each : {A B : Type 0} (f g : A → B) (l : List A) → map f l ≡ map g l → (x : A) → Memᴰ x l → f x ≡ g x
on_each f g (y ∷ l) e x (Memᴰ.head is) = rw is (cc e)
on_each f g (y ∷ l) e x (Memᴰ.tail there) = on_each f g l (cc e) x there
on_each f g [] e x there = elim there [ ]

-- Every sum comes out, its trips settled one after another from a fresh book on.
pub table : (c : Case) → Memᴰ c cases → Holds c
table c there =
    let sums = on_each settled_sums said_sums cases computed c there in
    let run = run_fresh sample sample_editions sample_read sample_tariff sample_counts one_tariff one_counts (offers c) in
    record {
      results_are = ap (results_of c.rider) run ∙ ap (λ s. s.come_to) sums;
      window_is =
          ap (λ settlements. rides_over sample sample_editions c.rider settlements []) (settlings_run sample fresh_book (offers c) ∙ run)
          ∙ rides-on sample sample_editions sample_read sample_tariff sample_counts one_tariff one_counts c.rider _ []
          ∙ ap (λ s. s.window) sums;
    }
