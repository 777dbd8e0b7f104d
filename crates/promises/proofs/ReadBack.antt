-- Every record that settling writes is read back: its parts one after another, one or two, none refused, and every field that of the part.
-- Assumes nothing.
use Prim.Native.Nat.{ℕ, ◌+◌, ◌-◌, ◌≤◌, ◌<◌}
use native.Mathlib.Decide.{dec_lt}
use native.Mathlib.Nat.{eq-zero-or-pos}
use native.Mathlib.Omega.{arith}
use mathlib.Core.Path.{◌≡◌, refl, sym, ap, subst}
use mathlib.Core.Logic.{◌⊎◌, inl, inr, ⊎_elim}
use mathlib.Core.Bool.{Bool, true, false}
use mathlib.Core.List.{List, [], ◌∷◌, ◌++◌, append_assoc}
use borrow.Author.Tests.{le-ltb, lt-ltb}
use lib.ListN.{length, drop, length-append, get_or-eq_default}
use Rattle.caps.specs.Named.{CapHere, all_classes, second_class}
use Rattle.caps.proofs.Climb.{within_there}
use Rattle.layout.specs.declared.Counts.{Counts}
use Rattle.areas.specs.Areas.{area_at, FaultlessTariff}
use Rattle.areas.proofs.Faultless.{faultless}
use Rattle.trip.specs.Trips.{trip_of}
use Rattle.trip.specs.declared.Ride.{Ride}
use Rattle.fare.specs.Clauses.{EachRide, none, more}
use Rattle.prices.proofs.Steps.{price_most}
use Rattle.fare.proofs.PartLaws.{few_rides}
use Rattle.ledger.specs.declared.Window.{Window}
use Rattle.caps.specs.declared.Cut.{Cut}
use Rattle.ledger.specs.Words.{first_child, second_sum, all_sum}
use Rattle.ledger.specs.Windows.{in_window}
use Rattle.charging.specs.Caps.{tree_of}
use Rattle.charging.specs.Charging.{is_child, rider_charge}
use Rattle.charging.specs.Cuts.{rider_cut, cuts_of}
use Rattle.charging.specs.Clauses.{Rideable}
use Rattle.charging.specs.InWords.{CutSays}
use Rattle.charging.proofs.Trees.{is_tree}
use Rattle.charging.proofs.ChargeLaws.{cuts_length, adult_stands, child_stands, adult_cut_stands, child_cut_stands, priceable, charges_most}
use Rattle.charging.proofs.CutLaws.{cut_says}
use Rattle.posting.proofs.NextPart.{next_rideable, next_right}
use Rattle.ledger.specs.Clauses.{WindowRight}
use Rattle.statement.specs.Record.{Part, persons_of, count_of, record_of, statement_of, uncut}
use Rattle.reader.specs.declared.Amount.{Amount}
use Rattle.reader.specs.Fields.{amount_of, Complete, fields_of}
use Rattle.reader.specs.Ranges.{last_area, AmountInRange, InRange}
use Rattle.reader.specs.Reading.{told, read_at}
use Rattle.reader.proofs.ReadBack.{written_part, read_written}
use Rattle.settle.specs.Outcome.{accepted, part_of, one_more, parts_of, settled, statement_with}
use Rattle.settle.proofs.Clear.{part_complete}
use Rattle.promises.specs.Conditions.{trip_rides}
use Rattle.promises.specs.ReadBack.{ReadFrom, over, then, EachReadable, nobody, also}
use Rattle.promises.proofs.Answers.{accepted-is, tariffBy, countsBy, clear, charged-rides, right-window}

-- ---- The charges of a ride.

-- a charge and a cut that are what the rules' words say are in range
module _ {tariff : List ℕ} {counts : Counts} {book : List ℕ} {current : Bool} {ride : Ride}
    (ok : Rideable tariff counts book current ride) (w : List ℕ) where
  abbrev amount_for : Bool → ℕ → Amount
  amount_for child rider =
      record { charge = record { 0 = rider_charge tariff counts w ride child rider }; cut = rider_cut tariff counts w ride child rider }

  rider_right : (rider : ℕ) → AmountInRange (amount_for (is_child rider) rider)
  rider_right rider =
      record {
        price = omega (arith, says.makes_up, price_most (area_at tariff ride.area) ride (is_child rider) (priceable ok));
        cut =
            record {
              unnamed = says.none;
              named = λ some. by_cap (⊎_elim (λ e. absurd (some e)) (λ h. h) (eq-zero-or-pos cut.reduction.0));
            };
      }
    where
      t : FaultlessTariff tariff counts
      t = faultless tariff counts ok.read

      cut : Cut
      cut = rider_cut tariff counts w ride (is_child rider) rider

      charge : ℕ
      charge = rider_charge tariff counts w ride (is_child rider) rider

      says : CutSays tariff counts w ride rider charge cut
      says = cut_says t w ride ok.area rider

      known :
          CapHere ((tree_of tariff counts (is_child rider)).caps cut.area) ride.class (second_sum w rider cut.area) (all_sum w rider cut.area)
          cut.class charge
          → (cut.class ≡ 1) ⊎ (cut.class ≡ 2)
      known (all_classes most one is value) = inl one
      known (second_class most two of is value) = inr two

      by_cap : 0 < cut.reduction.0 → (cut.area ≤ last_area) × ((cut.class ≡ 1) ⊎ (cut.class ≡ 2))
      by_cap some =
          let cap = (says.named some).one_of_them in
          let there : cut.area < counts.areas = within_there (is_tree t (is_child rider)) ride.area ok.area cut.area cap.inside in
          (omega (arith, there, t.few_areas), known cap.its)

  -- where the rider is known to be a child or not
  known_right : (rider : ℕ) (child : Bool) → is_child rider ≡ child → AmountInRange (amount_for child rider)
  known_right rider child is = subst (λ (c : Bool). AmountInRange (amount_for c rider)) is (rider_right rider)

-- ---- A ride's part.

module _ {tariff : List ℕ} {counts : Counts} {book : List ℕ} {window : Window} {checkout : ℕ} {ride : Ride}
    (ok : Rideable tariff counts book window.current ride) (right : WindowRight book window checkout) where
  abbrev w : List ℕ
  w = in_window window.current book

  abbrev part : Part
  part = part_of tariff counts book window ride

  amount-right : (i : ℕ) → i < count_of ride.party → AmountInRange (amount_of (fields_of part) i)
  unfolding part_of
  amount-right i h =
      elim (dec_lt i (1 + ride.party.adults)) [
        | yes adult ↦
            rw (adult_stands tariff counts w ride i adult, adult_cut_stands tariff counts w ride uncut i adult)
            (known_right ok w i false (le-ltb 10 i (omega (arith, ok.adults))))
        | no older ↦
            elim (dec_lt i (persons_of ride.party)) [
              | yes child ↦
                  let k = i - (1 + ride.party.adults) in
                  let at : 1 + ride.party.adults + k ≡ i = omega (arith, older) in
                  let there : k < ride.party.children = omega (arith, older, child) in
                  subst (λ (n : ℕ). AmountInRange (amount_of (fields_of part) n)) at
                  (rw (child_stands tariff counts w ride k there, child_cut_stands tariff counts w ride uncut k there)
                  (known_right ok w (first_child + k) true (lt-ltb 10 (first_child + k) (omega arith))))
              | no bicycle ↦
                  rw (get_or-eq_default (cuts_of tariff counts w ride) uncut {n = i} (omega (arith, cuts_length tariff counts w ride, bicycle)))
                  (record {
                    price = omega (arith, charges_most ok i);
                    cut = record { unnamed = λ _. (refl, refl); named = λ some. absurd (some refl) };
                  })
            ]
      ]

  -- Its fields are in range.
  part_in_range : InRange (fields_of part)
  unfolding part_of
  part_in_range =
      let few = (faultless tariff counts ok.read).few_areas in
      let head = right.head in
      record {
        head =
            record {
              opening = omega (arith, head.order, head.last);
              area = omega (arith, ok.area);
              km = ok.km;
              minutes = ok.minutes;
            };
        whose = (ok.adults, (ok.children, ok.bicycles));
        amounts = amount-right;
      }

  part_whole : Complete (fields_of part)
  part_whole = let complete = part_complete tariff counts book window ride in (complete.charges, complete.cuts)

-- ---- The parts of a trip.

module _ {tariff : List ℕ} {counts : Counts} {book : List ℕ} {window : Window} {checkout : ℕ} where
  each_readable :
      (rides : List Ride) → EachRide (Rideable tariff counts book window.current) rides → WindowRight book window checkout → window.trips + length rides ≤ 256
      → length rides ≤ 2 → EachReadable (parts_of tariff counts book window checkout rides)
  unfolding parts_of one_more
  each_readable [] none right few two = nobody
  each_readable (ride ∷ []) (more ok none) right few two = also (part_whole ok right) (part_in_range ok right) nobody
  each_readable (ride ∷ next ∷ []) (more ok (more ok' none)) right few two =
      let ok'' = next_rideable ok right ok' in
      let right' = next_right ok right (omega arith) in
      also (part_whole ok right) (part_in_range ok right) (also (part_whole ok'' right') (part_in_range ok'' right') nobody)
  each_readable (ride ∷ next ∷ another ∷ rest) rideable right few two = absurd (omega arith)

module _ (file book trip : List ℕ) (room : ℕ) {new : List ℕ} {parts : List Part} (is : settled file book trip room ≡ accepted new parts) where
  -- Each part of an accepted trip tells fields in range.
  pub settled_readable : EachReadable parts
  settled_readable =
      let a = accepted-is file book trip room is in
      subst EachReadable (sym a.parts_is)
      (each_readable (trip_rides (tariffBy a) (countsBy a) trip) (charged-rides a) (right-window a) (clear a).few
      (few_rides (tariffBy a) (countsBy a) trip (trip_of trip)).1)

-- ---- Reading them back.

-- the parts' records, behind any bytes and before any others
pub read_all : (parts : List Part) → EachReadable parts → (before rest : List ℕ) → ReadFrom (before ++ (statement_of parts ++ rest)) (length before) parts
unfolding statement_of
read_all [] nobody before rest = over
read_all (part ∷ parts) (also complete ok each) before rest =
    let bytes = record_of part in
    let all = statement_of parts ++ rest in
    let apart : before ++ ((bytes ++ statement_of parts) ++ rest) ≡ before ++ (bytes ++ all) = ap (before ++◌) (append_assoc bytes (statement_of parts) rest) in
    let shifted : (before ++ bytes) ++ all ≡ before ++ (bytes ++ all) = append_assoc before bytes all in
    let one : read_at (before ++ (bytes ++ all)) (length before) ≡ told (fields_of part) (length bytes) =
    subst (λ (b : List ℕ). read_at (before ++ (b ++ all)) (length before) ≡ told (fields_of part) (length b)) (written_part part)
    (read_written (fields_of part) complete ok before all)
    in
    let others : ReadFrom (before ++ (bytes ++ all)) (length before + length bytes) parts =
    subst (λ (b : List ℕ). ReadFrom b (length before + length bytes) parts) shifted
    (subst (λ (n : ℕ). ReadFrom ((before ++ bytes) ++ all) n parts) (length-append before bytes) (read_all parts each (before ++ bytes) rest))
    in
    subst (λ (b : List ℕ). ReadFrom b (length before) (part ∷ parts)) (sym apart) (then one others)

-- Every record that settling writes on acceptance is read back, from the statement's start on: no refusal, and every field the part's.
pub settled_read_back :
    (file book trip statement : List ℕ) (room : ℕ) {new : List ℕ} {parts : List Part} → settled file book trip room ≡ accepted new parts
    → ReadFrom (statement_with parts statement) 0 parts
settled_read_back file book trip statement room {new} {parts} is =
    read_all parts (settled_readable file book trip room is) [] (drop (length (statement_of parts)) statement)
