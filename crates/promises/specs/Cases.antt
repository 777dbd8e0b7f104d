-- docs/RULES.md, section 18: the starred sums, as one table. Each is a run of trips, made of their bytes and settled one after another from a
-- fresh book under the sample, and what it comes to.
use Rattle.std.specs.Prelude.{ℕ, ◌+◌, ◌*◌, ◌/◌, ◌%◌, ◌^◌, ◌≡◌, List, [], ◌∷◌, ◌++◌, map, length}
use Rattle.wire.specs.Number.{bytes_of}
use Rattle.calendar.specs.declared.Stamp.{Stamp}
use Rattle.caps.specs.Rides.{ChargedRide}
use Rattle.layout.specs.declared.Counts.{Counts}
use Rattle.layout.specs.declared.Factor.{Factor}
use Rattle.layout.specs.declared.fields.AreaFields.{AreaFields}
use Rattle.layout.specs.declared.fields.LongFields.{LongFields}
use Rattle.layout.specs.declared.fields.StopFields.{StopFields}
use Rattle.editions.specs.declared.Editions.{Editions}
use Rattle.editions.specs.declared.Editions.TheVariants.{One}
use Rattle.trip.specs.declared.Party.{Party}
use Rattle.caps.specs.declared.Cut.{Cut}
use Rattle.ledger.specs.Words.{fresh_book}
use Rattle.statement.specs.Record.{Part, largest_statement, uncut}
use Rattle.settle.specs.Outcome.{Outcome, refused, accepted}
use Rattle.settle.specs.Runs.{Offer, Settlement, run_from}
use Rattle.settle.specs.Steps.{settlings}
use Rattle.promises.specs.Runs.{entry_of, cut_of, rides_of}

-- ---- The sample, samples/tariff.bin: a test, host/tests/cases.rs, holds its numbers here to that file's bytes.

-- an area record: of kind 1; or of kind 8, which has more fields behind those
pub data SampleArea : Type 0 where
  common : AreaFields → SampleArea
  aachen : AreaFields → LongFields → SampleArea

-- the fields of both kinds: percentages 50; `sort` and the five fields of its trip cap; day cap and bicycle flat, or cap
unfoldable pub sample_fields : ℕ → ℕ → ℕ → ℕ → ℕ → ℕ → ℕ → ℕ → ℕ → ℕ → ℕ → ℕ → ℕ → AreaFields
sample_fields level parent base rate validity sort k a b c d daycap flat =
    record {
      level = level;
      parent = parent;
      base_price = base;
      price_per_km = rate;
      validity = validity;
      surcharge = 50;
      reduction = 50;
      sort = sort;
      cap1 = k;
      cap2 = a;
      cap3 = b;
      cap4 = c;
      cap5 = d;
      day_cap = daycap;
      bicycle_flat = flat;
    }

-- an area of kind 1
unfoldable pub sample_area : ℕ → ℕ → ℕ → ℕ → ℕ → ℕ → ℕ → ℕ → ℕ → ℕ → ℕ → ℕ → ℕ → SampleArea
sample_area level parent base rate validity sort k a b c d daycap flat = common (sample_fields level parent base rate validity sort k a b c d daycap flat)

-- an area of kind 8: behind the same fields the child tickets, the bicycle's price a trip and the town's mark
unfoldable pub aachen_area : ℕ → ℕ → ℕ → ℕ → ℕ → ℕ → ℕ → ℕ → ℕ → ℕ → ℕ → ℕ → ℕ → ℕ → ℕ → ℕ → ℕ → ℕ → ℕ → ℕ → SampleArea
aachen_area level parent base rate validity sort k a b c d daycap most child1 child2 child3 child4 child5 bicycle town =
    aachen (sample_fields level parent base rate validity sort k a b c d daycap most)
    (record { child1 = child1; child2 = child2; child3 = child3; child4 = child4; child5 = child5; bicycle_price = bicycle; town = town })

-- the body of kind 1: 25 bytes
unfoldable pub fields_bytes : AreaFields → List ℕ
fields_bytes f =
    bytes_of 1 f.level ++ (bytes_of 1 f.parent ++ (bytes_of 2 f.base_price ++ (bytes_of 2 f.price_per_km ++ (bytes_of 2 f.validity
    ++ (bytes_of 1 f.surcharge ++ (bytes_of 1 f.reduction ++ (bytes_of 1 f.sort
    ++ (bytes_of 2 f.cap1 ++ (bytes_of 2 f.cap2 ++ (bytes_of 2 f.cap3 ++ (bytes_of 2 f.cap4 ++ (bytes_of 2 f.cap5
    ++ (bytes_of 2 f.day_cap ++ bytes_of 2 f.bicycle_flat)))))))))))))

-- what kind 8 has behind it: 13 bytes
unfoldable pub more_bytes : LongFields → List ℕ
more_bytes f =
    bytes_of 2 f.child1 ++ (bytes_of 2 f.child2 ++ (bytes_of 2 f.child3 ++ (bytes_of 2 f.child4 ++ (bytes_of 2 f.child5
    ++ (bytes_of 2 f.bicycle_price ++ bytes_of 1 f.town)))))

-- an area record: a head of 4 bytes before its body
unfoldable pub area_bytes : SampleArea → List ℕ
area_bytes (common f) = bytes_of 2 27 ++ (bytes_of 2 1 ++ fields_bytes f)
area_bytes (aachen f more) = bytes_of 2 40 ++ (bytes_of 2 8 ++ (fields_bytes f ++ more_bytes more))

-- area records one after another
unfoldable pub areas_bytes : List SampleArea → List ℕ
areas_bytes [] = []
areas_bytes (f ∷ more) = area_bytes f ++ areas_bytes more

-- a factor and a mark
unfoldable pub sample_factor : ℕ → ℕ → Factor
sample_factor factor mark = record { factor = factor; mark = mark }

-- a factor record, kind 5: a head of 4 bytes and a body of 2
unfoldable pub factor_bytes : Factor → List ℕ
factor_bytes f = bytes_of 2 4 ++ (bytes_of 2 5 ++ (bytes_of 1 f.factor ++ bytes_of 1 f.mark))

-- factor records one after another
unfoldable pub factors_bytes : List Factor → List ℕ
factors_bytes [] = []
factors_bytes (f ∷ more) = factor_bytes f ++ factors_bytes more

-- a stop: area, x and y
unfoldable pub sample_stop : ℕ → ℕ → ℕ → StopFields
sample_stop area x y = record { area = area; x = x; y = y }

-- a stop record, kind 2: a head of 4 bytes and a body of 9
unfoldable pub stop_bytes : StopFields → List ℕ
stop_bytes f = bytes_of 2 11 ++ (bytes_of 2 2 ++ (bytes_of 1 f.area ++ (bytes_of 4 f.x ++ bytes_of 4 f.y)))

-- stop records one after another
unfoldable pub stops_bytes : List StopFields → List ℕ
stops_bytes [] = []
stops_bytes (f ∷ more) = stop_bytes f ++ stops_bytes more

-- state 0, regions 1 and 6, cities 2 to 5 of region 1; and of kind 8 region 7, the Aachen tariff of document 001, with its towns 8, Baesweiler,
-- which drops the base price, and 9, Stolberg, which drops the price per km. Ours: the state's prices, the bicycle flats of kind 1, levels K, A, C
-- and D of region 6, and of region 7 all tickets but A's
unfoldable pub sample_areas : List SampleArea
sample_areas =
    sample_area 0 0 180 28 360 0 0 0 0 0 0 3000 500
    ∷ sample_area 1 0 140 27 360 0 0 0 0 0 0 2500 380
    ∷ sample_area 2 1 140 27 90 1 230 90 0 0 0 550 290
    ∷ sample_area 2 1 140 27 90 1 220 90 0 0 0 490 280
    ∷ sample_area 2 1 140 27 90 1 200 90 0 0 0 65535 250
    ∷ sample_area 2 1 140 27 90 0 0 0 0 0 0 400 300
    ∷ sample_area 1 0 173 29 240 2 210 340 740 1250 1690 2890 400
    ∷ aachen_area 1 0 141 27 180 2 210 340 500 820 1250 2060 347 110 160 250 410 630 228 0
    ∷ aachen_area 2 7 141 27 180 0 0 0 0 0 0 65535 347 0 0 0 0 0 228 1
    ∷ aachen_area 2 7 141 27 180 0 0 0 0 0 0 65535 347 0 0 0 0 0 228 2
    ∷ []

-- the state, region 1 (as Westfalen, where rides inside one city are exempt), region 6 (as the VRR) and region 7 (as the AVV)
unfoldable pub sample_factors : List Factor
sample_factors =
    sample_factor 3 0
    ∷ sample_factor 4 1
    ∷ sample_factor 3 0
    ∷ sample_factor 3 0
    ∷ []

-- the stops, as in samples/tariff.txt: 0 to 6 in city 2, 7 and 8 in city 3, 9 and 10 in city 4, 11 and 12 in city 5, 13 in region 1, 14 to 26 in
-- region 6, 27 in the state, 28 to 30 in region 7, 31 and 32 in town 8, 33 and 34 in town 9
unfoldable pub sample_stops : List StopFields
sample_stops =
    sample_stop 2 300000 200000
    ∷ sample_stop 2 303000 200000
    ∷ sample_stop 2 303000 204000
    ∷ sample_stop 2 308000 200000
    ∷ sample_stop 2 306000 208000
    ∷ sample_stop 2 300000 201000
    ∷ sample_stop 2 300000 201001
    ∷ sample_stop 3 320000 200000
    ∷ sample_stop 3 326000 200000
    ∷ sample_stop 4 340000 210000
    ∷ sample_stop 4 344000 213000
    ∷ sample_stop 5 350000 190000
    ∷ sample_stop 5 350000 202000
    ∷ sample_stop 1 367000 200000
    ∷ sample_stop 6 500000 300000
    ∷ sample_stop 6 506000 300000
    ∷ sample_stop 6 506000 308000
    ∷ sample_stop 6 500000 312000
    ∷ sample_stop 6 505000 312000
    ∷ sample_stop 6 518000 300000
    ∷ sample_stop 6 521000 300000
    ∷ sample_stop 6 523000 300000
    ∷ sample_stop 6 507000 324000
    ∷ sample_stop 6 520000 321000
    ∷ sample_stop 6 532000 300000
    ∷ sample_stop 6 524000 332000
    ∷ sample_stop 6 536000 348000
    ∷ sample_stop 0 420000 250000
    ∷ sample_stop 7 200000 100000
    ∷ sample_stop 7 209000 100000
    ∷ sample_stop 7 200000 121000
    ∷ sample_stop 8 200000 120000
    ∷ sample_stop 8 203000 124000
    ∷ sample_stop 9 212000 105000
    ∷ sample_stop 9 216000 108000
    ∷ []

-- the tariff's bytes
unfoldable pub sample_tariff : List ℕ
sample_tariff = areas_bytes sample_areas ++ (factors_bytes sample_factors ++ stops_bytes sample_stops)

-- and what it has; areas 7, 8 and 9 are of kind 8
abbrev pub sample_counts : Counts
sample_counts = record { areas = 10; longs = 2 ^ 7 + 2 ^ 8 + 2 ^ 9; factors = 4; stops = 35 }

-- the record that opens an edition, kind 9: a head of 4 bytes and a date of year, month and day
unfoldable pub opening_bytes : ℕ → ℕ → ℕ → List ℕ
opening_bytes year month day = bytes_of 2 6 ++ (bytes_of 2 9 ++ (bytes_of 2 year ++ (bytes_of 1 month ++ bytes_of 1 day)))

-- the file's bytes: one edition, from 2000-01-01
unfoldable pub sample : List ℕ
sample = opening_bytes 2000 1 1 ++ sample_tariff

-- and its editions; that day's first minute is minute 0
abbrev pub sample_editions : Editions
sample_editions = One (record { since = record { 0 = 0 }; counts = sample_counts })

-- ---- Trips.

-- year, month, day, hour, minute and hours ahead of UTC
abbrev pub stamp : ℕ → ℕ → ℕ → ℕ → ℕ → ℕ → Stamp
stamp year month day hour minute offset = record { year = year; month = month; day = day; hour = hour; minute = minute; offset = offset }

-- a stamp: year 2, month, day, hour, minute, hours ahead of UTC
unfoldable pub stamp_bytes : Stamp → List ℕ
stamp_bytes s =
    bytes_of 2 s.year ++ (bytes_of 1 s.month ++ (bytes_of 1 s.day ++ (bytes_of 1 s.hour ++ (bytes_of 1 s.minute ++ bytes_of 1 s.offset))))

-- stops of 2 bytes
unfoldable pub numbers_bytes : List ℕ → List ℕ
numbers_bytes [] = []
numbers_bytes (stop ∷ more) = bytes_of 2 stop ++ numbers_bytes more

-- a trip record, kind 7, of its check-in, check-out, class, ticket level, party and stops; the length counts the kind and a body of 20 + 2n
unfoldable pub trip_bytes : Stamp → Stamp → ℕ → ℕ → Party → List ℕ → List ℕ
trip_bytes from to class level party stops =
    bytes_of 2 (22 + 2 * length stops) ++ (bytes_of 2 7
    ++ (stamp_bytes from ++ (stamp_bytes to ++ (bytes_of 1 class ++ (bytes_of 1 level
    ++ (bytes_of 1 party.adults ++ (bytes_of 1 party.children ++ (bytes_of 1 party.bicycles ++ (bytes_of 1 (length stops) ++ numbers_bytes stops)))))))))

-- the holder alone; with one child; and with a bicycle
abbrev pub alone : Party
alone = record { adults = 0; children = 0; bicycles = 0 }

abbrev pub with_child : Party
with_child = record { adults = 0; children = 1; bicycles = 0 }

abbrev pub with_bicycle : Party
with_bicycle = record { adults = 0; children = 0; bicycles = 1 }

-- some trip along its stops, offered with room for any statement; and from a stop to a stop, which has no change
unfoldable pub along : Stamp → Stamp → ℕ → ℕ → Party → List ℕ → Offer
along from to class level party stops = record { bytes = trip_bytes from to class level party stops; room = largest_statement }

abbrev pub offered : Stamp → Stamp → ℕ → ℕ → Party → ℕ → ℕ → Offer
offered from to class level party first last = along from to class level party (first ∷ last ∷ [])

-- so many minutes after a full hour of 2026-03-02, in the same day, in winter time
abbrev pub after : ℕ → ℕ → Stamp
after hour minutes = stamp 2026 3 2 (hour + minutes / 60) (minutes % 60) 1

-- the holder's trip: the full hour of its check-in, its minutes, class and ticket level (3 is B), its first and its last stop
abbrev pub trip : ℕ → ℕ → ℕ → ℕ → ℕ → ℕ → Offer
trip hour minutes class level first last = offered (after hour 0) (after hour minutes) class level alone first last

-- ---- What trips come to.

-- what a trip comes to for one rider: a ride that it is charged as, with the rider's price and charge, its km and minutes, the charges of the
-- whole party, and the rider's cut; or the refusal's number and place
pub data Result : Type 0 where
  ridden : ChargedRide → ℕ → ℕ → List ℕ → Cut → Result
  refused_with : ℕ → ℕ → Result

-- a ride for each part
unfoldable pub part_results : ℕ → List Part → List Result
part_results rider [] = []
part_results rider (part ∷ parts) =
    ridden (entry_of sample_tariff sample_counts rider part) part.ride.km.0 part.ride.minutes.0 part.charges (cut_of rider part)
    ∷ part_results rider parts

unfoldable pub outcome_results : ℕ → Outcome → List Result
outcome_results rider (refused number place) = refused_with number place ∷ []
outcome_results rider (accepted new parts) = part_results rider parts

-- trip by trip
unfoldable pub results_of : ℕ → List Settlement → List Result
results_of rider [] = []
results_of rider (s ∷ more) = outcome_results rider s.outcome ++ results_of rider more

-- the rides among them, the latest first; `before` are those before
unfoldable pub rides_in : List Result → List ChargedRide → List ChargedRide
rides_in [] before = before
rides_in (ridden ride km minutes charges cut ∷ more) before = rides_in more (ride ∷ before)
rides_in (refused_with number place ∷ more) before = rides_in more before

-- ---- What a case is.

-- a rider, and trips one after another, each with what it comes to
pub record Case : Type 0 where
  pub rider : ℕ
  pub trips : List (Offer × Result)

abbrev pub offers : Case → List Offer
offers c = map (λ t. t.0) c.trips

abbrev pub results : Case → List Result
results c = map (λ t. t.1) c.trips

-- It holds: the trips, settled one after another from a fresh book under the sample, come to that; and the rides are the rider's in the window
-- that is open at the end. Of one trip it says what `settled sample fresh_book` of it is.
pub record Holds (c : Case) : Type 0 where
  pub results_are : results_of c.rider (run_from sample fresh_book (offers c)) ≡ results c
  pub window_is : rides_of sample sample_editions c.rider (settlings (offers c)) ≡ rides_in (results c) []

-- ---- The table.

-- trips of the holder in one window; one trip alone; and one trip for the child that the holder carries, rider 11
abbrev pub day : List (Offer × Result) → Case
day trips = record { rider = 0; trips = trips }

abbrev pub one : Offer → Result → Case
one offer result = day ((offer, result) ∷ [])

abbrev pub for_child : Offer → Result → Case
for_child offer result = record { rider = 11; trips = (offer, result) ∷ [] }

-- area, km, minutes and class; price and charge, where no cap took anything off. Nobody else is charged
abbrev pub ride : ℕ → ℕ → ℕ → ℕ → ℕ → ℕ → Result
ride area km minutes class price charge =
    ridden (record { area = area; class = class; price = price; charge = charge }) km minutes (charge ∷ []) uncut

-- the same, where a cap took something off: how much, and the named cap's area and class
abbrev pub cut : ℕ → ℕ → ℕ → ℕ → ℕ → ℕ → ℕ → ℕ → ℕ → Result
cut area km minutes class price charge off by which =
    ridden (record { area = area; class = class; price = price; charge = charge }) km minutes (charge ∷ [])
    (record { reduction = record { 0 = off }; area = by; class = which })

-- the same of the child, from whom nothing is taken off, and what the holder beside it is charged
abbrev pub child_ride : ℕ → ℕ → ℕ → ℕ → ℕ → ℕ → ℕ → Result
child_ride area km minutes class price charge holder =
    ridden (record { area = area; class = class; price = price; charge = charge }) km minutes (holder ∷ charge ∷ []) uncut

-- the same of the holder with a bicycle, whose charge stands behind the holder's
abbrev pub cycled : ℕ → Result → Result
cycled bicycle (ridden own km minutes charges off) = ridden own km minutes (charges ++ bicycle ∷ []) off
cycled bicycle (refused_with number place) = refused_with number place

-- the holder's trip of 30 minutes with a bicycle, from a full hour on
abbrev pub trip_cycled : ℕ → ℕ → ℕ → Offer
trip_cycled hour first last = offered (after hour 0) (after hour 30) 2 0 with_bicycle first last

-- the starred sums, in their order, with what caps took off; the two nights of a year in which the clock changes; and mistaps
unfoldable pub cases : List Case
cases =
    -- region 6: 6 km; 21 km; 21 km at level B; that in class 1; that for a child
    one (trip 6 30 2 0 14 15) (ride 6 6 30 2 347 347)
    ∷ one (trip 6 30 2 0 14 20) (ride 6 21 30 2 782 782)
    ∷ one (trip 6 30 2 3 14 20) (ride 6 21 30 2 740 740)
    ∷ one (trip 6 30 1 3 14 20) (ride 6 21 30 1 1110 1110)
    ∷ for_child (offered (after 6 0) (after 6 30) 2 3 with_child 14 20) (child_ride 6 21 30 2 370 370 740)
    -- city 2, 5 km: 90 minutes; 91 minutes
    ∷ one (trip 6 90 2 0 0 2) (ride 2 5 90 2 230 230)
    ∷ one (trip 6 91 2 0 0 2) (ride 2 5 91 2 415 415)
    -- city 5, 12 km, 95 minutes
    ∷ one (trip 6 95 2 0 11 12) (cut 5 12 95 2 604 400 204 5 2)
    -- region 6, class 1: 18, 23, 13, 29 km
    ∷ day
    ((trip 6 30 1 0 14 19, ride 6 18 30 1 1043 1043)
    ∷ (trip 7 30 1 0 14 21, ride 6 23 30 1 1260 1260)
    ∷ (trip 8 30 1 0 14 18, ride 6 13 30 1 825 825)
    ∷ (trip 9 30 1 0 14 23, cut 6 29 30 1 1521 1207 314 6 1)
    ∷ [])
    -- region 6: 40, 60, 10, 13 (class 1), 12, 29 (class 1) km
    ∷ day
    ((trip 6 30 2 0 14 25, ride 6 40 30 2 1333 1333)
    ∷ (trip 7 30 2 0 14 26, cut 6 60 30 2 1913 1557 356 6 2)
    ∷ (trip 8 30 2 0 14 16, cut 6 10 30 2 463 0 463 6 2)
    ∷ (trip 9 30 1 0 14 18, ride 6 13 30 1 825 825)
    ∷ (trip 10 30 2 0 14 17, cut 6 12 30 2 521 0 521 6 2)
    ∷ (trip 11 30 1 0 14 23, cut 6 29 30 1 1521 620 901 6 1)
    ∷ [])
    -- city 2, 10 km; region 1, 67 km; city 4, 5 km, twice
    ∷ day
    ((trip 6 30 2 0 0 4, ride 2 10 30 2 230 230)
    ∷ (trip 7 30 2 0 0 13, ride 1 67 30 2 1949 1949)
    ∷ (trip 8 30 2 0 9 10, ride 4 5 30 2 200 200)
    ∷ (trip 9 30 2 0 9 10, cut 4 5 30 2 200 121 79 1 2)
    ∷ [])
    -- region 7, 9 km: level 0; level A; that for a child; class 1; that for a child. Document 001 prints 384, 340, 160 and 576
    ∷ one (trip 6 30 2 0 28 29) (ride 7 9 30 2 384 384)
    ∷ one (trip 6 30 2 2 28 29) (ride 7 9 30 2 340 340)
    ∷ for_child (offered (after 6 0) (after 6 30) 2 2 with_child 28 29) (child_ride 7 9 30 2 160 160 340)
    ∷ one (trip 6 30 1 2 28 29) (ride 7 9 30 1 576 576)
    ∷ for_child (offered (after 6 0) (after 6 30) 1 2 with_child 28 29) (child_ride 7 9 30 1 288 288 576)
    -- city 8, 5 km, of which document 001 prints 135; city 9, 5 km: 30 minutes; 181 minutes
    ∷ one (trip 6 30 2 0 31 32) (ride 8 5 30 2 135 135)
    ∷ one (trip 6 30 2 0 33 34) (ride 9 5 30 2 141 141)
    ∷ one (trip 6 181 2 0 33 34) (ride 9 5 181 2 282 282)
    -- a bicycle: region 7, three times; from there to city 2; region 7
    ∷ day
    ((trip_cycled 6 28 29, cycled 228 (ride 7 9 30 2 384 384))
    ∷ (trip_cycled 7 28 29, cycled 119 (ride 7 9 30 2 384 384))
    ∷ (trip_cycled 8 28 29, cycled 0 (ride 7 9 30 2 384 384))
    ∷ (trip_cycled 9 28 0, cycled 500 (cut 0 142 30 2 4156 1848 2308 0 2))
    ∷ (trip_cycled 10 28 29, cycled 0 (cut 7 9 30 2 384 0 384 0 2))
    ∷ [])
    -- 1,000 m; 1,001 m
    ∷ one (trip 6 30 2 0 0 5) (ride 2 1 30 2 167 167)
    ∷ one (trip 6 30 2 0 0 6) (ride 2 2 30 2 194 194)
    -- 02-28 23:50 to 03-01 00:15, in 2026; in 2028
    ∷ one (offered (stamp 2026 2 28 23 50 1) (stamp 2026 3 1 0 15 1) 2 0 alone 0 2) (ride 2 5 25 2 230 230)
    ∷ one (offered (stamp 2028 2 28 23 50 1) (stamp 2028 3 1 0 15 1) 2 0 alone 0 2) (refused_with 9 0)
    -- 10-25 02:50 summer time to 02:10 winter time; 03-29 01:50 winter time to 03:10 summer time
    ∷ one (offered (stamp 2026 10 25 2 50 2) (stamp 2026 10 25 2 10 1) 2 0 alone 0 2) (ride 2 5 20 2 230 230)
    ∷ one (offered (stamp 2026 3 29 1 50 1) (stamp 2026 3 29 3 10 2) 2 0 alone 0 2) (ride 2 5 20 2 230 230)
    -- region 6, from a stop to itself: 0, 2 and 3 minutes; with a change at that stop, 2 minutes
    ∷ one (trip 6 0 2 0 14 14) (refused_with 17 0)
    ∷ one (trip 6 2 2 0 14 14) (refused_with 17 0)
    ∷ one (trip 6 3 2 0 14 14) (ride 6 0 3 2 173 173)
    ∷ one (along (after 6 0) (after 6 2) 2 0 alone (14 ∷ 14 ∷ 14 ∷ [])) (refused_with 17 0)
    -- the same before the last check-out: in 2 minutes a mistap, in 3 minutes too early
    ∷ day
    ((trip 6 30 2 0 14 15, ride 6 6 30 2 347 347)
    ∷ (trip 6 2 2 0 14 14, refused_with 17 0)
    ∷ (trip 6 3 2 0 14 14, refused_with 10 0)
    ∷ [])
    ∷ []
