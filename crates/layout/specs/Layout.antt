-- Rules, sections 3 and 4: a tariff is its area records, then its factor records, then its stop records. How long each is and where each
-- begins. An area record has one of two lengths, by its kind, so an area is found from the one before it; where the areas end, and what is
-- behind them, is found by the counts. No other crate but scan, which goes from record to record, knows how long one is.
use Rattle.std.specs.Prelude.{ℕ, zero, suc, ◌+◌, ◌-◌, ◌*◌, ◌^◌, List, cond, eqb}
use Rattle.std.specs.Int.Count.{ones}
use Rattle.wire.specs.Number.{get_le}
use Rattle.wire.specs.Frame.{head_size, longest_record}
use Rattle.layout.specs.declared.Counts.{Counts}

-- the two kinds of area record
abbrev pub common_kind : ℕ
common_kind = 1

abbrev pub aachen_kind : ℕ
aachen_kind = 8

-- an area record (kind 1), a factor record (kind 5) and a stop record (kind 2): its body's bytes, and with the head the whole record's
abbrev pub area_body : ℕ
area_body = 25

abbrev pub area_size : ℕ
area_size = head_size + area_body

abbrev pub factor_body : ℕ
factor_body = 2

abbrev pub factor_size : ℕ
factor_size = head_size + factor_body

abbrev pub stop_body : ℕ
stop_body = 9

abbrev pub stop_size : ℕ
stop_size = head_size + stop_body

-- an area record of kind 8 has the same 25 bytes and 13 more: five child tickets of 2, the bicycle price of 2 and the town mark of 1
abbrev pub long_more : ℕ
long_more = 13

-- of an area record of some kind: 1 where it is the longer one, else 0
unfoldable pub long_of : ℕ → ℕ
long_of kind = cond (eqb kind aachen_kind) 1 0

abbrev pub area_body_of : ℕ → ℕ
area_body_of kind = area_body + long_more * long_of kind

-- 1 to 32 areas, 0 to 1,000 stops; a factor record for the state and each region, so for an area each at most
abbrev pub most_areas : ℕ
most_areas = 32

abbrev pub most_stops : ℕ
most_stops = 1000

-- the kind of the record at a place
abbrev pub kind_at : List ℕ → ℕ → ℕ
kind_at b at = get_le 2 b (at + 2)

-- where the area record at a place ends
abbrev pub area_end : List ℕ → ℕ → ℕ
area_end b at = at + head_size + area_body_of (kind_at b at)

-- areas are numbered from 0 in order; so area `number` begins here: the first at the tariff's start, each other where the one before it ends
unfoldable pub area_place : List ℕ → ℕ → ℕ
area_place b zero = 0
area_place b (suc number) = area_end b (area_place b number)

-- which of the first areas are of kind 8, a binary digit for each: that of area i counts 2 ^ i
unfoldable pub long_bits : List ℕ → ℕ → ℕ
long_bits b zero = 0
long_bits b (suc number) = long_of (kind_at b (area_place b number)) * 2 ^ number + long_bits b number

-- where the areas end: as many digits are ones as areas are of kind 8
abbrev pub areas_end : Counts → ℕ
areas_end counts = area_size * counts.areas + long_more * ones counts.longs

-- factor records follow the areas, numbered from 0 in order
abbrev pub factor_place : Counts → ℕ → ℕ
factor_place counts number = areas_end counts + factor_size * number

-- stops follow the factor records, numbered from 0 in order
abbrev pub stop_place : Counts → ℕ → ℕ
stop_place counts number = areas_end counts + factor_size * counts.factors + stop_size * number

-- where the stops end, and so a tariff
abbrev pub tariff_size : Counts → ℕ
tariff_size counts = stop_place counts counts.stops

-- the longest tariff, in which every area but the state is of kind 8, and the bytes that decide what any is read as: a record too many
-- follows it
abbrev pub longest_tariff : ℕ
longest_tariff = area_size * most_areas + long_more * (most_areas - 1) + factor_size * most_areas + stop_size * most_stops

abbrev pub deciding_bytes : ℕ
deciding_bytes = longest_tariff + longest_record

-- the counts so far, where areas alone go before; where some factor records, or some stops, of the whole go before; and with an area of
-- some kind, so many factor records or so many stops more
abbrev pub areas_before : List ℕ → ℕ → Counts
areas_before b number = record { areas = number; longs = long_bits b number; factors = 0; stops = 0 }

abbrev pub factors_before : Counts → ℕ → Counts
factors_before counts number = record { areas = counts.areas; longs = counts.longs; factors = number; stops = 0 }

abbrev pub stops_before : Counts → ℕ → Counts
stops_before counts number = record { areas = counts.areas; longs = counts.longs; factors = counts.factors; stops = number }

abbrev pub one_area : Counts → ℕ → Counts
one_area so_far kind =
    record { areas = so_far.areas + 1; longs = long_of kind * 2 ^ so_far.areas + so_far.longs; factors = so_far.factors; stops = so_far.stops }

abbrev pub more_factors : Counts → ℕ → Counts
more_factors so_far n = record { areas = so_far.areas; longs = so_far.longs; factors = so_far.factors + n; stops = so_far.stops }

abbrev pub more_stops : Counts → ℕ → Counts
more_stops so_far n = record { areas = so_far.areas; longs = so_far.longs; factors = so_far.factors; stops = so_far.stops + n }
