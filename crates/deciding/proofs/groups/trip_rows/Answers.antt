-- `deciding::groups::trip_rows` meets its contract: each early return is a row that holds, and what goes on behind it has skipped that row.
use native.Mathlib.Omega.{arith}
use mathlib.Core.Path.{◌≡◌, sym, ap, ◌∙◌}
use mathlib.Core.Bool.{not}
use lib.ListN.{drop}
use Rattle.trip.specs.Record.{class_at, level_at, party_at, count_at}
use Rattle.trip.specs.Trips.{party_right}
use Rattle.trip.proofs.Shapes.{Filling, whole_fills, whole_none}
use Rattle.deciding.specs.declared.groups.Formed.TheVariants.{Refused}
use Rattle.deciding.specs.Refusals.{trip_rows, first_of}
use Rattle.deciding.specs.Deciding.{formed_by}
use Rattle.deciding.proofs.Rows.{comes_refused, comes_clear, skip, stop, end}
use Rattle.deciding.proofs.groups.trip_rows.Goals as goal

pub returns-in_default : goal.returns-in_default
unfolding formed_by
returns-in_default c = sym (comes_refused Refused _ (stop _ _ (ap not (whole_none _ (sym c.whole_trip.ensures ∙ c.in_default.is)))))

pub class_at-class-requires : goal.class_at-class-requires
class_at-class-requires c =
    let fills : Filling c.args.trip.now c.in-Stops.stops = whole_fills _ _ (sym c.whole_trip.ensures ∙ c.in-Stops.is) in
    omega (arith, fills.size)

pub level_at-level-requires : goal.level_at-level-requires
level_at-level-requires c =
    let fills : Filling c.args.trip.now c.in-Stops.stops = whole_fills _ _ (sym c.whole_trip.ensures ∙ c.in-Stops.is) in
    omega (arith, fills.size)

pub party_at-party-requires : goal.party_at-party-requires
party_at-party-requires c =
    let fills : Filling c.args.trip.now c.in-Stops.stops = whole_fills _ _ (sym c.whole_trip.ensures ∙ c.in-Stops.is) in
    omega (arith, fills.size)

pub returns-then-not-party_right : goal.returns-then-not-party_right
unfolding formed_by
returns-then-not-party_right c =
    let fills : Filling c.args.trip.now c.in-Stops.stops = whole_fills _ _ (sym c.whole_trip.ensures ∙ c.in-Stops.is) in
    let party : let trip = c.args.trip.now in
    party_right (class_at trip 0) (level_at trip 0) (party_at trip 0) (count_at trip 0) ≡ c.party_right.result = rw (fills.count, ← c.class_at-class.ensures, ← c.level_at-level.ensures, ← c.party_at-party.ensures)
    (sym c.party_right.ensures) in
    let past_5 : let table = trip_rows c.args.trip.now in first_of table ≡ first_of (drop 1 table) = skip _ _ (ap not fills.is) in
    sym (comes_refused Refused _ (past_5 ∙ stop _ _ (ap not (party ∙ c.if-not-party_right.true))))

pub returns : goal.returns
unfolding formed_by
returns c =
    let fills : Filling c.args.trip.now c.in-Stops.stops = whole_fills _ _ (sym c.whole_trip.ensures ∙ c.in-Stops.is) in
    let party : let trip = c.args.trip.now in
    party_right (class_at trip 0) (level_at trip 0) (party_at trip 0) (count_at trip 0) ≡ c.party_right.result = rw (fills.count, ← c.class_at-class.ensures, ← c.level_at-level.ensures, ← c.party_at-party.ensures)
    (sym c.party_right.ensures) in
    let past_5 : let table = trip_rows c.args.trip.now in first_of table ≡ first_of (drop 1 table) = skip _ _ (ap not fills.is) in
    let clear = past_5 ∙ skip _ _ (ap not (party ∙ c.if-not-party_right.false)) ∙ end in
    rw (
      comes_clear Refused _ clear,
      fills.count,
      ← c.class_at-class.ensures,
      ← c.level_at-level.ensures,
      ← c.party_at-party.ensures,
    )
