-- `deciding::groups::tariff_rows` meets its contract: each early return is a row that holds, and what goes on behind it has skipped that row.
use native.Mathlib.Nat.{le_of_eq}
use mathlib.Core.Path.{◌≡◌, sym, ap, ◌∙◌}
use mathlib.Core.Bool.{not}
use lib.ListN.{drop}
use Rattle.trip.specs.Record.{count_at}
use Rattle.trip.specs.Trips.{stops_known, trip_of}
use Rattle.trip.proofs.Ranges.{party_ranges}
use Rattle.fare.specs.Towns.{town_refuses}
use Rattle.fare.specs.Clauses.{Riding}
use Rattle.deciding.specs.declared.groups.Fields.{Fields}
use Rattle.deciding.specs.declared.groups.Placed.TheVariants.{Refused}
use Rattle.deciding.specs.Refusals.{tariff_rows, first_of}
use Rattle.deciding.specs.Deciding.{placed_by}
use Rattle.deciding.proofs.Rows.{comes_refused, comes_clear, skip, stop, end}
use Rattle.deciding.proofs.RowGroups.{filling}
use Rattle.deciding.proofs.groups.tariff_rows.Goals as goal

pub stops_known-requires : goal.stops_known-requires
stops_known-requires c = le_of_eq (filling c.requires.1).size

pub returns-then-not-stops_known : goal.returns-then-not-stops_known
unfolding placed_by
returns-then-not-stops_known c =
    let stops : stops_known c.args.trip.now (count_at c.args.trip.now 0) c.args.counts.stops ≡ c.stops_known.result = rw (filling c.requires.1).count (sym c.stops_known.ensures) in
    sym (comes_refused Refused _ (stop _ _ (ap not (stops ∙ c.if-not-stops_known.true))))

pub break_of-breaking-requires : goal.break_of-breaking-requires
break_of-breaking-requires c =
    let riding : Riding c.args.tariff.now c.args.counts c.args.trip.now c.args.fields.stops = record {
      read = c.requires.0;
      known = sym c.stops_known.ensures ∙ c.if-not-stops_known.false;
      fits = le_of_eq (filling c.requires.1).size;
    } in
    riding

pub town_refuses-requires : goal.town_refuses-requires
town_refuses-requires c =
    let riding : Riding c.args.tariff.now c.args.counts c.args.trip.now c.args.fields.stops = record {
      read = c.requires.0;
      known = sym c.stops_known.ensures ∙ c.if-not-stops_known.false;
      fits = le_of_eq (filling c.requires.1).size;
    } in
    (riding, ((party_ranges _ _ _ _ c.requires.1.party).least, c.break_of-breaking.ensures))

pub returns-then-town_refuses : goal.returns-then-town_refuses
unfolding placed_by
returns-then-town_refuses c =
    let town : town_refuses c.args.tariff.now c.args.counts c.args.trip.now (trip_of c.args.trip.now) ≡ c.town_refuses.result = let formed = c.requires.1 in
    sym (c.town_refuses.ensures.value (trip_of _) (ap (λ (f : Fields). f.stops) (sym formed.fields_are)) (ap (λ (f : Fields). f.class) (sym formed.fields_are))) in
    let stops : stops_known c.args.trip.now (count_at c.args.trip.now 0) c.args.counts.stops ≡ c.stops_known.result = rw (filling c.requires.1).count (sym c.stops_known.ensures) in
    let past-7 : let table = tariff_rows c.args.tariff.now c.args.counts c.args.trip.now in first_of table ≡ first_of (drop 1 table) = skip _ _ (ap not (stops ∙ c.if-not-stops_known.false)) in
    sym (comes_refused Refused _ (past-7 ∙ stop _ _ (town ∙ c.if-town_refuses.true)))

pub returns : goal.returns
unfolding placed_by
returns c =
    let town : town_refuses c.args.tariff.now c.args.counts c.args.trip.now (trip_of c.args.trip.now) ≡ c.town_refuses.result = let formed = c.requires.1 in
    sym (c.town_refuses.ensures.value (trip_of _) (ap (λ (f : Fields). f.stops) (sym formed.fields_are)) (ap (λ (f : Fields). f.class) (sym formed.fields_are))) in
    let stops : stops_known c.args.trip.now (count_at c.args.trip.now 0) c.args.counts.stops ≡ c.stops_known.result = rw (filling c.requires.1).count (sym c.stops_known.ensures) in
    let past-7 : let table = tariff_rows c.args.tariff.now c.args.counts c.args.trip.now in first_of table ≡ first_of (drop 1 table) = skip _ _ (ap not (stops ∙ c.if-not-stops_known.false)) in
    let clear = past-7 ∙ skip _ _ (town ∙ c.if-town_refuses.false) ∙ end in
    rw (comes_clear Refused _ clear, (filling c.requires.1).count, ← c.break_of-breaking.ensures.value)
