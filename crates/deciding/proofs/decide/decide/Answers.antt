-- `deciding::decide::decide` meets its contract: a group that refuses has the table's first row that holds, and what goes on behind it has
-- passed the group's rows.
use Prim.Native.Nat.{ℕ}
use mathlib.Core.Path.{◌≡◌, sym, ap, ◌∙◌}
use mathlib.Core.Bool.{true}
use mathlib.Core.List.{List}
use lib.ListN.{drop}
use Rattle.editions.specs.declared.Editions.{Editions}
use Rattle.editions.proofs.Parts.{edition_read}
use Rattle.ledger.specs.declared.Window.{Window}
use Rattle.ledger.proofs.SoundLaws.{alone_sized}
use Rattle.trip.specs.Record.{count_at}
use Rattle.fare.specs.declared.Breaking.{Breaking}
use Rattle.fare.specs.Parts.{break_of}
use Rattle.deciding.specs.declared.groups.Fields.{Fields}
use Rattle.deciding.specs.declared.groups.Span.{Span}
use Rattle.deciding.specs.Refusals.{
  Row,
  sound_in,
  window_in,
  tariff_for,
  counts_for,
  trip_rows,
  clock_rows,
  edition_rows,
  tariff_rows,
  rows,
  first_of,
  nothing,
}
use Rattle.deciding.specs.Deciding.{fields_of, span_of, placed_by, opened_by, room_rows_by}
use Rattle.deciding.proofs.Rows.{skip, earlier_decides, later_decides}
use Rattle.deciding.proofs.RowGroups.{
  refused_formed,
  as_formed,
  well_formed,
  refused_timed,
  over_timed,
  refused_opened,
  in-opened,
  refused_placed,
  broken_placed,
  refused_roomed,
  enough_roomed,
  last_rows,
}
use Rattle.deciding.proofs.Decisions.{in-alone, refused_first, clear_with, trips_most}
use Rattle.deciding.proofs.decide.decide.Goals as goal

-- the first rows of a table do not hold
abbrev Past : ℕ → List Row → Type 0
Past k table = first_of table ≡ first_of (drop k table)

-- Past each group of the table's rows, where none of them holds.
module _ (file : List ℕ) (editions : Editions) (book trip : List ℕ) (room : ℕ) (sound : sound_in editions book ≡ true) where
  past_4 : Past 1 (rows file editions book trip room)
  unfolding rows
  past_4 = skip _ _ (rw sound)

  module _ (own : first_of (trip_rows trip) ≡ nothing) where
    past_trip : Past 3 (rows file editions book trip room)
    unfolding rows
    past_trip = past_4 ∙ later_decides _ _ own

    module _ (clock : first_of (clock_rows book trip) ≡ nothing) where
      past_clock : Past 7 (rows file editions book trip room)
      unfolding rows
      past_clock = past_trip ∙ later_decides _ _ clock

      module _ (edition : first_of (edition_rows (window_in editions book trip)) ≡ nothing) where
        past_edition : Past 8 (rows file editions book trip room)
        unfolding rows
        past_edition = past_clock ∙ later_decides _ _ edition

        module _ (places : first_of (tariff_rows (tariff_for file editions book trip) (counts_for editions book trip) trip) ≡ nothing) where
          past_tariff : Past 10 (rows file editions book trip room)
          unfolding rows
          past_tariff = past_edition ∙ later_decides _ _ places

          -- what is left are the rows of room, of what the groups have found
          past_rest :
              (fields : Fields) (window : Window) (breaking : Breaking) → fields ≡ fields_of trip → window ≡ window_in editions book trip
              → breaking ≡ break_of (tariff_for file editions book trip) (counts_for editions book trip) trip (count_at trip 0)
              → first_of (rows file editions book trip room) ≡ first_of (room_rows_by window breaking fields.party room)
          unfolding rows
          past_rest fields window breaking fields_are window_is breaking_is =
              past_tariff
              ∙ ap first_of (last_rows _ _ _ _ (window_in editions book trip) fields_are breaking_is)
              ∙ ap (λ (w : Window). first_of (room_rows_by w breaking fields.party room)) (sym window_is)

-- the group of the edition was asked of the trip's own times
asked :
    (editions : Editions) (book trip : List ℕ) (span : Span) → span ≡ span_of trip
    → opened_by editions book (span_of trip) ≡ opened_by editions book span
asked editions book trip span is = ap (λ (s : Span). opened_by editions book s) (sym is)

pub returns-in-Refused : goal.returns-in-Refused
unfolding rows
returns-in-Refused c =
    sym
    (refused_first _ _ _ _ _
    (past_4 _ _ _ _ _ c.requires.sound_book ∙ earlier_decides _ _ (refused_formed _ (sym c.trip_rows.ensures ∙ c.in-Refused.is))))

pub clock_rows-requires : goal.clock_rows-requires
clock_rows-requires c =
    let (own, fields_are) = as_formed _ (sym c.trip_rows.ensures ∙ c.in-As.is) in
    (alone_sized _ (in-alone _ _ c.requires.sound_book), well_formed _ own fields_are)

pub returns-in-Refused-clock_rows : goal.returns-in-Refused-clock_rows
unfolding rows
returns-in-Refused-clock_rows c =
    let (own, fields_are) = as_formed _ (sym c.trip_rows.ensures ∙ c.in-As.is) in
    sym
    (refused_first _ _ _ _ _
    (past_trip _ _ _ _ _ c.requires.sound_book own
    ∙ earlier_decides _ _ (refused_timed _ _ (sym c.clock_rows.ensures ∙ c.in-Refused-clock_rows.is))))

pub edition_rows-requires : goal.edition_rows-requires
edition_rows-requires c = c.requires.sound_book

pub returns-in-Refused-edition_rows : goal.returns-in-Refused-edition_rows
unfolding rows
returns-in-Refused-edition_rows c =
    let (own, fields_are) = as_formed _ (sym c.trip_rows.ensures ∙ c.in-As.is) in
    let (clock, span_is) = over_timed _ _ (sym c.clock_rows.ensures ∙ c.in-Over.is) in
    let opened = asked _ _ _ c.in-Over.span span_is ∙ sym c.edition_rows.ensures in
    sym
    (refused_first _ _ _ _ _
    (past_clock _ _ _ _ _ c.requires.sound_book own clock
    ∙ earlier_decides _ _ (refused_opened _ _ _ (opened ∙ c.in-Refused-edition_rows.is))))

pub tariff_in-tariff-requires : goal.tariff_in-tariff-requires
tariff_in-tariff-requires c = c.requires.read

pub tariff_rows-requires : goal.tariff_rows-requires
tariff_rows-requires c =
    let (own, fields_are) = as_formed _ (sym c.trip_rows.ensures ∙ c.in-As.is) in
    (rw (c.tariff_in-tariff.ensures, c.counts_in-counts.ensures) (edition_read _ _ c.requires.read _), well_formed _ own fields_are)

pub returns-in-Refused-tariff_rows : goal.returns-in-Refused-tariff_rows
unfolding rows
returns-in-Refused-tariff_rows c =
    let a = c.args in
    let (own, fields_are) = as_formed _ (sym c.trip_rows.ensures ∙ c.in-As.is) in
    let (clock, span_is) = over_timed _ _ (sym c.clock_rows.ensures ∙ c.in-Over.is) in
    let (edition, window_is) = in-opened _ _ _ (asked _ _ _ c.in-Over.span span_is ∙ sym c.edition_rows.ensures ∙ c.in-In.is) in
    let looked : placed_by (tariff_for a.file.now a.editions a.book.now a.trip.now) (counts_for a.editions a.book.now a.trip.now) a.trip.now
    ≡ c.tariff_rows.result = rw (← window_is, ← c.tariff_in-tariff.ensures, ← c.counts_in-counts.ensures) (sym c.tariff_rows.ensures) in
    sym
    (refused_first _ _ _ _ _
    (past_edition _ _ _ _ _ c.requires.sound_book own clock edition
    ∙ earlier_decides _ _ (refused_placed _ _ _ (looked ∙ c.in-Refused-tariff_rows.is))))

pub room_rows-requires : goal.room_rows-requires
room_rows-requires c =
    let (clock, span_is) = over_timed _ _ (sym c.clock_rows.ensures ∙ c.in-Over.is) in
    let (edition, window_is) = in-opened _ _ _ (asked _ _ _ c.in-Over.span span_is ∙ sym c.edition_rows.ensures ∙ c.in-In.is) in
    rw window_is (trips_most _ _ c.args.trip.now c.requires.sound_book)

pub returns-in-Refused-room_rows : goal.returns-in-Refused-room_rows
returns-in-Refused-room_rows c =
    let a = c.args in
    let (own, fields_are) = as_formed _ (sym c.trip_rows.ensures ∙ c.in-As.is) in
    let (clock, span_is) = over_timed _ _ (sym c.clock_rows.ensures ∙ c.in-Over.is) in
    let (edition, window_is) = in-opened _ _ _ (asked _ _ _ c.in-Over.span span_is ∙ sym c.edition_rows.ensures ∙ c.in-In.is) in
    let looked : placed_by (tariff_for a.file.now a.editions a.book.now a.trip.now) (counts_for a.editions a.book.now a.trip.now) a.trip.now
    ≡ c.tariff_rows.result = rw (← window_is, ← c.tariff_in-tariff.ensures, ← c.counts_in-counts.ensures) (sym c.tariff_rows.ensures) in
    let (places, breaking_is) = broken_placed _ _ _ (looked ∙ c.in-Broken.is) in
    sym
    (refused_first _ _ _ _ _
    (past_rest _ _ _ _ _ c.requires.sound_book own clock edition places _ _ _ fields_are window_is breaking_is
    ∙ refused_roomed _ _ _ _ (sym c.room_rows.ensures ∙ c.in-Refused-room_rows.is)))

pub returns-in-Enough : goal.returns-in-Enough
returns-in-Enough c =
    let a = c.args in
    let (own, fields_are) = as_formed _ (sym c.trip_rows.ensures ∙ c.in-As.is) in
    let (clock, span_is) = over_timed _ _ (sym c.clock_rows.ensures ∙ c.in-Over.is) in
    let (edition, window_is) = in-opened _ _ _ (asked _ _ _ c.in-Over.span span_is ∙ sym c.edition_rows.ensures ∙ c.in-In.is) in
    let looked : placed_by (tariff_for a.file.now a.editions a.book.now a.trip.now) (counts_for a.editions a.book.now a.trip.now) a.trip.now
    ≡ c.tariff_rows.result = rw (← window_is, ← c.tariff_in-tariff.ensures, ← c.counts_in-counts.ensures) (sym c.tariff_rows.ensures) in
    let (places, breaking_is) = broken_placed _ _ _ (looked ∙ c.in-Broken.is) in
    let clear = enough_roomed _ _ _ _ (sym c.room_rows.ensures ∙ c.in-Enough.is) in
    rw c.trip_of.ensures
    (clear_with _ _ _ _ _
    (past_rest _ _ _ _ _ c.requires.sound_book own clock edition places _ _ _ fields_are window_is breaking_is ∙ clear) fields_are span_is window_is
    breaking_is)
