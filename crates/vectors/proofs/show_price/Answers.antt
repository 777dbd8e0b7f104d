-- `vectors::show_price` is safe and ends: only a good trip under a faultless file is priced, by the tariff of its window's edition.
use mathlib.Core.Path.{sym, ◌∙◌}
use Rattle.fare.proofs.GoodTrips.{riding, in-order}
use Rattle.deciding.proofs.Decisions.{all_clear}
use Rattle.roll.proofs.Fresh.{fresh_in}
use Rattle.vectors.proofs.show_price.Goals as goal

pub decide-requires : goal.decide-requires
decide-requires g c = record { read = sym c.read_file.ensures ∙ c.in-Faultless.is; sound_book = fresh_in _ }

pub tariff_in-requires : goal.tariff_in-requires
tariff_in-requires g c = sym c.read_file.ensures ∙ c.in-Faultless.is

pub show_rides-requires : goal.show_rides-requires
show_rides-requires g c =
    let read = sym c.read_file.ensures ∙ c.in-Faultless.is in
    let decision = sym c.decide.ensures ∙ c.in-Clear.is in
    let clear = all_clear _ _ _ _ _ _ _ _ (record { read = read; sound_book = fresh_in _ }) decision in
    rw (c.tariff_in.ensures, c.counts_in.ensures)
    (rw clear.trip_is (riding clear.read clear.good), (rw clear.trip_is (in-order clear.good), clear.breaking_is))
