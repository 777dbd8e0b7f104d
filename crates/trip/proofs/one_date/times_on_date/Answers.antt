-- `trip::one_date::times_on_date` meets its contract: both stamps are what the calendar makes of their fields, and their dates start at the same
-- minute.
use mathlib.Core.Path.{◌≡◌, sym, ap, ◌∙◌}
use mathlib.Core.Bool.{true}
use Rattle.calendar.specs.Stamps.{is_stamp, minute_number}
use Rattle.trip.specs.Record.{checkin_place, checkout_place}
use Rattle.trip.specs.Moments.{stamp_at}
use Rattle.trip.specs.Clauses.{made_at}
use Rattle.trip.specs.declared.Moment.TheVariants.{At}
use Rattle.trip.proofs.Stamps.{made_good, made_refused, moment_is, no_moment, no_checkin, no_checkout, two_moments}
use Rattle.trip.proofs.OneDate.{made_on_date, one_midnight}
use Rattle.trip.proofs.one_date.times_on_date.Goals as goal

pub returns-in_default : goal.returns-in_default
returns-in_default c = sym (no_checkin _ (no_moment _ _ (made_refused _ _ (sym c.stamp_at.ensures ∙ c.in_default.is))))

pub on_date-requires : goal.on_date-requires
on_date-requires c =
    let first : (is_stamp (stamp_at c.args.trip.now checkin_place) ≡ true)
    × (stamp_at c.args.trip.now checkin_place ≡ c.in-Good.first) = made_good _ _ _ (sym c.stamp_at.ensures ∙ c.in-Good.is) in
    let (is, same) = first in rw (← same) is

pub returns-in_default-on_date : goal.returns-in_default-on_date
returns-in_default-on_date c =
    let first : (is_stamp (stamp_at c.args.trip.now checkin_place) ≡ true)
    × (stamp_at c.args.trip.now checkin_place ≡ c.in-Good.first) = made_good _ _ _ (sym c.stamp_at.ensures ∙ c.in-Good.is) in
    let made : c.on_date.result ≡ made_at c.args.trip.now checkout_place = c.on_date.ensures
    ∙ rw (c.one_at-hour.ensures.value, c.one_at-minute.ensures.value, c.one_at-offset.ensures.value)
    (made_on_date c.args.trip.now c.requires.1 _ first.1) in
    sym (no_checkout _ (no_moment _ _ (made_refused _ _ (sym made ∙ c.in_default-on_date.is))))

pub midnight-midnight-requires : goal.midnight-midnight-requires
midnight-midnight-requires c =
    let first : (is_stamp (stamp_at c.args.trip.now checkin_place) ≡ true)
    × (stamp_at c.args.trip.now checkin_place ≡ c.in-Good.first) = made_good _ _ _ (sym c.stamp_at.ensures ∙ c.in-Good.is) in
    let (is, same) = first in rw (← same) is

pub minutes_from-requires : goal.minutes_from-requires
minutes_from-requires c =
    let first : (is_stamp (stamp_at c.args.trip.now checkin_place) ≡ true)
    × (stamp_at c.args.trip.now checkin_place ≡ c.in-Good.first) = made_good _ _ _ (sym c.stamp_at.ensures ∙ c.in-Good.is) in
    let (is, same) = first in
    (rw (← same) is, c.midnight-midnight.ensures)

pub minutes_from-requires-2 : goal.minutes_from-requires-2
minutes_from-requires-2 c =
    let first : (is_stamp (stamp_at c.args.trip.now checkin_place) ≡ true)
    × (stamp_at c.args.trip.now checkin_place ≡ c.in-Good.first) = made_good _ _ _ (sym c.stamp_at.ensures ∙ c.in-Good.is) in
    let made : c.on_date.result ≡ made_at c.args.trip.now checkout_place = c.on_date.ensures
    ∙ rw (c.one_at-hour.ensures.value, c.one_at-minute.ensures.value, c.one_at-offset.ensures.value)
    (made_on_date c.args.trip.now c.requires.1 _ first.1) in
    let last : (is_stamp (stamp_at c.args.trip.now checkout_place) ≡ true)
    × (stamp_at c.args.trip.now checkout_place ≡ c.in-Good-on_date.last) = made_good _ _ _ (sym made ∙ c.in-Good-on_date.is) in
    let (is, same) = last in (
      rw (← same) is,
      c.midnight-midnight.ensures
          ∙ one_midnight c.args.trip.now c.requires.1 _ first.1 _ same,
    )

pub returns : goal.returns
returns c =
    let first : (is_stamp (stamp_at c.args.trip.now checkin_place) ≡ true)
    × (stamp_at c.args.trip.now checkin_place ≡ c.in-Good.first) = made_good _ _ _ (sym c.stamp_at.ensures ∙ c.in-Good.is) in
    let made : c.on_date.result ≡ made_at c.args.trip.now checkout_place = c.on_date.ensures
    ∙ rw (c.one_at-hour.ensures.value, c.one_at-minute.ensures.value, c.one_at-offset.ensures.value)
    (made_on_date c.args.trip.now c.requires.1 _ first.1) in
    let last : (is_stamp (stamp_at c.args.trip.now checkout_place) ≡ true)
    × (stamp_at c.args.trip.now checkout_place ≡ c.in-Good-on_date.last) = made_good _ _ _ (sym made ∙ c.in-Good-on_date.is) in
    let (from_is, from) = first in
    let (to_is, to) = last in
    sym
    (two_moments _ _ _
    (moment_is _ _ from_is ∙ ap (λ x. At (record { 0 = x })) (ap minute_number from ∙ sym c.minutes_from.ensures.value))
    (moment_is _ _ to_is ∙ ap (λ x. At (record { 0 = x })) (ap minute_number to ∙ sym c.minutes_from-2.ensures.value)))
