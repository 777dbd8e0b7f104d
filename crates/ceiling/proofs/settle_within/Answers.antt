-- `ceiling::settle_within` meets its contract: a refusal leaves all; else the charges of the records are collected in the month of the check-in.
use mathlib.Core.Path.{sym}
use lib.Seq.{length-take-le}
use Rattle.ceiling.proofs.Outcomes.{refused_within, written, written_within}
use Rattle.ceiling.proofs.settle_within.Goals as goal

pub slice_bounds-settle_under-end : goal.slice_bounds-settle_under-end
slice_bounds-settle_under-end c = c.room_for-room.ensures.range

pub slice_bounds-settle_under-end-2 : goal.slice_bounds-settle_under-end-2
slice_bounds-settle_under-end-2 c = sym (length-take-le c.room_for-room.result c.args.statement.now c.room_for-room.ensures.range)

pub settle_under-requires : goal.settle_under-requires
settle_under-requires c = c.requires.1

pub month_of-month-requires : goal.month_of-month-requires
month_of-month-requires c = (written c.args.due.now (record { read = c.requires.1; there = c.room_for-room.ensures; told = c.settle_under.ensures }) c.in-Written.is).stamped

pub cents_in-charged-requires : goal.cents_in-charged-requires
cents_in-charged-requires c = (written c.args.due.now (record { read = c.requires.1; there = c.room_for-room.ensures; told = c.settle_under.ensures }) c.in-Written.is).records

pub collect-requires : goal.collect-requires
collect-requires c =
    let is = c.in-Written.is in
    (c.requires.0, (written c.args.due.now (record { read = c.requires.1; there = c.room_for-room.ensures; told = c.settle_under.ensures }) is).room_due)

pub returns-in-Refused : goal.returns-in-Refused
returns-in-Refused c = refused_within (record { read = c.requires.1; there = c.room_for-room.ensures; told = c.settle_under.ensures }) c.in-Refused.is

pub returns-in-Written : goal.returns-in-Written
returns-in-Written c =
    let is = c.in-Written.is in
    let month = c.month_of-month.ensures in
    let charged = c.cents_in-charged.ensures in
    written_within (record { read = c.requires.1; there = c.room_for-room.ensures; told = c.settle_under.ensures }) is month charged c.collect.ensures
