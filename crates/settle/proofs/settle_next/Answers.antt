-- `settle::settle_next` meets its contract: a refusal leaves everything, and the records that were stated are posted as the accepted outcome.
use Prim.Native.Nat.{◌≤◌}
use native.Mathlib.Omega.{arith}
use lib.ListN.{length}
use Rattle.settle.proofs.Ways.{refusal_told, refused_under}
use Rattle.settle.proofs.Answers.{why-refused, slice-near, records-postable, settled-told}
use Rattle.settle.proofs.settle_next.Goals as goal

pub slice_bounds-post_records-count : goal.slice_bounds-post_records-count
slice_bounds-post_records-count c =
    let near : (c.in-Records.from ≤ c.in-Records.to)
    × (c.in-Records.to ≤ length c.args.file.now) = slice-near c.requires c.state_trip.ensures c.in-Records.is in
    near.0

pub slice_bounds-post_records-start : goal.slice_bounds-post_records-start
slice_bounds-post_records-start c =
    let near : (c.in-Records.from ≤ c.in-Records.to)
    × (c.in-Records.to ≤ length c.args.file.now) = slice-near c.requires c.state_trip.ensures c.in-Records.is in
    omega (arith, near.0, near.1)

pub slice_bounds-post_records-end : goal.slice_bounds-post_records-end
slice_bounds-post_records-end c =
    let near : (c.in-Records.from ≤ c.in-Records.to)
    × (c.in-Records.to ≤ length c.args.file.now) = slice-near c.requires c.state_trip.ensures c.in-Records.is in
    omega (arith, near.0, near.1)

pub post_records-requires : goal.post_records-requires
post_records-requires c = records-postable c.requires c.state_trip.ensures c.in-Records.is

pub returns-in-Refused : goal.returns-in-Refused
returns-in-Refused c =
    let (decided, same) = why-refused c.state_trip.ensures c.in-Refused.is in
    record {
      told = rw same (refusal_told _ _ _ _ 0 (rw c.number.ensures (refused_under _ _ _ _ _ decided)) (omega arith));
      sound_again = c.requires.sound_book;
    }

pub returns-in-Records : goal.returns-in-Records
returns-in-Records c = settled-told c.requires c.state_trip.ensures c.in-Records.is c.post_records.ensures
