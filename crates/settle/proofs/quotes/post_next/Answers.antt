-- `settle::quotes::post_next` meets its contract: a refusal that was decided with room for the largest statement; or what was stated is the quote,
-- and only where the record is the same are its own records posted.
use Prim.Native.Nat.{◌≤◌}
use native.Mathlib.Omega.{arith}
use mathlib.Core.Path.{refl, sym, ◌∙◌}
use lib.ListN.{length}
use lib.Seq.{length-take-le}
use Rattle.settle.proofs.Postings.{posting_refusal_told, posted_refused}
use Rattle.settle.proofs.Answers.{why-refused, slice-near, size-near, records-postable, quote-posted, other-refused}
use Rattle.settle.proofs.quotes.post_next.Goals as goal

pub slice_bounds-quote-end : goal.slice_bounds-quote-end
slice_bounds-quote-end c = omega (arith, (size-near c.requires c.state_trip.ensures c.in-Records.is).1)

pub slice_bounds-same_bytes-end : goal.slice_bounds-same_bytes-end
slice_bounds-same_bytes-end c = sym (length-take-le _ _ (omega (arith, (size-near c.requires c.state_trip.ensures c.in-Records.is).1)))

pub returns-then-not-same_bytes : goal.returns-then-not-same_bytes
returns-then-not-same_bytes c =
    rw c.number-then-not-same_bytes.ensures
    (other-refused c.requires c.state_trip.ensures c.in-Records.is _ refl
    (sym c.same_bytes.ensures ∙ c.if-not-same_bytes.true))

pub slice_bounds-post_records-count : goal.slice_bounds-post_records-count
slice_bounds-post_records-count c =
    let near : (c.in-Records.from ≤ c.in-Records.to)
    × (c.in-Records.to ≤ length c.args.file.now) = slice-near c.requires c.state_trip.ensures c.in-Records.is in
    near.0

pub slice_bounds-post_records-start : goal.slice_bounds-post_records-start
slice_bounds-post_records-start c =
    let near : (c.in-Records.from ≤ c.in-Records.to)
    × (c.in-Records.to ≤ length c.args.file.now) = slice-near c.requires c.state_trip.ensures c.in-Records.is in
    omega (arith, near.0, near.1)

pub slice_bounds-post_records-end : goal.slice_bounds-post_records-end
slice_bounds-post_records-end c =
    let near : (c.in-Records.from ≤ c.in-Records.to)
    × (c.in-Records.to ≤ length c.args.file.now) = slice-near c.requires c.state_trip.ensures c.in-Records.is in
    omega (arith, near.0, near.1)

pub post_records-requires : goal.post_records-requires
post_records-requires c = records-postable c.requires c.state_trip.ensures c.in-Records.is

pub returns-in-Refused : goal.returns-in-Refused
returns-in-Refused c =
    let decided = (why-refused c.state_trip.ensures c.in-Refused.is).0 in
    posting_refusal_told _ _ _ 0 (rw c.number.ensures (posted_refused _ _ _ _ _ decided)) (omega arith)

pub returns-else-not-same_bytes : goal.returns-else-not-same_bytes
returns-else-not-same_bytes c =
    quote-posted c.requires c.state_trip.ensures c.in-Records.is _ refl
    (sym c.same_bytes.ensures ∙ c.if-not-same_bytes.false) c.post_records.ensures
