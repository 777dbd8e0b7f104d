-- `settle::records::post_records` meets its contract: at each turn records of some rides are left, on the book that the ones before them left.
use native.Mathlib.Omega.{arith}
use mathlib.Core.Path.{refl}
use borrow.Author.Rules.{rules}
use Rattle.settle.proofs.Turns.{nothing_posted, turn_postable, turn_goes, turn_left, all_posted}
use Rattle.settle.proofs.records.post_records.Goals as goal

pub loop-next-init : goal.loop-next-init
loop-next-init c = (nothing_posted _ _, refl)

pub post-next-requires : goal.post-next-requires
post-next-requires c =
    let ok = c.requires in
    (turn_postable (c.loop-next.invariant.0.left ok.rides ok.postable).postable c.loop-next-test.true).0

pub one_more-within-requires : goal.one_more-within-requires
one_more-within-requires c =
    let ok = c.requires in
    (turn_postable (c.loop-next.invariant.0.left ok.rides ok.postable).postable c.loop-next-test.true).1

pub loop-next-smaller : goal.loop-next-smaller
loop-next-smaller c =
    let ok = c.requires in
    let goes = turn_goes c.loop-next-test.true c.post-next.ensures (c.loop-next.invariant.0.left ok.rides ok.postable).postable in
    omega (arith, goes.0, goes.1)

pub loop-next-preserved : goal.loop-next-preserved
loop-next-preserved c = (turn_left c.loop-next-test.true c.post-next.ensures c.one_more-within.ensures c.loop-next.invariant.0, search rules)

pub shape_of-book : goal.shape_of-book
shape_of-book c = c.loop-next.invariant.1

pub returns : goal.returns
returns c = all_posted c.loop-next.invariant.0 c.loop-next-test.false
