-- Each step finds what it asks, since the record says what the part is, and the steps before left the words that it speaks of; and the books follow
-- one another as the definition has them. The loop's invariant: the charges of the groups before the one at hand are added.
use Prim.Native.Nat.{◌+◌}
use native.Mathlib.Omega.{arith}
use mathlib.Core.Path.{ap, ◌∙◌}
use Rattle.ledger.proofs.SoundLaws.{fresh_is}
use Rattle.charging.proofs.ChargeLaws.{ride_book}
use Rattle.posting.proofs.PostSteps.{no_group, group_more, said, head_inside, group_ready, groups_size, covers_ready, all_posted, record_ends}
use Rattle.posting.proofs.post.Goals as goal

pub area_at-at-requires : goal.area_at-at-requires
area_at-at-requires c = head_inside c.requires.postable

pub adults_at-requires : goal.adults_at-requires
adults_at-requires c = head_inside c.requires.postable

pub children_at-children-requires : goal.children_at-children-requires
children_at-children-requires c = head_inside c.requires.postable

pub bicycles_at-bicycles-requires : goal.bicycles_at-bicycles-requires
bicycles_at-bicycles-requires c = head_inside c.requires.postable

pub open_window-requires : goal.open_window-requires
open_window-requires c =
    let p = c.requires.postable in
    let has = ride_book p.rideable in
    (has.size, (fresh_is has, p.few))

pub overflow_add-next : goal.overflow_add-next
overflow_add-next c = omega (arith, head_inside c.requires.postable, c.well_formed)

pub loop-init : goal.loop-init
loop-init c = no_group

pub add_riders-next-requires : goal.add_riders-next-requires
add_riders-next-requires c =
    let ok = c.requires.postable in
    group_ready ok c.args.checkout.0 c.open_window.ensures c.open_window.auto.book (said ok c.area_at-at.ensures (ap (1 +◌) c.adults_at.ensures) c.children_at-children.ensures c.bicycles_at-bicycles.ensures) c.loop-test.true c.loop.invariant

pub loop-smaller : goal.loop-smaller
loop-smaller c = omega (arith, c.loop-test.true)

pub loop-preserved : goal.loop-preserved
loop-preserved c =
    group_more _ _ _ _ _ _ _ _ c.loop-test.true c.loop.invariant
    c.add_riders-next.ensures

pub cover_bicycles-requires : goal.cover_bicycles-requires
cover_bicycles-requires c =
    let ok = c.requires.postable in
    covers_ready ok c.args.checkout.0 c.open_window.ensures c.open_window.auto.book (said ok c.area_at-at.ensures (ap (1 +◌) c.adults_at.ensures) c.children_at-children.ensures c.bicycles_at-bicycles.ensures) c.loop-test.false c.loop.invariant

pub overflow_add-result : goal.overflow_add-result
overflow_add-result c =
    let ok = c.requires.postable in
    let ends =
    record_ends ok c.args.checkout.0 c.open_window.ensures c.open_window.auto.book (said ok c.area_at-at.ensures (ap (1 +◌) c.adults_at.ensures) c.children_at-children.ensures c.bicycles_at-bicycles.ensures) c.loop-test.false
    c.loop.invariant
    in
    omega (arith, ends.1, c.well_formed)

pub shape_of-book : goal.shape_of-book
shape_of-book c =
    let ok = c.requires.postable in
    c.cover_bicycles.auto.book
    ∙ groups_size ok c.args.checkout.0 c.open_window.ensures c.open_window.auto.book (said ok c.area_at-at.ensures (ap (1 +◌) c.adults_at.ensures) c.children_at-children.ensures c.bicycles_at-bicycles.ensures) c.loop.invariant

pub returns : goal.returns
returns c =
    let checkout = c.args.checkout.0 in
    let opens = c.open_window in
    let both = c.loop-test.false in
    let ok = c.requires.postable in
    record {
      next = (record_ends ok checkout opens.ensures opens.auto.book (said ok c.area_at-at.ensures (ap (1 +◌) c.adults_at.ensures) c.children_at-children.ensures c.bicycles_at-bicycles.ensures) both c.loop.invariant).0;
      book_is = λ part ok.
          all_posted ok checkout opens.ensures opens.auto.book (said ok c.area_at-at.ensures (ap (1 +◌) c.adults_at.ensures) c.children_at-children.ensures c.bicycles_at-bicycles.ensures) both c.loop.invariant c.cover_bicycles.ensures;
    }
