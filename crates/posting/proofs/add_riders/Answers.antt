-- Each turn adds one rider's charge on the way up, which leaves the sums of the riders to come as they were.
use native.Mathlib.Omega.{arith}
use mathlib.Core.Path.{sym, ap, ◌∙◌}
use Rattle.wire.specs.Number.{get_le}
use Rattle.areas.proofs.Faultless.{faultless}
use Rattle.posting.proofs.PostTurns.{riders_start, riders_turn, riders_end, riders_none}
use Rattle.posting.proofs.add_riders.Goals as goal

pub returns-then-count-eq0 : goal.returns-then-count-eq0
returns-then-count-eq0 c =
    let a = c.args in
    riders_none a.tariff.now a.counts a.book.now a.class a.at a.first a.count a.statement.now a.place c.if-count-eq0.true

pub way_of-way-requires : goal.way_of-way-requires
way_of-way-requires c = let p = c.requires in (p.read, p.area)

pub loop-i-init : goal.loop-i-init
loop-i-init c = riders_start c.requires.size c.requires.room

pub four_at-requires : goal.four_at-requires
four_at-requires c = omega (arith, c.loop-i.invariant.next_is, c.loop-i-test.true, c.requires.there)

pub overflow_add-first : goal.overflow_add-first
overflow_add-first c = omega (arith, c.requires.known)

pub add_up-requires : goal.add_up-requires
add_up-requires c =
    let p = c.requires in
    let l = c.loop-i in
    let more = c.loop-i-test.true in
    let amount = c.four_at.ensures.value ∙ ap (get_le 4 _) l.invariant.next_is in
    record {
      size = l.invariant.size;
      known = omega (arith, p.known);
      range = rw amount (p.range l.i more);
      room = l.invariant.room l.i (omega arith) more;
      apart = c.way_of-way.ensures.apart;
    }

pub overflow_add-next : goal.overflow_add-next
overflow_add-next c = omega (arith, c.loop-i.invariant.next_is, c.loop-i-test.true, c.requires.there, c.well_formed)

pub overflow_add-next-in-loop-i : goal.overflow_add-next-in-loop-i
overflow_add-next-in-loop-i c = omega (arith, c.loop-i.invariant.next_is, c.loop-i-test.true, c.requires.there, c.well_formed)

pub overflow_step-i : goal.overflow_step-i
overflow_step-i c = omega (arith, c.loop-i-test.true, c.requires.known)

pub loop-i-smaller : goal.loop-i-smaller
loop-i-smaller c = omega (arith, c.loop-i-test.true)

pub loop-i-preserved : goal.loop-i-preserved
loop-i-preserved c =
    let p = c.requires in
    riders_turn (faultless _ _ p.read) c.loop-i.invariant c.loop-i-test.true p.area c.way_of-way.ensures.value p.known
    c.four_at.ensures.value c.add_up.ensures (omega arith)

pub shape_of-book : goal.shape_of-book
shape_of-book c = c.loop-i.invariant.size ∙ sym c.requires.size

pub returns : goal.returns
returns c =
    let p = c.requires in
    riders_end (faultless _ _ p.read) p.area c.way_of-way.ensures.value c.loop-i.invariant c.loop-i-test.false
