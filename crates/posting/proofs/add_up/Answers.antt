-- The charge is added area by area, as far as the level says. The areas are different ones, so those to come are as they were and have room.
use mathlib.Core.Path.{◌∙◌}
use Rattle.posting.proofs.PostTurns.{room_above, room_top, along_own, along_above, along_top}
use Rattle.posting.proofs.add_up.Goals as goal

pub add_here-requires : goal.add_here-requires
add_here-requires c =
    let p = c.requires in
    record { size = p.size; known = p.known; area = p.apart.own; range = p.range; room = p.room _ p.apart.own }

pub returns-then-level-eq0 : goal.returns-then-level-eq0
returns-then-level-eq0 c =
    let a = c.args in
    along_own a.book.now a.rider a.class a.amount.0 a.way c.if-level-eq0.true c.add_here.ensures

pub add_here-requires-2 : goal.add_here-requires-2
add_here-requires-2 c =
    let a = c.args in
    let p = c.requires in
    let first = c.add_here in
    record {
      size = first.auto.book ∙ p.size;
      known = p.known;
      area = p.apart.above;
      range = p.range;
      room = room_above a.book.now a.rider a.class a.amount.0 a.way p.apart p.room c.if-level-eq0.false first.ensures;
    }

pub returns-then-level-eq1 : goal.returns-then-level-eq1
returns-then-level-eq1 c =
    let a = c.args in
    along_above a.book.now a.rider a.class a.amount.0 a.way c.if-level-eq0.false c.if-level-eq1.true c.add_here.ensures c.add_here-2.ensures

pub add_here-requires-3 : goal.add_here-requires-3
add_here-requires-3 c =
    let a = c.args in
    let p = c.requires in
    let first = c.add_here in
    let second = c.add_here-2 in
    record {
      size = second.auto.book ∙ first.auto.book ∙ p.size;
      known = p.known;
      area = p.apart.top;
      range = p.range;
      room =
          room_top a.book.now a.rider a.class a.amount.0 a.way p.apart p.room c.if-level-eq0.false c.if-level-eq1.false first.ensures second.ensures;
    }

pub returns : goal.returns
returns c =
    let a = c.args in
    along_top a.book.now a.rider a.class a.amount.0 a.way c.if-level-eq0.false c.if-level-eq1.false c.add_here.ensures c.add_here-2.ensures c.add_here-3.ensures
