-- `run::take_step` meets its contract: what the turn did is one step of the loop, and where its record is not whole yet there is room for more.
use native.Mathlib.Omega.{arith}
use Rattle.streams.proofs.Steps.{still_on}
use Rattle.lines.specs.Clauses.{Counting}
use Rattle.settle_roll.proofs.Turns.{room_for_more, asked_on, fits, on_inside, on_put, on_counting, on_made, over}
use Rattle.settle_roll.proofs.run.take_step.Goals as goal

pub read_more-requires : goal.read_more-requires
read_more-requires g c =
    let turned = c.take_turn in
    let room = room_for_more c.args.input.now c.requires.0.range c.requires.0.size turned.ensures c.in-More.is in
    record {
      size = c.requires.0.size;
      range = record { order = c.requires.0.range.order; inside = c.requires.0.range.inside };
      more = room.0;
      room = room.1;
    }

pub overflow_add-on : goal.overflow_add-on
overflow_add-on g c =
    let turned = c.take_turn in
    omega (arith, c.requires.0.range.inside, fits c.args.input.now c.requires.0.range c.requires.0.size turned.ensures c.in-On.is)

pub make_room-requires : goal.make_room-requires
make_room-requires g c =
    let turned = c.take_turn in (
      on_inside c.args.input.now c.requires.0.range c.requires.0.size turned.ensures c.in-On.is,
      (omega arith, omega (arith, on_put c.args.input.now c.requires.0.range c.requires.0.size turned.ensures c.in-On.is, c.len.ensures)),
    )

pub returns-in-More : goal.returns-in-More
returns-in-More g c =
    let turned = c.take_turn in
    let read = c.read_more in
    rw c.go_on.ensures
    (record {
      again = turned.ensures.again;
      counting = still_on Counting read.result c.args.run.carried c.requires.0.counting;
      advanced = asked_on c.args.input.now c.requires.0.range c.requires.0.size turned.ensures _ read.result c.in-More.is read.ensures;
    })

pub returns-in-On : goal.returns-in-On
returns-in-On g c =
    let turned = c.take_turn in
    let made = c.make_room in
    rw c.go_on-in-On.ensures
    (record {
      again = turned.ensures.again;
      counting = on_counting c.args.input.now c.requires.0.range c.requires.0.size turned.ensures c.in-On.is made.result;
      advanced = on_made c.args.input.now c.requires.0.range c.requires.0.size turned.ensures c.in-On.is made.result (rw c.len.ensures at made.ensures);
    })

pub returns-in-Over : goal.returns-in-Over
returns-in-Over g c =
    let turned = c.take_turn in
    record { again = turned.ensures.again; counting = tt; advanced = over c.args.input.now c.requires.0.range c.requires.0.size turned.ensures c.in-Over.is }
