-- `run::settle_all` is safe and ends: from step to step the book stays sound, the run in range, and less is left of it.
use native.Mathlib.Omega.{arith}
use mathlib.Core.Path.{refl}
use Rattle.streams.proofs.Steps.{still_by, still_writing}
use Rattle.lines.specs.Clauses.{Counting}
use Rattle.settle_roll.specs.Clauses.{reached}
use Rattle.settle_roll.proofs.Turns.{on_by, writing_by}
use Rattle.settle_roll.proofs.run.settle_all.Goals as goal

pub loop-on-init : goal.loop-on-init
loop-on-init g c = (c.requires.0.running, refl, c.requires.1)

pub take_step-requires : goal.take_step-requires
take_step-requires g c = let now = c.loop-on.invariant in (now.0, now.2)

pub loop-on-smaller-in-On : goal.loop-on-smaller-in-On
loop-on-smaller-in-On g c = (on_by _ _ c.take_step.ensures.advanced c.in-On.is).1

pub loop-on-preserved-in-On : goal.loop-on-preserved-in-On
loop-on-preserved-in-On g c =
    let now = c.loop-on in
    let size = now.invariant.0.size in
    let before = reached now.run now.book now.input now.out in
    let step = c.take_step in (
      record {
        ready = step.ensures.again;
        size = omega (arith, size);
        range = (on_by _ {s = before} _ step.ensures.advanced c.in-On.is).0;
        counting = still_by Counting step.ensures.counting c.in-On.is;
      },
      omega arith,
      omega arith,
    )

pub loop-on-smaller : goal.loop-on-smaller
loop-on-smaller g c = (writing_by _ _ c.take_step.ensures.advanced c.in-Write.is).1.1

pub loop-on-preserved : goal.loop-on-preserved
loop-on-preserved g c =
    let now = c.loop-on in
    let inv = now.invariant in
    let size = inv.0.size in
    let before = reached now.run now.book now.input now.out in
    let step = c.take_step in (
      record {
        ready = step.ensures.again;
        size = omega (arith, size);
        range = rw c.hand_over.ensures.emptied (writing_by _ {s = before} _ step.ensures.advanced c.in-Write.is).1.0;
        counting = still_writing Counting step.ensures.counting c.in-Write.is;
      },
      omega (arith, inv.1),
      omega (arith, inv.2),
    )
