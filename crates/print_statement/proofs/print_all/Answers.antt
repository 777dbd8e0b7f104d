-- `print_all` is safe and ends: from step to step the run stays in range, and less is left of it.
use native.Mathlib.Omega.{arith}
use Rattle.streams.proofs.Steps.{on_by, writing_by, still_by, still_writing}
use Rattle.print_statement.specs.Clauses.{Few}
use Rattle.print_statement.proofs.print_all.Goals as goal

pub loop-on-init : goal.loop-on-init
loop-on-init g c = c.requires.running

pub loop-on-smaller-in-On : goal.loop-on-smaller-in-On
loop-on-smaller-in-On g c = (on_by c.take_step.ensures.advanced c.in-On.is).1

pub loop-on-preserved-in-On : goal.loop-on-preserved-in-On
loop-on-preserved-in-On g c =
    record {
      size = omega arith;
      range = (on_by c.take_step.ensures.advanced c.in-On.is).0;
      few = still_by Few c.take_step.ensures.few c.in-On.is;
    }

pub loop-on-smaller : goal.loop-on-smaller
loop-on-smaller g c = (writing_by c.take_step.ensures.advanced c.in-Write.is).1.1

pub loop-on-preserved : goal.loop-on-preserved
loop-on-preserved g c =
    record {
      size = omega arith;
      range = rw c.hand_over.ensures.emptied (writing_by c.take_step.ensures.advanced c.in-Write.is).1.0;
      few = still_writing Few c.take_step.ensures.few c.in-Write.is;
    }
