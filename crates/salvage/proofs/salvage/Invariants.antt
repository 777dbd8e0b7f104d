use Prim.Native.Nat.{◌-◌}
use Rattle.salvage.proofs.Passes.{Reached}
use Rattle.salvage.proofs.salvage.Given as goal

abbrev pub invariant-loop-pass : goal.invariant-loop-pass
invariant-loop-pass l = Reached l.initial.roll l.roll l.lines l.pass

abbrev pub decreases-loop-pass : goal.decreases-loop-pass
decreases-loop-pass l = l.size - l.pass.at
