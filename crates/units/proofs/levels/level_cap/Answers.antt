-- `units::levels::level_cap` meets its contract: each arm's level decides the definition's tests.
use native.Mathlib.Omega.{arith}
use mathlib.Core.Path.{sym}
use Rattle.units.specs.Levels.{level_cap}
use Rattle.units.proofs.LevelCaps.{refused_above}
use Rattle.units.proofs.levels.level_cap.Goals as goal

pub returns-in-0 : goal.returns-in-0
unfolding level_cap
returns-in-0 c = rw c.in-0.is

pub returns-in-1 : goal.returns-in-1
unfolding level_cap
returns-in-1 c = rw c.in-1.is

pub returns-in-2 : goal.returns-in-2
unfolding level_cap
returns-in-2 c = rw c.in-2.is

pub returns-in-3 : goal.returns-in-3
unfolding level_cap
returns-in-3 c = rw c.in-3.is

pub returns-in-4 : goal.returns-in-4
unfolding level_cap
returns-in-4 c = rw c.in-4.is

pub returns-in-5 : goal.returns-in-5
unfolding level_cap
returns-in-5 c = rw c.in-5.is

pub returns-in-6-to-255 : goal.returns-in-6-to-255
returns-in-6-to-255 c = sym (refused_above _ _ _ _ _ _ (omega arith))
