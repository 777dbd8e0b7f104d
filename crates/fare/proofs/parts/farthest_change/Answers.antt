-- At each turn the change is the farthest of those before the one that is looked at.
use Prim.Native.Nat.{◌-◌}
use native.Mathlib.Omega.{arith}
use mathlib.Core.Path.{◌≡◌, subst}
use Rattle.fare.specs.Parts.{FarthestChange}
use Rattle.fare.proofs.Changes.{away_is, one_change, turn_farther, turn_no_farther}
use Rattle.fare.proofs.parts.farthest_change.Goals as goal
use Rattle.fare.proofs.parts.farthest_change.Goals.{then-far-next, else-far-next}

pub loop-i-init : goal.loop-i-init
loop-i-init c = (
  omega arith,
  (
    omega arith,
    (
      one_change _ _ _,
      away_is c.stop_of-from.ensures c.stop_of.ensures c.squared_between-far.ensures,
    ),
  ),
)

pub loop-i-preserved : goal.loop-i-preserved
loop-i-preserved c =
    let at = c.loop-i in
    let next = away_is c.stop_of-from.ensures c.stop_of-in-loop-i.ensures c.squared_between-next.ensures in (
      omega arith,
      (
        omega arith,
        elim c.if-far-next.branch [
          | then-far-next w ↦ turn_farther _ _ _ at.invariant.1.1.0 at.invariant.1.1.1 next w.if-far-next.true w.change-is w.far-is
          | else-far-next w ↦ turn_no_farther _ _ _ at.invariant.1.1.0 at.invariant.1.1.1 next w.if-far-next.false w.change-is w.far-is
        ],
      ),
    )

pub returns : goal.returns
returns c =
    let start = c.args in
    let at = c.loop-i in
    let end : at.i ≡ start.stops - 1 = omega arith in
    subst (λ i. FarthestChange start.tariff.now start.counts start.bytes.now i at.change) end at.invariant.1.1.0
