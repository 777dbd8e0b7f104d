-- `cycles::bicycles::flat_before` meets its contract: an unused bicycle has no old covering area, and one of kind 8 counts for nothing.
use Prim.Native.Nat.{◌+◌, ◌-◌}
use native.Mathlib.Omega.{arith}
use mathlib.Core.Path.{◌≡◌, sym, ◌∙◌}
use Rattle.cycles.proofs.BicycleLaws.{before_none, before_paid, before_flat}
use Rattle.cycles.proofs.bicycles.flat_before.Goals as goal

pub terms_by-before-requires : goal.terms_by-before-requires
terms_by-before-requires c = let p = c.requires in (p.0, (p.1.0, omega (arith, p.1.1, c.if-old-gt0.true)))

pub returns-then-before : goal.returns-then-before
returns-then-before c =
    let old = c.args.old in
    let is : old ≡ 1 + (old - 1) = omega arith in
    sym (before_paid _ _ old (old - 1) is (sym c.terms_by-before.ensures.kind ∙ c.if-before.true))

pub returns-else-before : goal.returns-else-before
returns-else-before c =
    let old = c.args.old in
    let before = c.terms_by-before.ensures in
    let is : old ≡ 1 + (old - 1) = omega arith in
    before.flat ∙ sym (before_flat _ _ old (old - 1) is (sym before.kind ∙ c.if-before.false))

pub returns-else-old-gt0 : goal.returns-else-old-gt0
returns-else-old-gt0 c = sym (before_none _ _ c.args.old (omega arith))
