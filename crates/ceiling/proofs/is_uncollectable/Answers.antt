-- `ceiling::is_uncollectable` meets its contract: the tests are those of `uncollectable`, of which the first stands alone.
use Prim.Native.Nat.{ℕ}
use native.Mathlib.Omega.{arith}
use mathlib.Core.Path.{sym, ap, ◌∙◌}
use mathlib.Core.Bool.{◌||◌}
use lib.Dec.{ltb}
use Rattle.ceiling.specs.Ceiling.{most_collected}
use Rattle.ceiling.proofs.Kept.{size_wrong, size_right}
use Rattle.ceiling.proofs.is_uncollectable.Goals as goal

pub returns-then-kept-ne-KEPT_SIZE : goal.returns-then-kept-ne-KEPT_SIZE
returns-then-kept-ne-KEPT_SIZE c = sym (size_wrong _ _ c.if-kept-ne-KEPT_SIZE.true)

pub four_at-requires : goal.four_at-requires
four_at-requires c = omega (arith, c.if-kept-ne-KEPT_SIZE.false)

pub returns : goal.returns
returns c =
    let a = c.args in
    ap (λ (x : ℕ). ltb most_collected a.ceiling || ltb most_collected x) c.four_at.ensures.value
    ∙ sym (size_right a.ceiling a.kept.now c.if-kept-ne-KEPT_SIZE.false)
