-- `charging::alike::charge_alike` meets its contract: riders alike have one charge; else the caps are asked.
use Prim.Native.Nat.{ℕ}
use native.Mathlib.Omega.{arith}
use mathlib.Core.Path.{◌≡◌}
use mathlib.Core.Bool.{true, ◌&&◌}
use borrow.Author.Tests.{eqb-true}
use lib.Dec.{eqb}
use Rattle.wire.proofs.Tests.{both_left, both_right}
use Rattle.charging.specs.Clauses.{person_by}
use Rattle.charging.proofs.AlikeLaws.{held_charge}
use Rattle.charging.proofs.alike.charge_alike.Goals as goal

-- what the test before the sums are compared tells
alike :
    (rider next paid other : ℕ) → eqb rider next && eqb paid other ≡ true → (rider ≡ next) × (paid ≡ other)
alike rider next paid other e = (eqb-true rider next (both_left (eqb rider next) (eqb paid other) e), eqb-true paid other (both_right (eqb rider next) (eqb paid other) e))

pub overflow_sub-rider : goal.overflow_sub-rider
overflow_sub-rider c =
    let a = c.args in
    omega (arith, c.requires.1.1.1.after (alike a.rider a.last.next a.paid.0 a.last.paid c.if-rider-last.true).0)

pub as_before-requires : goal.as_before-requires
as_before-requires c =
    let a = c.args in
    let p = c.requires in
    let fits = p.1.1.0 in (
      p.0,
      (
        omega (arith, p.1.0, p.1.1.1.after (alike a.rider a.last.next a.paid.0 a.last.paid c.if-rider-last.true).0),
        record { own = fits.own.place; above = fits.above.place; top = fits.top.place },
      ),
    )

pub returns-then-as_before : goal.returns-then-as_before
returns-then-as_before c =
    let a = c.args in
    let (next, paid) = alike a.rider a.last.next a.paid.0 a.last.paid c.if-rider-last.true in
    held_charge a.chain _ a.rider _ a.paid.0 _ c.requires.1.1.1 next paid (c.as_before.ensures.told c.if-as_before.true)

pub cut_of-cut-requires : goal.cut_of-cut-requires
cut_of-cut-requires c = c.charge-rest.ensures.range

pub returns : goal.returns
unfolding person_by
returns c = rw (c.cut_of-cut.ensures, c.charge-rest.ensures.value)
