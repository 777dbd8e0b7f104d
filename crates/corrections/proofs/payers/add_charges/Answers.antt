-- `corrections::payers::add_charges` meets its contract: the loop has added the charges that it passed. The measure is the charges that are left.
use Prim.Native.Nat.{◌+◌}
use native.Mathlib.Omega.{arith}
use native.Mathlib.Nat.{le_antisymm}
use Rattle.corrections.proofs.Paid.{added_most, charges_none, charges_more}
use Rattle.corrections.proofs.payers.add_charges.Goals as goal

pub loop-k-init : goal.loop-k-init
loop-k-init c = (omega arith, charges_none _ _ _ _ _)

pub overflow_add-sums : goal.overflow_add-sums
overflow_add-sums c = omega (arith, c.requires.payers_most)

pub offset_bounds-sums-payer : goal.offset_bounds-sums-payer
offset_bounds-sums-payer c = omega (arith, c.requires.payers_most)

pub bounds-sums-payer : goal.bounds-sums-payer
bounds-sums-payer c = omega (arith, c.requires.payers_most)

pub overflow_add-charge : goal.overflow_add-charge
overflow_add-charge c = let asked = c.requires in omega (arith, asked.charges, asked.there.inside, asked.there.long)

pub charge_at-requires : goal.charge_at-requires
charge_at-requires c = let asked = c.requires in (asked.there, omega (arith, asked.charges))

pub overflow_cast-sums : goal.overflow_cast-sums
overflow_cast-sums c = omega (arith, c.charge_at.ensures.range)

pub overflow_add-sums-in-loop-k : goal.overflow_add-sums-in-loop-k
overflow_add-sums-in-loop-k c =
    let added = c.loop-k.invariant.1 in
    let at = c.args.payer + c.loop-k.k in
    omega (arith, (added_most added c.requires.sums_most).each at, c.charge_at.ensures.range)

pub overflow_add-sums-in-loop-k-2 : goal.overflow_add-sums-in-loop-k-2
overflow_add-sums-in-loop-k-2 c = omega (arith, c.requires.payers_most)

pub offset_bounds-sums-payer-in-loop-k : goal.offset_bounds-sums-payer-in-loop-k
offset_bounds-sums-payer-in-loop-k c = omega (arith, c.requires.payers_most)

pub bounds-sums-payer-in-loop-k : goal.bounds-sums-payer-in-loop-k
bounds-sums-payer-in-loop-k c = omega (arith, c.requires.payers_most)

pub loop-k-preserved : goal.loop-k-preserved
loop-k-preserved c =
    let asked = c.requires in
    let so_far = c.loop-k.invariant.1 in
    let within = (added_most so_far asked.sums_most).size in (
      omega arith,
      charges_more _ _ _ _ _ _ _ _ (omega (arith, asked.payers_most, within)) c.charge_at.ensures.value c.charge_at.ensures.range so_far,
    )

pub returns : goal.returns
returns c = let so_far = c.loop-k.invariant in rw (le_antisymm so_far.0 c.loop-k-test.false) at so_far.1
