-- `charging::limits::chain_of` meets its contract: a faultless tariff has at most 32 areas, the area above one of them is one of them, and
-- the one above that is the state.
use native.Mathlib.Omega.{arith}
use Rattle.areas.proofs.Faultless.{faultless}
use Rattle.areas.proofs.Within.{parent_top}
use Rattle.charging.proofs.limits.chain_of.Goals as goal

pub returns : goal.returns
returns c =
    let right = faultless _ _ c.requires.0 in
    let few = right.few_areas in
    let top = parent_top right c.args.at c.requires.1.0 in
    rw (
      c.link_of-3.ensures,
      c.link_of-2.ensures,
      c.link_of.ensures,
      c.pending_in-high.ensures,
      c.pending_in-middle.ensures,
      c.pending_in-low.ensures,
    )
    (record {
      value = rw (c.parent-above.ensures.value, top);
      places = record { own = omega arith; above = omega arith; top = omega arith };
    })
