-- `charging::rest::charge` meets its contract: the caps of the three areas of the chain, one after another.
use native.Mathlib.Nat.{le_trans}
use Rattle.charging.specs.Clauses.{rest_by}
use Rattle.charging.proofs.rest.charge.Goals as goal

pub returns : goal.returns
unfolding rest_by
returns c =
    let whole = c.uncapped-whole.ensures in
    record {
      value = rw (c.capped_at.ensures.0, c.capped_at-middle.ensures.0, c.capped_at-low.ensures.0, whole);
      range =
          le_trans c.capped_at.ensures.1
          (le_trans c.capped_at-middle.ensures.1 (rw whole at c.capped_at-low.ensures.1));
    }
