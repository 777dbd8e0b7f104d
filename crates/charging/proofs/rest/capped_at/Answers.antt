-- `charging::rest::capped_at` meets its contract: the link's caps, and the rider's two sums in its area that count in the window, with what
-- they lack.
use native.Mathlib.Omega.{arith}
use Rattle.charging.proofs.EarlierLaws.{second_whole, all_whole}
use Rattle.charging.proofs.rest.capped_at.Goals as goal

pub overflow_add-second : goal.overflow_add-second
overflow_add-second c = omega (arith, second_whole c.requires.1.1 c.pair-place.ensures.0 c.lacking-more.ensures c.get_in.ensures.value)

pub overflow_add-all : goal.overflow_add-all
overflow_add-all c = omega (arith, all_whole c.requires.1.1 c.pair-place.ensures.0 c.lacking-more.ensures c.get_in-2.ensures.value)

pub returns : goal.returns
returns c = (
  rw (
    c.capped_here.ensures.0,
    c.get_in-2.ensures.value,
    c.get_in.ensures.value,
    c.lacking-more.ensures,
    c.pair-place.ensures.0,
  ),
  c.capped_here.ensures.1,
)
