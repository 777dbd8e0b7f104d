-- `trip::stamp_at` meets its contract: the stamp is made of the fields at its place.
use mathlib.Core.Path.{◌∙◌}
use Rattle.trip.proofs.stamp_at.Goals as goal

pub returns : goal.returns
returns c =
    c.make.ensures
    ∙ rw (
      c.two_at.ensures.value,
      c.one_at.ensures.value,
      c.one_at-2.ensures.value,
      c.one_at-3.ensures.value,
      c.one_at-4.ensures.value,
      c.one_at-5.ensures.value,
    )
