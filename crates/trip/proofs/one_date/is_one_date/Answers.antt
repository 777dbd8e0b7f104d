-- `trip::one_date::is_one_date` meets its contract: the fields are read and compared as the definition says.
use Rattle.trip.proofs.one_date.is_one_date.Goals as goal

pub returns : goal.returns
returns c =
    rw (
      c.two_at.ensures.value,
      c.two_at-2.ensures.value,
      c.one_at.ensures.value,
      c.one_at-2.ensures.value,
      c.one_at-3.ensures.value,
      c.one_at-4.ensures.value,
    )
