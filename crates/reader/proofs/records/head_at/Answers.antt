-- `reader::records::head_at` meets its contract: each field is read at its place.
use Rattle.reader.proofs.records.head_at.Goals as goal

pub returns : goal.returns
returns c =
    rw (
      c.opening_at.ensures,
      c.area_at.ensures,
      c.km_at.ensures,
      c.minutes_at.ensures,
    )
