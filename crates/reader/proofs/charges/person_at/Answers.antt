-- `reader::charges::person_at` meets its contract: each field is read at its place.
use mathlib.Core.Path.{sym}
use Rattle.reader.proofs.Places.{person_amount}
use Rattle.reader.proofs.charges.person_at.Goals as goal

pub returns : goal.returns
returns c =
    let asked = c.requires in
    rw (
      c.charge_at.ensures.value,
      c.reduction_at.ensures.value,
      c.cap_area_at.ensures,
      c.cap_class_at.ensures,
    )
    (sym (person_amount _ _ _ _ asked.1))
