-- `layout::fields::flat_at` meets its contract: the number is read at its place of the layout.
use Rattle.layout.specs.Fields.{area_fields}
use Rattle.layout.proofs.fields.flat_at.Goals as goal

pub returns : goal.returns
unfolding area_fields
returns c = c.two_at.ensures.value
