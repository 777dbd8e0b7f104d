-- `layout::fields::level_at` meets its contract: the number is read at its place of the layout.
use Rattle.layout.specs.Fields.{area_fields}
use Rattle.layout.proofs.fields.level_at.Goals as goal

pub returns : goal.returns
unfolding area_fields
returns c = c.one_at.ensures.value
