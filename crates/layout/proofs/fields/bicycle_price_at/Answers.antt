-- `layout::fields::bicycle_price_at` meets its contract: the number is read at its place of the layout.
use Rattle.layout.specs.Fields.{long_fields}
use Rattle.layout.proofs.fields.bicycle_price_at.Goals as goal

pub returns : goal.returns
unfolding long_fields
returns c = c.two_at.ensures.value
