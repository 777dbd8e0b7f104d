-- `layout::fields::stop_fields` meets its contract: each number is read at its place of the layout.
use Rattle.layout.specs.Fields.{stop_fields}
use Rattle.layout.proofs.fields.stop_fields.Goals as goal

pub returns : goal.returns
unfolding stop_fields
returns c = rw (c.one_at.ensures.value, c.four_at.ensures.value, c.four_at-2.ensures.value)
