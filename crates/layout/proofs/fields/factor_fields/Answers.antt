-- `layout::fields::factor_fields` meets its contract: each number is read at its place of the layout.
use Rattle.layout.specs.Fields.{factor_fields}
use Rattle.layout.proofs.fields.factor_fields.Goals as goal

pub returns : goal.returns
unfolding factor_fields
returns c = rw (c.one_at.ensures.value, c.one_at-2.ensures.value)
