-- `layout::fields::long_fields` meets its contract: each number is read at its place of the layout.
use Rattle.layout.specs.Fields.{long_fields}
use Rattle.layout.proofs.fields.long_fields.Goals as goal

pub returns : goal.returns
unfolding long_fields
returns c =
    rw (
      c.two_at.ensures.value,
      c.two_at-2.ensures.value,
      c.two_at-3.ensures.value,
      c.two_at-4.ensures.value,
      c.two_at-5.ensures.value,
      c.two_at-6.ensures.value,
      c.one_at.ensures.value,
    )
