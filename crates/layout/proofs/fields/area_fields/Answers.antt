-- `layout::fields::area_fields` meets its contract: each number is read at its place of the layout.
use Rattle.layout.specs.Fields.{area_fields}
use Rattle.layout.proofs.fields.area_fields.Goals as goal

pub returns : goal.returns
unfolding area_fields
returns c =
    rw (
      c.one_at.ensures.value,
      c.one_at-2.ensures.value,
      c.two_at.ensures.value,
      c.two_at-2.ensures.value,
      c.two_at-3.ensures.value,
      c.one_at-3.ensures.value,
      c.one_at-4.ensures.value,
      c.one_at-5.ensures.value,
      c.two_at-4.ensures.value,
      c.two_at-5.ensures.value,
      c.two_at-6.ensures.value,
      c.two_at-7.ensures.value,
      c.two_at-8.ensures.value,
      c.two_at-9.ensures.value,
      c.two_at-10.ensures.value,
    )
