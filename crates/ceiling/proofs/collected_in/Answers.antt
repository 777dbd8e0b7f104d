-- `ceiling::collected_in` meets its contract: the kept month is the month asked for, or another one.
use native.Mathlib.Omega.{arith}
use mathlib.Core.Path.{sym, ◌∙◌}
use Rattle.ceiling.proofs.Kept.{amount_same, amount_other}
use Rattle.ceiling.proofs.collected_in.Goals as goal

pub four_at-requires : goal.four_at-requires
four_at-requires c = omega (arith, c.requires.size)

pub four_at-requires-then-four_at-month : goal.four_at-requires-then-four_at-month
four_at-requires-then-four_at-month c = omega (arith, c.requires.size)

pub returns-then-four_at-month : goal.returns-then-four_at-month
returns-then-four_at-month c = amount_same c.requires (sym c.four_at.ensures.value ∙ c.if-four_at-month.true) c.four_at-then-four_at-month.ensures.value

pub returns-else-four_at-month : goal.returns-else-four_at-month
returns-else-four_at-month c = amount_other (λ is. c.if-four_at-month.false (c.four_at.ensures.value ∙ is))
