-- `charging::alike::same_pair` meets its contract: eight bytes that are equal are two equal words.
use mathlib.Core.Path.{sym, ◌∙◌}
use borrow.Author.Tests.{eqb-true}
use Rattle.charging.proofs.AlikeLaws.{same_at}
use Rattle.charging.proofs.alike.same_pair.Goals as goal

pub returns : goal.returns
returns c =
    record {
      told =
          λ e.
          same_at c.args.book.now (λ i. (c.type_inv.book i).fits) c.args.before c.args.at
          (rw (← c.pair.ensures.0, ← c.pair-2.ensures.0)
          (sym c.eight_at.ensures.value ∙ eqb-true _ _ e ∙ c.eight_at-2.ensures.value));
    }
