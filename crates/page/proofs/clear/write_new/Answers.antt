-- `page::clear::write_new` meets its contract: the place is cleared, and the number put.
use Prim.Native.Nat.{ℕ}
use mathlib.Core.Path.{ap, ◌∙◌}
use mathlib.Core.List.{List}
use Rattle.wire.specs.Number.{put_le}
use Rattle.page.proofs.clear.write_new.Goals as goal

pub returns : goal.returns
returns c = c.put_four.ensures ∙ ap (λ (b : List ℕ). put_le 4 b 0 c.args.member) c.clear.ensures
