-- `corrections::runs::clear` meets its contract: each turn stores one 0 more, and there are as many turns as the book has bytes.
use Prim.Native.Nat.{ℕ}
use native.Mathlib.Omega.{arith}
use mathlib.Core.Path.{sym, ap, ◌∙◌}
use mathlib.Core.List.{List}
use borrow.Author.Fill.{fill_none, fill_more}
use lib.ListN.{set, length-set}
use Rattle.wire.proofs.Filled.{filled}
use Rattle.ledger.specs.Words.{book_size}
use Rattle.corrections.proofs.runs.clear.Goals as goal

pub loop-i-init : goal.loop-i-init
loop-i-init c = (fill_none _ 0, (c.requires, omega arith))

pub loop-i-preserved : goal.loop-i-preserved
loop-i-preserved c =
    let l = c.loop-i in (
      ap (λ (b : List ℕ). set b l.i 0) l.invariant.0 ∙ fill_more l.i 0 c.args.book.now (omega arith),
      (length-set l.book l.i 0 ∙ l.invariant.1.0, omega arith),
    )

pub shape_of-book : goal.shape_of-book
shape_of-book c = c.loop-i.invariant.1.0 ∙ sym c.requires

pub returns : goal.returns
returns c =
    let l = c.loop-i in
    filled book_size l.i 0 c.args.book.now l.invariant.0 (omega arith) c.requires
