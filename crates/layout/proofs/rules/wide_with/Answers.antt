-- `layout::rules::wide_with` meets its contract: its one test is the definition's.
use native.Mathlib.Omega.{arith}
use borrow.Author.Tests.{lt-ltb, le-ltb}
use Rattle.layout.proofs.rules.wide_with.Goals as goal

pub returns-then-level-lt-CITY : goal.returns-then-level-lt-CITY
returns-then-level-lt-CITY c = rw (lt-ltb _ 2 c.if-level-lt-CITY.true)

pub returns-else-level-lt-CITY : goal.returns-else-level-lt-CITY
returns-else-level-lt-CITY c = rw (le-ltb _ 2 c.if-level-lt-CITY.false) (omega arith)
