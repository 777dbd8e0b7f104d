-- `ledger::windows::window_of` meets its contract: the test is the definition's. A sound book's opening is a minute of the calendar, so the sum
-- does not wrap, and its trips are at most 256.
use Rattle.std.proofs.Common.{arith}
use Rattle.ledger.proofs.SoundLaws.{alone_has, opening_most}
use Rattle.ledger.proofs.WindowLaws.{same_window, next_window}
use Rattle.ledger.proofs.windows.window_of.Goals as goal

pub get-trips-requires : goal.get-trips-requires
get-trips-requires c = ((alone_has _ c.requires.0).size, omega arith)

pub get-opening-requires : goal.get-opening-requires
get-opening-requires c = ((alone_has _ c.requires.0).size, omega arith)

pub get-edition-requires : goal.get-edition-requires
get-edition-requires c = ((alone_has _ c.requires.0).size, omega arith)

pub overflow_cast-edition : goal.overflow_cast-edition
overflow_cast-edition c = omega (arith, c.get-edition.ensures.value, c.requires.1)

pub overflow_add-opening : goal.overflow_add-opening
overflow_add-opening c = omega (arith, opening_most _ c.requires.0, c.get-opening.ensures.value)

pub returns-then-trips-checkout : goal.returns-then-trips-checkout
returns-then-trips-checkout c = (
  same_window _ _ _ _ _ _ c.get-trips.ensures.value c.get-opening.ensures.value _
      c.get-edition.ensures.value
      c.if-trips-checkout.true,
  omega (arith, (alone_has _ c.requires.0).trips, c.get-trips.ensures.value),
)

pub returns-else-trips-checkout : goal.returns-else-trips-checkout
returns-else-trips-checkout c = (
  next_window _ _ _ _ _ _ c.get-trips.ensures.value c.get-opening.ensures.value c.if-trips-checkout.false,
  omega arith,
)
