-- `reader::charges::bare_fit` meets its contract: a length too short for a head has no charge.
use mathlib.Core.Path.{sym}
use Rattle.reader.proofs.Places.{kind4_short, kind4_fits, kind4_unfit}
use Rattle.reader.proofs.charges.bare_fit.Goals as goal

pub returns-then-long-body : goal.returns-then-long-body
returns-then-long-body c = sym (kind4_short _ c.if-long-body.true)

pub returns-then-charges-long : goal.returns-then-charges-long
returns-then-charges-long c = kind4_fits _ c.if-charges-long.true

pub returns-else-charges-long : goal.returns-else-charges-long
returns-else-charges-long c = kind4_unfit _ c.if-charges-long.false
