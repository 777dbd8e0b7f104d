-- `reader::charges::party_fit` meets its contract: the length is that of the three numbers, where the body has them.
use native.Mathlib.Omega.{arith}
use mathlib.Core.Path.{sym}
use Rattle.reader.proofs.Places.{kind6_short, party_fits, party_unfit}
use Rattle.reader.proofs.charges.party_fit.Goals as goal

pub returns-then-long : goal.returns-then-long
returns-then-long c = sym (kind6_short _ _ (omega arith))

pub returns-then-long-record_size : goal.returns-then-long-record_size
returns-then-long-record_size c =
    party_fits _ _ _ _ _ _ _ c.requires.0 c.adults_at.ensures
    c.children_at.ensures c.bicycles_at.ensures c.record_size.ensures c.if-long-record_size.true

pub returns-else-long-record_size : goal.returns-else-long-record_size
returns-else-long-record_size c =
    party_unfit _ _ _ _ _ _ _ c.requires.0 c.adults_at.ensures
    c.children_at.ensures c.bicycles_at.ensures c.record_size.ensures c.if-long-record_size.false
