-- `deciding::groups::records_size` meets its contract: one record, or two alike.
use native.Mathlib.Omega.{arith}
use Rattle.deciding.proofs.groups.records_size.Goals as goal

pub returns-in-Unbroken : goal.returns-in-Unbroken
returns-in-Unbroken c = rw c.in-Unbroken.is (omega (arith, c.record_size.ensures))

pub returns-in-At : goal.returns-in-At
returns-in-At c = rw c.in-At.is (omega (arith, c.record_size-in-At.ensures))
