-- `milecopper::milecopper_read` meets its contract: the number that it answers is the filling's.
use native.Mathlib.Omega.{arith}
use mathlib.Core.Path.{sym, ◌∙◌}
use Rattle.reader.proofs.Filled.{filled_size}
use Rattle.milecopper.proofs.Answers.{refused_read, record_read}
use Rattle.milecopper.proofs.milecopper_read.Goals as goal

pub encoded-requires-in-Record : goal.encoded-requires-in-Record
encoded-requires-in-Record c =
    let size = filled_size _ _ _ (sym c.read_into.ensures.answer ∙ c.in-Record.is) in
    omega arith

pub returns-in-Refused : goal.returns-in-Refused
returns-in-Refused c = refused_read c.read_into.ensures c.in-Refused.is c.encoded.ensures

pub returns-in-Record : goal.returns-in-Record
returns-in-Record c = record_read c.read_into.ensures c.in-Record.is c.encoded-in-Record.ensures
