-- `settle::records::one_more` meets its contract.
use mathlib.Core.Path.{refl}
use Rattle.settle.specs.Outcome.{one_more}
use Rattle.settle.proofs.records.one_more.Goals as goal

pub returns : goal.returns
unfolding one_more
returns c = refl
