-- `scan::blocks::is_clear` meets its contract: where the joined masked words are 0, its masks pick nothing.
use Rattle.std.proofs.Common.{eqb-true}
use Rattle.scan.proofs.BlockLaws.{clear_masked}
use Rattle.scan.proofs.blocks.is_clear.Goals as goal

pub returns : goal.returns
returns c = record { told = λ e. clear_masked _ (eqb-true _ _ e) }
