-- `scan::read_tariff` meets its contract: where the reading stops says what it comes to.
use Rattle.std.proofs.Common.{sym, ◌∙◌}
use Rattle.scan.proofs.Halts.{end_read, behind_read, amid_read}
use Rattle.scan.proofs.read_tariff.Goals as goal

pub returns-in-End : goal.returns-in-End
returns-in-End c = sym (end_read _ (sym c.halt_of.ensures ∙ c.in-End.is))

pub returns-in-Behind : goal.returns-in-Behind
returns-in-Behind c = sym (behind_read _ (sym c.halt_of.ensures ∙ c.in-Behind.is)).0

pub returns-in-Amid : goal.returns-in-Amid
returns-in-Amid c = sym (amid_read _ (sym c.halt_of.ensures ∙ c.in-Amid.is))
