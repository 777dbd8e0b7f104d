-- `editions::read_file` meets its contract: the first edition is opened, or not.
use mathlib.Core.Path.{sym, ◌∙◌}
use Rattle.editions.proofs.OpeningLaws.{opening_opened, opened_fits, opened_minute}
use Rattle.editions.proofs.Ways.{file_faulty, file_opened}
use Rattle.editions.proofs.read_file.Goals as goal

pub read_first-requires : goal.read_first-requires
read_first-requires c =
    let opened = opening_opened _ _ _ (sym c.opening_at.ensures ∙ c.in-Since.is) in
    (opened_fits _ _ _ opened, opened_minute _ _ _ opened)

pub returns-in-Faulty : goal.returns-in-Faulty
returns-in-Faulty c = sym (file_faulty _ _ (sym c.opening_at.ensures ∙ c.in-Faulty.is))

pub returns-in-Since : goal.returns-in-Since
returns-in-Since c = c.read_first.ensures ∙ sym (file_opened _ _ (sym c.opening_at.ensures ∙ c.in-Since.is))
