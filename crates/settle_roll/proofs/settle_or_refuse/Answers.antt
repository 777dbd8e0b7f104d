-- `settle_or_refuse` is safe: the roll is settled where the file was read without fault.
use mathlib.Core.Path.{sym, ◌∙◌}
use Rattle.settle_roll.proofs.settle_or_refuse.Goals as goal

pub settle_roll-requires : goal.settle_roll-requires
settle_roll-requires g c = sym c.read_file.ensures ∙ c.in-Faultless.is
