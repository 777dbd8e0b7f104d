-- `deciding::ready::readiness_of` meets its contract: the file's first fault; or 4, or neither, by the book.
use mathlib.Core.Path.{sym, ◌∙◌}
use Rattle.deciding.proofs.Decisions.{at_fault, not_sound, made_ready}
use Rattle.deciding.proofs.ready.readiness_of.Goals as goal

pub returns-in-Fault : goal.returns-in-Fault
returns-in-Fault c = sym (at_fault _ _ (sym c.read_file.ensures ∙ c.in-Fault.is))

pub returns-then-is_sound_in : goal.returns-then-is_sound_in
returns-then-is_sound_in c = sym (made_ready _ _ (sym c.read_file.ensures ∙ c.in-Faultless.is) (sym c.is_sound_in.ensures ∙ c.if-is_sound_in.true))

pub returns-else-is_sound_in : goal.returns-else-is_sound_in
returns-else-is_sound_in c =
    rw c.number.ensures
    (sym
    (not_sound _ _ (sym c.read_file.ensures ∙ c.in-Faultless.is)
    (sym c.is_sound_in.ensures ∙ c.if-is_sound_in.false)))
