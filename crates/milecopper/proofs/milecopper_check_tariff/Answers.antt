-- `milecopper::milecopper_check_tariff` meets its contract: the first fault's number and place, or the file's length.
use native.Mathlib.Omega.{arith}
use mathlib.Core.Path.{sym, ◌∙◌}
use Rattle.milecopper.proofs.TariffAnswers.{fault_fits, fault_answer, length_fits, faultless_answer}
use Rattle.milecopper.proofs.milecopper_check_tariff.Goals as goal

pub encoded-requires : goal.encoded-requires
encoded-requires c =
    let fits = fault_fits _ _ _ (sym c.read_file.ensures ∙ c.in-Fault.is) in
    omega (arith, fits)

pub encoded-requires-in-Faultless : goal.encoded-requires-in-Faultless
encoded-requires-in-Faultless c = length_fits _ _ (sym c.read_file.ensures ∙ c.in-Faultless.is)

pub returns-in-Fault : goal.returns-in-Fault
returns-in-Fault c =
    let fault = sym c.read_file.ensures ∙ c.in-Fault.is in
    c.encoded.ensures ∙ sym (fault_answer _ _ _ fault)

pub returns-in-Faultless : goal.returns-in-Faultless
returns-in-Faultless c =
    let read = sym c.read_file.ensures ∙ c.in-Faultless.is in
    c.encoded-in-Faultless.ensures ∙ sym (faultless_answer _ _ read)
