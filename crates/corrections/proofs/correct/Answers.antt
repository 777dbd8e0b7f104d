-- `corrections::correct` meets its contract: 23, the file's fault, or what comes under a faultless file.
use native.Mathlib.Omega.{arith}
use mathlib.Core.Path.{sym, ◌∙◌}
use lib.ListN.{length}
use Rattle.editions.proofs.Cases.{file_fault_most}
use Rattle.corrections.proofs.Outcomes.{no_record_way, fault_way, told_uncorrected}
use Rattle.corrections.proofs.correct.Goals as goal

pub returns-then-not-has_record : goal.returns-then-not-has_record
returns-then-not-has_record c =
    let a = c.args in
    told_uncorrected a.statements.now a.differences.now
    (no_record_way a.file.now a.roll.now a.n a.replacement.now (length a.statements.now) (length a.differences.now)
    (sym c.has_record.ensures ∙ c.if-not-has_record.true)) (omega arith)

pub correct_under-requires : goal.correct_under-requires
correct_under-requires c = (sym c.read_file.ensures ∙ c.in-Faultless.is, sym c.has_record.ensures ∙ c.if-not-has_record.false)

pub returns-in-Fault : goal.returns-in-Fault
returns-in-Fault c =
    let a = c.args in
    let fault = sym c.read_file.ensures ∙ c.in-Fault.is in
    told_uncorrected a.statements.now a.differences.now
    (fault_way a.file.now a.roll.now a.n a.replacement.now (length a.statements.now) (length a.differences.now)
    (sym c.has_record.ensures ∙ c.if-not-has_record.false) fault) (omega (arith, (file_fault_most _ _ _ fault).1))
