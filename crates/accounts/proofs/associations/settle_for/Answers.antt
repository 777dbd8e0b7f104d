-- `accounts::associations::settle_for` meets its contract: the file's fault, or what comes under it.
use native.Mathlib.Omega.{arith}
use mathlib.Core.Path.{sym, ◌∙◌}
use lib.ListN.{length}
use Rattle.editions.proofs.Cases.{file_fault_most}
use Rattle.settle.proofs.Ways.{refusal_told}
use Rattle.accounts.proofs.Halves.{for_fault, for_read}
use Rattle.accounts.proofs.associations.settle_for.Goals as goal

pub settle_own-requires : goal.settle_own-requires
settle_own-requires c = sym c.read_file.ensures ∙ c.in-Faultless.is

pub returns-in-Fault : goal.returns-in-Fault
returns-in-Fault c =
    let a = c.args in
    let fault = sym c.read_file.ensures ∙ c.in-Fault.is in
    refusal_told _ _ _ _ _ (for_fault a.association a.page.now a.member a.file.now a.trip.now (length a.statement.now) _ _ fault) (omega (arith, (file_fault_most _ _ _ fault).1))

pub returns-in-Faultless : goal.returns-in-Faultless
returns-in-Faultless c =
    let a = c.args in
    let read = sym c.read_file.ensures ∙ c.in-Faultless.is in
    rw (for_read a.association a.page.now a.member a.file.now a.trip.now (length a.statement.now) _ read) c.settle_own.ensures
