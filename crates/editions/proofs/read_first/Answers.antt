-- `editions::read_first` meets its contract: each way is one of the definition's.
use native.Mathlib.Omega.{arith}
use mathlib.Core.Path.{sym, ap, ◌∙◌}
use lib.ListN.{length, length-drop}
use Rattle.scan.specs.Halts.{halt_of}
use Rattle.scan.proofs.Halts.{behind_read, amid_read}
use Rattle.editions.proofs.Ways.{rest, fault_inside, first_whole, first_amid, first_behind, first_then}
use Rattle.editions.proofs.read_first.Goals as goal

pub overflow_add-result : goal.overflow_add-result
overflow_add-result c = omega (arith, fault_inside _ (amid_read _ (sym c.halt_of.ensures ∙ c.in-Amid.is)))

pub overflow_add-next : goal.overflow_add-next
overflow_add-next c = omega (arith, fault_inside _ (behind_read _ (sym c.halt_of.ensures ∙ c.in-Behind.is)).0)

pub read_second-requires : goal.read_second-requires
read_second-requires c =
    let (inside, short) = fault_inside _ (behind_read _ (sym c.halt_of.ensures ∙ c.in-Behind.is)).0 in
    (omega (arith, ap length (rest 8 c.args.file.now), length-drop 8 c.args.file.now), c.requires.1)

pub returns-in-End : goal.returns-in-End
returns-in-End c = sym (first_whole _ _ _ (ap halt_of (sym (rest 8 c.args.file.now)) ∙ sym c.halt_of.ensures ∙ c.in-End.is))

pub returns-in-Amid : goal.returns-in-Amid
returns-in-Amid c = sym (first_amid _ _ _ _ (ap halt_of (sym (rest 8 c.args.file.now)) ∙ sym c.halt_of.ensures ∙ c.in-Amid.is))

pub returns-then-opens_at : goal.returns-then-opens_at
returns-then-opens_at c =
    c.read_second.ensures
    ∙ sym (first_then _ _ _ _ _ (ap halt_of (sym (rest 8 c.args.file.now)) ∙ sym c.halt_of.ensures ∙ c.in-Behind.is) (sym c.opens_at.ensures ∙ c.if-opens_at.true))

pub returns-else-opens_at : goal.returns-else-opens_at
returns-else-opens_at c = sym (first_behind _ _ _ _ _ (ap halt_of (sym (rest 8 c.args.file.now)) ∙ sym c.halt_of.ensures ∙ c.in-Behind.is) (sym c.opens_at.ensures ∙ c.if-opens_at.false))
