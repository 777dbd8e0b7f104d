-- `editions::read_second` meets its contract: each way is one of the definition's.
use native.Mathlib.Omega.{arith}
use mathlib.Core.Path.{sym, ap, ◌∙◌}
use Rattle.layout.specs.Scan.{read_tariff}
use Rattle.scan.proofs.Faults.{fault_most}
use Prim.Native.Nat.{◌+◌, ◌≤◌}
use lib.ListN.{length}
use Rattle.editions.specs.Openings.{opening_size}
use Rattle.editions.proofs.OpeningLaws.{opening_opened, opened_fits}
use Rattle.editions.proofs.Ways.{rest, second_faulty, second_fault, second_whole}
use Rattle.editions.proofs.read_second.Goals as goal

pub slice_bounds-read_tariff-count : goal.slice_bounds-read_tariff-count
slice_bounds-read_tariff-count c =
    let fits : c.args.at + opening_size ≤ length c.args.file.now = opened_fits _ _ _ (opening_opened _ _ _ (sym c.opening_at.ensures ∙ c.in-Since.is)) in
    fits

pub slice_bounds-read_tariff-start : goal.slice_bounds-read_tariff-start
slice_bounds-read_tariff-start c =
    let fits : c.args.at + opening_size ≤ length c.args.file.now = opened_fits _ _ _ (opening_opened _ _ _ (sym c.opening_at.ensures ∙ c.in-Since.is)) in
    fits

pub overflow_add-result : goal.overflow_add-result
overflow_add-result c =
    let fits : c.args.at + opening_size ≤ length c.args.file.now = opened_fits _ _ _ (opening_opened _ _ _ (sym c.opening_at.ensures ∙ c.in-Since.is)) in
    omega (arith, (fault_most _ _ _ (sym c.read_tariff.ensures ∙ c.in-Fault.is)).1, fits)

pub returns-in-Faulty : goal.returns-in-Faulty
returns-in-Faulty c = sym (second_faulty _ _ _ _ (sym c.opening_at.ensures ∙ c.in-Faulty.is))

pub returns-in-Fault : goal.returns-in-Fault
returns-in-Fault c = sym (second_fault _ _ _ _ (sym c.opening_at.ensures ∙ c.in-Since.is) _ _ (ap read_tariff (sym (rest (c.args.at + 8) c.args.file.now)) ∙ sym c.read_tariff.ensures ∙ c.in-Fault.is))

pub returns-in-Faultless : goal.returns-in-Faultless
returns-in-Faultless c = sym (second_whole _ _ _ _ (sym c.opening_at.ensures ∙ c.in-Since.is) _ (ap read_tariff (sym (rest (c.args.at + 8) c.args.file.now)) ∙ sym c.read_tariff.ensures ∙ c.in-Faultless.is))
