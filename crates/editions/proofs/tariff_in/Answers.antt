-- `editions::tariff_in` meets its contract: each part stands within the file, which has been read.
use native.Mathlib.Omega.{arith}
use Prim.Native.Nat.{◌+◌, ◌-◌, ◌≤◌}
use mathlib.Core.Path.{◌≡◌, ap, ◌∙◌}
use borrow.Author.Tests.{eq-eqb, ne_eqb}
use lib.ListN.{length}
use Rattle.layout.specs.Layout.{tariff_size}
use Rattle.editions.specs.declared.FileReading.TheVariants.{Faultless}
use Rattle.editions.specs.Openings.{opening_size}
use Rattle.editions.specs.Editions.{tariff_in}
use Rattle.editions.proofs.Ways.{rest}
use Rattle.editions.proofs.Parts.{one_fits, two_fits}
use Rattle.editions.proofs.tariff_in.Goals as goal

pub slice_bounds-result-count : goal.slice_bounds-result-count
slice_bounds-result-count c =
    let one : opening_size ≤ length c.args.file.now = one_fits _ (c.requires ∙ ap Faultless c.in-One.is) in
    one

pub slice_bounds-result-start : goal.slice_bounds-result-start
slice_bounds-result-start c =
    let one : opening_size ≤ length c.args.file.now = one_fits _ (c.requires ∙ ap Faultless c.in-One.is) in
    one

pub overflow_add-end : goal.overflow_add-end
overflow_add-end c =
    let two : opening_size + tariff_size c.in-Two.first.counts + opening_size ≤ length c.args.file.now = two_fits _ (c.requires ∙ ap Faultless c.in-Two.is) in
    omega (arith, two, c.tariff_size-end.ensures)

pub overflow_add-start : goal.overflow_add-start
overflow_add-start c =
    let two : opening_size + tariff_size c.in-Two.first.counts + opening_size ≤ length c.args.file.now = two_fits _ (c.requires ∙ ap Faultless c.in-Two.is) in
    omega (arith, two, c.tariff_size-end.ensures)

pub slice_bounds-result-count-then-number-eq2 : goal.slice_bounds-result-count-then-number-eq2
slice_bounds-result-count-then-number-eq2 c =
    let two : opening_size + tariff_size c.in-Two.first.counts + opening_size ≤ length c.args.file.now = two_fits _ (c.requires ∙ ap Faultless c.in-Two.is) in
    omega (arith, two, c.tariff_size-end.ensures)

pub slice_bounds-result-start-then-number-eq2 : goal.slice_bounds-result-start-then-number-eq2
slice_bounds-result-start-then-number-eq2 c =
    let two : opening_size + tariff_size c.in-Two.first.counts + opening_size ≤ length c.args.file.now = two_fits _ (c.requires ∙ ap Faultless c.in-Two.is) in
    omega (arith, two, c.tariff_size-end.ensures)

pub slice_bounds-result-end-else-number-eq2 : goal.slice_bounds-result-end-else-number-eq2
slice_bounds-result-end-else-number-eq2 c =
    let two : opening_size + tariff_size c.in-Two.first.counts + opening_size ≤ length c.args.file.now = two_fits _ (c.requires ∙ ap Faultless c.in-Two.is) in
    omega (arith, two, c.tariff_size-end.ensures)

pub returns-in-One : goal.returns-in-One
unfolding tariff_in
returns-in-One c = rw c.in-One.is (rest 8 c.args.file.now)

pub returns-then-number-eq2 : goal.returns-then-number-eq2
unfolding tariff_in
returns-then-number-eq2 c = rw (c.in-Two.is, eq-eqb _ _ c.if-number-eq2.true, c.tariff_size-end.ensures) (rest (8 + tariff_size c.in-Two.first.counts + 8) c.args.file.now)

pub returns-else-number-eq2 : goal.returns-else-number-eq2
unfolding tariff_in
returns-else-number-eq2 c =
    let size : 8 + c.tariff_size-end.result - 8 ≡ c.tariff_size-end.result = omega arith in
    rw (c.in-Two.is, ne_eqb _ _ c.if-number-eq2.false, size, c.tariff_size-end.ensures)
