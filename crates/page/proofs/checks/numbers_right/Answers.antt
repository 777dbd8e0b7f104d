-- `page::checks::numbers_right` meets its contract: after k turns it is known of the first k places.
use Prim.Native.Nat.{ℕ, ◌+◌}
use native.Mathlib.Omega.{arith}
use mathlib.Core.Path.{sym, ap}
use mathlib.Core.Bool.{Bool}
use mathlib.Core.List.{List}
use lib.Dec.{leb}
use Rattle.wire.proofs.Each.{each_none}
use Rattle.ledger.proofs.SoundLaws.{one_more, all_done}
use Rattle.page.specs.Pages.{most_number, number_at, numbers_right}
use Rattle.page.proofs.checks.numbers_right.Goals as goal

abbrev test : List ℕ → ℕ → ℕ → Bool
test page first k = leb (number_at page (first + k)) most_number

pub loop-k-init : goal.loop-k-init
loop-k-init c = (omega arith, sym (each_none (test c.args.page.now c.args.first)))

pub number_at-requires : goal.number_at-requires
number_at-requires c =
    let asked = c.requires in
    record { size = asked.size; there = omega (arith, asked.there) }

pub loop-k-preserved : goal.loop-k-preserved
loop-k-preserved c =
    let a = c.args in
    let (inside, sofar) = c.loop-k.invariant in
    (omega arith, one_more _ (test a.page.now a.first) _ _ sofar (ap (λ n. leb n most_number) c.number_at.ensures.value))

pub returns : goal.returns
unfolding numbers_right
returns c =
    let a = c.args in
    let (inside, sofar) = c.loop-k.invariant in
    all_done _ _ (test a.page.now a.first) _ inside (omega (arith, c.loop-k-test.false)) sofar
