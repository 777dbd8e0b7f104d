-- `page::checks::numbers_once` meets its contract: after k turns it is known of the first k places.
use Prim.Native.Nat.{ℕ, ◌+◌}
use native.Mathlib.Omega.{arith}
use mathlib.Core.Path.{sym}
use mathlib.Core.Bool.{Bool}
use mathlib.Core.List.{List}
use Rattle.wire.proofs.Each.{each_none}
use Rattle.ledger.proofs.SoundLaws.{one_more, all_done}
use Rattle.page.specs.Pages.{only_here, numbers_once}
use Rattle.page.proofs.checks.numbers_once.Goals as goal

abbrev test : List ℕ → ℕ → ℕ → ℕ → Bool
test page first count k = only_here page (first + count) (first + k)

pub loop-k-init : goal.loop-k-init
loop-k-init c = let a = c.args in (omega arith, sym (each_none (test a.page.now a.first a.count)))

pub only_here-once-requires : goal.only_here-once-requires
only_here-once-requires c =
    let asked = c.requires in
    (record { size = asked.size; there = omega (arith, asked.there) }, omega arith)

pub loop-k-preserved : goal.loop-k-preserved
loop-k-preserved c =
    let a = c.args in
    let (inside, sofar) = c.loop-k.invariant in
    (omega arith, one_more _ (test a.page.now a.first a.count) _ _ sofar c.only_here-once.ensures)

pub returns : goal.returns
unfolding numbers_once
returns c =
    let a = c.args in
    let (inside, sofar) = c.loop-k.invariant in
    all_done _ _ (test a.page.now a.first a.count) _ inside (omega (arith, c.loop-k-test.false)) sofar
