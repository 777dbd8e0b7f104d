-- `scan::area_run::kind_found` meets its contract: each kind that it answers is told by the number of length and kind, and by the room.
use Rattle.std.proofs.Common.{◌≡◌, ◌-◌, ◌≤◌, eqb, leb, length, sym, ◌∙◌, arith, eqb-true, leb-true}
use Rattle.wire.proofs.Tests.{both_left, both_right}
use Rattle.scan.proofs.AreaRunLaws.{none_found, common_found, aachen_found}
use Rattle.scan.proofs.area_run.kind_found.Goals as goal

pub returns-then-left-lt-AREA_SIZE : goal.returns-then-left-lt-AREA_SIZE
returns-then-left-lt-AREA_SIZE c = none_found _ _

pub returns-then-head-eq-COMMON_HEAD : goal.returns-then-head-eq-COMMON_HEAD
returns-then-head-eq-COMMON_HEAD c = common_found _ _ (λ i. (c.type_inv.b i).fits) (omega arith) (sym c.four_at-head.ensures.value ∙ c.if-head-eq-COMMON_HEAD.true)

pub returns-then-head-left : goal.returns-then-head-left
returns-then-head-left c =
    let a = c.args in
    let is = eqb c.four_at-head.result 524328 in
    let fits = leb 42 (length a.b.now - a.at) in
    let head : c.four_at-head.result ≡ 524328 = eqb-true _ _ (both_left is fits c.if-head-left.true) in
    let room : 42 ≤ length a.b.now - a.at = leb-true _ _ (both_right is fits c.if-head-left.true) in
    aachen_found _ _ (λ i. (c.type_inv.b i).fits) (omega arith) (sym c.four_at-head.ensures.value ∙ head)

pub returns : goal.returns
returns c = none_found _ _
