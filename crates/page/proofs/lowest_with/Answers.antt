-- `page::lowest_with` meets its contract: at each turn the lowest of all is the lowest of those that are left.
use Prim.Native.Nat.{◌+◌, ◌-◌}
use native.Mathlib.Omega.{arith}
use mathlib.Core.Path.{refl, sym, ap, ◌∙◌}
use Rattle.page.specs.Pages.{lowest_with}
use Rattle.page.proofs.Lowest.{lowest_none, lowest_here, lowest_next}
use Rattle.page.proofs.lowest_with.Goals as goal

pub loop-place-init : goal.loop-place-init
loop-place-init c =
    let a = c.args in
    (omega arith, (refl, ap (λ n. lowest_with a.page.now a.first n a.number) (omega arith)))

pub number_at-requires : goal.number_at-requires
number_at-requires c =
    let asked = c.requires in
    let (inside, (end, sofar)) = c.loop-place.invariant in
    record { size = asked.size; there = omega (arith, asked.there) }

pub returns-then-number_at-number : goal.returns-then-number_at-number
returns-then-number_at-number c =
    let (inside, (end, sofar)) = c.loop-place.invariant in
    sym (sofar ∙ lowest_here _ _ _ _ (omega arith) (sym c.number_at.ensures.value ∙ c.if-number_at-number.true))

pub loop-place-preserved : goal.loop-place-preserved
loop-place-preserved c =
    let a = c.args in
    let l = c.loop-place in
    let (inside, (end, sofar)) = l.invariant in
    let next = lowest_next a.page.now a.number l.place (a.first + a.count - l.place) (omega arith) (λ is. c.if-number_at-number.false (c.number_at.ensures.value ∙ is)) in
    (omega arith, (end, sofar ∙ ap (λ n. lowest_with a.page.now l.place n a.number) (omega arith) ∙ next ∙ ap (λ n. lowest_with a.page.now (l.place + 1) n a.number) (omega arith)))

pub returns : goal.returns
returns c =
    let a = c.args in
    let l = c.loop-place in
    let (inside, (end, sofar)) = l.invariant in
    sym (sofar ∙ ap (λ n. lowest_with a.page.now l.place n a.number) (omega arith) ∙ lowest_none a.page.now a.number l.place)
