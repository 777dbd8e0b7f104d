-- `page::checks::only_here` meets its contract: by the number that stands there, and by whether it is found behind.
use native.Mathlib.Omega.{arith}
use mathlib.Core.Path.{sym, ap, ◌∙◌}
use Prim.Native.Nat.{◌+◌, ◌-◌}
use Rattle.page.specs.Pages.{lowest_with}
use Rattle.page.proofs.Conditions.{only_free, only_alone, only_again}
use Rattle.page.proofs.checks.only_here.Goals as goal

pub number_at-number-requires : goal.number_at-number-requires
number_at-number-requires c =
    let asked = c.requires in
    record { size = asked.0.size; there = omega (arith, asked.0.there, asked.1) }

pub returns-then-number-eq0 : goal.returns-then-number-eq0
returns-then-number-eq0 c =
    let a = c.args in
    sym (only_free a.page.now a.end a.place (sym c.number_at-number.ensures.value ∙ c.if-number-eq0.true))

pub lowest_with-requires : goal.lowest_with-requires
lowest_with-requires c =
    let asked = c.requires in
    record { size = asked.0.size; there = omega (arith, asked.0.there, asked.1) }

pub returns-in-Nowhere : goal.returns-in-Nowhere
returns-in-Nowhere c =
    let a = c.args in
    let value = c.number_at-number.ensures.value in
    sym
    (only_alone a.page.now a.end a.place (λ z. c.if-number-eq0.false (value ∙ z))
    (ap (lowest_with a.page.now (a.place + 1) (a.end - (a.place + 1))) (sym value) ∙ sym c.lowest_with.ensures ∙ c.in-Nowhere.is))

pub returns-in-At : goal.returns-in-At
returns-in-At c =
    let a = c.args in
    let value = c.number_at-number.ensures.value in
    sym
    (only_again a.page.now a.end a.place (λ z. c.if-number-eq0.false (value ∙ z))
    (ap (lowest_with a.page.now (a.place + 1) (a.end - (a.place + 1))) (sym value) ∙ sym c.lowest_with.ensures ∙ c.in-At.is))
