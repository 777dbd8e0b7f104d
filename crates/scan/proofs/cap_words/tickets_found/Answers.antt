-- `scan::cap_words::tickets_found` meets its contract: by the sort one of three laws says the rest.
use Rattle.std.proofs.Common.{◌≡◌, true, eqb, ltb, sym, ◌∙◌, ltb-true, eqb-true}
use lib.Bits.{bit_and, bit_or}
use Rattle.wire.proofs.Tests.{told}
use Rattle.scan.proofs.CapLaws.{no_ticket_told, one_ticket_told, level_tickets_told}
use Rattle.scan.proofs.cap_words.tickets_found.Goals as goal

pub returns-then-sort-eq0 : goal.returns-then-sort-eq0
returns-then-sort-eq0 c =
    let a = c.args in
    let words = bit_or c.eight_at-first.result (bit_and c.eight_at-last.result 9223653511831486463) in
    record {
      told =
          λ e.
          no_ticket_told a.b.now (λ i. (c.type_inv.b i).fits) a.at
          (sym c.one_at-sort.ensures.value ∙ c.if-sort-eq0.true)
          (rw (c.eight_at-last.ensures.value, c.eight_at-first.ensures.value) at (eqb-true words 0 e));
    }

pub returns-then-sort-eq2 : goal.returns-then-sort-eq2
returns-then-sort-eq2 c =
    let a = c.args in
    let words = bit_or (bit_and c.eight_at-first.result 9223512776490647552) (bit_and c.eight_at-last.result 9223512776490647552) in
    record {
      told =
          λ e.
          level_tickets_told a.b.now (λ i. (c.type_inv.b i).fits) a.at
          (sym c.one_at-sort.ensures.value ∙ c.if-sort-eq2.true)
          (rw (c.eight_at-last.ensures.value, c.eight_at-first.ensures.value) at (eqb-true words 0 e));
    }

pub returns : goal.returns
returns c =
    let a = c.args in
    let w = c.eight_at-first.result in
    let m = c.eight_at-last.result in
    record {
      told =
          λ e.
          let one : eqb c.one_at-sort.result 1 ≡ true = search told in
          let rest : eqb (bit_and m 9223653511831486463) 0 ≡ true = search told in
          let few : ltb w 32768 ≡ true = search told in
          one_ticket_told a.b.now (λ i. (c.type_inv.b i).fits) a.at
          (sym c.one_at-sort.ensures.value ∙ eqb-true _ 1 one) (rw c.eight_at-last.ensures.value at (eqb-true (bit_and m 9223653511831486463) 0 rest))
          (rw c.eight_at-first.ensures.value at (ltb-true w 32768 few));
    }
