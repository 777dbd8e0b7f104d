-- `scan::cap_words::caps_found` meets its contract: by the sort one of three laws says the rest.
use Rattle.std.proofs.Common.{◌≡◌, true, eqb, ltb, leb, sym, ◌∙◌, arith, ltb-true, eqb-true, leb-true}
use mathlib.Core.Bool.{false≢true}
use lib.Bits.{bit_and, bit_or}
use Rattle.wire.proofs.Tests.{told}
use Rattle.scan.proofs.CapLaws.{no_cap_told, flat_told, levels_told}
use Rattle.scan.proofs.cap_words.caps_found.Goals as goal

pub returns-then-flat_at-gt-MONEY : goal.returns-then-flat_at-gt-MONEY
returns-then-flat_at-gt-MONEY c = record { told = λ e. absurd (false≢true e) }

pub returns-then-sort-eq0 : goal.returns-then-sort-eq0
returns-then-sort-eq0 c =
    let a = c.args in
    let words = bit_or c.eight_at-first.result (bit_and c.wrapping_add_u64-last.result 9223653511831486463) in
    record {
      told =
          λ e.
          no_cap_told a.b.now (λ i. (c.type_inv.b i).fits) a.at (omega (arith, c.if-flat_at-gt-MONEY.false, c.flat_at.ensures))
          (sym c.one_at-sort.ensures.value ∙ c.if-sort-eq0.true)
          (rw (c.wrapping_add_u64-last.ensures.value, c.eight_at.ensures.value, c.eight_at-first.ensures.value) at (eqb-true words 0 e));
    }

pub returns-then-sort-eq2 : goal.returns-then-sort-eq2
returns-then-sort-eq2 c =
    let a = c.args in
    let words = bit_or (bit_and c.eight_at-first.result 9223512776490647552) (bit_and c.wrapping_add_u64-last.result 9223512776490647552) in
    record {
      told =
          λ e.
          levels_told a.b.now (λ i. (c.type_inv.b i).fits) a.at (omega (arith, c.if-flat_at-gt-MONEY.false, c.flat_at.ensures))
          (sym c.one_at-sort.ensures.value ∙ c.if-sort-eq2.true)
          (rw (c.wrapping_add_u64-last.ensures.value, c.eight_at.ensures.value, c.eight_at-first.ensures.value) at (eqb-true words 0 e));
    }

pub returns : goal.returns
returns c =
    let a = c.args in
    let w = c.eight_at-first.result in
    let m = c.wrapping_add_u64-last.result in
    let first_is = c.eight_at-first.ensures.value in
    record {
      told =
          λ e.
          let one : eqb c.one_at-sort.result 1 ≡ true = search told in
          let rest : eqb (bit_and m 9223653511831486463) 0 ≡ true = search told in
          let least : leb 1966080 w ≡ true = search told in
          let most : ltb w 94437376 ≡ true = search told in
          let upper : eqb (bit_and w 32768) 0 ≡ true = search told in
          flat_told a.b.now (λ i. (c.type_inv.b i).fits) a.at (omega (arith, c.if-flat_at-gt-MONEY.false, c.flat_at.ensures))
          (sym c.one_at-sort.ensures.value ∙ eqb-true _ 1 one)
          (rw (c.wrapping_add_u64-last.ensures.value, c.eight_at.ensures.value) at (eqb-true (bit_and m 9223653511831486463) 0 rest))
          (rw first_is at (leb-true 1966080 w least)) (rw first_is at (ltb-true w 94437376 most)) (rw first_is at (eqb-true (bit_and w 32768) 0 upper));
    }
