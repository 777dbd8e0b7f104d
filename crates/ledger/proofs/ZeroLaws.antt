-- Words with their bits put together: how more of them are joined, and that none set means a book of zeros.
-- Assumes nothing.
use Rattle.std.proofs.Common.{◌≡◌, ℕ, ◌+◌, ◌*◌, ◌^◌, ◌≤◌, Bool, true, false, eqb, List, sym, refl, ◌∙◌, arith, eq-eqb, ne_eqb}
use native.Mathlib.Decide.{ℕ_discrete, dec_lt}
use lib.Bits.{bit_or}
use Rattle.wire.specs.Number.{Number}
use Rattle.wire.proofs.Number.{point_word}
use Rattle.ledger.specs.Words.{book_words, word}
use Rattle.ledger.specs.Sound.{all_zero}
use Rattle.ledger.specs.Clauses.{BitsOf}
use Rattle.ledger.proofs.GapLaws.{or_first, or_second}
use Rattle.ledger.proofs.SoundLaws.{zeros_have, zeros_back}

-- no words
pub bits_none : (b : List ℕ) → BitsOf b 0 0 0
bits_none b = record { none = λ none k from to. absurd (omega arith); clear = λ zero. refl }

-- eight bytes are two words
pub bits_two : (b : List ℕ) (p at r : ℕ) → Number 8 b at r → at ≡ 4 * p → BitsOf b p (p + 2) r
bits_two b p at r n is =
    record {
      none = λ none k from to.
          elim (ℕ_discrete k p) [
            | yes e ↦ rw e (omega (arith, halves))
            | no ne ↦ let e : k ≡ p + 1 = omega arith in rw e (omega (arith, halves))
          ];
      clear = λ zero. omega (arith, halves, zero p (omega arith) (omega arith), zero (p + 1) (omega arith) (omega arith));
    }
  where
    halves : r ≡ word b p + 2 ^ 32 * word b (p + 1)
    halves =
        let second : at + 4 ≡ 4 * (p + 1) = omega arith in
        n.value ∙ point_word b at ∙ rw (second, is)

-- the words of two, of which the second begin no later than the first end
pub bits_join :
    {b : List ℕ} {from middle middle' to x y : ℕ} → BitsOf b from middle x → BitsOf b middle' to y → from ≤ middle' → middle' ≤ middle → middle ≤ to
    → BitsOf b from to (bit_or x y)
bits_join {b} {from} {middle} {middle'} {to} {x} {y} first second h₁ h₂ h₃ =
    record {
      none = λ none k least most.
          elim (dec_lt k middle) [
            | yes low ↦ first.none (omega (arith, or_first x y)) k least low
            | no high ↦ second.none (omega (arith, or_second x y)) k (omega arith) most
          ];
      clear = λ zero.
          let a = first.clear (λ k least most. zero k least (omega arith)) in
          let c = second.clear (λ k least most. zero k (omega arith) most) in
          rw (a, c);
    }

-- and of some with three times as many more
pub bits_more :
    {b : List ℕ} {from a c d end x y z w : ℕ} (n : ℕ) → from ≤ a → BitsOf b from a x → BitsOf b a (a + n) y → BitsOf b c (c + n) z
    → BitsOf b d (d + n) w → c ≡ a + n → d ≡ c + n → end ≡ d + n → BitsOf b from end (bit_or (bit_or (bit_or x y) z) w)
bits_more n some first second third fourth h₁ h₂ h₃ =
    rw h₃
    (bits_join
    (bits_join
    (bits_join first second some (omega arith) (omega arith)) third (omega arith) (omega arith) (omega arith)) fourth (omega arith) (omega arith) (omega arith))

-- no bit of a whole book is set exactly where it is all zero
pub bits_zero : (b : List ℕ) (bits : ℕ) → BitsOf b 0 book_words bits → eqb bits 0 ≡ all_zero b
bits_zero b bits all =
    elim (ℕ_discrete bits 0) [
      | yes none ↦ eq-eqb bits 0 none ∙ sym (zeros_back b (λ k h. all.none none k (omega arith) h))
      | no some ↦ ne_eqb bits 0 some ∙ sym (go (all_zero b) refl some)
    ]
  where
    go : (t : Bool) → all_zero b ≡ t → (bits ≡ 0 → ⊥) → all_zero b ≡ false
    go true e some = absurd (some (all.clear (λ k least most. zeros_have b e k most)))
    go false e some = e
