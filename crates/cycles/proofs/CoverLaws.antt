-- What covering bicycles leaves in the book, word by word: each carried one's two words anew, and every other word as it was.
-- Assumes nothing.
use Prim.Native.Nat.{ℕ, zero, suc, ◌+◌, ◌≤◌, ◌<◌}
use native.Mathlib.Omega.{arith}
use native.Mathlib.Decide.{ℕ_discrete}
use mathlib.Core.Path.{◌≡◌, refl, ap, ◌∙◌}
use mathlib.Core.List.{List}
use lib.ListN.{length}
use Rattle.layout.specs.declared.Counts.{Counts}
use Rattle.areas.specs.Areas.{FaultlessTariff}
use Rattle.ledger.specs.Words.{book_size, word, put_word, cover_place, cover_word, paid_place, paid_word}
use Rattle.ledger.specs.Sound.{most_paid}
use Rattle.ledger.proofs.WordLaws.{word_put_same, word_put_other, size_put}
use Rattle.cycles.specs.Bicycles.{new_cover, paid_with, cover_bicycles}
use Rattle.cycles.proofs.BicycleLaws.{cover_there, paid_with_most}

module _ (tariff : List ℕ) (counts : Counts) (area : ℕ) where
  -- Covering bicycles leaves the book as long as it was.
  pub cover_size : (n : ℕ) (b : List ℕ) → length (cover_bicycles tariff counts area n b) ≡ length b
  unfolding cover_bicycles
  cover_size zero b = refl
  cover_size (suc n) b = size_put _ _ _ ∙ size_put _ _ _ ∙ cover_size n b

  -- Every word but those bicycles' stays.
  pub cover_other :
      (n : ℕ) (b : List ℕ) (j : ℕ) → ((i : ℕ) → i < n → (cover_place i ≡ j → ⊥) × (paid_place i ≡ j → ⊥))
      → word (cover_bicycles tariff counts area n b) j ≡ word b j
  unfolding cover_bicycles
  cover_other zero b j out = refl
  cover_other (suc n) b j out =
      word_put_other _ _ _ _ (out n (omega arith)).1 ∙ word_put_other _ _ _ _ (out n (omega arith)).0
      ∙ cover_other n b j (λ i h. out i (omega arith))

module _ {tariff : List ℕ} {counts : Counts} (t : FaultlessTariff tariff counts) (area : ℕ) (there : area < counts.areas) where
  -- the words of the next bicycle are as they were
  cover_kept : (n : ℕ) (b : List ℕ) → suc n ≤ 10 → cover_word (cover_bicycles tariff counts area n b) n ≡ cover_word b n
  cover_kept n b few = cover_other tariff counts area n b (cover_place n) (λ i h. (λ e. omega arith, λ e. omega arith))

  paid_kept : (n : ℕ) (b : List ℕ) → suc n ≤ 10 → paid_word (cover_bicycles tariff counts area n b) n ≡ paid_word b n
  paid_kept n b few = cover_other tariff counts area n b (paid_place n) (λ i h. (λ e. omega arith, λ e. omega arith))

  -- Each of the bicycles has its new covering area.
  pub cover_new :
      (n : ℕ) (b : List ℕ) → length b ≡ book_size → n ≤ 10 → ((i : ℕ) → i < n → cover_word b i ≤ counts.areas) → (k : ℕ) → k < n
      → cover_word (cover_bicycles tariff counts area n b) k ≡ 1 + new_cover tariff counts area (cover_word b k)
  unfolding cover_bicycles
  cover_new zero b size few covers k h = absurd (omega arith)
  cover_new (suc n) b size few covers k h =
      let before = cover_bicycles tariff counts area n b in
      let some = t.few_areas in
      let kept : cover_word before n ≡ cover_word b n = cover_kept n b few in
      let one = cover_there t area (cover_word before n) there (omega (arith, covers n (omega arith))) in
      elim (ℕ_discrete k n) [
        | yes is ↦
            rw is
            (word_put_other _ _ _ _ (λ e. omega arith)
            ∙ word_put_same before (cover_place n) (1 + new_cover tariff counts area (cover_word before n)) (cover_size tariff counts area n b ∙ size)
            (omega arith) (omega arith)
            ∙ ap (λ (old : ℕ). 1 + new_cover tariff counts area old) kept)
        | no ne ↦
            word_put_other _ _ _ _ (λ e. omega arith) ∙ word_put_other _ _ _ _ (λ e. ne (omega arith))
            ∙ cover_new n b size (omega arith) (λ i hi. covers i (omega arith)) k (omega arith)
      ]

  -- Each of them has its payments with those of the ride.
  pub paid_new :
      (n : ℕ) (b : List ℕ) → length b ≡ book_size → n ≤ 10 → ((i : ℕ) → i < n → cover_word b i ≤ counts.areas)
      → ((i : ℕ) → i < n → paid_word b i ≤ most_paid) → (k : ℕ) → k < n
      → paid_word (cover_bicycles tariff counts area n b) k
      ≡ paid_with tariff counts (new_cover tariff counts area (cover_word b k)) (paid_word b k)
  unfolding cover_bicycles
  paid_new zero b size few covers paids k h = absurd (omega arith)
  paid_new (suc n) b size few covers paids k h =
      let before = cover_bicycles tariff counts area n b in
      let new = new_cover tariff counts area (cover_word b n) in
      let most =
      paid_with_most t new (cover_there t area (cover_word b n) there (covers n (omega arith))) (paid_word b n) (paids n (omega arith))
      in
      elim (ℕ_discrete k n) [
        | yes is ↦
            rw (is, cover_kept n b few, paid_kept n b few)
            (word_put_same (put_word before (cover_place n) (1 + new)) (paid_place n) (paid_with tariff counts new (paid_word b n))
            (size_put before (cover_place n) (1 + new) ∙ cover_size tariff counts area n b ∙ size) (omega arith) (omega arith))
        | no ne ↦
            word_put_other _ _ _ _ (λ e. ne (omega arith)) ∙ word_put_other _ _ _ _ (λ e. omega arith)
            ∙ paid_new n b size (omega arith) (λ i hi. covers i (omega arith)) (λ i hi. paids i (omega arith)) k (omega arith)
      ]
