-- What the fast way over the pairs carries on, and why it is right: with its gap each second-class sum makes its all-classes sum.
-- Assumes nothing.
use Rattle.std.proofs.Common.{◌≡◌, ℕ, ◌+◌, ◌-◌, ◌%◌, ◌^◌, ◌<◌, ◌≤◌, true, leb, List, ap, ◌∙◌, arith, le-leb, leb-true}
use native.Mathlib.Decide.{ℕ_discrete}
use lib.Bits.{bit_or, or_add_and, and_le_l, and_le_r}
use Rattle.wire.proofs.Each.{each_all}
use Rattle.ledger.specs.Words.{word, pairs, pair_at}
use Rattle.ledger.specs.Sound.{pairs_sound}
use Rattle.ledger.proofs.SoundLaws.{pair_right}

-- numbers with their bits put together are at least each of them
pub or_first : (a b : ℕ) → a ≤ bit_or a b
or_first a b = omega (arith, or_add_and a b, and_le_r a b)

pub or_second : (a b : ℕ) → b ≤ bit_or a b
or_second a b = omega (arith, or_add_and a b, and_le_l a b)

-- a pair whose second-class sum and gap are at most these
pub record GapSeen (b : List ℕ) (seconds gaps k : ℕ) : Type 0 where
  pub gap : ℕ
  pub small : gap ≤ gaps
  pub second : word b (pair_at k) ≤ seconds
  pub makes : (gap + word b (pair_at k)) % 2 ^ 32 ≡ word b (pair_at k + 1)

-- After i turns: all pairs before the i-th.
pub record GapsSeen (b : List ℕ) (seconds gaps i : ℕ) : Type 0 where
  pub some : i ≤ pairs
  pub seen : (k : ℕ) → k < i → GapSeen b seconds gaps k

pub gaps_start : (b : List ℕ) → GapsSeen b 0 0 0
gaps_start b = record { some = omega arith; seen = λ k h. absurd (omega arith) }

pub gaps_turn :
    {b : List ℕ} {seconds gaps i place second all : ℕ} (gap : ℕ) → GapsSeen b seconds gaps i → i < pairs → place ≡ pair_at i → second ≡ word b place
    → all ≡ word b (place + 1) → (gap + second) % 2 ^ 32 ≡ all → GapsSeen b (bit_or seconds second) (bit_or gaps gap) (i + 1)
gaps_turn {b} {seconds} {gaps} {i} {place} {second} {all} gap s more is read read' made =
    record {
      some = omega arith;
      seen = λ k h.
          elim (ℕ_discrete k i) [
            | yes e ↦ rw e (record {
              gap = gap;
              small = or_second gaps gap;
              second = omega (arith, or_second seconds second, here);
              makes = rw (← here) (made ∙ read' ∙ ap (λ (p : ℕ). word b (p + 1)) is);
            })
            | no ne ↦
                let old = s.seen k (omega arith) in
                record {
                  gap = old.gap;
                  small = omega (arith, old.small, or_first gaps gap);
                  second = omega (arith, old.second, or_first seconds second);
                  makes = old.makes;
                }
          ];
    }
  where
    here : second ≡ word b (pair_at i)
    here = read ∙ ap (word b) is

pub gaps_end :
    {b : List ℕ} {seconds gaps i most : ℕ} → GapsSeen b seconds gaps i → pairs ≤ i → seconds ≤ most → leb gaps (most - seconds) ≡ true
    → most < 2 ^ 32 → pairs_sound b most ≡ true
unfolding pairs_sound
gaps_end {b} {seconds} {gaps} {i} {most} s last some clear range = each_all pairs (pair_right b most) at
  where
    low : gaps ≤ most - seconds
    low = leb-true gaps (most - seconds) clear

    at : (k : ℕ) → k < pairs → pair_right b most k ≡ true
    at k h =
        let one = s.seen k (omega arith) in
        let whole : one.gap + word b (pair_at k) ≡ word b (pair_at k + 1) = omega (arith, low, one.small, one.second, one.makes) in
        rw (
          le-leb (word b (pair_at k)) (word b (pair_at k + 1)) (omega arith),
          le-leb (word b (pair_at k + 1)) most (omega (arith, low, one.small, one.second)),
        )
