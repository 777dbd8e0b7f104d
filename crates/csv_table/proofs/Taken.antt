-- What a turn does, by the frame that stands at the start of the bytes that have come.
-- Assumes nothing.
use Prim.Native.Nat.{ℕ, ◌+◌, ◌≤◌, ◌<◌}
use native.Mathlib.Omega.{arith}
use mathlib.Core.Path.{◌≡◌, refl, sym}
use mathlib.Core.Bool.{Bool, true, false, ◌&&◌}
use mathlib.Core.List.{List, [], append-nil}
use borrow.Author.Tests.{eq-eqb, ne_eqb, ltb-true, eqb-true, eqb-false}
use native.Mathlib.Decide.{ℕ_discrete}
use lib.ListN.{length, take}
use lib.Seq.{length-take-le}
use lib.Dec.{ltb, eqb}
use Rattle.wire.specs.Frame.{frame_at, longest_record}
use Rattle.wire.specs.declared.Frame.TheVariants as frame
use Rattle.wire.proofs.Frames.{whole}
use Rattle.wire.proofs.Tests.{both_left, both_right}
use Rattle.reader.specs.Reading.{read_at, broken_frame}
use Rattle.text.specs.Clauses.{Put}
use Rattle.csv_table.specs.declared.turns.Turn.{Turn}
use Rattle.csv_table.specs.declared.turns.Turn.TheVariants as turn
use Rattle.csv_table.specs.Text.{refused_text, record_text}
use Rattle.csv_table.specs.Turns.{most_records, Effect, asks, puts, ends, record_effect, broken_effect, effect_of}
use Rattle.csv_table.specs.Clauses.{most_turn, Did, asked, put, ended, Range, Turned}

-- ---- The effect, way by way.

module _ (used : ℕ) (text : List ℕ) (number : ℕ) where
  pub last_effect : number ≡ most_records → record_effect used text number ≡ ends text
  unfolding record_effect
  last_effect is = rw (eq-eqb number most_records is)

  pub on_effect : (number ≡ most_records → ⊥) → record_effect used text number ≡ puts used text number
  unfolding record_effect
  on_effect other = rw (ne_eqb number most_records other)

module _ (size : ℕ) (more : Bool) (number : ℕ) where
  pub more_effect : more && ltb size longest_record ≡ true → broken_effect size more number ≡ asks
  unfolding broken_effect
  more_effect e = rw e

  module _ (now : more && ltb size longest_record ≡ false) where
    pub end_effect : size ≡ 0 → broken_effect size more number ≡ ends []
    unfolding broken_effect
    end_effect none = rw (now, eq-eqb size 0 none)

    pub broken-effect : (size ≡ 0 → ⊥) → broken_effect size more number ≡ ends (refused_text number broken_frame)
    unfolding broken_effect
    broken-effect some = rw (now, ne_eqb size 0 some)

module _ (piece : List ℕ) (more : Bool) (number : ℕ) where
  pub whole_way :
      (kind body : ℕ) → frame_at piece 0 ≡ frame.Whole kind body
      → effect_of piece more number ≡ record_effect (4 + body) (record_text (number + 1) (read_at (take (4 + body) piece) 0)) (number + 1)
  unfolding effect_of
  whole_way kind body e = rw (e, effect_of)

  pub broken_way : frame_at piece 0 ≡ frame.Broken → effect_of piece more number ≡ broken_effect (length piece) more (number + 1)
  unfolding effect_of
  broken_way e = rw (e, effect_of)

-- no byte put
pub nothing_put : (out : List ℕ) → Put [] most_turn out out
nothing_put out = record { put = sym (append-nil out); room = omega arith }

-- ---- What was done, by the turn's answer.

module _ {before after : List ℕ} where
  pub asked_by : {d : Effect} → Did before after d turn.More → (d ≡ asks) × (after ≡ before)
  asked_by (asked same) = (refl, same)

  pub put_by :
      {d : Effect} {used number : ℕ} → Did before after d (turn.On used number)
      → (text : List ℕ) × (d ≡ puts used text number) × Put text most_turn before after
  put_by (put x) = (_, refl, x)

  pub ended_by :
      {d : Effect} → Did before after d turn.Over
      → (text : List ℕ) × (d ≡ ends text) × Put text most_turn before after
  ended_by (ended x) = (_, refl, x)

-- ---- The range of what a turn leaves.

module _ (piece : List ℕ) (more : Bool) (number : ℕ) {a b : List ℕ} where
  put_range :
      {r : Turn} (used : ℕ) (text : List ℕ) (next : ℕ) → used ≤ length piece → next ≡ number + 1 → next < most_records
      → Did a b (puts used text next) r → Range piece more number a b r
  put_range used text next within one few (put x) = (within, (x.room, (one, few)))

  ended_range : {r : Turn} (text : List ℕ) → Did a b (ends text) r → Range piece more number a b r
  ended_range text (ended x) = x.room

  asked_range : {r : Turn} → more ≡ true → length piece < longest_record → Did a b asks r → Range piece more number a b r
  asked_range can few (asked same) = (can, few)

  module _ {r : Turn} where
    -- a whole record
    pub record_turned :
        (kind body : ℕ) → frame_at piece 0 ≡ frame.Whole kind body → number < most_records
        → Did a b
        (record_effect (length (take (4 + body) piece)) (record_text (number + 1) (read_at (take (4 + body) piece) 0)) (number + 1)) r
        → Turned piece more number a b r
    record_turned kind body e few d =
        let facts = whole piece 0 kind body e in
        let used_is : length (take (4 + body) piece) ≡ 4 + body = length-take-le (4 + body) piece (omega arith) in
        let same = rw used_is at d in
        record { did = rw (whole_way piece more number kind body e) same; range = go (eqb (number + 1) most_records) refl (omega arith) same }
      where
        text : List ℕ
        text = record_text (number + 1) (read_at (take (4 + body) piece) 0)

        go : (t : Bool) → eqb (number + 1) most_records ≡ t → 4 + body ≤ length piece → Did a b (record_effect (4 + body) text (number + 1)) r
            → Range piece more number a b r
        go true last within d = ended_range text (rw (last_effect (4 + body) text (number + 1) (eqb-true _ _ last)) at d)
        go false on within d =
            let not_last = eqb-false (number + 1) most_records on in
            put_range (4 + body) text (number + 1) within refl (ne_lt not_last)
            (rw (on_effect (4 + body) text (number + 1) not_last) at d)
          where
            ne_lt : (number + 1 ≡ most_records → ⊥) → number + 1 < most_records
            ne_lt other = omega (arith, few, other)

    -- none
    pub rest_turned :
        frame_at piece 0 ≡ frame.Broken → Did a b (broken_effect (length piece) more (number + 1)) r → Turned piece more number a b r
    rest_turned e d = record { did = rw (broken_way piece more number e) d; range = go (more && ltb (length piece) longest_record) refl }
      where
        go : (t : Bool) → more && ltb (length piece) longest_record ≡ t → Range piece more number a b r
        go true t =
            asked_range (both_left more _ t) (ltb-true (length piece) longest_record (both_right more _ t))
            (rw (more_effect (length piece) more (number + 1) t) at d)
        go false t =
            elim (ℕ_discrete (length piece) 0) [
              | yes none ↦ ended_range [] (rw (end_effect (length piece) more (number + 1) t none) at d)
              | no some ↦ ended_range (refused_text (number + 1) broken_frame) (rw (broken-effect (length piece) more (number + 1) t some) at d)
            ]
