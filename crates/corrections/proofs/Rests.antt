-- The records of a roll that are still to be settled, one by one.
-- Assumes nothing.
use Prim.Native.Nat.{ℕ, zero, suc, ◌+◌, ◌-◌, ◌≤◌}
use native.Mathlib.Omega.{arith}
use native.Mathlib.Nat.{add-zero}
use mathlib.Core.Path.{◌≡◌, refl, ap, ◌∙◌}
use mathlib.Core.List.{List, [], ◌∷◌}
use lib.ListN.{take, drop}
use lib.Seq.{drop-drop}
use Rattle.wire.specs.Frame.{frame_at}
use Rattle.wire.specs.declared.Frame.TheVariants.{Whole, Broken}
use Rattle.editions.proofs.OpeningLaws.{frame_drop}
use Rattle.settle.specs.Runs.{Offer}
use Rattle.roll.specs.Lines.{offers_of}
use Rattle.corrections.specs.declared.runs.Cursor.{Cursor}
use Rattle.corrections.specs.Corrections.{exchanged}
use Rattle.corrections.specs.Clauses.{offered, behind_at, rest_of}

-- ---- A roll's own.

pub none_offered : (most : ℕ) (roll : List ℕ) → frame_at roll 0 ≡ Broken → offers_of most roll ≡ []
unfolding offers_of
none_offered zero roll e = refl
none_offered (suc most) roll e = rw (e, offers_of)

pub one_offered :
    (most : ℕ) (roll : List ℕ) (kind body : ℕ) → frame_at roll 0 ≡ Whole kind body
    → offers_of (suc most) roll ≡ offered (take (4 + body) roll) ∷ offers_of most (drop (4 + body) roll)
unfolding offers_of
one_offered most roll kind body e = rw (e, offers_of)

-- ---- With one exchanged.

pub none_exchanged : (n : ℕ) (replacement : List ℕ) → exchanged n replacement [] ≡ []
unfolding exchanged
none_exchanged zero replacement = refl
none_exchanged (suc n) replacement = refl

pub this_exchanged :
    (replacement : List ℕ) (offer : Offer) (later : List Offer)
    → exchanged 1 replacement (offer ∷ later) ≡ offered replacement ∷ exchanged 0 replacement later
unfolding exchanged
this_exchanged replacement offer later = refl

pub other_exchanged :
    (n : ℕ) (replacement : List ℕ) (offer : Offer) (later : List Offer) → (n ≡ 1 → ⊥)
    → exchanged n replacement (offer ∷ later) ≡ offer ∷ exchanged (n - 1) replacement later
unfolding exchanged
other_exchanged zero replacement offer later other = refl
other_exchanged (suc zero) replacement offer later other = absurd (other refl)
other_exchanged (suc (suc n)) replacement offer later other =
    let less : suc n ≡ suc (suc n) - 1 = omega arith in ap (λ (m : ℕ). offer ∷ exchanged m replacement later) less

-- ---- What is left of a run.

module _ (roll replacement : List ℕ) (cursor : Cursor) where
  framed : frame_at (drop cursor.next roll) 0 ≡ frame_at roll cursor.next
  framed = frame_drop cursor.next roll 0 ∙ ap (frame_at roll) (add-zero cursor.next)

  pub all_taken : cursor.left ≡ 0 → rest_of roll replacement cursor ≡ []
  unfolding offers_of
  all_taken none = rw none (none_exchanged cursor.until replacement)

  pub roll_ends : frame_at roll cursor.next ≡ Broken → rest_of roll replacement cursor ≡ []
  roll_ends e =
      rw (none_offered cursor.left (drop cursor.next roll) (framed ∙ e)) (none_exchanged cursor.until replacement)

  module _ {kind body : ℕ} (e : frame_at roll cursor.next ≡ Whole kind body) (some : 1 ≤ cursor.left) where
    abbrev end : ℕ
    end = cursor.next + 4 + body

    -- the record's bytes
    abbrev pub own : List ℕ
    own = take (end - cursor.next) (drop cursor.next roll)

    own_next : offers_of cursor.left (drop cursor.next roll) ≡ offered own ∷ offers_of (cursor.left - 1) (drop end roll)
    own_next =
        let one_more : cursor.left ≡ suc (cursor.left - 1) = omega arith in
        let behind : cursor.next + (4 + body) ≡ end = omega arith in
        let long : 4 + body ≡ end - cursor.next = omega arith in
        ap (λ (n : ℕ). offers_of n (drop cursor.next roll)) one_more
        ∙ one_offered (cursor.left - 1) (drop cursor.next roll) kind body (framed ∙ e)
        ∙ ap (λ (n : ℕ). offered (take n (drop cursor.next roll)) ∷ offers_of (cursor.left - 1) (drop (4 + body) (drop cursor.next roll))) long
        ∙ ap (λ (later : List ℕ). offered own ∷ offers_of (cursor.left - 1) later)
        (drop-drop (4 + body) cursor.next roll ∙ ap (λ (n : ℕ). drop n roll) behind)

    pub next_exchanged : cursor.until ≡ 1 → rest_of roll replacement cursor ≡ offered replacement ∷ rest_of roll replacement (behind_at cursor end)
    next_exchanged is =
        ap (exchanged cursor.until replacement) own_next
        ∙ rw is (this_exchanged replacement (offered own) (offers_of (cursor.left - 1) (drop end roll)))

    pub next_own : (cursor.until ≡ 1 → ⊥) → rest_of roll replacement cursor ≡ offered own ∷ rest_of roll replacement (behind_at cursor end)
    next_own other =
        ap (exchanged cursor.until replacement) own_next
        ∙ other_exchanged cursor.until replacement (offered own) (offers_of (cursor.left - 1) (drop end roll)) other
