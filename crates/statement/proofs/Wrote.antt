-- What is written at a place of a statement: runs of bytes one behind another, the persons and bicycles of a record one by one, the whole
-- record; and that all else stays as it was.
-- Assumes nothing.
use Prim.Native.Nat.{ℕ, suc, ◌+◌, ◌-◌, ◌≤◌}
use native.Mathlib.Nat.{add-zero, le_refl}
use native.Mathlib.Omega.{arith}
use mathlib.Core.Path.{◌≡◌, refl, sym, ap, ◌∙◌}
use mathlib.Core.List.{List, [], ◌∷◌, ◌++◌, append_assoc, append-nil}
use lib.ListN.{length, set, take, drop, length-append, take-append-drop}
use lib.Seq.{sets, length-sets, sets-eq, take-set-le, drop-set-lt, drop-set-add, take_at, drop_at, length-take-le}
use Rattle.wire.specs.Number.{get_le, put_le, bytes_of}
use Rattle.wire.proofs.Number.{get_take, get_drop, length_bytes, put_sets, sets_more}
use Rattle.caps.specs.declared.Cut.{Cut}
use Rattle.trip.specs.declared.Ride.{Ride}
use Rattle.statement.specs.Record.{Part, head_of, person_bytes, charge_bytes, record_of}
use Rattle.statement.specs.Clauses.{Wrote, StandsAt}
use Rattle.statement.proofs.Charges.{charges_join, bicycles_join}

-- ---- One behind another.

-- Nothing is written yet.
pub nothing_wrote : (s : List ℕ) (place : ℕ) → Wrote [] s place s place
nothing_wrote s place = record { next = sym (add-zero place); stored = refl }

-- Bytes behind others make one run with them.
pub behind_wrote :
    {bytes more s s₁ s₂ : List ℕ} {place next r : ℕ} → Wrote bytes s place s₁ next → Wrote more s₁ next s₂ r → Wrote (bytes ++ more) s place s₂ r
behind_wrote {bytes} {more} {s} {place = place} one other =
    record {
      next = rw (length-append bytes more) (omega (arith, one.next, other.next));
      stored = other.stored ∙ rw (one.stored, one.next) (sets_more s place bytes more);
    }

-- A number's bytes, and a number's bytes behind others.
pub field_wrote : (k v : ℕ) {s s₁ : List ℕ} {place : ℕ} → s₁ ≡ put_le k s place v → Wrote (bytes_of k v) s place s₁ (place + k)
field_wrote k v {s} {place = place} put =
    record { next = ap (place +◌) (sym (length_bytes k v)); stored = put ∙ put_sets k s place v }

pub field_behind :
    (k v : ℕ) {bytes s s₁ s₂ : List ℕ} {place next at : ℕ} → Wrote bytes s place s₁ next → s₂ ≡ put_le k s₁ at v → at ≡ next
    → Wrote (bytes ++ bytes_of k v) s place s₂ (at + k)
field_behind k v so_far put here = behind_wrote (rw (sym here) at so_far) (field_wrote k v put)

-- No rider is written yet.
pub nobody_wrote : (s : List ℕ) (place : ℕ) → Wrote (charge_bytes [] []) s place s place
unfolding charge_bytes
nobody_wrote = nothing_wrote

-- Riders behind others, each with a cut.
pub persons_wrote :
    (charges others : List ℕ) (cuts further : List Cut) {s s₁ s₂ : List ℕ} {place next r : ℕ} → length cuts ≡ length charges
    → Wrote (charge_bytes charges cuts) s place s₁ next → Wrote (charge_bytes others further) s₁ next s₂ r
    → Wrote (charge_bytes (charges ++ others) (cuts ++ further)) s place s₂ r
persons_wrote charges others cuts further same one other = rw (charges_join charges others cuts further same) (behind_wrote one other)

-- One rider more.
pub person_wrote :
    (charges : List ℕ) (cuts : List Cut) (charge : ℕ) (cut : Cut) {s s₁ s₂ : List ℕ} {place next r : ℕ} → length cuts ≡ length charges
    → Wrote (charge_bytes charges cuts) s place s₁ next → Wrote (person_bytes charge cut) s₁ next s₂ r
    → Wrote (charge_bytes (charges ++ (charge ∷ [])) (cuts ++ (cut ∷ []))) s place s₂ r
unfolding charge_bytes
person_wrote charges cuts charge cut same so_far here =
    persons_wrote charges (charge ∷ []) cuts (cut ∷ []) same so_far (rw (append-nil (person_bytes charge cut)) here)

-- One bicycle more.
pub bicycle_wrote :
    (charges : List ℕ) (charge : ℕ) {s s₁ s₂ : List ℕ} {place next r : ℕ} → Wrote (charge_bytes charges []) s place s₁ next
    → Wrote (bytes_of 4 charge) s₁ next s₂ r → Wrote (charge_bytes (charges ++ (charge ∷ [])) []) s place s₂ r
unfolding charge_bytes
bicycle_wrote charges charge so_far here =
    rw (bicycles_join charges (charge ∷ []), append-nil (bytes_of 4 charge)) (behind_wrote so_far here)

-- The head, the persons behind it and the bicycles behind them are the record.
pub record_wrote :
    (opening : ℕ) (ride : Ride) (charges bicycles : List ℕ) (cuts : List Cut) {s s₁ s₂ s₃ : List ℕ} {place first behind r : ℕ}
    → length cuts ≡ length charges → Wrote (head_of opening ride) s place s₁ first → Wrote (charge_bytes charges cuts) s₁ first s₂ behind
    → Wrote (charge_bytes bicycles []) s₂ behind s₃ r
    → Wrote (record_of (record { opening = opening; ride = ride; charges = charges ++ bicycles; cuts = cuts })) s place s₃ r
unfolding record_of
record_wrote opening ride charges bicycles cuts same head persons others =
    behind_wrote head (rw (append-nil cuts) at (persons_wrote charges bicycles cuts [] same persons others))

-- ---- All else stays.

take_before : (n : ℕ) (vs l : List ℕ) (i : ℕ) → n ≤ i → take n (sets l i vs) ≡ take n l
take_before n [] l i before = refl
take_before n (v ∷ vs) l i before = take_before n vs (set l i v) (suc i) (omega arith) ∙ take-set-le n l i v before

drop_behind : (n : ℕ) (vs l : List ℕ) (i : ℕ) → i + length vs ≤ n → drop n (sets l i vs) ≡ drop n l
drop_behind n [] l i behind = refl
drop_behind n (v ∷ vs) l i behind = drop_behind n vs (set l i v) (suc i) (omega arith) ∙ drop-set-lt n l i v (omega arith)

drop_within : (n : ℕ) (vs l : List ℕ) (i : ℕ) → drop n (sets l (n + i) vs) ≡ sets (drop n l) i vs
drop_within n [] l i = refl
drop_within n (v ∷ vs) l i =
    ap (λ (k : ℕ). drop n (sets (set l (n + i) v) k vs)) (omega arith)
    ∙ drop_within n vs (set l (n + i) v) (suc i)
    ∙ ap (λ (l' : List ℕ). sets l' (suc i) vs) (drop-set-add n l i v)

module _ {bytes s s' : List ℕ} {place r : ℕ} (wrote : Wrote bytes s place s' r) where
  pub length_wrote : length s' ≡ length s
  length_wrote = ap length wrote.stored ∙ length-sets s place bytes

  -- What stands before the place, and what stands behind the bytes.
  pub before_stays : (n : ℕ) → n ≤ place → take n s' ≡ take n s
  before_stays n before = ap (take n) wrote.stored ∙ take_before n bytes s place before

  pub behind_stays : (n : ℕ) → r ≤ n → drop n s' ≡ drop n s
  behind_stays n behind = ap (drop n) wrote.stored ∙ drop_behind n bytes s place (omega (arith, wrote.next))

  -- So a number that is read there.
  pub read_before : (k p : ℕ) → p + k ≤ place → get_le k s' p ≡ get_le k s p
  read_before k p before =
      sym (get_take k place s' p before) ∙ ap (λ (l : List ℕ). get_le k l p) (before_stays place (le_refl place)) ∙ get_take k place s p before

  pub read_behind : (k p : ℕ) → r ≤ p → get_le k s' p ≡ get_le k s p
  read_behind k p behind =
      let at : r + (p - r) ≡ p = omega arith in
      ap (get_le k s') (sym at)
      ∙ sym (get_drop k r s' (p - r))
      ∙ ap (λ (l : List ℕ). get_le k l (p - r)) (behind_stays r (le_refl r))
      ∙ get_drop k r s (p - r)
      ∙ ap (get_le k s) at

  -- A record that ends before the place stands as it stood.
  pub stands_still : {part : Part} {q : ℕ} → StandsAt part s q → q + length (record_of part) ≤ place → StandsAt part s' q
  stands_still {part} {q} stands before =
      let n = length (record_of part) in
      let from : q + (place - q) ≡ place = omega arith in
      let moved : drop q s' ≡ sets (drop q s) (place - q) bytes =
      ap (drop q) wrote.stored ∙ ap (λ (k : ℕ). drop q (sets s k bytes)) (sym from) ∙ drop_within q bytes s (place - q)
      in
      let same : take n (drop q s') ≡ record_of part =
      ap (take n) moved
      ∙ take_before n bytes (drop q s) (place - q) (omega arith)
      ∙ ap (take n) stands.is
      ∙ take_at (record_of part) stands.rest n refl
      in
      record { rest = drop n (drop q s'); is = sym (take-append-drop n (drop q s')) ∙ ap (◌++ drop n (drop q s')) same }

-- A record that was written stands at its place.
pub record_stands :
    {part : Part} {s s' : List ℕ} {place r : ℕ} → Wrote (record_of part) s place s' r → r ≤ length s → StandsAt part s' place
record_stands {part} {s} {s'} {place} {r} wrote room =
    let n = length (record_of part) in
    let short : place + n ≤ length s = omega (arith, wrote.next) in
    record {
      rest = drop (place + n) s;
      is =
          ap (drop place) (wrote.stored ∙ sets-eq (record_of part) s place short)
          ∙ ap (drop place) (append_assoc (take place s) (record_of part) (drop (place + n) s))
          ∙ drop_at (take place s) (record_of part ++ drop (place + n) s) place (length-take-le place s (omega arith));
    }
