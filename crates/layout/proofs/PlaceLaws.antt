-- The place of an area among those so far, by its level: a region's, and that of an area whose level is none; and what area 0 is.
-- Assumes nothing.
use Prim.Native.Nat.{ℕ, ◌<◌}
use native.Mathlib.Omega.{arith}
use native.Mathlib.Decide.{ℕ_discrete}
use mathlib.Core.Path.{◌≡◌, refl, sym, ap}
use mathlib.Core.Bool.{Bool, true, false, ◌&&◌, ◌||◌}
use mathlib.Core.List.{List}
use borrow.Author.Tests.{ne_eqb, lt-ltb}
use lib.Dec.{leb, ltb, eqb}
use Rattle.wire.proofs.Tests.{told}
use Rattle.layout.specs.declared.Counts.{Counts}
use Rattle.layout.specs.declared.fields.AreaFields.{AreaFields}
use Rattle.layout.specs.Layout.{aachen_kind, common_kind, area_place, areas_before}
use Rattle.layout.specs.Fields.{area_fields, long_fields}
use Rattle.layout.specs.Rules.{flat_of, place_right, area_right, level_of, kind_of}
use Rattle.layout.proofs.Places.{place_none}

-- a test that fails between two others
never : (s t : Bool) → s && false && t ≡ false
never true t = refl
never false t = refl

module _ (b : List ℕ) (so_far : Counts) (kind : ℕ) (f : AreaFields) (some : 0 < so_far.areas) where
  -- A region's parent is the state, whose flat its own does not exceed, unless it is of kind 8.
  pub place_of_region :
      f.level ≡ 1
      → eqb f.parent 0 && (eqb kind aachen_kind || leb f.bicycle_flat (area_fields b 0).bicycle_flat) ≡ place_right b so_far kind f
  unfolding place_right
  place_of_region level =
      elim (ℕ_discrete f.parent 0) [
        | yes state ↦
            rw (ne_eqb so_far.areas 0 (λ e. omega arith), level, state, lt-ltb 0 so_far.areas some)
            (ap (λ (place : ℕ). eqb kind aachen_kind || leb f.bicycle_flat (area_fields b place).bicycle_flat) (sym (place_none b)))
        | no other ↦
            rw (ne_eqb so_far.areas 0 (λ e. omega arith), level, ne_eqb f.parent 0 other)
            (sym (never (ltb f.parent so_far.areas) (eqb kind aachen_kind || leb f.bicycle_flat (flat_of b f.parent))))
      ]

  -- No area has a level besides.
  pub place_of_none : (f.level ≡ 1 → ⊥) → (f.level ≡ 2 → ⊥) → false ≡ place_right b so_far kind f
  unfolding place_right
  place_of_none no-region no-city =
      rw (ne_eqb so_far.areas 0 (λ e. omega arith), ne_eqb f.level 1 no-region, ne_eqb f.level 2 no-city)
      (sym (never (ltb f.parent so_far.areas) (leb f.bicycle_flat (flat_of b f.parent))))

-- area 0 has level 0, and is of kind 1
module _ (b : List ℕ) (counts : Counts)
    (e : area_right b (areas_before b 0) (kind_of b 0) (area_fields b (area_place b 0)) (long_fields b (area_place b 0)) ≡ true) where
  pub state_level : level_of b 0 ≡ 0
  unfolding place_right
  state_level = search told

  pub state_kind : kind_of b 0 ≡ common_kind
  unfolding place_right
  state_kind = search told
