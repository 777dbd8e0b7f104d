-- The texts of a line as they are put, and as the definitions group them; and the payer's and the caps' columns, case by case.
-- Assumes nothing.
use Prim.Native.Nat.{ℕ, ◌+◌, ◌-◌, ◌≤◌, ◌<◌}
use mathlib.Core.Path.{◌≡◌}
use mathlib.Core.Bool.{Bool, true, false}
use mathlib.Core.List.{List, ◌++◌, append_assoc}
use borrow.Author.Tests.{eq-eqb, ne_eqb, le-leb, lt-leb}
use Rattle.caps.specs.declared.Cut.{Cut}
use Rattle.trip.specs.declared.Party.{Party}
use Rattle.text.specs.Texts.{bytes, decimal}
use Rattle.csv_table.specs.Text.{columns, rider_text, off_text, cap_text, refused_text}
use Rattle.csv_table.specs.Clauses.{cut_columns}

-- ---- A line.

pub row_groups :
    (n o a k m p c x y z end : List ℕ)
    → ((((((((n ++ o) ++ a) ++ k) ++ m) ++ p) ++ c) ++ ((x ++ y) ++ z)) ++ end)
    ≡ n ++ (o ++ (a ++ (k ++ (m ++ (p ++ (c ++ (x ++ (y ++ (z ++ end)))))))))
row_groups n o a k m p c x y z end = simp append_assoc

pub refused_groups : (number refusal : ℕ) → (decimal number ++ (bytes ",,,,,,,,,," ++ decimal refusal)) ++ bytes "\n" ≡ refused_text number refusal
unfolding refused_text columns bytes
refused_groups number refusal = append_assoc (decimal number) (bytes ",,,,,,,,,," ++ decimal refusal) (bytes "\n")

-- ---- One of a party.

module _ (party : Party) (i : ℕ) where
  pub holder : i ≡ 0 → rider_text party i ≡ bytes "holder"
  unfolding rider_text
  holder first = rw (eq-eqb i 0 first)

  module _ (other : i ≡ 0 → ⊥) where
    pub adult : i ≤ party.adults → rider_text party i ≡ bytes "adult " ++ decimal i
    unfolding rider_text
    adult here = rw (ne_eqb i 0 other, le-leb i party.adults here)

    module _ (no-adult : party.adults < i) where
      pub child : i ≤ party.adults + party.children → rider_text party i ≡ bytes "child " ++ decimal (i - party.adults)
      unfolding rider_text
      child here = rw (ne_eqb i 0 other, lt-leb i party.adults no-adult, le-leb i (party.adults + party.children) here)

      pub bicycle :
          party.adults + party.children < i → rider_text party i ≡ bytes "bicycle " ++ decimal (i - (party.adults + party.children))
      unfolding rider_text
      bicycle behind = rw (ne_eqb i 0 other, lt-leb i party.adults no-adult, lt-leb i (party.adults + party.children) behind)

-- ---- What caps took off.

module _ (person : Bool) (cut : Cut) where
  pub untold : person ≡ false → cut_columns person cut ≡ bytes ",,,"
  unfolding off_text cap_text bytes
  untold e = rw e

  module _ (told : person ≡ true) where
    pub nothing_off : cut.reduction.0 ≡ 0 → cut_columns person cut ≡ (bytes "," ++ decimal cut.reduction.0) ++ bytes ",,"
    unfolding off_text cap_text bytes
    nothing_off none =
        rw (told, eq-eqb cut.reduction.0 0 none) (append_assoc (bytes "," ++ decimal cut.reduction.0) (bytes ",") (bytes ","))

    pub some_off :
        (cut.reduction.0 ≡ 0 → ⊥)
        → cut_columns person cut
        ≡ ((bytes "," ++ decimal cut.reduction.0) ++ (bytes "," ++ decimal cut.area)) ++ (bytes "," ++ decimal cut.class)
    unfolding off_text cap_text
    some_off some = rw (told, ne_eqb cut.reduction.0 0 some)
