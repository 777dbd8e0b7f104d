-- What the loops and the joins of posting carry on.
-- Assumes nothing.
use Prim.Native.Nat.{ℕ, zero, suc, ◌+◌, ◌*◌, ◌^◌, ◌≤◌, ◌<◌}
use native.Mathlib.Nat.{zero-add}
use native.Mathlib.Omega.{arith}
use native.Mathlib.Numerals.{add-one}
use native.Mathlib.Decide.{ℕ_discrete}
use mathlib.Core.Path.{◌≡◌, refl, sym, ap, ◌∙◌}
use mathlib.Core.Logic.{inr}
use mathlib.Core.Bool.{Bool, true, false, cond, not, ◌&&◌}
use mathlib.Core.List.{List}
use borrow.Author.Tests.{eq-eqb, ne_eqb, eqb-true, not-true, not-false}
use lib.ListN.{length, get_or}
use lib.Dec.{eqb}
use Rattle.units.specs.Price.{most_price}
use Rattle.caps.specs.Tree.{IsTree}
use Rattle.caps.proofs.Climb.{climb_top, climb_up}
use Rattle.wire.specs.Number.{get_le}
use Rattle.wire.proofs.Tests.{both_left}
use Rattle.layout.specs.declared.Counts.{Counts}
use Rattle.layout.specs.Rules.{level_of}
use Rattle.areas.specs.Areas.{parent_of, FaultlessTariff}
use Rattle.areas.proofs.Within.{parent_there, parent_top}
use Rattle.statement.specs.Record.{person_size}
use Rattle.ledger.specs.declared.Window.{Window}
use Rattle.ledger.specs.Words.{
  book_size,
  fresh_book,
  word,
  put_word,
  trips_of,
  pair_place,
  second_sum,
  all_sum,
  cover_place,
  cover_word,
  paid_place,
  paid_word,
  edition_place,
}
use Rattle.ledger.specs.Sound.{most_paid}
use Rattle.ledger.specs.Windows.{in_window, opened}
use Rattle.ledger.proofs.WordLaws.{fresh_size, size_put, word_put_other}
use Rattle.cycles.specs.Bicycles.{new_cover, paid_with, cover_bicycles}
use Rattle.charging.specs.Caps.{tree_of}
use Rattle.charging.specs.After.{add_here, add_up, add_list}
use Rattle.charging.proofs.Trees.{is_tree}
use Rattle.charging.proofs.SumLaws.{here_other, up_size, up_other}
use Rattle.posting.specs.declared.Way.{Way}
use Rattle.posting.specs.Clauses.{FreshOrUsed, RoomHere, Room, way_of, Apart, WayOf, add_along, charges_from, RidersPosted}

-- Where a window has been seen to: a new one is cleared, unless the book is fresh already.
pub record WindowReady (current : Bool) (b b' : List ℕ) : Type 0 where
  pub value : b' ≡ in_window current b
  pub size : length b' ≡ book_size

pub window_cleared :
    (current : Bool) (trips : ℕ) {b b' : List ℕ} → not current && not (eqb trips 0) ≡ true → b' ≡ fresh_book → WindowReady current b b'
window_cleared current trips new e =
    record { value = rw (not-true current (both_left (not current) _ new)) e; size = ap length e ∙ fresh_size }

pub window_left :
    (current : Bool) (trips : ℕ) {b b' : List ℕ} → length b ≡ book_size → FreshOrUsed b → trips ≡ trips_of b
    → not current && not (eqb trips 0) ≡ false → b' ≡ b → WindowReady current b b'
window_left true trips size fresh read same e = record { value = e; size = ap length e ∙ size }
window_left false trips size fresh read same e =
    record { value = e ∙ fresh (sym read ∙ eqb-true trips 0 (not-false _ same)); size = ap length e ∙ size }

-- Then its four words are put.
pub four_put :
    (window : Window) (checkout : ℕ) {w b b₁ b₂ b₃ b₄ : List ℕ} → b ≡ w → b₁ ≡ put_word b 0 (window.trips + 1)
    → b₂ ≡ put_word b₁ 1 window.opening.0 → b₃ ≡ put_word b₂ 2 checkout → b₄ ≡ put_word b₃ edition_place window.edition
    → b₄ ≡ opened window checkout w
unfolding opened
four_put window checkout e e₁ e₂ e₃ e₄ = rw (e₄, e₃, e₂, e₁, e)

-- Where the second-class sum has been seen to: in class 2 the charge is added to it, and the all-classes sum is as it was.
pub record SecondAdded (b b' : List ℕ) (rider class area amount : ℕ) : Type 0 where
  pub value : b' ≡ cond (eqb class 2) (put_word b (pair_place rider area) (second_sum b rider area + amount)) b
  pub size : length b' ≡ length b
  pub all : all_sum b' rider area ≡ all_sum b rider area

-- the second-class sum does not wrap where there is room
pub second_fits :
    (b : List ℕ) (rider area : ℕ) {amount place second : ℕ} → RoomHere b rider area → amount ≤ most_price → place ≡ pair_place rider area
    → second ≡ word b place → second + amount < 2 ^ 32
second_fits b rider area {second = second} room small is read =
    let e : second ≡ second_sum b rider area = read ∙ ap (word b) is in
    omega arith

module _ {b b' : List ℕ} {rider class area amount place : ℕ} (is : place ≡ pair_place rider area) where
  pub second_put :
      {second : ℕ} → class ≡ 2 → second ≡ word b place → b' ≡ put_word b place (second + amount)
      → SecondAdded b b' rider class area amount
  second_put two read put =
      let e : b' ≡ put_word b (pair_place rider area) (second_sum b rider area + amount) = put ∙ rw (read, is) in
      record {
        value = rw (eq-eqb class 2 two) e;
        size = ap length e ∙ size_put b _ _;
        all = rw e (word_put_other b _ _ _ (λ same. omega arith));
      }

  pub second_left : (class ≡ 2 → ⊥) → b' ≡ b → SecondAdded b b' rider class area amount
  second_left other e = record { value = rw (ne_eqb class 2 other) e; size = ap length e; all = rw e }

  -- nor does the all-classes sum wrap
  pub all_fits :
      {all : ℕ} → RoomHere b rider area → amount ≤ most_price → SecondAdded b b' rider class area amount → all ≡ word b' (place + 1)
      → all + amount < 2 ^ 32
  all_fits {all} room small s read =
      let e : all ≡ all_sum b rider area = read ∙ ap (λ (p : ℕ). word b' (p + 1)) is ∙ s.all in
      omega arith

  pub all_put :
      {b'' : List ℕ} {all : ℕ} → SecondAdded b b' rider class area amount → all ≡ word b' (place + 1)
      → b'' ≡ put_word b' (place + 1) (all + amount) → b'' ≡ add_here b rider class area amount
  unfolding add_here
  all_put s read put = put ∙ rw (read, is, s.value)

-- Sums whose words are the same have the same room.
room_here_same :
    (b b' : List ℕ) (rider area : ℕ) → word b' (pair_place rider area) ≡ word b (pair_place rider area)
    → word b' (pair_place rider area + 1) ≡ word b (pair_place rider area + 1) → RoomHere b rider area → RoomHere b' rider area
room_here_same b b' rider area second all room = omega arith

pub room_same :
    (b b' : List ℕ) (rider : ℕ) → ((j : ℕ) → 3 + 64 * rider ≤ j → j < 67 + 64 * rider → word b' j ≡ word b j) → Room b rider
    → Room b' rider
room_same b b' rider same room area h =
    room_here_same b b' rider area (same _ (omega arith) (omega arith)) (same _ (omega arith) (omega arith)) (room area h)

-- A charge that is added in one area leaves the room in another.
pub room_after :
    (b : List ℕ) (rider class at amount area : ℕ) → (at ≡ area → ⊥) → RoomHere b rider area → RoomHere (add_here b rider class at amount) rider area
room_after b rider class at amount area other room =
    room_here_same b (add_here b rider class at amount) rider area
    (here_other b rider class at amount _ (λ e. other (omega arith)) (λ e. omega arith))
    (here_other b rider class at amount _ (λ e. omega arith) (λ e. other (omega arith))) room

-- A charge goes along a way: the areas to come have room, and after each area, where the level says no more, it has been added along the way.
module _ (b : List ℕ) (rider class amount : ℕ) (way : Way) where
  pub room_above :
      {b₁ : List ℕ} → Apart way → Room b rider → (way.level ≡ 0 → ⊥) → b₁ ≡ add_here b rider class way.own amount
      → RoomHere b₁ rider way.above
  room_above apart room more e₁ =
      rw e₁ (room_after b rider class way.own amount way.above (apart.above_own (omega arith)) (room way.above apart.above))

  pub room_top :
      {b₁ b₂ : List ℕ} → Apart way → Room b rider → (way.level ≡ 0 → ⊥) → (way.level ≡ 1 → ⊥)
      → b₁ ≡ add_here b rider class way.own amount → b₂ ≡ add_here b₁ rider class way.above amount → RoomHere b₂ rider way.top
  room_top {b₁} apart room more more' e₁ e₂ =
      let here : RoomHere b₁ rider way.top =
      rw e₁ (room_after b rider class way.own amount way.top (apart.top_own (omega arith)) (room way.top apart.top))
      in
      rw e₂ (room_after b₁ rider class way.above amount way.top (apart.top_above (omega arith)) here)

  pub along_own : {b₁ : List ℕ} → way.level ≡ 0 → b₁ ≡ add_here b rider class way.own amount → b₁ ≡ add_along b rider class way amount
  unfolding add_along
  along_own level e₁ = rw (eq-eqb way.level 0 level) e₁

  pub along_above :
      {b₁ b₂ : List ℕ} → (way.level ≡ 0 → ⊥) → way.level ≡ 1 → b₁ ≡ add_here b rider class way.own amount
      → b₂ ≡ add_here b₁ rider class way.above amount → b₂ ≡ add_along b rider class way amount
  unfolding add_along
  along_above more level e₁ e₂ = rw (ne_eqb way.level 0 more, eq-eqb way.level 1 level, ← e₁) e₂

  pub along_top :
      {b₁ b₂ b₃ : List ℕ} → (way.level ≡ 0 → ⊥) → (way.level ≡ 1 → ⊥) → b₁ ≡ add_here b rider class way.own amount
      → b₂ ≡ add_here b₁ rider class way.above amount → b₃ ≡ add_here b₂ rider class way.top amount → b₃ ≡ add_along b rider class way amount
  unfolding add_along
  along_top more more' e₁ e₂ e₃ = rw (ne_eqb way.level 0 more, ne_eqb way.level 1 more', ← e₁, ← e₂) e₃

module _ {t : List ℕ} {counts : Counts} (f : FaultlessTariff t counts) where
  tree : IsTree (tree_of t counts false)
  tree = is_tree f false

  -- Levels differ by one from area to area, so the areas of a way are different ones.
  pub way_apart : (at : ℕ) → at < counts.areas → Apart (way_of t counts at)
  way_apart at there =
      let up = parent_of t at in
      let there' = parent_there f at there in
      record {
        own = omega (arith, f.few_areas);
        above = omega (arith, f.few_areas, there');
        top = omega arith;
        above_own = λ low e. omega (arith, tree.parent_level at there low, ap (level_of t) e);
        top_own = λ low e.
            let step = tree.parent_level at there (omega arith) in
            let last = tree.parent_level up there' (omega (arith, step)) in
            omega (arith, step, last, ap (level_of t) (e ∙ sym (parent_top f at there)));
        top_above = λ low e.
            let step = tree.parent_level at there (omega arith) in
            let last = tree.parent_level up there' (omega (arith, step)) in
            omega (arith, last, ap (level_of t) (e ∙ sym (parent_top f at there)));
      }

  pub way_found :
      {at above level : ℕ} → at < counts.areas → above ≡ parent_of t at → level ≡ level_of t at
      → WayOf t counts at (record { own = at; above = above; top = 0; level = level })
  way_found {at} there e e' = rw (e, e') (record { value = refl; apart = way_apart at there })

  -- Along its way a charge is added in an area and in every area above it.
  pub along_up :
      (b : List ℕ) (rider class at amount : ℕ) → at < counts.areas
      → add_along b rider class (way_of t counts at) amount ≡ add_up t counts b rider class at amount
  unfolding add_up add_along
  along_up b rider class at amount there =
      elim (ℕ_discrete (level_of t at) 0) [
        | yes e ↦ rw (eq-eqb (level_of t at) 0 e) (sym (climb_top tree step at e b))
        | no ne ↦
            let low : 0 < level_of t at = omega arith in
            let next = tree.parent_level at there low in
            elim (ℕ_discrete (level_of t at) 1) [
              | yes e ↦
                  rw (ne_eqb (level_of t at) 0 ne, eq-eqb (level_of t at) 1 e)
                  (sym (climb_up tree step at there low b ∙ climb_top tree step up (omega (arith, next)) (step at b)))
              | no ne' ↦
                  let low' : 0 < level_of t up = omega (arith, next) in
                  let last = tree.parent_level up (parent_there f at there) low' in
                  rw (ne_eqb (level_of t at) 0 ne, ne_eqb (level_of t at) 1 ne', ← parent_top f at there)
                  (sym (climb_up tree step at there low b ∙ climb_up tree step up (parent_there f at there) low' (step at b)
                  ∙ climb_top tree step (parent_of t up) (omega (arith, next, last, tree.few_levels at there)) (step up (step at b))))
            ]
      ]
    where
      up : ℕ
      up = parent_of t at

      step : ℕ → List ℕ → List ℕ
      step a sums = add_here sums rider class a amount

-- Charge i of those that stand from a place on.
pub from_at : (s : List ℕ) (place n i : ℕ) → i < n → get_or (charges_from s place n) i 0 ≡ get_le 4 s (place + person_size * i)
unfolding charges_from
from_at s place zero i there = absurd (omega arith)
from_at s place (suc n) zero there = ap (get_le 4 s) (omega arith)
from_at s place (suc n) (suc i) there = from_at s (place + person_size) n i (omega arith) ∙ ap (get_le 4 s) (omega arith)

-- After the first i riders: their charges are added, and the riders to come have room.
pub record RidersAdded (t b₀ b : List ℕ) (class at first count : ℕ) (s : List ℕ) (place : ℕ) (way : Way) (i next : ℕ) : Type 0 where
  pub size : length b ≡ book_size
  pub within : i ≤ count
  pub next_is : next ≡ place + person_size * i
  pub room : (k : ℕ) → i ≤ k → k < count → Room b (first + k)
  pub done :
      (counts : Counts) → FaultlessTariff t counts → at < counts.areas → way ≡ way_of t counts at
      → b ≡ add_list t counts class at first i (charges_from s place count) 0 b₀

pub riders_start :
    {t b : List ℕ} {class at first count : ℕ} {s : List ℕ} {place : ℕ} {way : Way} → length b ≡ book_size → ((k : ℕ) → k < count → Room b (first + k))
    → RidersAdded t b b class at first count s place way 0 place
unfolding add_list
riders_start {place = place} size room =
    record { size = size; within = omega arith; next_is = omega arith; room = λ k low high. room k high; done = λ counts f there w. refl }

pub riders_turn :
    {t : List ℕ} {counts : Counts} → FaultlessTariff t counts
    → {b₀ b b' : List ℕ} {class at first count : ℕ} {s : List ℕ} {place : ℕ} {way : Way} {i next next' amount : ℕ}
    → RidersAdded t b₀ b class at first count s place way i next → i < count → at < counts.areas → way ≡ way_of t counts at → first + count ≤ 21
    → amount ≡ get_le 4 s next → b' ≡ add_along b (first + i) class way amount → next' ≡ next + person_size
    → RidersAdded t b₀ b' class at first count s place way (i + 1) next'
unfolding add_list
riders_turn {t} {counts} f {b = b} {b' = b'} {class} {at} {first} {count} {s} {place} {way} {i} {next} {next'} {amount} so_far more there found few read added behind =
    record {
      size = ap length (up counts f there found) ∙ up_size f (first + i) class amount (omega arith) b at there ∙ so_far.size;
      within = omega arith;
      next_is = omega (arith, behind, so_far.next_is);
      room = λ k low high.
          rw (up counts f there found)
          (room_same b _ (first + k)
          (λ j least most. up_other f (first + i) class amount (omega arith) b at there j (inr (omega arith)))
          (so_far.room k (omega arith) high));
      done = λ counts f there w. up counts f there w ∙ rw (add-one i, ← so_far.done counts f there w, charge);
    }
  where
    charge : amount ≡ get_or (charges_from s place count) (0 + i) 0
    charge =
        read ∙ ap (get_le 4 s) so_far.next_is ∙ sym (from_at s place count i more) ∙ ap (λ (k : ℕ). get_or (charges_from s place count) k 0) (sym (zero-add i))

    up :
        (counts : Counts) → FaultlessTariff t counts → at < counts.areas → way ≡ way_of t counts at
        → b' ≡ add_up t counts b (first + i) class at amount
    up counts f there w = added ∙ ap (λ (v : Way). add_along b (first + i) class v amount) w ∙ along_up f b (first + i) class at amount there

pub riders_end :
    {t : List ℕ} {counts : Counts} {b₀ b : List ℕ} {class at first count : ℕ} {s : List ℕ} {place : ℕ} {way : Way} {i next : ℕ} → FaultlessTariff t counts
    → at < counts.areas → way ≡ way_of t counts at → RidersAdded t b₀ b class at first count s place way i next → count ≤ i
    → RidersPosted t counts b₀ class at first count s place b next
riders_end {t} {counts} {b₀} {class = class} {at} {first} {count} {s} {place} {i = i} f there found so_far last =
    let e : i ≡ count = omega (arith, so_far.within) in
    record {
      next = so_far.next_is ∙ ap (λ (n : ℕ). place + person_size * n) e;
      book_is =
          so_far.done counts f there found ∙ ap (λ (n : ℕ). add_list t counts class at first n (charges_from s place count) 0 b₀) e;
    }

-- without riders nothing is added
pub riders_none :
    (t : List ℕ) (counts : Counts) (b : List ℕ) (class at first count : ℕ) (s : List ℕ) (place : ℕ) → count ≡ 0
    → RidersPosted t counts b class at first count s place b place
unfolding add_list
riders_none t counts b class at first count s place none = record { next = omega (arith, none); book_is = rw none }

-- After the first i bicycles: their covering areas and payments are written, and those to come are as they were.
pub record BicyclesCovered (t : List ℕ) (counts : Counts) (b₀ b : List ℕ) (count at i : ℕ) : Type 0 where
  pub size : length b ≡ book_size
  pub within : i ≤ count
  pub few : count ≤ 10
  pub covers : (k : ℕ) → i ≤ k → k < count → cover_word b k ≤ counts.areas
  pub payments : (k : ℕ) → i ≤ k → k < count → paid_word b k ≤ most_paid
  pub done : b ≡ cover_bicycles t counts at i b₀

pub bicycles_start :
    {t : List ℕ} {counts : Counts} {b : List ℕ} {count at : ℕ} → length b ≡ book_size → count ≤ 10
    → ((k : ℕ) → k < count → cover_word b k ≤ counts.areas) → ((k : ℕ) → k < count → paid_word b k ≤ most_paid)
    → BicyclesCovered t counts b b count at 0
unfolding cover_bicycles
bicycles_start size few covers payments =
    record {
      size = size;
      within = omega arith;
      few = few;
      covers = λ k low high. covers k high;
      payments = λ k low high. payments k high;
      done = refl;
    }

pub bicycles_turn :
    {t : List ℕ} {counts : Counts} {b₀ b b' b'' : List ℕ} {count at i place old paying before cover paid : ℕ} → BicyclesCovered t counts b₀ b count at i
    → i < count → place ≡ cover_place i → old ≡ word b place → paying ≡ paid_place i → before ≡ word b paying → cover ≡ 1 + new_cover t counts at old
    → paid ≡ paid_with t counts (new_cover t counts at old) before → b' ≡ put_word b place cover → b'' ≡ put_word b' paying paid
    → BicyclesCovered t counts b₀ b'' count at (i + 1)
unfolding cover_bicycles
bicycles_turn {b = b} {b' = b'} {b'' = b''} {count = count} {i = i} {place} {paying = paying} {cover = cover} {paid} s more is read is' read' covers pays put put' =
    record {
      size = ap length put' ∙ size_put b' paying paid ∙ ap length put ∙ size_put b place cover ∙ s.size;
      within = omega arith;
      few = s.few;
      covers = λ k low high.
          rw (other (cover_place k) (λ e. omega (arith, s.few)) (λ e. omega (arith, s.few))) (s.covers k (omega arith) high);
      payments = λ k low high.
          rw (other (paid_place k) (λ e. omega (arith, s.few)) (λ e. omega (arith, s.few))) (s.payments k (omega arith) high);
      done = put' ∙ rw (put, pays, covers, read, read', is, is', add-one i, ← s.done);
    }
  where
    other : (j : ℕ) → (place ≡ j → ⊥) → (paying ≡ j → ⊥) → word b'' j ≡ word b j
    other j ne ne' = rw (put', word_put_other b' paying j paid ne', put, word_put_other b place j cover ne)

pub bicycles_end :
    {t : List ℕ} {counts : Counts} {b₀ b : List ℕ} {count at i : ℕ} → BicyclesCovered t counts b₀ b count at i → count ≤ i
    → b ≡ cover_bicycles t counts at count b₀
bicycles_end {t} {counts} {b₀} {count = count} {at} {i} s last =
    let e : i ≡ count = omega (arith, s.within) in
    s.done ∙ ap (λ (n : ℕ). cover_bicycles t counts at n b₀) e

-- without bicycles nothing is covered
pub bicycles_none : (t : List ℕ) (counts : Counts) (at count : ℕ) (b : List ℕ) → count ≡ 0 → b ≡ cover_bicycles t counts at count b
unfolding cover_bicycles
bicycles_none t counts at count b none = rw none
