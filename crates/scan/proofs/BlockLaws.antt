-- What the joined words of stops tell: where no bit is set that a wrong field sets, each of them stands. Of one stop this is arithmetic; of
-- several, words joined by "or" have each bit of either.
-- Assumes nothing.
use Rattle.std.proofs.Common.{◌≡◌, ℕ, ◌+◌, ◌-◌, ◌*◌, ◌/◌, ◌%◌, ◌^◌, ◌<◌, ◌≤◌, true, List, ◌∙◌, add_assoc, arith, lt-ltb, eq-eqb, le-leb}
use lib.Bits.{bit_and, bit_or}
use Rattle.wire.specs.Number.{get_le, Bytes}
use Rattle.wire.proofs.Number.{get_range, point_word}
use Rattle.scan.specs.declared.blocks.Sums.{Sums}
use Rattle.layout.specs.Layout.{stop_size, most_areas}
use Rattle.layout.specs.Fields.{stop_fields}
use Rattle.layout.specs.Rules.{most_metres}
use Rattle.scan.specs.Clauses.{stop_stands}
use Rattle.scan.specs.Blocks.{bits, Clear, Tells, joined_sums}
use Rattle.scan.proofs.Masks.{or_left, or_right, clear_left, clear_right, mask_parts, high_bits}
use Rattle.scan.proofs.Words.{four_word, head_word}
use Rattle.scan.proofs.StopLaws.{none_stand, one_stands, more_stand, fewer_stand}

module _ (s t : Sums) (c : Clear (joined_sums s t)) where
  clear_first : Clear s
  clear_first =
      record {
        area = clear_left 61 3 s.head t.head c.area;
        area_moved = clear_left 61 3 s.head_moved t.head_moved c.area_moved;
        head-moved = clear_left 24 32 s.head_moved t.head_moved c.head-moved;
        x = clear_left 20 12 s.point t.point c.x;
        y = clear_left 52 12 s.point t.point c.y;
        x_moved = clear_left 20 12 s.point_moved t.point_moved c.x_moved;
        y_moved = clear_left 52 12 s.point_moved t.point_moved c.y_moved;
      }

  clear_second : Clear t
  clear_second =
      record {
        area = clear_right 61 3 s.head t.head c.area;
        area_moved = clear_right 61 3 s.head_moved t.head_moved c.area_moved;
        head-moved = clear_right 24 32 s.head_moved t.head_moved c.head-moved;
        x = clear_right 20 12 s.point t.point c.x;
        y = clear_right 52 12 s.point t.point c.y;
        x_moved = clear_right 20 12 s.point_moved t.point_moved c.x_moved;
        y_moved = clear_right 52 12 s.point_moved t.point_moved c.y_moved;
      }

-- So stops whose words are joined are told together.
pub tells_joined :
    (b : List ℕ) (at areas m n : ℕ) (s t : Sums) → Tells b at areas m s → Tells b (at + stop_size * m) areas n t → Tells b at areas (m + n) (joined_sums s t)
tells_joined b at areas m n s t first rest =
    record { told = λ c. more_stand b at areas m n (first.told (clear_first s t c)) (rest.told (clear_second s t c)) }

-- of two fields of 32 bits in a word, where the bits from 2 ^ 20 on are clear
module _ (x y : ℕ) (xs : x < 2 ^ 32) where
  low_small : bits 20 12 (x + 2 ^ 32 * y) ≡ 0 → x < 2 ^ 20
  low_small e =
      let cut : (x + 2 ^ 32 * y) / 2 ^ 20 ≡ x / 2 ^ 20 + 4096 * y = omega arith in
      let rest : (x / 2 ^ 20 + 4096 * y) % 4096 ≡ 0 = rw cut at e in
      omega arith

  high_small : y < 2 ^ 32 → bits 52 12 (x + 2 ^ 32 * y) ≡ 0 → y < 2 ^ 20
  high_small ys e =
      let cut : (x + 2 ^ 32 * y) / 2 ^ 52 ≡ y / 2 ^ 20 = omega arith in
      let rest : y / 2 ^ 20 % 4096 ≡ 0 = rw cut at e in
      omega arith

-- x and y: below 2 ^ 20 before they are moved, so that neither runs over when it is, and below it then, so not above 1,000,000
point_right :
    (x y : ℕ) → x < 2 ^ 32 → y < 2 ^ 32 → bits 20 12 (x + 2 ^ 32 * y) ≡ 0 → bits 52 12 (x + 2 ^ 32 * y) ≡ 0
    → bits 20 12 ((x + 2 ^ 32 * y + 208628036451775) % 2 ^ 64) ≡ 0 → bits 52 12 ((x + 2 ^ 32 * y + 208628036451775) % 2 ^ 64) ≡ 0
    → (x ≤ most_metres) × (y ≤ most_metres)
point_right x y xs ys rx ry mx my =
    let small-x = low_small x y xs rx in
    let small-y = high_small x y xs ys ry in
    let moved : (x + 2 ^ 32 * y + 208628036451775) % 2 ^ 64 ≡ (x + 48575) + 2 ^ 32 * (y + 48575) = omega arith in
    let by-x = low_small (x + 48575) (y + 48575) (omega arith) (rw moved at mx) in
    let by-y = high_small (x + 48575) (y + 48575) (omega arith) (omega arith) (rw moved at my) in
    (omega arith, omega arith)

-- what is added may be cut to 64 bits first; and the bits of a sum from 2 ^ 24 on, where the number added has none below
cut_first : (w k : ℕ) → (w + k % 2 ^ 64) % 2 ^ 64 ≡ (w + k) % 2 ^ 64
cut_first w k = omega arith

upper_sum : (p u : ℕ) → p < 2 ^ 24 → (p + 2 ^ 24 * u) % 2 ^ 64 / 2 ^ 24 ≡ u % 2 ^ 40
upper_sum p u ps = omega arith

-- length and kind: less 11, and 2 above it, they are 0
head-moved : (h e : ℕ) → h < 2 ^ 32 → (h + 2 ^ 32 * e + 1099511496693) % 2 ^ 40 % 2 ^ 32 ≡ 0 → h ≡ 131083
head-moved h e hs clear = omega arith

-- the area: below 32 before it is moved, and then
area_below : (p h a : ℕ) → p < 2 ^ 24 → h < 2 ^ 32 → a < 256 → bits 61 3 (p + 2 ^ 24 * (h + 2 ^ 32 * a)) ≡ 0 → a < 32
area_below p h a ps hs small clear =
    let is : (p + 2 ^ 24 * (h + 2 ^ 32 * a)) / 2 ^ 61 ≡ a / 32 = omega arith in
    let none : a / 32 % 8 ≡ 0 = rw is at clear in
    omega arith

area_moved : (e : ℕ) → e < 64 → (131083 + 2 ^ 32 * e + 1099511496693) % 2 ^ 40 / 2 ^ 37 % 2 ^ 3 ≡ 0 → e < 32
area_moved e few clear =
    let is : (131083 + 2 ^ 32 * e + 1099511496693) % 2 ^ 40 ≡ 2 ^ 32 * e = omega arith in
    let none : 2 ^ 32 * e / 2 ^ 37 % 2 ^ 3 ≡ 0 = rw is at clear in
    omega arith

module _
    (p h a c w move : ℕ) (ps : p < 2 ^ 24) (hs : h < 2 ^ 32) (small : a < 256) (few : c ≤ 32) (is : w ≡ p + 2 ^ 24 * (h + 2 ^ 32 * a))
    (moves : move ≡ (18446741874501746688 + c * 72057594037927936) % 2 ^ 64) where
  -- the word moved, from 2 ^ 24 on
  moved_upper : (w + move) % 2 ^ 64 / 2 ^ 24 ≡ (h + 2 ^ 32 * (a + c) + 1099511496693) % 2 ^ 40
  moved_upper =
      let sum : w + (18446741874501746688 + c * 72057594037927936) ≡ p + 2 ^ 24 * (h + 2 ^ 32 * (a + c) + 1099511496693) = omega arith in
      rw (moves, cut_first w (18446741874501746688 + c * 72057594037927936), sum) (upper_sum p (h + 2 ^ 32 * (a + c) + 1099511496693) ps)

  head-right : bits 61 3 w ≡ 0 → bits 61 3 ((w + move) % 2 ^ 64) ≡ 0 → bits 24 32 ((w + move) % 2 ^ 64) ≡ 0 → (h ≡ 131083) × (a + c < 32)
  head-right area moved head =
      let stop = head-moved h (a + c) hs (rw moved_upper at head) in
      let below = area_below p h a ps hs small (rw is at area) in
      let m = (w + move) % 2 ^ 64 in
      let twice : m / 2 ^ 61 ≡ m / 2 ^ 24 / 2 ^ 37 = omega arith in
      let top = rw (twice, moved_upper, stop) at moved in
      (stop, area_moved (a + c) (omega arith) top)

-- what a stop's fields have to be for it to stand
stands :
    (b : List ℕ) → Bytes b → (at areas : ℕ) → get_le 4 b at ≡ 131083 → get_le 1 b (at + 4) < areas → get_le 4 b (at + 5) ≤ most_metres
    → get_le 4 b (at + 9) ≤ most_metres → stop_stands b at areas ≡ true
unfolding stop_stands stop_fields
stands b bytes at areas head area x y =
    let long : get_le 2 b at ≡ 11 = omega (arith, four_word b at, get_range 2 b at bytes) in
    let kind : get_le 2 b (at + 2) ≡ 2 = omega (arith, four_word b at, get_range 2 b at bytes) in
    rw (
      eq-eqb (get_le 2 b at) 11 long,
      eq-eqb (get_le 2 b (at + 2)) 2 kind,
      lt-ltb (get_le 1 b (at + 4)) areas area,
      le-leb (get_le 4 b (at + 5)) most_metres x,
      le-leb (get_le 4 b (at + 9)) most_metres y,
    )

-- A stop's own words tell that it stands.
pub stop_tells :
    (b : List ℕ) → Bytes b → (at areas : ℕ) → 3 ≤ at → areas ≤ most_areas → (move : ℕ)
    → move ≡ (18446741874501746688 + (most_areas - areas) * 72057594037927936) % 2 ^ 64
    → Tells b at areas 1
    (record {
      head = get_le 8 b (at - 3);
      point = get_le 8 b (at + 5);
      head_moved = (get_le 8 b (at - 3) + move) % 2 ^ 64;
      point_moved = (get_le 8 b (at + 5) + 208628036451775) % 2 ^ 64;
    })
stop_tells b bytes at areas from few move moves =
    record {
      told =
          λ c.
          let q = at - 3 in
          let three : q + 3 ≡ at = omega arith in
          let seven : q + 7 ≡ at + 4 = omega arith in
          let word = rw (three, seven) at (head_word b q) in
          let (head, area) =
          head-right (get_le 3 b q) (get_le 4 b at) (get_le 1 b (at + 4)) (most_areas - areas) (get_le 8 b q) move
          (get_range 3 b q bytes) (get_range 4 b at bytes) (get_range 1 b (at + 4) bytes) (omega arith) word moves c.area c.area_moved
          c.head-moved
          in
          let point = simp add_assoc at (point_word b (at + 5)) in
          let (x, y) =
          point_right (get_le 4 b (at + 5)) (get_le 4 b (at + 9)) (get_range 4 b (at + 5) bytes) (get_range 4 b (at + 9) bytes) (rw point at c.x)
          (rw point at c.y) (rw point at c.x_moved) (rw point at c.y_moved)
          in
          one_stands b at areas (stands b bytes at areas head (omega arith) x y);
    }

-- the test's masks by the bits that they pick
area_bits : (n : ℕ) → bit_and n 16140901064495857664 ≡ 0 → bits 61 3 n ≡ 0
area_bits n none = high_bits n 3 61 none

head_bits : (n : ℕ) → bit_and n 16212958658517008384 ≡ 0 → (bits 61 3 n ≡ 0) × (bits 24 32 n ≡ 0)
head_bits n none =
    let (upper, lower) = mask_parts 56 n 224 72057594021150720 (omega arith) none in
    let area : n / 2 ^ 61 ≡ n / 2 ^ 56 / 2 ^ 5 = omega arith in
    (rw area (high_bits (n / 2 ^ 56) 3 5 upper), low_bits n ∙ high_bits (n % 2 ^ 56) 32 24 lower)
  where
    low_bits : (n : ℕ) → n / 2 ^ 24 % 2 ^ 32 ≡ n % 2 ^ 56 / 2 ^ 24 % 2 ^ 32
    low_bits n =
        let cut : n / 2 ^ 24 ≡ n % 2 ^ 56 / 2 ^ 24 + 2 ^ 32 * (n / 2 ^ 56) = omega arith in
        rw cut (omega arith)

point_bits : (n : ℕ) → bit_and n 18442240478376099840 ≡ 0 → (bits 20 12 n ≡ 0) × (bits 52 12 n ≡ 0)
point_bits n none =
    let (upper, lower) = mask_parts 32 n 4293918720 4293918720 (omega arith) none in
    let y : n / 2 ^ 52 ≡ n / 2 ^ 32 / 2 ^ 20 = omega arith in
    (low_bits n ∙ high_bits (n % 2 ^ 32) 12 20 lower, rw y (high_bits (n / 2 ^ 32) 12 20 upper))
  where
    low_bits : (n : ℕ) → n / 2 ^ 20 % 2 ^ 12 ≡ n % 2 ^ 32 / 2 ^ 20 % 2 ^ 12
    low_bits n =
        let cut : n / 2 ^ 20 ≡ n % 2 ^ 32 / 2 ^ 20 + 2 ^ 12 * (n / 2 ^ 32) = omega arith in
        rw cut (omega arith)

-- four words joined to 0 are 0
or_four : (a b c d : ℕ) → bit_or (bit_or (bit_or a b) c) d ≡ 0 → (a ≡ 0) × (b ≡ 0) × (c ≡ 0) × (d ≡ 0)
or_four a b c d e =
    let three = or_left (bit_or (bit_or a b) c) d e in
    let two = or_left (bit_or a b) c three in
    (or_left a b two, or_right a b two, or_right (bit_or a b) c three, or_right (bit_or (bit_or a b) c) d e)

-- Where the masks pick nothing, the bits are clear.
pub clear_masked :
    (s : Sums)
    → bit_or (bit_or (bit_or (bit_and s.head 16140901064495857664) (bit_and s.point 18442240478376099840)) (bit_and s.head_moved 16212958658517008384))
    (bit_and s.point_moved 18442240478376099840)
    ≡ 0
    → Clear s
clear_masked s e =
    let (area, point, head-moved, point-moved) =
    or_four (bit_and s.head 16140901064495857664) (bit_and s.point 18442240478376099840) (bit_and s.head_moved 16212958658517008384)
    (bit_and s.point_moved 18442240478376099840) e
    in
    let (area_moved, head-moved) = head_bits s.head_moved head-moved in
    let (x, y) = point_bits s.point point in
    let (x_moved, y_moved) = point_bits s.point_moved point-moved in
    record {
      area = area_bits s.head area;
      area_moved = area_moved;
      head-moved = head-moved;
      x = x;
      y = y;
      x_moved = x_moved;
      y_moved = y_moved;
    }

-- three times as many, from one place on and from where each of the first two ends
pub tells_three :
    (b : List ℕ) (at second third areas n : ℕ) (s t u both all : Sums) → second ≡ at + stop_size * n → third ≡ at + stop_size * (n + n)
    → Tells b at areas n s → Tells b second areas n t → Tells b third areas n u → both ≡ joined_sums s t → all ≡ joined_sums both u
    → Tells b at areas (n + n + n) all
tells_three b at second third areas n s t u both all two three first next last is-both is_all =
    rw (is_all, is-both)
    (tells_joined b at areas (n + n) n (joined_sums s t) u (tells_joined b at areas n n s t first (rw two at next)) (rw three at last))

-- the words joined before a place where a block begins: those of all stops up to there, if not of more; and a block from there ends within
-- them all
pub record Joining (b : List ℕ) (from areas most at : ℕ) (s : Sums) : Type 0 where
  pub before : ℕ
  pub place : at ≡ from + stop_size * before
  pub room : before + 18 ≤ most
  pub tells : Tells b from areas before s

pub joining_none : (b : List ℕ) (from areas most : ℕ) (s : Sums) → 18 ≤ most → Joining b from areas most from s
joining_none b from areas most s room =
    record { before = 0; place = omega arith; room = room; tells = record { told = λ c. none_stand b from areas } }

-- A block joined: so the stops up to its end are told, and each place up to there may be the next.
module _ (b : List ℕ) (from areas most at : ℕ) (s t : Sums) (so_far : Joining b from areas most at s) (block : Tells b at areas 18 t) where
  pub joining_told : Tells b from areas (so_far.before + 18) (joined_sums s t)
  joining_told = tells_joined b from areas so_far.before 18 s t so_far.tells (rw so_far.place at block)

  pub joining_more :
      (stops next : ℕ) → next ≡ from + stop_size * stops → stops + 18 ≤ most → stops ≤ so_far.before + 18 → Joining b from areas most next (joined_sums s t)
  joining_more stops next place room reached =
      record {
        before = stops;
        place = place;
        room = room;
        tells = record { told = λ c. fewer_stand b from areas (so_far.before + 18) stops reached (joining_told.told c) };
      }
