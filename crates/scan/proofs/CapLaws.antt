-- An area's caps at once: where the bits that a wrong field sets are clear in a word of four fields, each is below 2 ^ 15, or 0.
-- Assumes nothing.
use Rattle.std.proofs.Common.{◌≡◌, ℕ, ◌+◌, ◌*◌, ◌/◌, ◌%◌, ◌^◌, ◌<◌, ◌≤◌, true, ◌&&◌, ◌||◌, eqb, List, sym, ◌∙◌, add_assoc, arith, le-leb}
use native.Mathlib.Decide.{ℕ_discrete}
use lib.Bits.{bit_and, bit_or, and_mask}
use Rattle.wire.specs.Number.{get_le, Bytes}
use Rattle.wire.proofs.Number.{get_range}
use Rattle.layout.specs.declared.fields.AreaFields.{AreaFields}
use Rattle.layout.specs.declared.fields.LongFields.{LongFields}
use Rattle.layout.specs.Fields.{area_fields, long_fields}
use Rattle.layout.specs.Rules.{most_money, no_day_cap, money, caps_right, tickets_right}
use Rattle.scan.proofs.Masks.{or_left, or_right, mask_parts, high_bits}
use Rattle.scan.proofs.Words.{lanes, lanes_word}

-- one field, and two, whose upper bits are clear
upper_clear : (a : ℕ) → a < 2 ^ 16 → bit_and a 32768 ≡ 0 → a < 2 ^ 15
upper_clear a small none = let clear = high_bits a 1 15 none in omega arith

two_clear : (a b : ℕ) → a < 2 ^ 16 → b < 2 ^ 16 → bit_and (a + 2 ^ 16 * b) 2147516416 ≡ 0 → (a < 2 ^ 15) × (b < 2 ^ 15)
two_clear a b az bs none =
    let (upper, lower) = mask_parts 16 (a + 2 ^ 16 * b) 32768 32768 (omega arith) none in
    let high : (a + 2 ^ 16 * b) / 2 ^ 16 ≡ b = omega arith in
    let low : (a + 2 ^ 16 * b) % 2 ^ 16 ≡ a = omega arith in
    (upper_clear a az (rw low at lower), upper_clear b bs (rw high at upper))

-- The four fields of a word.
module _ (a b c d : ℕ) (az : a < 2 ^ 16) (bs : b < 2 ^ 16) (cs : c < 2 ^ 16) (ds : d < 2 ^ 16) where
  first_clear : bit_and (lanes a b c d) 32768 ≡ 0 → a < 2 ^ 15
  first_clear none =
      let (upper, lower) = mask_parts 16 (lanes a b c d) 0 32768 (omega arith) none in
      let low : lanes a b c d % 2 ^ 16 ≡ a = omega arith in
      upper_clear a az (rw low at lower)

  all_clear : bit_and (lanes a b c d) 9223512776490647552 ≡ 0 → (a < 2 ^ 15) × (b < 2 ^ 15) × (c < 2 ^ 15) × (d < 2 ^ 15)
  all_clear none =
      let (upper, lower) = mask_parts 32 (lanes a b c d) 2147516416 2147516416 (omega arith) none in
      let high : lanes a b c d / 2 ^ 32 ≡ c + 2 ^ 16 * d = omega arith in
      let low : lanes a b c d % 2 ^ 32 ≡ a + 2 ^ 16 * b = omega arith in
      let (c-clear, d-clear) = two_clear c d cs ds (rw high at upper) in
      let (a-clear, b-clear) = two_clear a b az bs (rw low at lower) in
      (a-clear, b-clear, c-clear, d-clear)

  unused_clear : bit_and (lanes a b c d) 9223653511831486463 ≡ 0 → (a ≡ 0) × (b ≡ 0) × (c ≡ 0) × (d < 2 ^ 15)
  unused_clear none =
      let (upper, lower) = mask_parts 48 (lanes a b c d) 32768 281474976710655 (omega arith) none in
      let high : lanes a b c d / 2 ^ 48 ≡ d = omega arith in
      let zeros : lanes a b c d % 2 ^ 48 % 2 ^ 48 ≡ 0 = sym (and_mask (lanes a b c d % 2 ^ 48) 48) ∙ lower in
      (omega arith, omega arith, omega arith, upper_clear d ds (rw high at upper))

-- a day cap with 1 added
day_right : (d : ℕ) → d < 2 ^ 16 → (d + 1) % 2 ^ 16 < 2 ^ 15 → money d || eqb d no_day_cap ≡ true
day_right d small clear =
    elim (ℕ_discrete d no_day_cap) [
      | yes none ↦ rw none
      | no some ↦ rw (le-leb d most_money (omega arith))
    ]

-- Caps that are right, by the sort.
module _ (f : AreaFields) (day : money f.day_cap || eqb f.day_cap no_day_cap ≡ true) (flat : f.bicycle_flat ≤ most_money) where
  none_right :
      f.sort ≡ 0 → f.cap1 ≡ 0 → f.cap2 ≡ 0 → f.cap3 ≡ 0 → f.cap4 ≡ 0 → f.cap5 ≡ 0 → caps_right f ≡ true
  unfolding caps_right
  none_right sort one two three four five =
      rw (sort, one, two, three, four, five, day, le-leb f.bicycle_flat most_money flat)

  flat_right :
      f.sort ≡ 1 → f.cap1 ≤ most_money → 30 ≤ f.cap2 → f.cap2 ≤ 1440 → f.cap3 ≡ 0 → f.cap4 ≡ 0 → f.cap5 ≡ 0 → caps_right f ≡ true
  unfolding caps_right
  flat_right sort one least most three four five =
      rw (
        sort,
        le-leb f.cap1 most_money one,
        le-leb 30 f.cap2 least,
        le-leb f.cap2 1440 most,
        three,
        four,
        five,
        day,
        le-leb f.bicycle_flat most_money flat,
      )

  levels_right :
      f.sort ≡ 2 → f.cap1 ≤ most_money → f.cap2 ≤ most_money → f.cap3 ≤ most_money → f.cap4 ≤ most_money → f.cap5 ≤ most_money
      → caps_right f ≡ true
  unfolding caps_right
  levels_right sort one two three four five =
      rw (
        sort,
        le-leb f.cap1 most_money one,
        le-leb f.cap2 most_money two,
        le-leb f.cap3 most_money three,
        le-leb f.cap4 most_money four,
        le-leb f.cap5 most_money five,
        day,
        le-leb f.bicycle_flat most_money flat,
      )

-- Child tickets and a bicycle price that are right, by the sort.
module _ (f : AreaFields) (g : LongFields) (price : g.bicycle_price ≤ most_money) where
  no_ticket_right :
      f.sort ≡ 0 → g.child1 ≡ 0 → g.child2 ≡ 0 → g.child3 ≡ 0 → g.child4 ≡ 0 → g.child5 ≡ 0
      → tickets_right f g && money g.bicycle_price ≡ true
  no_ticket_right sort one two three four five =
      rw (sort, one, two, three, four, five, le-leb g.bicycle_price most_money price)

  one_ticket_right :
      f.sort ≡ 1 → g.child1 ≤ most_money → g.child2 ≡ 0 → g.child3 ≡ 0 → g.child4 ≡ 0 → g.child5 ≡ 0
      → tickets_right f g && money g.bicycle_price ≡ true
  one_ticket_right sort one two three four five =
      rw (sort, le-leb g.child1 most_money one, two, three, four, five, le-leb g.bicycle_price most_money price)

  level_tickets_right :
      f.sort ≡ 2 → g.child1 ≤ most_money → g.child2 ≤ most_money → g.child3 ≤ most_money → g.child4 ≤ most_money → g.child5 ≤ most_money
      → tickets_right f g && money g.bicycle_price ≡ true
  level_tickets_right sort one two three four five =
      rw (
        sort,
        le-leb g.child1 most_money one,
        le-leb g.child2 most_money two,
        le-leb g.child3 most_money three,
        le-leb g.child4 most_money four,
        le-leb g.child5 most_money five,
        le-leb g.bicycle_price most_money price,
      )

module _ (b : List ℕ) (bytes : Bytes b) (at : ℕ) where
  -- the fields of two bytes of the record at a place
  abbrev field : ℕ → ℕ
  field k = get_le 2 b (at + k)

  small : (k : ℕ) → field k < 2 ^ 16
  small k = get_range 2 b (at + k) bytes

  -- the words of its trip cap and day cap, with 1 added to it
  abbrev first : ℕ
  first = get_le 8 b (at + 15)

  abbrev last : ℕ
  last = (get_le 8 b (at + 19) + 281474976710656) % 2 ^ 64

  first_is : first ≡ lanes (field 15) (field 17) (field 19) (field 21)
  first_is = simp add_assoc at (lanes_word b (at + 15))

  last_is : last ≡ lanes (field 19) (field 21) (field 23) ((field 25 + 1) % 2 ^ 16)
  last_is =
      let word : get_le 8 b (at + 19) ≡ lanes (field 19) (field 21) (field 23) (field 25) = simp add_assoc at (lanes_word b (at + 19)) in
      rw word (wraps (field 19) (field 21) (field 23) (field 25) (small 19) (small 21) (small 23) (small 25))
    where
      wraps :
          (a b c d : ℕ) → a < 2 ^ 16 → b < 2 ^ 16 → c < 2 ^ 16 → d < 2 ^ 16
          → (lanes a b c d + 281474976710656) % 2 ^ 64 ≡ lanes a b c ((d + 1) % 2 ^ 16)
      wraps a b c d az bs cs ds = omega arith

  rest : bit_and last 9223653511831486463 ≡ 0 → (field 19 ≡ 0) × (field 21 ≡ 0) × (field 23 ≡ 0) × ((field 25 + 1) % 2 ^ 16 < 2 ^ 15)
  rest none =
      unused_clear (field 19) (field 21) (field 23) ((field 25 + 1) % 2 ^ 16) (small 19) (small 21) (small 23) (omega arith) (rw last_is at none)

  -- So the caps of the area record are right: with no trip cap, a flat one, or one by levels.
  module _ (flat : (area_fields b at).bicycle_flat ≤ most_money) where
    pub no_cap_told : get_le 1 b (at + 14) ≡ 0 → bit_or first (bit_and last 9223653511831486463) ≡ 0 → caps_right (area_fields b at) ≡ true
    unfolding area_fields
    no_cap_told sort none =
        let zeros : first ≡ 0 = or_left first (bit_and last 9223653511831486463) none in
        let (three, four, five, day) = rest (or_right first (bit_and last 9223653511831486463) none) in
        none_right (area_fields b at) (day_right (field 25) (small 25) day) flat sort (omega (arith, first_is)) (omega (arith, first_is)) three four five

    pub flat_told :
        get_le 1 b (at + 14) ≡ 1 → bit_and last 9223653511831486463 ≡ 0 → 1966080 ≤ first → first < 94437376 → bit_and first 32768 ≡ 0
        → caps_right (area_fields b at) ≡ true
    unfolding area_fields
    flat_told sort none least most upper =
        let (three, four, five, day) = rest none in
        let amount =
        first_clear (field 15) (field 17) (field 19) (field 21) (small 15) (small 17) (small 19) (small 21) (rw first_is at upper)
        in
        flat_right (area_fields b at) (day_right (field 25) (small 25) day) flat sort (omega arith)
        (omega (arith, first_is, small 15)) (omega (arith, first_is)) three four five

    pub levels_told :
        get_le 1 b (at + 14) ≡ 2 → bit_or (bit_and first 9223512776490647552) (bit_and last 9223512776490647552) ≡ 0 → caps_right (area_fields b at) ≡ true
    unfolding area_fields
    levels_told sort none =
        let front = or_left (bit_and first 9223512776490647552) (bit_and last 9223512776490647552) none in
        let back = or_right (bit_and first 9223512776490647552) (bit_and last 9223512776490647552) none in
        let (one, two, three, four) =
        all_clear (field 15) (field 17) (field 19) (field 21) (small 15) (small 17) (small 19) (small 21) (rw first_is at front)
        in
        let (three-again, four-again, five, day) =
        all_clear (field 19) (field 21) (field 23) ((field 25 + 1) % 2 ^ 16) (small 19) (small 21) (small 23) (omega arith) (rw last_is at back)
        in
        levels_right (area_fields b at) (day_right (field 25) (small 25) day) flat sort (omega arith) (omega arith) (omega arith) (omega arith)
        (omega arith)

  -- the words of the child tickets and the bicycle price
  abbrev tickets : ℕ
  tickets = get_le 8 b (at + 29)

  abbrev prices : ℕ
  prices = get_le 8 b (at + 33)

  tickets_is : tickets ≡ lanes (field 29) (field 31) (field 33) (field 35)
  tickets_is = simp add_assoc at (lanes_word b (at + 29))

  prices_is : prices ≡ lanes (field 33) (field 35) (field 37) (field 39)
  prices_is = simp add_assoc at (lanes_word b (at + 33))

  other : bit_and prices 9223653511831486463 ≡ 0 → (field 33 ≡ 0) × (field 35 ≡ 0) × (field 37 ≡ 0) × (field 39 < 2 ^ 15)
  other none = unused_clear (field 33) (field 35) (field 37) (field 39) (small 33) (small 35) (small 37) (small 39) (rw prices_is at none)

  -- So they are right: with no ticket, one, or those by levels.
  pub no_ticket_told :
      get_le 1 b (at + 14) ≡ 0 → bit_or tickets (bit_and prices 9223653511831486463) ≡ 0
      → tickets_right (area_fields b at) (long_fields b at) && money (long_fields b at).bicycle_price ≡ true
  unfolding area_fields long_fields
  no_ticket_told sort none =
      let zeros : tickets ≡ 0 = or_left tickets (bit_and prices 9223653511831486463) none in
      let (three, four, five, price) = other (or_right tickets (bit_and prices 9223653511831486463) none) in
      no_ticket_right (area_fields b at) (long_fields b at) (omega arith) sort (omega (arith, tickets_is)) (omega (arith, tickets_is)) three four five

  pub one_ticket_told :
      get_le 1 b (at + 14) ≡ 1 → bit_and prices 9223653511831486463 ≡ 0 → tickets < 32768
      → tickets_right (area_fields b at) (long_fields b at) && money (long_fields b at).bicycle_price ≡ true
  unfolding area_fields long_fields
  one_ticket_told sort none few =
      let (three, four, five, price) = other none in
      one_ticket_right (area_fields b at) (long_fields b at) (omega arith) sort (omega (arith, tickets_is)) (omega (arith, tickets_is)) three four five

  pub level_tickets_told :
      get_le 1 b (at + 14) ≡ 2 → bit_or (bit_and tickets 9223512776490647552) (bit_and prices 9223512776490647552) ≡ 0
      → tickets_right (area_fields b at) (long_fields b at) && money (long_fields b at).bicycle_price ≡ true
  unfolding area_fields long_fields
  level_tickets_told sort none =
      let front = or_left (bit_and tickets 9223512776490647552) (bit_and prices 9223512776490647552) none in
      let back = or_right (bit_and tickets 9223512776490647552) (bit_and prices 9223512776490647552) none in
      let (one, two, three, four) =
      all_clear (field 29) (field 31) (field 33) (field 35) (small 29) (small 31) (small 33) (small 35) (rw tickets_is at front)
      in
      let (three-again, four-again, five, price) =
      all_clear (field 33) (field 35) (field 37) (field 39) (small 33) (small 35) (small 37) (small 39) (rw prices_is at back)
      in
      level_tickets_right (area_fields b at) (long_fields b at) (omega arith) sort (omega arith) (omega arith) (omega arith) (omega arith)
      (omega arith)
