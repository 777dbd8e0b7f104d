-- The promise about windows of one class: the charges add up to what totals alone give, so the order of the rides does not matter, and a dearer
-- price adds at most what it is dearer by.
-- No total exceeds what totals alone give an area, since no cap is passed and no charge exceeds its price; and it reaches it where no
-- cap above is full, since a charge is cut only by a full cap, and a full cap stays full. Above the state there is no cap.
-- Assumes nothing.
use Prim.Native.Nat.{ℕ, zero, suc, ◌+◌, ◌≤◌, ◌<◌}
use native.Mathlib.Nat.{le_refl}
use native.Mathlib.Omega.{arith}
use native.Mathlib.Decide.{ℕ_discrete, dec_lt}
use mathlib.Core.Path.{◌≡◌, refl, sym, ap, subst, ◌∙◌}
use mathlib.Core.Logic.{⊎_elim}
use mathlib.Core.Bool.{Bool, true, false, cond, and-eq-true_iff}
use mathlib.Core.List.Permᴰ
use mathlib.Core.List.{
  List,
  [],
  ◌∷◌,
  ◌++◌,
  Permᴰ,
}
use borrow.Author.Tests.{eqb-true, eq-eqb, ne_eqb}
use lib.Dec.{eqb}
use Rattle.units.specs.Caps.{capped_by}
use Rattle.units.proofs.Caps.{capped_most}
use Rattle.caps.specs.Tree.{Tree, IsTree, within}
use Rattle.caps.specs.Limits.{AtMost, Full}
use Rattle.caps.specs.Rides.{
  ChargedRide,
  ChargedInTurn,
  none,
  more,
  all_total,
  second_total,
  charges,
  CapFull,
  all_full,
  second_full,
  cap_of,
  child_of,
  own_prices,
  over_children,
  result_of,
  totals_alone,
  one_class,
  prices_of,
  Reordered,
  OneDearer,
}
use Rattle.caps.proofs.OneArea.{stays_full, smaller_full, full_or_not, fits_capped, full_capped, capped_mono, capped_within}
use Rattle.caps.proofs.Climb.{top_alone, within_cases, state_level}
use Rattle.caps.proofs.Window.{no_more_than_price, no_cap_passed, cut_leaves_full, state_total}
use Rattle.caps.proofs.Children.{child_is, over_mono, over_add, over_nothing, one_below, own_charges, total_in_parts}

-- the latest ride and the rides before it are of the one class
one_class_parts :
    (class : ℕ) (e : ChargedRide) (es : List ChargedRide) → one_class class (e ∷ es) ≡ true → (e.class ≡ class) × (one_class class es ≡ true)
unfolding one_class
one_class_parts class e es one =
    let (same, before) = (and-eq-true_iff (eqb e.class class) (one_class class es)).0 one in
    (eqb-true e.class class same, before)

-- where all rides are of class 2 the two totals are one
second_is_all : (t : Tree) (class x : ℕ) (es : List ChargedRide) → class ≡ 2 → one_class class es ≡ true → second_total t x es ≡ all_total t x es
unfolding second_total all_total
second_is_all t class x [] two one = refl
second_is_all t class x (e ∷ es) two one =
    let (same, before) = one_class_parts class e es one in
    rw (eq-eqb e.class 2 (same ∙ two), second_is_all t class x es two before)

-- ---- The order of rides.

-- a ride's price in its own area, and nothing in any other
abbrev price_in : ℕ → (ℕ × ℕ) → ℕ
price_in x pair = cond (eqb pair.0 x) pair.1 0

-- the prices of an area, of pairs of area and price
unfoldable prices_in : ℕ → List (ℕ × ℕ) → ℕ
prices_in x [] = 0
prices_in x (pair ∷ pairs) = prices_in x pairs + price_in x pair

own_pairs : (x : ℕ) (es : List ChargedRide) → own_prices x es ≡ prices_in x (prices_of es)
unfolding own_prices prices_of prices_in
own_pairs x [] = refl
own_pairs x (e ∷ es) = ap (◌+ cond (eqb e.area x) e.price 0) (own_pairs x es)

-- an order keeps them
any_order : (x : ℕ) {ps qs : List (ℕ × ℕ)} → Permᴰ ps qs → prices_in x ps ≡ prices_in x qs
unfolding prices_in
any_order x Permᴰ.nil = refl
any_order x (Permᴰ.cons same rest) = omega (arith, ap (price_in x) same, any_order x rest)
any_order x (Permᴰ.swap one other) = omega (arith, ap (price_in x) one, ap (price_in x) other)
any_order x (Permᴰ.trans first second) = any_order x first ∙ any_order x second

-- The prices of each area's own rides are the same in any order.
pub reordered_prices : (x : ℕ) (es fs : List ChargedRide) → Reordered es fs → own_prices x es ≡ own_prices x fs
reordered_prices x es fs order = own_pairs x es ∙ any_order x order ∙ sym (own_pairs x fs)

-- ---- A dearer price.

-- Where one price is dearer, the prices of its area's own rides are as much more, and those of each other area the same.
pub dearer_prices :
    {increase : ℕ} (es fs : List ChargedRide) (dearer : OneDearer increase es fs) (x : ℕ)
    → own_prices x fs ≡ own_prices x es + cond (eqb dearer.area x) increase 0
unfolding prices_in
dearer_prices {increase} es fs dearer x =
    omega (
      arith,
      own_pairs x es,
      any_order x dearer.old,
      own_pairs x fs,
      any_order x dearer.new,
      part (eqb dearer.area x),
    )
  where
    part : (b : Bool) → cond b (dearer.price + increase) 0 ≡ cond b dearer.price 0 + cond b increase 0
    part true = refl
    part false = refl

-- So it is of rides in the same order, of which one is dearer in its place.
pub dearer_in_place :
    (increase area price : ℕ) (later before : List (ℕ × ℕ)) (es fs : List ChargedRide) → prices_of es ≡ later ++ (area, price) ∷ before
    → prices_of fs ≡ later ++ (area, price + increase) ∷ before → OneDearer increase es fs
dearer_in_place increase area price later before es fs is is' =
    record {
      area = area;
      price = price;
      others = later ++ before;
      old = rw is (Permᴰ.middle (area, price) later before);
      new = rw is' (Permᴰ.middle (area, price + increase) later before);
    }

module _ {t : Tree} (tree : IsTree t) (class : ℕ) where
  -- ---- The one cap of each area that counts.

  -- it is not passed
  class_kept :
      {es : List ChargedRide} → ChargedInTurn t es → one_class class es ≡ true → (x : ℕ) → x < t.size
      → AtMost (all_total t x es) (cap_of t class x)
  class_kept {es} r one x h = go (eqb class 2) refl
    where
      go : (two : Bool) → eqb class 2 ≡ two → AtMost (all_total t x es) (cond two (t.caps x).second (t.caps x).all)
      go true e = rw (second_is_all t class x es (eqb-true class 2 e) one) at (no_cap_passed tree r x h).1
      go false e = (no_cap_passed tree r x h).0

  -- where one of a ride's caps is full, the one that counts there is full
  class_full :
      {e : ChargedRide} {es : List ChargedRide} → ChargedInTurn t (e ∷ es) → one_class class (e ∷ es) ≡ true → CapFull t e (e ∷ es)
      → (x : ℕ) × (x < t.size) × (within t e.area x ≡ true) × Full (all_total t x (e ∷ es)) (cap_of t class x)
  class_full {e} {es} r one (all_full x h w f) = (x, h, w, go (eqb class 2) refl)
    where
      go : (two : Bool) → eqb class 2 ≡ two → Full (all_total t x (e ∷ es)) (cond two (t.caps x).second (t.caps x).all)
      go true two =
          smaller_full (t.caps x).second (t.caps x).all (all_total t x (e ∷ es)) (tree.caps_order x h)
          (rw two at (class_kept r one x h))
          f
      go false two = f
  class_full {e} {es} r one (second_full x h w two f) =
      let is : class ≡ 2 = sym (one_class_parts class e es one).0 ∙ two in
      (x, h, w, rw (eq-eqb class 2 is, ← (second_is_all t class x (e ∷ es) is one)) f)

  -- ---- Own rides.

  -- no cap of an area, nor of one above, is full
  Open : List ChargedRide → ℕ → Type 0
  Open es x = (z : ℕ) → z < t.size → within t x z ≡ true → Full (all_total t z es) (cap_of t class z) → ⊥

  -- what is open now was open one ride before
  open_before :
      {e : ChargedRide} {es : List ChargedRide} → ChargedInTurn t (e ∷ es) → one_class class (e ∷ es) ≡ true → (x : ℕ) → Open (e ∷ es) x → Open es x
  unfolding Open all_total
  open_before r one x now z h w f = now z h w (stays_full (cap_of t class z) (omega arith) (class_kept r one z h) f)

  -- own rides are charged no more than their prices
  own_most : {es : List ChargedRide} → ChargedInTurn t es → (x : ℕ) → own_charges x es ≤ own_prices x es
  unfolding own_charges own_prices
  own_most none x = le_refl 0
  own_most (more {e} {es} r there is) x = omega (arith, own_most r x, part (eqb e.area x))
    where
      part : (b : Bool) → cond b e.charge 0 ≤ cond b e.price 0
      part true = no_more_than_price tree (more r there is)
      part false = le_refl 0

  -- and no less, where no cap is full
  own_whole : {es : List ChargedRide} → ChargedInTurn t es → one_class class es ≡ true → (x : ℕ) → Open es x → own_prices x es ≤ own_charges x es
  unfolding own_charges own_prices Open
  own_whole none one x now = le_refl 0
  own_whole (more {e} {es} r there is) one x now =
      omega (
        arith,
        own_whole r (one_class_parts class e es one).1 x (open_before (more r there is) one x now),
        part (eqb e.area x) refl,
      )
    where
      uncut : e.area ≡ x → e.charge < e.price → ⊥
      uncut same below =
          let (z, h, w, full) = class_full (more r there is) one (cut_leaves_full tree (more r there is) below) in
          now z h (subst (λ a. within t a z ≡ true) same w) full

      part : (b : Bool) → eqb e.area x ≡ b → cond b e.price 0 ≤ cond b e.charge 0
      part true same = omega (arith, uncut (eqb-true e.area x same))
      part false same = le_refl 0

  -- ---- The total of each area against what totals alone give it.

  -- an area right below x has one level less below it
  child_depth : (x y depth : ℕ) → y < t.size → child_of t y x ≡ true → t.level x + suc depth ≡ 2 → t.level y + depth ≡ 2
  child_depth x y depth h child level =
      let (low, up) = child_is t y x child in
      omega (arith, rw up at (tree.parent_level y h low))

  -- a city has no area below it
  city_alone : (x : ℕ) (f : ℕ → ℕ) → t.level x ≡ 2 → over_children t x f t.size ≡ 0
  city_alone x f city =
      over_nothing t x f t.size λ y h child.
      let (low, up) = child_is t y x child in
      absurd (omega (arith, tree.few_levels y h, rw up at (tree.parent_level y h low)))

  -- no cap strictly above an area is full
  OpenAbove : List ChargedRide → ℕ → Type 0
  OpenAbove es x = (z : ℕ) → z < t.size → within t x z ≡ true → (x ≡ z → ⊥) → Full (all_total t z es) (cap_of t class z) → ⊥

  -- so it is above an area right below an open one
  open_child : (es : List ChargedRide) (x y : ℕ) → y < t.size → child_of t y x ≡ true → Open es x → OpenAbove es y
  unfolding Open OpenAbove
  open_child es x y h child now z k w other f =
      ⊎_elim other (λ above. now z k (rw (child_is t y x child).1 at above.1) f) (within_cases tree y z h w)

  -- and above the state
  open_state : (es : List ChargedRide) → OpenAbove es 0
  unfolding OpenAbove
  open_state es z k w other f = other (top_alone tree 0 z (state_level tree) w)

  -- an area with no full cap above it is open too, or its own cap is full and no capped amount is larger than its total
  reached :
      (es : List ChargedRide) (x amount : ℕ) → OpenAbove es x → (Open es x → amount ≤ all_total t x es)
      → capped_by (cap_of t class x) amount ≤ all_total t x es
  unfolding Open OpenAbove
  reached es x amount above whole = go (full_or_not (cap_of t class x) (all_total t x es))
    where
      now :
          (Full (all_total t x es) (cap_of t class x) → ⊥) → (z : ℕ) → Dec (x ≡ z) → z < t.size → within t x z ≡ true
          → Full (all_total t z es) (cap_of t class z) → ⊥
      now unfilled z (yes same) k w f = unfilled (rw same f)
      now unfilled z (no other) k w f = above z k w other f

      go : Dec (Full (all_total t x es) (cap_of t class x)) → capped_by (cap_of t class x) amount ≤ all_total t x es
      go (yes full) = full_capped (cap_of t class x) amount full
      go (no unfilled) = omega (arith, capped_most (cap_of t class x) amount, whole (λ z. now unfilled z (ℕ_discrete x z)))

  -- each total reaches what totals alone give, where no cap above is full
  lower :
      {es : List ChargedRide} → ChargedInTurn t es → one_class class es ≡ true → (depth x : ℕ) → x < t.size → t.level x + depth ≡ 2
      → OpenAbove es x → result_of t class es depth x ≤ all_total t x es
  unfolding result_of
  lower {es} r one zero x h level above =
      reached es x (own_prices x es) above λ now. omega (arith, total_in_parts tree r x, own_whole r one x now)
  lower {es} r one (suc depth) x h level above =
      reached es x (own_prices x es + over_children t x (result_of t class es depth) t.size) above λ now.
      omega (
        arith,
        total_in_parts tree r x,
        own_whole r one x now,
        over_mono t x (result_of t class es depth) (λ y. all_total t y es) t.size λ y k child.
            lower r one depth y k (child_depth x y depth k child level) (open_child es x y k child now),
      )

  -- no total exceeds it
  upper :
      {es : List ChargedRide} → ChargedInTurn t es → one_class class es ≡ true → (depth x : ℕ) → x < t.size → t.level x + depth ≡ 2
      → all_total t x es ≤ result_of t class es depth x
  unfolding result_of
  upper {es} r one zero x h level =
      fits_capped (cap_of t class x)
      (omega (arith, total_in_parts tree r x, own_most r x, city_alone x (λ y. all_total t y es) (omega arith)))
      (class_kept r one x h)
  upper {es} r one (suc depth) x h level =
      fits_capped (cap_of t class x)
      (omega (
        arith,
        total_in_parts tree r x,
        own_most r x,
        over_mono t x (λ y. all_total t y es) (result_of t class es depth) t.size λ y k child.
            upper r one depth y k (child_depth x y depth k child level),
      ))
      (class_kept r one x h)

  -- Where all of a rider's rides in a window are of one class, the charges add up to what totals alone give.
  pub one_class_total : {es : List ChargedRide} → ChargedInTurn t es → one_class class es ≡ true → charges es ≡ totals_alone t class es
  one_class_total {es} r one =
      let level : t.level 0 + 2 ≡ 2 = omega (arith, state_level tree) in
      omega (arith, state_total tree r, upper r one 2 0 tree.state level, lower r one 2 0 tree.state level (open_state es))

  -- ---- The order of the rides.

  -- what totals alone give goes by the prices of each area's own rides
  result_mono :
      (es fs : List ChargedRide) → ((x : ℕ) → x < t.size → own_prices x es ≤ own_prices x fs) → (depth x : ℕ) → x < t.size
      → result_of t class es depth x ≤ result_of t class fs depth x
  unfolding result_of
  result_mono es fs prices zero x h = capped_mono (cap_of t class x) (prices x h)
  result_mono es fs prices (suc depth) x h =
      capped_mono (cap_of t class x)
      (omega (
        arith,
        prices x h,
        over_mono t x (result_of t class es depth) (result_of t class fs depth) t.size λ y k child.
            result_mono es fs prices depth y k,
      ))

  -- Two windows of one class with the same prices in each area are charged the same in all, whatever the order of their rides.
  pub order_free :
      {es fs : List ChargedRide} → ChargedInTurn t es → ChargedInTurn t fs → one_class class es ≡ true → one_class class fs ≡ true
      → ((x : ℕ) → x < t.size → own_prices x es ≡ own_prices x fs) → charges es ≡ charges fs
  order_free {es} {fs} r s one two same =
      omega (
        arith,
        one_class_total r one,
        one_class_total s two,
        result_mono es fs (λ x h. omega (arith, same x h)) 2 0 tree.state,
        result_mono fs es (λ x h. omega (arith, same x h)) 2 0 tree.state,
      )

  -- So it is with the same rides in another order.
  pub reordered_same :
      {es fs : List ChargedRide} → ChargedInTurn t es → ChargedInTurn t fs → one_class class es ≡ true → one_class class fs ≡ true
      → Reordered es fs → charges es ≡ charges fs
  reordered_same {es} {fs} r s one two order = order_free r s one two (λ x h. reordered_prices x es fs order)

  -- ---- A dearer price.

  -- Where the prices of area a's own rides grow by d, an area's result grows by at most d, and not at all where a does not lie within it.
  pub result_grows :
      (es fs : List ChargedRide) (a d : ℕ) → a < t.size
      → ((x : ℕ) → x < t.size → own_prices x fs ≤ own_prices x es + cond (eqb a x) d 0) → (depth x : ℕ) → x < t.size
      → result_of t class fs depth x ≤ result_of t class es depth x + cond (within t a x) d 0
  unfolding result_of
  result_grows es fs a d there prices zero x h =
      capped_within (cap_of t class x) (own_prices x es) (cond (within t a x) d 0)
      (omega (arith, prices x h, one_below tree d a there x))
  result_grows es fs a d there prices (suc depth) x h =
      capped_within (cap_of t class x) (own_prices x es + over_children t x (result_of t class es depth) t.size) (cond (within t a x) d 0)
      (omega (
        arith,
        prices x h,
        one_below tree d a there x,
        over_add t x (result_of t class es depth) (λ y. cond (within t a y) d 0) t.size,
        over_mono t x (result_of t class fs depth) (λ y. result_of t class es depth y + cond (within t a y) d 0) t.size λ y k child.
            result_grows es fs a d there prices depth y k,
      ))

  -- So what totals alone give never falls, and grows by at most d. Where a is no area, nothing grows.
  pub totals_grow :
      (es fs : List ChargedRide) (a d : ℕ) → ((x : ℕ) → x < t.size → own_prices x fs ≡ own_prices x es + cond (eqb a x) d 0)
      → (totals_alone t class es ≤ totals_alone t class fs) × (totals_alone t class fs ≤ totals_alone t class es + d)
  totals_grow es fs a d prices =
      (result_mono es fs (λ x h. omega (arith, prices x h)) 2 0 tree.state, most (dec_lt a t.size))
    where
      whole : (b : Bool) → cond b d 0 ≤ d
      whole true = le_refl d
      whole false = omega arith

      most : Dec (a < t.size) → totals_alone t class fs ≤ totals_alone t class es + d
      most (yes there) =
          omega (arith, result_grows es fs a d there (λ x h. omega (arith, prices x h)) 2 0 tree.state, whole (within t a 0))
      most (no out) =
          let same : (x : ℕ) → x < t.size → cond (eqb a x) d 0 ≡ 0 = λ x h. rw (ne_eqb a x (λ e. omega arith)) in
          omega (arith, result_mono fs es (λ x h. omega (arith, prices x h, same x h)) 2 0 tree.state)
