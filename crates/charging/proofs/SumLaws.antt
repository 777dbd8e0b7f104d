-- What adding charges does to the sums: additive on the chain of the ride's area, and nothing anywhere else.
-- Assumes nothing.
use Prim.Native.Nat.{ℕ, zero, suc, ◌+◌, ◌*◌, ◌^◌, ◌≤◌, ◌<◌}
use native.Mathlib.Nat.{add-zero}
use native.Mathlib.Omega.{arith}
use native.Mathlib.Decide.{ℕ_discrete}
use mathlib.Core.Path.{◌≡◌, refl, sym, ap, subst, ◌∙◌}
use mathlib.Core.Logic.{◌⊎◌, inl, inr, ⊎_elim}
use mathlib.Core.Bool.{Bool, true, false, cond, ◌&&◌, ◌||◌, and-true, and-false}
use mathlib.Core.List.{List}
use borrow.Author.Tests.{eq-eqb, ne_eqb, eqb-true}
use lib.ListN.{length, get_or}
use lib.Dec.{eqb}
use Rattle.caps.specs.Tree.{IsTree, within}
use Rattle.caps.proofs.Climb.{
  fold_keeps,
  upwards,
  climb_top,
  climb_up,
  within_top,
  within_above,
  within_self,
  within_parent,
  within_there,
  not_within_child,
}
use Rattle.layout.specs.declared.Counts.{Counts}
use Rattle.layout.specs.Rules.{level_of}
use Rattle.areas.specs.Areas.{parent_of, FaultlessTariff}
use Rattle.areas.proofs.Within.{parent_there}
use Rattle.ledger.specs.Words.{book_size, word, put_word, pair_place, second_sum, all_sum}
use Rattle.ledger.proofs.WordLaws.{word_put_same, word_put_other, size_put}
use Rattle.charging.specs.Caps.{tree_of}
use Rattle.charging.specs.After.{add_here, add_up, add_list}
use Rattle.charging.proofs.Trees.{is_tree}

-- the one or the other of a rider's two sums in an area
abbrev pub sum_of : Bool → List ℕ → ℕ → ℕ → ℕ
sum_of true book rider area = second_sum book rider area
sum_of false book rider area = all_sum book rider area

-- a charge of a class counts in the second-class sum if it is class 2, and always in the other
abbrev pub counted : Bool → ℕ → Bool
counted true class = eqb class 2
counted false class = true

-- a rider's sums in an area have room for an amount
abbrev pub Fits : List ℕ → ℕ → ℕ → ℕ → Type 0
Fits book rider amount area = (which : Bool) → sum_of which book rider area + amount < 2 ^ 32

-- the book with a charge added in one area, by whether the second-class sum takes it
abbrev here_by : Bool → List ℕ → ℕ → ℕ → ℕ → List ℕ
here_by second book rider area amount =
    let both = cond second (put_word book (pair_place rider area) (second_sum book rider area + amount)) book in
    put_word both (pair_place rider area + 1) (all_sum both rider area + amount)

here-by : (b : List ℕ) (r class a c : ℕ) → add_here b r class a c ≡ here_by (eqb class 2) b r a c
unfolding add_here
here-by b r class a c = refl

by_size : (s : Bool) (b : List ℕ) (r a c : ℕ) → length (here_by s b r a c) ≡ length b
by_size true b r a c = size_put _ _ _ ∙ size_put _ _ _
by_size false b r a c = size_put _ _ _

by_other : (s : Bool) (b : List ℕ) (r a c j : ℕ) → (pair_place r a ≡ j → ⊥) → (pair_place r a + 1 ≡ j → ⊥) → word (here_by s b r a c) j ≡ word b j
by_other true b r a c j one two = word_put_other _ _ _ _ two ∙ word_put_other _ _ _ _ one
by_other false b r a c j one two = word_put_other _ _ _ _ two

by_sum :
    (s which : Bool) (b : List ℕ) (r a c : ℕ) → length b ≡ book_size → r < 21 → a < 32 → Fits b r c a
    → sum_of which (here_by s b r a c) r a ≡ sum_of which b r a + cond (cond which s true) c 0
by_sum true true b r a c size hr ha fits =
    word_put_other _ _ _ _ (λ e. omega arith) ∙ word_put_same b (pair_place r a) _ size (omega arith) (fits true)
by_sum false true b r a c size hr ha fits = word_put_other _ _ _ _ (λ e. omega arith) ∙ sym (add-zero _)
by_sum true false b r a c size hr ha fits =
    let second = put_word b (pair_place r a) (second_sum b r a + c) in
    let kept : all_sum second r a ≡ all_sum b r a = word_put_other b (pair_place r a) (pair_place r a + 1) _ (λ e. omega arith) in
    word_put_same second (pair_place r a + 1) (all_sum second r a + c) (size_put _ _ _ ∙ size) (omega arith) (omega (arith, fits false))
    ∙ ap (◌+ c) kept
by_sum false false b r a c size hr ha fits = word_put_same b (pair_place r a + 1) _ size (omega arith) (fits false)

-- ---- One area.

-- The book keeps its length.
pub here_size : (b : List ℕ) (r class a c : ℕ) → length (add_here b r class a c) ≡ length b
here_size b r class a c = rw here-by (by_size (eqb class 2) b r a c)

-- Every word but the rider's two in the area stays.
pub here_other :
    (b : List ℕ) (r class a c j : ℕ) → (pair_place r a ≡ j → ⊥) → (pair_place r a + 1 ≡ j → ⊥) → word (add_here b r class a c) j ≡ word b j
here_other b r class a c j one two = rw here-by (by_other (eqb class 2) b r a c j one two)

counted_is : (which : Bool) (class : ℕ) → cond which (eqb class 2) true ≡ counted which class
counted_is true class = refl
counted_is false class = refl

-- The rider's sums grow by the charge in that area, and in no other.
pub here_sum :
    (which : Bool) (b : List ℕ) (r class a c : ℕ) → length b ≡ book_size → r < 21 → a < 32 → Fits b r c a → (x : ℕ) → x < 32
    → sum_of which (add_here b r class a c) r x ≡ sum_of which b r x + cond (counted which class && eqb a x) c 0
here_sum which b r class a c size hr ha fits x hx =
    elim (ℕ_discrete a x) [
      | yes is ↦
          rw (here-by, ← is, eq-eqb a a refl, and-true, ← counted_is which class)
          (by_sum (eqb class 2) which b r a c size hr ha fits)
      | no ne ↦ rw (ne_eqb a x ne, and-false, add-zero) (kept which ne)
    ]
  where
    kept : (which : Bool) → (a ≡ x → ⊥) → sum_of which (add_here b r class a c) r x ≡ sum_of which b r x
    kept true ne = here_other b r class a c (pair_place r x) (λ e. ne (omega arith)) (λ e. omega arith)
    kept false ne = here_other b r class a c (pair_place r x + 1) (λ e. omega arith) (λ e. ne (omega arith))

-- ---- An area and every area above it.

-- two hits in turn are one: on the area itself, or on the chain above it, and never both
one_hit : (k s v : Bool) (n c : ℕ) → (s ≡ true → v ≡ false) → (n + cond (k && s) c 0) + cond (k && v) c 0 ≡ n + cond (k && (s || v)) c 0
one_hit true true v n c never = rw (never refl) (add-zero _)
one_hit true false v n c never = ap (◌+ cond v c 0) (add-zero n)
one_hit false s v n c never = add-zero _

-- what does not hold is false
not_so : (s : Bool) → (s ≡ true → ⊥) → s ≡ false
not_so true never = absurd (never refl)
not_so false never = refl

module _ {tariff : List ℕ} {counts : Counts} (t : FaultlessTariff tariff counts) (r class c : ℕ) (hr : r < 21) where
  tree : IsTree (tree_of tariff counts false)
  tree = is_tree t false

  -- one step of the way up
  abbrev adding : ℕ → List ℕ → List ℕ
  adding a b = add_here b r class a c

  pub up_size : (b : List ℕ) (a : ℕ) → a < counts.areas → length (add_up tariff counts b r class a c) ≡ length b
  unfolding add_up
  up_size b a there =
      fold_keeps (parent_of tariff) counts.areas (parent_there t) adding (λ (l : List ℕ). length l ≡ length b)
      (λ x h l e. here_size l r class x c ∙ e) (level_of tariff a) a there b refl

  -- a word outside the rider's own is not one of the two in any area
  off : (b : List ℕ) (a : ℕ) → a < counts.areas → (j : ℕ) → (j < 3 + 64 * r) ⊎ (67 + 64 * r ≤ j) → word (add_here b r class a c) j ≡ word b j
  off b a there j out =
      let few = t.few_areas in
      here_other b r class a c j (λ e. ⊎_elim (λ h. omega arith) (λ h. omega arith) out)
      (λ e. ⊎_elim (λ h. omega arith) (λ h. omega arith) out)

  -- Every word outside the rider's own stays.
  pub up_other :
      (b : List ℕ) (a : ℕ) → a < counts.areas → (j : ℕ) → (j < 3 + 64 * r) ⊎ (67 + 64 * r ≤ j)
      → word (add_up tariff counts b r class a c) j ≡ word b j
  unfolding add_up
  up_other b a there j out =
      fold_keeps (parent_of tariff) counts.areas (parent_there t) adding (λ (l : List ℕ). word l j ≡ word b j)
      (λ x h l e. off l x h j out ∙ e) (level_of tariff a) a there b refl

  -- The rider's sums grow by the charge in each area that the ride's area lies within, and in no other.
  pub up_sum :
      (which : Bool) (a : ℕ) → a < counts.areas → (b : List ℕ) → length b ≡ book_size
      → ((x : ℕ) → within (tree_of tariff counts false) a x ≡ true → Fits b r c x) → (x : ℕ) → x < 32
      → sum_of which (add_up tariff counts b r class a c) r x
      ≡ sum_of which b r x + cond (counted which class && within (tree_of tariff counts false) a x) c 0
  unfolding add_up
  up_sum which =
      upwards tree
      (λ a.
      (b : List ℕ) → length b ≡ book_size → ((x : ℕ) → within (tree_of tariff counts false) a x ≡ true → Fits b r c x) → (x : ℕ) → x < 32
      → sum_of which (add_up tariff counts b r class a c) r x
      ≡ sum_of which b r x + cond (counted which class && within (tree_of tariff counts false) a x) c 0)
      (λ a h top b size fits x hx.
      ap (λ (l : List ℕ). sum_of which l r x) (climb_top tree adding a top b)
      ∙ rw (within_top tree a x top) (one a h b size (fits a (within_self tree a h)) which x hx))
      λ a h low above b size fits x hx.
      let up = parent_of tariff a in
      let own = fits a (within_self tree a h) in
      let fits' : (y : ℕ) → within (tree_of tariff counts false) up y ≡ true → Fits (adding a b) r c y =
      λ y w which'.
      let there = within_there tree up (parent_there t a h) y w in
      let other : a ≡ y → ⊥ = λ e. not_within_child tree a h low (subst (λ (z : ℕ). within (tree_of tariff counts false) up z ≡ true) (sym e) w) in
      rw (one a h b size own which' y (omega (arith, t.few_areas)), ne_eqb a y other, and-false, add-zero)
      (fits y (within_parent tree a y h low w) which')
      in
      ap (λ (l : List ℕ). sum_of which l r x) (climb_up tree adding a h low b)
      ∙ above (adding a b) (here_size b r class a c ∙ size) fits' x hx
      ∙ ap (◌+ cond (counted which class && within (tree_of tariff counts false) up x) c 0) (one a h b size own which x hx)
      ∙ one_hit (counted which class) (eqb a x) (within (tree_of tariff counts false) up x) (sum_of which b r x) c
      (λ is.
      not_so (within (tree_of tariff counts false) up x)
      (λ w. not_within_child tree a h low (subst (λ (z : ℕ). within (tree_of tariff counts false) up z ≡ true) (sym (eqb-true a x is)) w)))
      ∙ rw (within_above tree a x h low)
    where
      one :
          (a : ℕ) → a < counts.areas → (b : List ℕ) → length b ≡ book_size → Fits b r c a → (which : Bool) (x : ℕ) → x < 32
          → sum_of which (add_here b r class a c) r x ≡ sum_of which b r x + cond (counted which class && eqb a x) c 0
      one a h b size fits which x hx = here_sum which b r class a c size hr (omega (arith, t.few_areas)) fits x hx

-- ---- Several riders.

-- a sum of another rider is a word outside the riders' own
pub sum_by_words :
    (which : Bool) (b b' : List ℕ) (rider x : ℕ) → ((j : ℕ) → 3 + 64 * rider ≤ j → j < 67 + 64 * rider → word b j ≡ word b' j) → x < 32
    → sum_of which b rider x ≡ sum_of which b' rider x
sum_by_words true b b' rider x same hx = same (pair_place rider x) (omega arith) (omega arith)
sum_by_words false b b' rider x same hx = same (pair_place rider x + 1) (omega arith) (omega arith)

module _ {tariff : List ℕ} {counts : Counts} (t : FaultlessTariff tariff counts) (class area : ℕ) (there : area < counts.areas)
    (first : ℕ) (charges : List ℕ) (from : ℕ) where
  pub list_size : (n : ℕ) (b : List ℕ) → first + n ≤ 21 → length (add_list tariff counts class area first n charges from b) ≡ length b
  unfolding add_list
  list_size zero b few = refl
  list_size (suc n) b few = up_size t (first + n) _ _ (omega arith) _ _ there ∙ list_size n b (omega arith)

  -- Every word outside the riders' own stays.
  pub list_other :
      (n : ℕ) (b : List ℕ) → first + n ≤ 21 → (j : ℕ) → (j < 3 + 64 * first) ⊎ (3 + 64 * (first + n) ≤ j)
      → word (add_list tariff counts class area first n charges from b) j ≡ word b j
  unfolding add_list
  list_other zero b few j out = refl
  list_other (suc n) b few j out =
      up_other t (first + n) _ _ (omega arith) _ _ there j (⊎_elim (λ h. inl (omega arith)) (λ h. inr (omega arith)) out)
      ∙ list_other n b (omega arith) j (⊎_elim inl (λ h. inr (omega arith)) out)

  -- Sums of other riders stay.
  pub list_riders :
      (which : Bool) (n : ℕ) (b : List ℕ) → first + n ≤ 21 → (rider x : ℕ) → (rider < first) ⊎ (first + n ≤ rider) → x < 32
      → sum_of which (add_list tariff counts class area first n charges from b) rider x ≡ sum_of which b rider x
  list_riders which n b few rider x out hx =
      sum_by_words which _ _ rider x
      (λ j low high. list_other n b few j (⊎_elim (λ h. inl (omega arith)) (λ h. inr (omega arith)) out)) hx

  -- Each of the riders' sums grows by that rider's charge in each area that the ride's area lies within, and in no other.
  pub list_sum :
      (which : Bool) (n : ℕ) (b : List ℕ) → length b ≡ book_size → first + n ≤ 21
      → ((i : ℕ) → i < n → (x : ℕ) → x < 32 → Fits b (first + i) (get_or charges (from + i) 0) x) → (i : ℕ) → i < n → (x : ℕ) → x < 32
      → sum_of which (add_list tariff counts class area first n charges from b) (first + i) x
      ≡ sum_of which b (first + i) x + cond (counted which class && within (tree_of tariff counts false) area x) (get_or charges (from + i) 0) 0
  unfolding add_list
  list_sum which zero b size few fits i h x hx = absurd (omega arith)
  list_sum which (suc n) b size few fits i h x hx =
      let some = t.few_areas in
      let before = add_list tariff counts class area first n charges from b in
      let c = get_or charges (from + n) 0 in
      let sized : length before ≡ book_size = list_size n b (omega arith) ∙ size in
      let fits' : (y : ℕ) → within (tree_of tariff counts false) area y ≡ true → Fits before (first + n) c y =
      λ y w which'.
      let small : y < 32 = omega (arith, within_there (is_tree t false) area there y w) in
      rw (list_riders which' n b (omega arith) (first + n) y (inr (omega arith)) small) (fits n (omega arith) y small which')
      in
      elim (ℕ_discrete i n) [
        | yes is ↦
            rw is
            (up_sum t (first + n) class c (omega arith) which area there before sized fits' x hx
            ∙ ap (◌+ cond (counted which class && within (tree_of tariff counts false) area x) c 0)
            (list_riders which n b (omega arith) (first + n) x (inr (omega arith)) hx))
        | no ne ↦
            sum_by_words which _ before (first + i) x
            (λ j low high. up_other t (first + n) class c (omega arith) before area there j (inl (omega arith))) hx
            ∙ list_sum which n b size (omega arith) (λ k hk. fits k (omega arith)) i (omega arith) x hx
      ]
