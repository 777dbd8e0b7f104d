-- What the tests of 18 say: each fails by a place, and all hold together exactly where the page passes and the number can be had.
-- Assumes nothing.
use Prim.Native.Nat.{ℕ, zero, suc, ◌+◌, ◌-◌, ◌≤◌, ◌<◌}
use native.Mathlib.Omega.{arith}
use native.Mathlib.Decide.{ℕ_discrete, dec_le}
use mathlib.Core.Path.{◌≡◌, refl, sym, ◌∙◌}
use mathlib.Core.Logic.{◌↔◌}
use mathlib.Core.List.{List}
use mathlib.Core.Bool.{Bool, true, false, ◌&&◌, false≢true}
use borrow.Author.Tests.{eq-eqb, ne_eqb, le-leb, lt-leb, leb-true, leb-false}
use lib.ListN.{length}
use lib.Dec.{leb}
use Rattle.wire.specs.Each.{each}
use Rattle.wire.proofs.Each.{each_none, each_at, each_all, each_fails}
use Rattle.page.specs.declared.Spot.TheVariants.{Nowhere, At}
use Rattle.page.specs.declared.checks.Account.TheVariants.{WrongPage, Absent, Present}
use Rattle.page.specs.Pages.{places, page_size, most_number, number_at, lowest_with, numbers_right, only_here, numbers_once, page_right, account_of}
use Rattle.page.specs.InWords.{InNone, Lowest, CanHave, Passing, Eighteen, other_length, asked_outside, stored_outside, stored_twice}
use Rattle.page.specs.Clauses.{Looked, OnPage}
use Rattle.page.proofs.Lowest.{at_lowest, nowhere_lowest, Searched, in-none, in_one, searched, lowest_says}

-- ---- Tests at each place.

-- all hold, or one that does not is the reason
data Every (n : ℕ) (test : ℕ → Bool) : Type 0 where
  all_hold : each n test ≡ true → Every n test
  fails_at : (k : ℕ) → k < n → test k ≡ false → each n test ≡ false → Every n test

every : (n : ℕ) (test : ℕ → Bool) → Every n test
every zero test = all_hold (each_none test)
every (suc n) test = go (every n test) (test n) refl
  where
    go : Every n test → (t : Bool) → test n ≡ t → Every (suc n) test
    go (fails_at k h e f) t is = fails_at k (omega arith) e (each_fails (suc n) test k (omega arith) e)
    go (all_hold e) false is = fails_at n (omega arith) is (each_fails (suc n) test n (omega arith) is)
    go (all_hold e) true is =
        all_hold
        (each_all (suc n) test
        (λ k h. elim (ℕ_discrete k n) [ yes same ↦ rw same is | no other ↦ each_at n test e k (omega arith) ]))

-- a place is free, its number stands in no place behind it, or it does in one
data Here (page : List ℕ) (end place : ℕ) : Type 0 where
  free : number_at page place ≡ 0 → only_here page end place ≡ true → Here page end place
  alone :
      InNone page (number_at page place) (place + 1) (end - (place + 1)) → only_here page end place ≡ true → Here page end place
  again :
      (j : ℕ) → place < j → j < end → number_at page j ≡ number_at page place → 1 ≤ number_at page place
      → only_here page end place ≡ false → Here page end place

-- by what was read there and found behind it
module _ (page : List ℕ) (end place : ℕ) where
  pub only_free : number_at page place ≡ 0 → only_here page end place ≡ true
  unfolding only_here
  only_free e = rw (eq-eqb (number_at page place) 0 e)

  module _ (taken : number_at page place ≡ 0 → ⊥) where
    pub only_alone : lowest_with page (place + 1) (end - (place + 1)) (number_at page place) ≡ Nowhere → only_here page end place ≡ true
    unfolding only_here
    only_alone none = rw (ne_eqb (number_at page place) 0 taken, none)

    pub only_again : {j : ℕ} → lowest_with page (place + 1) (end - (place + 1)) (number_at page place) ≡ At j → only_here page end place ≡ false
    unfolding only_here
    only_again there = rw (ne_eqb (number_at page place) 0 taken, there)

here : (page : List ℕ) (end place : ℕ) → Here page end place
here page end place =
    elim (ℕ_discrete (number_at page place) 0) [
      | yes e ↦ free e (only_free page end place e)
      | no ne ↦ go ne (searched page (number_at page place) (place + 1) (end - (place + 1)))
    ]
  where
    go :
        (number_at page place ≡ 0 → ⊥) → Searched page (number_at page place) (place + 1) (end - (place + 1)) → Here page end place
    go ne (in-none none) =
        alone none (only_alone page end place ne (nowhere_lowest page (number_at page place) (place + 1) (end - (place + 1)) none))
    go ne (in_one j l) =
        again j (omega (arith, l.from)) (omega (arith, l.within, l.from)) l.there (omega (arith, ne))
        (only_again page end place ne (at_lowest page (number_at page place) (place + 1) (end - (place + 1)) j l))

-- ---- 18.

module _ (first count : ℕ) (page : List ℕ) (member : ℕ) where
  -- the page passes and the number can be had, and the test holds; or one of the conditions holds, and the test fails
  pub data Checked : Type 0 where
    passes : Passing first count page → CanHave member → page_right first count page member ≡ true → Checked
    fails : Eighteen first count page member → page_right first count page member ≡ false → Checked

  -- a page of the right length, and a number that can be had
  module _ (size : length page ≡ page_size) (can : CanHave member) where
    unfold_right : (r o : Bool) → numbers_right page first count ≡ r → numbers_once page first count ≡ o → page_right first count page member ≡ r && o
    unfolding page_right
    unfold_right r o right once =
        rw (eq-eqb (length page) page_size size, le-leb 1 member can.some, le-leb member most_number can.most, right, once)

    ranges_hold : numbers_right page first count ≡ true → (i : ℕ) → first ≤ i → i < first + count → number_at page i ≤ most_number
    unfolding numbers_right
    ranges_hold e i low high =
        let is : first + (i - first) ≡ i = omega arith in
        let h : number_at page (first + (i - first)) ≤ most_number =
        leb-true _ most_number (each_at count (λ k. leb (number_at page (first + k)) most_number) e (i - first) (omega arith))
        in
        rw is at h

    once-holds :
        numbers_once page first count ≡ true → (i j : ℕ) → first ≤ i → i < j → j < first + count → number_at page j ≡ number_at page i
        → number_at page i ≡ 0
    unfolding numbers_once
    once-holds e i j low less high same =
        let is : first + (i - first) ≡ i = omega arith in
        let h = each_at count (λ k. only_here page (first + count) (first + k)) e (i - first) (omega arith) in
        met (here page (first + count) i) (rw is at h)
      where
        met : Here page (first + count) i → only_here page (first + count) i ≡ true → number_at page i ≡ 0
        met (free z t) h = z
        met (alone none t) h = absurd (none j (omega arith) (omega arith) same)
        met (again k a b c d f) h = absurd (false≢true (sym f ∙ h))

    all_checked :
        Every count (λ k. leb (number_at page (first + k)) most_number) → Every count (λ k. only_here page (first + count) (first + k)) → Checked
    unfolding numbers_right numbers_once
    all_checked (all_hold right) (all_hold once) =
        passes (record { size = size; ranges = ranges_hold right; once = once-holds once }) can (unfold_right true true right once)
    all_checked (fails_at k h e right) o =
        fails (stored_outside (first + k) (omega arith) (omega arith) (leb-false _ _ e))
        (unfold_right false (numbers_once page first count) right refl)
    all_checked (all_hold right) (fails_at k h e once) = met (here page (first + count) (first + k))
      where
        met : Here page (first + count) (first + k) → Checked
        met (free z t) = absurd (false≢true (sym e ∙ t))
        met (alone none t) = absurd (false≢true (sym e ∙ t))
        met (again j a b c d f) = fails (stored_twice (first + k) j (omega arith) a b d c) (unfold_right true false right once)

  pub checked : Checked
  unfolding page_right
  checked =
      elim (ℕ_discrete (length page) page_size) [
        | no ne ↦ fails (other_length ne) (rw (ne_eqb (length page) page_size ne))
        | yes size ↦
            elim (dec_le 1 member) [
              | no none ↦
                  fails (asked_outside (λ can. none can.some))
                  (rw (eq-eqb (length page) page_size size, lt-leb 1 member (omega (arith, none))))
              | yes some ↦
                  elim (dec_le member most_number) [
                    | no more ↦
                        fails (asked_outside (λ can. more can.most))
                        (rw (eq-eqb (length page) page_size size, le-leb 1 member some, lt-leb member most_number (omega (arith, more))))
                    | yes most ↦
                        all_checked size (record { some = some; most = most })
                        (every count (λ k. leb (number_at page (first + k)) most_number))
                        (every count (λ k. only_here page (first + count) (first + k)))
                  ]
            ]
      ]

  -- a page cannot do both
  pub not_both : Eighteen first count page member → Passing first count page → CanHave member → ⊥
  not_both (other_length ne) p can = ne p.size
  not_both (asked_outside ne) p can = ne can
  not_both (stored_outside i low high more) p can = omega (arith, p.ranges i low high)
  not_both (stored_twice i j low less high some same) p can = omega (arith, p.once i j low less high same)

  -- 18 is answered exactly where one of its conditions holds.
  pub eighteen_exactly : page_right first count page member ≡ false ↔ Eighteen first count page member
  eighteen_exactly = (λ e. there checked e, λ why. not_passed checked why)
    where
      there : Checked → page_right first count page member ≡ false → Eighteen first count page member
      there (passes p can t) e = absurd (false≢true (sym e ∙ t))
      there (fails why f) e = why

      not_passed : Checked → Eighteen first count page member → page_right first count page member ≡ false
      not_passed (passes p can t) why = absurd (not_both why p can)
      not_passed (fails other f) why = f

  -- Where none of them does, the page passes and the number can be had.
  pub not_eighteen : (Eighteen first count page member → ⊥) → Passing first count page × CanHave member
  not_eighteen none = go checked
    where
      go : Checked → Passing first count page × CanHave member
      go (passes p can t) = (p, can)
      go (fails why f) = absurd (none why)

  -- Where the page passes and the number can be had, it holds.
  pub right_passes : Passing first count page → CanHave member → page_right first count page member ≡ true
  right_passes p can = go checked
    where
      go : Checked → page_right first count page member ≡ true
      go (passes _ _ t) = t
      go (fails why f) = absurd (not_both why p can)

  -- ---- The account.

  -- what looking for a member comes to, in words
  pub data Known : Type 0 where
    refused_page : Eighteen first count page member → account_of first count page member ≡ WrongPage → Known
    nowhere :
        Passing first count page → CanHave member → InNone page member first count → account_of first count page member ≡ Absent → Known
    present :
        (place : ℕ) → Passing first count page → CanHave member → Lowest page member first count place
        → account_of first count page member ≡ Present place → Known

  -- by the tests
  pub wrong_way : page_right first count page member ≡ false → account_of first count page member ≡ WrongPage
  unfolding account_of
  wrong_way f = rw f

  module _ (right : page_right first count page member ≡ true) where
    pub absent_way : lowest_with page first count member ≡ Nowhere → account_of first count page member ≡ Absent
    unfolding account_of
    absent_way none = rw (right, none)

    pub present_way : {place : ℕ} → lowest_with page first count member ≡ At place → account_of first count page member ≡ Present place
    unfolding account_of
    present_way there = rw (right, there)

    pub right_looked : first + count ≤ places → Looked page first count
    right_looked few = go checked
      where
        go : Checked → Looked page first count
        go (passes p can t) = record { size = p.size; there = few }
        go (fails why f) = absurd (false≢true (sym f ∙ right))

  known_searched : Checked → Searched page member first count → Known
  known_searched (fails why f) s = refused_page why (wrong_way f)
  known_searched (passes p can t) (in-none none) = nowhere p can none (absent_way t (nowhere_lowest page member first count none))
  known_searched (passes p can t) (in_one place l) = present place p can l (present_way t (at_lowest page member first count place l))

  pub known : Known
  known = known_searched checked (searched page member first count)

  -- On a page that passes, a member who stands in no place is not found,
  pub found_nowhere :
      Passing first count page → CanHave member → InNone page member first count → account_of first count page member ≡ Absent
  found_nowhere p can none = absent_way (right_passes p can) (nowhere_lowest page member first count none)

  -- and one who stands in a place is found there.
  pub found_there :
      (place : ℕ) → Passing first count page → CanHave member → first ≤ place → place < first + count → number_at page place ≡ member
      → account_of first count page member ≡ Present place
  found_there place p can low high is =
      present_way (right_passes p can)
      (at_lowest page member first count place
      (record {
        from = low;
        within = high;
        there = is;
        not_before = λ i from less same. omega (arith, can.some, is, same, p.once i place from less high (is ∙ sym same));
      }))

  -- A member who was found stands there.
  pub present_lowest : {place : ℕ} → account_of first count page member ≡ Present place → Lowest page member first count place
  present_lowest {place} e = go known
    where
      go : Known → Lowest page member first count place
      go (refused_page why is) = absurd (let z : ◌≡◌ {A = ℕ} 0 1 = cc in omega arith)
      go (nowhere p can none is) = absurd (let z : ◌≡◌ {A = ℕ} 0 1 = cc in omega arith)
      go (present q p can l is) =
          let same : q ≡ place = cc in
          rw (← same) l

  -- What reading a member's place, and looking for a free one, ask.
  module _ (few : first + count ≤ places) where
    pub present_there : {place : ℕ} → account_of first count page member ≡ Present place → OnPage page place
    present_there {place} e = go known
      where
        go : Known → OnPage page place
        go (refused_page why is) = absurd (let z : ◌≡◌ {A = ℕ} 0 1 = cc in omega arith)
        go (nowhere p can none is) = absurd (let z : ◌≡◌ {A = ℕ} 0 1 = cc in omega arith)
        go (present q p can l is) =
            let same : q ≡ place = cc in
            rw (← same) (record { size = p.size; there = omega (arith, l.within, few) })

    pub absent_looked : account_of first count page member ≡ Absent → Looked page first count
    absent_looked e = go known
      where
        go : Known → Looked page first count
        go (refused_page why is) = absurd (let z : ◌≡◌ {A = ℕ} 0 1 = cc in omega arith)
        go (nowhere p can none is) = record { size = p.size; there = few }
        go (present q p can l is) = absurd (let z : ◌≡◌ {A = ℕ} 0 1 = cc in omega arith)

-- A place found among some is one of the page's.
pub found_on_page :
    {page : List ℕ} {first count place : ℕ} (number : ℕ) → Looked page first count → lowest_with page first count number ≡ At place
    → OnPage page place
found_on_page {page} {first} {count} {place} number looked e =
    let l = lowest_says page number first count place e in
    record { size = looked.size; there = omega (arith, l.within, looked.there) }
