-- The refusals of adding, closing and settling: each is given exactly when its condition holds and none before it does.
-- Assumes nothing.
use Prim.Native.Nat.{ℕ}
use native.Mathlib.Omega.{arith}
use mathlib.Core.Path.{◌≡◌, refl, sym, ap, subst, ◌∙◌}
use mathlib.Core.Logic.{◌↔◌}
use mathlib.Core.List.{List}
use Rattle.editions.specs.declared.Editions.{Editions}
use Rattle.editions.specs.Reading.{ReadFile}
use Rattle.settle.specs.Outcome.{Outcome, refused, accepted, settled_under}
use Rattle.page.specs.declared.checks.Account.TheVariants.{WrongPage, Absent, Present}
use Rattle.page.specs.Pages.{book_at, account_of, unchanged, added, closed}
use Rattle.accounts.specs.Members.{on_page, member_settled}
use Rattle.page.specs.InWords.{
  InNone,
  InOne,
  Lowest,
  CanHave,
  Passing,
  Eighteen,
  AddingRefused,
  add_eighteen,
  add_nineteen,
  add_twenty,
  ClosingRefused,
  close_eighteen,
  close_nineteen,
}
use Rattle.accounts.specs.InWords.{SettlingRefused, settle_faulty, settle_eighteen, settle_nineteen, settle_table}
use Rattle.page.proofs.Lowest.{nowhere_lowest}
use Rattle.page.proofs.Conditions.{eighteen_exactly, not_both, not_eighteen, wrong_way, found_nowhere, found_there}
use Rattle.accounts.proofs.Effects.{
  not_changed,
  Adding,
  add_wrong_page,
  add_present,
  add_full,
  add_at,
  adding,
  adds_wrong_page,
  adds_present,
  adds_nowhere,
  Closing,
  close_wrong_page,
  close_absent,
  close_at,
  closing,
  closes_wrong_page,
  closes_absent,
  Settling,
  at_fault,
  settle_wrong_page,
  settle_absent,
  settle_at,
  settling,
  by_file,
  by_page,
  under_wrong_page,
  under_absent,
  under_present,
}

-- two refusals that are the same have the same number, and the same place
pub same_number : {m n : ℕ} → unchanged m ≡ unchanged n → m ≡ n
same_number e = cc

pub same_refusal : {m n a b : ℕ} → refused m a ≡ refused n b → (m ≡ n) × (a ≡ b)
same_refusal e = (cc, cc)

module _ (first count : ℕ) (page : List ℕ) (member : ℕ) where
  -- where the page passes and the number can be had, 18 does not hold
  passed : Passing first count page → CanHave member → Eighteen first count page member → ⊥
  passed p can why = not_both first count page member why p can

  wrong : Eighteen first count page member → account_of first count page member ≡ WrongPage
  wrong why = wrong_way first count page member ((eighteen_exactly first count page member).1 why)

  absent : (Eighteen first count page member → ⊥) → InNone page member first count → account_of first count page member ≡ Absent
  absent none nowhere =
      let (p, can) = not_eighteen first count page member none in
      found_nowhere first count page member p can nowhere

  there : (Eighteen first count page member → ⊥) → (one : InOne page member first count) → account_of first count page member ≡ Present one.place
  there none one =
      let (p, can) = not_eighteen first count page member none in
      found_there first count page member one.place p can one.from one.within one.there

  -- the place in which a member stands
  abbrev one_of : {number place : ℕ} → Lowest page number first count place → InOne page number first count
  one_of {number} {place} l = record { place = place; from = l.from; within = l.within; there = l.there }

  -- 18, 19, 20.
  pub adding_refused_exactly : (n : ℕ) → added first count page member ≡ unchanged n ↔ AddingRefused first count page member n
  adding_refused_exactly n = (λ e. says (adding first count page member) e, λ w. back w)
    where
      says : Adding first count page member → added first count page member ≡ unchanged n → AddingRefused first count page member n
      says (add_wrong_page why is) e = subst (AddingRefused first count page member) (same_number (sym is ∙ e)) (add_eighteen why)
      says (add_present place p can l is) e =
          subst (AddingRefused first count page member) (same_number (sym is ∙ e)) (add_nineteen (passed p can) (one_of l))
      says (add_full p can none full is) e =
          subst (AddingRefused first count page member) (same_number (sym is ∙ e)) (add_twenty (passed p can) none full)
      says (add_at place p can none l is) e = not_changed (sym e ∙ is)

      back : {m : ℕ} → AddingRefused first count page member m → added first count page member ≡ unchanged m
      back (add_eighteen why) = adds_wrong_page first count page member (wrong why)
      back (add_nineteen none one) = adds_present first count page member (there none one)
      back (add_twenty none nowhere full) =
          adds_nowhere first count page member (absent none nowhere) (nowhere_lowest page 0 first count full)

  -- 18, 19.
  pub closing_refused_exactly : (n : ℕ) → closed first count page member ≡ unchanged n ↔ ClosingRefused first count page member n
  closing_refused_exactly n = (λ e. says (closing first count page member) e, λ w. back w)
    where
      says : Closing first count page member → closed first count page member ≡ unchanged n → ClosingRefused first count page member n
      says (close_wrong_page why is) e = subst (ClosingRefused first count page member) (same_number (sym is ∙ e)) (close_eighteen why)
      says (close_absent p can none is) e =
          subst (ClosingRefused first count page member) (same_number (sym is ∙ e)) (close_nineteen (passed p can) none)
      says (close_at place p can l is) e = not_changed (sym e ∙ is)

      back : {m : ℕ} → ClosingRefused first count page member m → closed first count page member ≡ unchanged m
      back (close_eighteen why) = closes_wrong_page first count page member (wrong why)
      back (close_nineteen none nowhere) = closes_absent first count page member (absent none nowhere)

  -- 1 to 3, 18, 19, then 4 to 12.
  module _ (file trip : List ℕ) (room : ℕ) where
    abbrev Says : ℕ → ℕ → Type 0
    Says = SettlingRefused file first count page member trip room

    pub settling_refused_exactly : (n at : ℕ) → member_settled file first count page member trip room ≡ refused n at ↔ Says n at
    settling_refused_exactly n at = (λ e. says (settling first count page member file trip room) e, λ w. back w)
      where
        renamed : {m b : ℕ} → refused m b ≡ refused n at → Says m b → Says n at
        renamed {m} {b} e s = let (same, near) = same_refusal e in rw (← same, ← near) s

        on-book :
            (editions : Editions) (place : ℕ) → ReadFile file editions → Passing first count page → CanHave member → Lowest page member first count place
            → (o : Outcome) → settled_under file editions (book_at page place) trip room ≡ o → on_page page place o ≡ refused n at → Says n at
        on-book editions place read p can l (refused m b) is e = renamed e (settle_table editions read (passed p can) (one_of l) m b is)
        on-book editions place read p can l (accepted new parts) is e = absurd (let z : ◌≡◌ {A = ℕ} 0 1 = cc in omega arith)

        says : Settling first count page member file trip room → member_settled file first count page member trip room ≡ refused n at → Says n at
        says (at_fault m b is s) e = renamed (sym s ∙ e) (settle_faulty m b is)
        says (settle_wrong_page editions read why s) e = renamed (sym s ∙ e) (settle_eighteen editions read why)
        says (settle_absent editions read p can none s) e = renamed (sym s ∙ e) (settle_nineteen editions read (passed p can) none)
        says (settle_at editions place read p can l s) e =
            on-book editions place read p can l (settled_under file editions (book_at page place) trip room) refl (sym s ∙ e)

        back : {m b : ℕ} → Says m b → member_settled file first count page member trip room ≡ refused m b
        back (settle_faulty m b is) = by_file first count page member file trip room m b is
        back (settle_eighteen editions read why) =
            by_page first count page member file trip room editions read
            ∙ under_wrong_page first count page member file trip room editions (wrong why)
        back (settle_nineteen editions read none nowhere) =
            by_page first count page member file trip room editions read
            ∙ under_absent first count page member file trip room editions (absent none nowhere)
        back (settle_table editions read none one m b is) =
            by_page first count page member file trip room editions read
            ∙ under_present first count page member file trip room editions one.place (there none one)
            ∙ ap (on_page page one.place) is
