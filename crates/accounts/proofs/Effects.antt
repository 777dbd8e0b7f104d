-- What adding, closing and settling come to, in the rules' words, each exactly then; and that a refusal leaves the page.
-- Assumes nothing.
use Prim.Native.Nat.{ℕ, ◌+◌, ◌≤◌, ◌<◌}
use native.Mathlib.Omega.{arith}
use mathlib.Core.Path.{◌≡◌, refl, sym, ◌∙◌}
use mathlib.Core.Logic.{◌↔◌}
use mathlib.Core.List.{List}
use lib.ListN.{length, length-replicate}
use Rattle.wire.proofs.Number.{length_put}
use Rattle.editions.specs.declared.Editions.{Editions}
use Rattle.editions.specs.declared.FileReading.{FileReading}
use Rattle.editions.specs.declared.FileReading.TheVariants.{Fault, Faultless}
use Rattle.editions.specs.Reading.{read_file, ReadFile}
use Rattle.editions.specs.Editions.{tariff_in, counts_in}
use Rattle.ledger.specs.Words.{book_size}
use Rattle.ledger.proofs.SoundLaws.{sound_has}
use Rattle.statement.specs.Record.{Part}
use Rattle.deciding.specs.declared.decide.Decision.{Decision}
use Rattle.deciding.specs.declared.decide.Decision.TheVariants as decision
use Rattle.deciding.specs.Deciding.{decided_under}
use Rattle.settle.specs.Outcome.{Outcome, refused, accepted, trip_posted, accepted_trip, settled_under, book_after, statement_after}
use Rattle.deciding.proofs.Decisions.{clear_found, no_row, all_clear}
use Rattle.settle.proofs.Ways.{refused_under, accepted-under}
use Rattle.settle.proofs.Clear.{parts_right}
use Rattle.page.specs.declared.Spot.TheVariants.{Nowhere, At}
use Rattle.page.specs.declared.checks.Account.TheVariants.{WrongPage, Absent, Present}
use Rattle.page.specs.Pages.{
  number_size,
  place_size,
  places,
  start_of,
  number_at,
  book_at,
  replaced,
  cleared_place,
  new_place,
  lowest_with,
  account_of,
  wrong_page,
  wrong_member,
  no_place,
  Change,
  unchanged,
  changed,
  added,
  closed,
  page_after,
}
use Rattle.accounts.specs.Members.{on_page, member_settled_under, member_settled}
use Rattle.page.specs.InWords.{InNone, Lowest, CanHave, Passing, Eighteen, Touched}
use Rattle.page.proofs.Lowest.{at_lowest, nowhere_lowest, Searched, in-none, in_one, searched}
use Rattle.page.proofs.Conditions.{Known, refused_page, nowhere, present, known, not_both}
use Rattle.page.proofs.Touching.{book_touched, number_kept}

-- An accepted trip's new book is as long as every book.
pub accepted_size :
    (file : List ℕ) (editions : Editions) → ReadFile file editions → (book trip : List ℕ) (room : ℕ) {new : List ℕ} {parts : List Part}
    → settled_under file editions book trip room ≡ accepted new parts → length new ≡ book_size
unfolding accepted_trip
accepted_size file editions read book trip room {new} {parts} e = go (decided_under file editions book trip room) refl
  where
    go : (d : Decision) → decided_under file editions book trip room ≡ d → length new ≡ book_size
    go (decision.Refused why) is =
        absurd (let z : ◌≡◌ {A = ℕ} 0 1 = cc (refused_under file editions book trip room is, e) in omega arith)
    go (decision.Clear fields window breaking) is =
        let tariff = tariff_in file editions window.edition in
        let counts = counts_in editions window.edition in
        let same = sym (accepted-under file editions book trip room fields window is) ∙ e in
        let these : trip_posted tariff counts book trip fields window ≡ new = cc in
        let sound_book = (no_row file editions book trip room (clear_found file editions book trip room is).0).sound_book in
        let clear = all_clear file editions book trip fields window breaking room (record { read = read; sound_book = sound_book }) is in
        let again = (parts_right tariff counts book trip fields window room clear).1 in
        rw (← these) (sound_has (trip_posted tariff counts book trip fields window) counts.areas again).size

-- a cleared place and a new one have a place's length
pub cleared_long : length cleared_place ≡ place_size
cleared_long = length-replicate {A = ℕ} place_size 0

pub new_long : (member : ℕ) → length (new_place member) ≡ place_size
new_long member = length_put 4 cleared_place 0 member ∙ cleared_long

module _ (first count : ℕ) (page : List ℕ) (member : ℕ) where
  -- ---- Adding.

  pub data Adding : Type 0 where
    add_wrong_page : Eighteen first count page member → added first count page member ≡ unchanged wrong_page → Adding
    add_present :
        (place : ℕ) → Passing first count page → CanHave member → Lowest page member first count place
        → added first count page member ≡ unchanged wrong_member → Adding
    add_full :
        Passing first count page → CanHave member → InNone page member first count → InNone page 0 first count
        → added first count page member ≡ unchanged no_place → Adding
    add_at :
        (place : ℕ) → Passing first count page → CanHave member → InNone page member first count → Lowest page 0 first count place
        → added first count page member ≡ changed (replaced page (start_of place) place_size (new_place member)) → Adding

  -- by what was found
  pub adds_wrong_page : account_of first count page member ≡ WrongPage → added first count page member ≡ unchanged wrong_page
  unfolding added
  adds_wrong_page e = rw (e, added)

  pub adds_present : {place : ℕ} → account_of first count page member ≡ Present place → added first count page member ≡ unchanged wrong_member
  unfolding added
  adds_present e = rw (e, added)

  pub adds_nowhere :
      account_of first count page member ≡ Absent → lowest_with page first count 0 ≡ Nowhere → added first count page member ≡ unchanged no_place
  unfolding added
  adds_nowhere e full = rw (e, full, added)

  pub adds_there :
      (place : ℕ) → account_of first count page member ≡ Absent → lowest_with page first count 0 ≡ At place
      → added first count page member ≡ changed (replaced page (start_of place) place_size (new_place member))
  unfolding added
  adds_there place e free = rw (e, free, added)

  added_known : Known first count page member → Searched page 0 first count → Adding
  added_known (refused_page why e) s = add_wrong_page why (adds_wrong_page e)
  added_known (present place p can l e) s = add_present place p can l (adds_present e)
  added_known (nowhere p can none e) (in-none full) =
      add_full p can none full (adds_nowhere e (nowhere_lowest page 0 first count full))
  added_known (nowhere p can none e) (in_one place l) = add_at place p can none l (adds_there place e (at_lowest page 0 first count place l))

  pub adding : Adding
  adding = added_known (known first count page member) (searched page 0 first count)

  -- ---- Closing.

  pub data Closing : Type 0 where
    close_wrong_page : Eighteen first count page member → closed first count page member ≡ unchanged wrong_page → Closing
    close_absent :
        Passing first count page → CanHave member → InNone page member first count
        → closed first count page member ≡ unchanged wrong_member → Closing
    close_at :
        (place : ℕ) → Passing first count page → CanHave member → Lowest page member first count place
        → closed first count page member ≡ changed (replaced page (start_of place) place_size cleared_place) → Closing

  pub closes_wrong_page : account_of first count page member ≡ WrongPage → closed first count page member ≡ unchanged wrong_page
  unfolding closed
  closes_wrong_page e = rw (e, closed)

  pub closes_absent : account_of first count page member ≡ Absent → closed first count page member ≡ unchanged wrong_member
  unfolding closed
  closes_absent e = rw (e, closed)

  pub closes_there :
      (place : ℕ) → account_of first count page member ≡ Present place
      → closed first count page member ≡ changed (replaced page (start_of place) place_size cleared_place)
  unfolding closed
  closes_there place e = rw (e, closed)

  closed_known : Known first count page member → Closing
  closed_known (refused_page why e) = close_wrong_page why (closes_wrong_page e)
  closed_known (nowhere p can none e) = close_absent p can none (closes_absent e)
  closed_known (present place p can l e) = close_at place p can l (closes_there place e)

  pub closing : Closing
  closing = closed_known (known first count page member)

  -- ---- Settling.

  module _ (file : List ℕ) (trip : List ℕ) (room : ℕ) where
    pub data Settling : Type 0 where
      at_fault :
          (number at : ℕ) → read_file file ≡ Fault number at → member_settled file first count page member trip room ≡ refused number at
          → Settling
      settle_wrong_page :
          (editions : Editions) → ReadFile file editions → Eighteen first count page member
          → member_settled file first count page member trip room ≡ refused wrong_page 0 → Settling
      settle_absent :
          (editions : Editions) → ReadFile file editions → Passing first count page → CanHave member → InNone page member first count
          → member_settled file first count page member trip room ≡ refused wrong_member 0 → Settling
      settle_at :
          (editions : Editions) (place : ℕ) → ReadFile file editions → Passing first count page → CanHave member → Lowest page member first count place
          → member_settled file first count page member trip room
          ≡ on_page page place (settled_under file editions (book_at page place) trip room)
          → Settling

    -- under a file that was read
    pub by_file : (number at : ℕ) → read_file file ≡ Fault number at → member_settled file first count page member trip room ≡ refused number at
    unfolding member_settled
    by_file number at e = rw (e, member_settled)

    pub by_page :
        (editions : Editions) → ReadFile file editions
        → member_settled file first count page member trip room ≡ member_settled_under file editions first count page member trip room
    unfolding member_settled
    by_page editions e = rw (e, member_settled)

    module _ (editions : Editions) where
      pub under_wrong_page :
          account_of first count page member ≡ WrongPage
          → member_settled_under file editions first count page member trip room ≡ refused wrong_page 0
      unfolding member_settled_under
      under_wrong_page e = rw (e, member_settled_under)

      pub under_absent :
          account_of first count page member ≡ Absent
          → member_settled_under file editions first count page member trip room ≡ refused wrong_member 0
      unfolding member_settled_under
      under_absent e = rw (e, member_settled_under)

      pub under_present :
          (place : ℕ) → account_of first count page member ≡ Present place
          → member_settled_under file editions first count page member trip room
          ≡ on_page page place (settled_under file editions (book_at page place) trip room)
      unfolding member_settled_under
      under_present place e = rw (e, member_settled_under)

    settled_known : (r : FileReading) → read_file file ≡ r → Known first count page member → Settling
    settled_known (Fault number at) is k = at_fault number at is (by_file number at is)
    settled_known (Faultless editions) is (refused_page why e) = settle_wrong_page editions is why (by_page editions is ∙ under_wrong_page editions e)
    settled_known (Faultless editions) is (nowhere p can none e) = settle_absent editions is p can none (by_page editions is ∙ under_absent editions e)
    settled_known (Faultless editions) is (present place p can l e) =
        settle_at editions place is p can l (by_page editions is ∙ under_present editions place e)

    pub settling : Settling
    settling = settled_known (read_file file) refl (known first count page member)

-- ---- What they promise.

-- A refusal changes no byte of the page, and none of the statement.
pub refusal_leaves : {change : Change} {number : ℕ} → change ≡ unchanged number → (page : List ℕ) → page_after change page ≡ page
refusal_leaves e page = rw e

pub refused_leaves :
    {outcome : Outcome} {number at : ℕ} → outcome ≡ refused number at → (page statement : List ℕ)
    → (book_after outcome page ≡ page) × (statement_after outcome statement ≡ statement)
refused_leaves e page statement = (rw e, rw e)

-- two changes, or two outcomes, that cannot be the same
other_number : {A : Type 0} {m n : ℕ} → (m ≡ n → ⊥) → unchanged m ≡ unchanged n → A
other_number ne e = absurd (ne (cc e))

pub not_changed : {A : Type 0} {n : ℕ} {new : List ℕ} → unchanged n ≡ changed new → A
not_changed e = absurd (let z : ◌≡◌ {A = ℕ} 0 1 = cc in omega arith)

not_accepted : {A : Type 0} {n at : ℕ} {new : List ℕ} {parts : List Part} → refused n at ≡ accepted new parts → A
not_accepted e = absurd (let z : ◌≡◌ {A = ℕ} 0 1 = cc in omega arith)

module _ (first count : ℕ) (page : List ℕ) (member : ℕ) where
  -- what is asked of the page and the member before room is looked for: neither 18 nor 19
  pub record Addable : Type 0 where
    pub passing : Passing first count page
    pub can : CanHave member
    pub absent : InNone page member first count

  -- Adding lacks room exactly when all places are taken.
  pub no_room_exactly : added first count page member ≡ unchanged no_place ↔ (Addable × InNone page 0 first count)
  no_room_exactly = (λ e. there (adding first count page member) e, λ w. back (adding first count page member) w.0 w.1)
    where
      there : Adding first count page member → added first count page member ≡ unchanged no_place → Addable × InNone page 0 first count
      there (add_wrong_page why is) e = other_number (λ z. omega arith) (sym is ∙ e)
      there (add_present place p can l is) e = other_number (λ z. omega arith) (sym is ∙ e)
      there (add_full p can none full is) e = (record { passing = p; can = can; absent = none }, full)
      there (add_at place p can none l is) e = not_changed (sym e ∙ is)

      back : Adding first count page member → Addable → InNone page 0 first count → added first count page member ≡ unchanged no_place
      back (add_wrong_page why is) a full = absurd (not_both first count page member why a.passing a.can)
      back (add_present place p can l is) a full = absurd (a.absent place l.from l.within l.there)
      back (add_full p can none none_free is) a full = is
      back (add_at place p can none l is) a full = absurd (full place l.from l.within l.there)

  -- Else it takes the lowest free place.
  pub takes_the_lowest :
      {new : List ℕ} → added first count page member ≡ changed new
      → (place : ℕ) × (Addable × (Lowest page 0 first count place × (new ≡ replaced page (start_of place) place_size (new_place member))))
  takes_the_lowest {new} e = there (adding first count page member)
    where
      there :
          Adding first count page member
          → (place : ℕ) × (Addable × (Lowest page 0 first count place × (new ≡ replaced page (start_of place) place_size (new_place member))))
      there (add_wrong_page why is) = not_changed (sym is ∙ e)
      there (add_present place p can l is) = not_changed (sym is ∙ e)
      there (add_full p can none full is) = not_changed (sym is ∙ e)
      there (add_at place p can none l is) =
          (place, (record { passing = p; can = can; absent = none }, (l, cc (sym is ∙ e))))

  -- Settling a member changes no byte of another's place, and not the number of the member's own.
  pub settling_touches_one :
      (file trip : List ℕ) (room : ℕ) {new : List ℕ} {parts : List Part} → first + count ≤ places
      → member_settled file first count page member trip room ≡ accepted new parts
      → (place : ℕ) × (Lowest page member first count place × (Touched page new place × (number_at new place ≡ member)))
  settling_touches_one file trip room {new} {parts} few e = there (settling first count page member file trip room)
    where
      written :
          (editions : Editions) (place : ℕ) → ReadFile file editions → Passing first count page → Lowest page member first count place → (o : Outcome)
          → settled_under file editions (book_at page place) trip room ≡ o → on_page page place o ≡ accepted new parts
          → Touched page new place × (number_at new place ≡ member)
      written editions place read p l (refused number at) is same = not_accepted same
      written editions place read p l (accepted book its) is same =
          let long = accepted_size file editions read (book_at page place) trip room is in
          let inside : place < places = omega (arith, l.within, few) in
          let these : replaced page (start_of place + number_size) book_size book ≡ new = cc in
          rw (← these)
          (book_touched page place p.size inside book long, number_kept page place p.size inside book long ∙ l.there)

      there :
          Settling first count page member file trip room
          → (place : ℕ) × (Lowest page member first count place × (Touched page new place × (number_at new place ≡ member)))
      there (at_fault number at is s) = not_accepted (sym s ∙ e)
      there (settle_wrong_page editions read why s) = not_accepted (sym s ∙ e)
      there (settle_absent editions read p can none s) = not_accepted (sym s ∙ e)
      there (settle_at editions place read p can l s) =
          (place, (l, written editions place read p l (settled_under file editions (book_at page place) trip room) refl (sym s ∙ e)))
