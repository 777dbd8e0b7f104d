-- What a payer is charged in a statement is so by its records alone, whatever stands behind them.
-- Assumes nothing.
use Prim.Native.Nat.{ℕ, zero, suc, ◌+◌, ◌-◌, ◌*◌, ◌^◌, ◌≤◌}
use native.Mathlib.Nat.{zero-add, suc-mul}
use native.Mathlib.Omega.{arith}
use mathlib.Core.Path.{◌≡◌, refl, sym, ap, ◌∙◌}
use mathlib.Core.Bool.{Bool, true, false, cond}
use mathlib.Core.List.{List, [], ◌∷◌, append-nil}
use borrow.Author.Tests.{ltb-true}
use lib.ListN.{length, get_or, length-append}
use lib.Dec.{ltb}
use Rattle.ledger.specs.Words.{first_child}
use Rattle.statement.specs.Record.{Part, most_parts, persons_of, record_of, statement_of, Recordable}
use Rattle.statement.specs.Clauses.{StandsAt, StandFrom, Recordables}
use Rattle.statement.specs.Clauses as statements
use Rattle.statement.proofs.Charges.{length_record}
use Rattle.statement.proofs.Records.{adults_is, children_is, bicycles_is, persons_is, charge_is, size_is, stand_from}
use Rattle.corrections.specs.Corrections.{first_bicycle, kth_in, paid_in, paid_from, paid_over}
use Rattle.corrections.proofs.Paid.{paid_go_on, paid_end}

-- the kth of some charges that stand together
abbrev kth_of : List ℕ → ℕ → ℕ → ℕ → ℕ
kth_of charges first count k = cond (ltb k count) (get_or charges (first + k) 0) 0

-- a payer's charge in a part
unfoldable paid_for : Part → ℕ → ℕ
paid_for part payer =
    let party = part.ride.party in
    cond (ltb payer first_child) (kth_of part.charges 0 (1 + party.adults) payer)
    (cond (ltb payer first_bicycle) (kth_of part.charges (1 + party.adults) party.children (payer - first_child))
    (kth_of part.charges (persons_of party) party.bicycles (payer - first_bicycle)))

unfoldable paid_for_all : List Part → ℕ → ℕ
paid_for_all [] payer = 0
paid_for_all (part ∷ more) payer = paid_for part payer + paid_for_all more payer

-- one of three
choose : (a b : Bool) {x x' y y' z z' : ℕ} → x ≡ x' → y ≡ y' → z ≡ z' → cond a x (cond b y z) ≡ cond a x' (cond b y' z')
choose true b e f g = e
choose false true e f g = f
choose false false e f g = g

module _ (part : Part) (statement : List ℕ) (place : ℕ) (stands : StandsAt part statement place) (ok : Recordable part) where
  kth_is :
      {first first' count count' : ℕ} (k : ℕ) → first ≡ first' → count ≡ count' → first' + count' ≤ length part.charges
      → kth_in statement place first count k ≡ kth_of part.charges first' count' k
  kth_is {first} {first'} {count} {count'} k one all inside =
      rw (one, all) (go (ltb k count') refl)
    where
      go : (t : Bool) → ltb k count' ≡ t → kth_in statement place first' count' k ≡ kth_of part.charges first' count' k
      go true is = rw is (charge_is part statement place stands ok (first' + k) (omega (arith, ltb-true k count' is, inside)))
      go false is = rw is

  paid_is : (payer : ℕ) → paid_in statement place payer ≡ paid_for part payer
  unfolding paid_in paid_for
  paid_is payer =
      let adults = adults_is part statement place stands ok in
      let children = children_is part statement place stands ok in
      let persons = persons_is part statement place stands ok in
      let all = ok.complete.charges in
      choose (ltb payer first_child) (ltb payer first_bicycle)
      (kth_is payer refl (ap (1 +◌) adults) (omega (arith, all)))
      (kth_is (payer - first_child) (ap (1 +◌) adults) children (omega (arith, all)))
      (kth_is (payer - first_bicycle) persons (bicycles_is part statement place stands ok) (omega (arith, all)))

module _ (statement : List ℕ) (payer : ℕ) where
  paid_all :
      (most : ℕ) (parts : List Part) {place end : ℕ} → length parts ≤ most → Recordables parts → StandFrom statement parts place
      → end ≡ place + length (statement_of parts) → paid_from most statement place end payer ≡ paid_for_all parts payer
  unfolding statement_of paid_for_all
  paid_all most [] few statements.none statements.over is = paid_end statement most payer (omega (arith, is))
  paid_all zero (part ∷ parts) few (statements.more ok all) (statements.then stands rest) is = absurd (omega (arith, few))
  paid_all (suc most) (part ∷ parts) {place} {end} few (statements.more ok all) (statements.then stands rest) is =
      let size = size_is stands ok in
      let some = length_record part ok.complete in
      let long = length-append (record_of part) (statement_of parts) in
      let ends : end ≡ place + length (record_of part) + length (statement_of parts) = omega (arith, is, long) in
      paid_go_on statement most payer (omega (arith, is, long, some))
      ∙ rw (size, paid_is part statement place stands ok payer, paid_all most parts (omega arith) all rest ends)

-- So it is with any further bytes as without.
pub paid_alone :
    (parts : List Part) (statement : List ℕ) (payer : ℕ) → length parts ≤ most_parts → Recordables parts → StandFrom statement parts 0
    → paid_over statement (length (statement_of parts)) payer ≡ paid_over (statement_of parts) (length (statement_of parts)) payer
paid_alone parts statement payer few ok stand =
    paid_all statement payer most_parts parts few ok stand (sym (zero-add (length (statement_of parts))))
    ∙ sym
    (paid_all (statement_of parts) payer most_parts parts few ok (stand_from parts (statement_of parts) [] 0 (sym (append-nil (statement_of parts))))
    (sym (zero-add (length (statement_of parts)))))

-- ---- No payer is charged more by some parts than each part's charge can be.

two_ways : (a : Bool) {x y most : ℕ} → x ≤ most → y ≤ most → cond a x y ≤ most
two_ways true one other = one
two_ways false one other = other

paid_for_most : {part : Part} (payer : ℕ) → Recordable part → paid_for part payer ≤ 2 ^ 32
unfolding paid_for
paid_for_most {part} payer ok =
    let party = part.ride.party in
    two_ways (ltb payer first_child) (kth_most 0 (1 + party.adults) payer)
    (two_ways (ltb payer first_bicycle) (kth_most (1 + party.adults) party.children (payer - first_child))
    (kth_most (persons_of party) party.bicycles (payer - first_bicycle)))
  where
    kth_most : (first count k : ℕ) → kth_of part.charges first count k ≤ 2 ^ 32
    kth_most first count k = two_ways (ltb k count) (omega (arith, ok.charges (first + k))) (omega arith)

paid_for_all_most : {parts : List Part} (most payer : ℕ) → length parts ≤ most → Recordables parts → paid_for_all parts payer ≤ most * 2 ^ 32
unfolding paid_for_all
paid_for_all_most most payer few statements.none = omega arith
paid_for_all_most zero payer few (statements.more ok all) = absurd (omega (arith, few))
paid_for_all_most (suc most) payer few (statements.more ok all) =
    omega (arith, paid_for_most payer ok, paid_for_all_most most payer (omega arith) all, suc-mul most (2 ^ 32))

pub paid_most :
    (parts : List Part) (payer : ℕ) → length parts ≤ most_parts → Recordables parts
    → paid_over (statement_of parts) (length (statement_of parts)) payer ≤ most_parts * 2 ^ 32
paid_most parts payer few ok =
    omega (
      arith,
      paid_all (statement_of parts) payer most_parts parts few ok (stand_from parts (statement_of parts) [] 0 (sym (append-nil (statement_of parts))))
          (sym (zero-add (length (statement_of parts)))),
      paid_for_all_most most_parts payer few ok,
    )
