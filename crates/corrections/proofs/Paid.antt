-- What each payer is charged, added to the sums: one charge more at a time, then a record, then the records of a statement.
-- Assumes nothing.
use Prim.Native.Nat.{ℕ, zero, suc, ◌+◌, ◌-◌, ◌*◌, ◌^◌, ◌≤◌, ◌<◌}
use native.Mathlib.Omega.{arith}
use native.Mathlib.Nat.{le_refl}
use native.Mathlib.Decide.{ℕ_discrete, dec_lt}
use mathlib.Core.Path.{◌≡◌, refl, sym, ap, ◌∙◌}
use mathlib.Core.Logic.{◌⊎◌, inl, inr}
use mathlib.Core.Bool.{and-false}
use mathlib.Core.List.{List}
use borrow.Author.Tests.{lt-ltb, le-ltb, le-leb, lt-leb}
use lib.ListN.{length, get_or, set, length-set}
use lib.Seq.{get_or-set_same, get_or-set_other}
use Rattle.ledger.specs.Words.{first_child}
use Rattle.statement.specs.Record.{most_parts}
use Rattle.statement.specs.Reading.{adults_in, children_in, bicycles_in, size_in, persons_in, charge_in}
use Rattle.statement.specs.Clauses.{RecordAt, RecordsTo, no_more, one_more}
use Rattle.corrections.specs.Corrections.{first_bicycle, kth_in, paid_in, paid_from, paid_over}
use Rattle.corrections.specs.Clauses.{AtMost, Added, charges_to}

-- ---- What is added.

-- The sums grow by no more than the most that is added.
pub added_most : {of : ℕ → ℕ} {most before : ℕ} {sums sums' : List ℕ} → Added of most sums sums' → AtMost before sums → AtMost (before + most) sums'
added_most added most =
    record { size = added.size ∙ most.size; each = λ payer. omega (arith, added.is payer, added.range payer, most.each payer) }

-- What is at most so much is at most more.
pub at_most_more : {least most : ℕ} {sums : List ℕ} → least ≤ most → AtMost least sums → AtMost most sums
at_most_more more sums_most = record { size = sums_most.size; each = λ payer. omega (arith, more, sums_most.each payer) }

-- ---- Charges that stand together.

-- A payer among theirs has one of them, every other one none.
pub charges_within :
    (statement : List ℕ) (place charge count first payer : ℕ) → first ≤ payer → payer < first + count
    → charges_to statement place charge count first payer ≡ charge_in statement place (charge + (payer - first))
charges_within statement place charge count first payer from to = rw (le-leb first payer from, lt-ltb payer (first + count) to)

pub charges_out :
    (statement : List ℕ) (place charge count first payer : ℕ) → (payer < first) ⊎ (first + count ≤ payer)
    → charges_to statement place charge count first payer ≡ 0
charges_out statement place charge count first payer (inl below) = rw (lt-leb first payer below)
charges_out statement place charge count first payer (inr above) = rw (le-ltb payer (first + count) above, and-false)

-- Before the first charge nothing is added.
pub charges_none : (statement : List ℕ) (place charge first : ℕ) (sums : List ℕ) → Added (charges_to statement place charge 0 first) (2 ^ 32) sums sums
charges_none statement place charge first sums =
    record { size = refl; is = λ payer. omega (arith, nothing payer); range = λ payer. omega (arith, nothing payer) }
  where
    nothing : (payer : ℕ) → charges_to statement place charge 0 first payer ≡ 0
    nothing payer =
        elim (dec_lt payer first) [
          | yes below ↦ charges_out statement place charge 0 first payer (inl below)
          | no from ↦ charges_out statement place charge 0 first payer (inr (omega arith))
        ]

-- a charge more is no other payer's
charges_other :
    (statement : List ℕ) (place charge k first payer : ℕ) → (payer ≡ first + k → ⊥)
    → charges_to statement place charge (k + 1) first payer ≡ charges_to statement place charge k first payer
charges_other statement place charge k first payer other =
    elim (dec_lt payer first) [
      | yes below ↦ charges_out statement place charge (k + 1) first payer (inl below) ∙ sym (charges_out statement place charge k first payer (inl below))
      | no from ↦
          elim (dec_lt payer (first + k)) [
            | yes to ↦
                charges_within statement place charge (k + 1) first payer (omega arith) (omega arith)
                ∙ sym (charges_within statement place charge k first payer (omega arith) to)
            | no past ↦
                let above : first + (k + 1) ≤ payer = ⊎-above past in
                charges_out statement place charge (k + 1) first payer (inr above)
                ∙ sym (charges_out statement place charge k first payer (inr (omega arith)))
          ]
    ]
  where
    ⊎-above : (payer < first + k → ⊥) → first + (k + 1) ≤ payer
    ⊎-above past =
        elim (ℕ_discrete payer (first + k)) [
          | yes e ↦ absurd (other e)
          | no ne ↦ omega arith
        ]

-- One turn: the next charge is added to the next payer's sum.
pub charges_more :
    (statement : List ℕ) (place charge k first : ℕ) (sums₀ sums : List ℕ) (more : ℕ) → first + k < length sums
    → more ≡ charge_in statement place (charge + k) → more < 2 ^ 32 → Added (charges_to statement place charge k first) (2 ^ 32) sums₀ sums
    → Added (charges_to statement place charge (k + 1) first) (2 ^ 32) sums₀ (set sums (first + k) (get_or sums (first + k) 0 + more))
charges_more statement place charge k first sums₀ sums more there value small so_far =
    record { size = length-set sums (first + k) _ ∙ so_far.size; is = λ payer. (step payer).0; range = λ payer. (step payer).1 }
  where
    sums' : List ℕ
    sums' = set sums (first + k) (get_or sums (first + k) 0 + more)

    step :
        (payer : ℕ)
        → (get_or sums' payer 0 ≡ get_or sums₀ payer 0 + charges_to statement place charge (k + 1) first payer)
        × (charges_to statement place charge (k + 1) first payer ≤ 2 ^ 32)
    step payer =
        elim (ℕ_discrete payer (first + k)) [
          | yes e ↦
              let same : get_or sums' payer 0 ≡ get_or sums payer 0 + more = rw e (get_or-set_same sums (first + k) (get_or sums (first + k) 0 + more) 0 there) in
              let before = charges_out statement place charge k first payer (inr (omega arith)) in
              let now : charges_to statement place charge (k + 1) first payer ≡ more =
              charges_within statement place charge (k + 1) first payer (omega arith) (omega arith)
              ∙ ap (λ (i : ℕ). charge_in statement place (charge + i)) (omega (arith, e)) ∙ sym value
              in
              (omega (arith, same, before, now, so_far.is payer), omega (arith, now))
          | no ne ↦
              let other = charges_other statement place charge k first payer ne in (
                get_or-set_other sums (first + k) payer (get_or sums (first + k) 0 + more) 0 ne ∙ so_far.is payer
                    ∙ ap (get_or sums₀ payer 0 +◌) (sym other),
                omega (arith, other, so_far.range payer),
              )
        ]

-- ---- A record.

-- Charges that stand together, by their number.
charges_kth :
    (statement : List ℕ) (place charge count first payer : ℕ) → first ≤ payer
    → charges_to statement place charge count first payer ≡ kth_in statement place charge count (payer - first)
charges_kth statement place charge count first payer from =
    elim (dec_lt payer (first + count)) [
      | yes to ↦ charges_within statement place charge count first payer from to ∙ sym (rw (lt-ltb (payer - first) count (omega arith)))
      | no above ↦
          charges_out statement place charge count first payer (inr (omega arith)) ∙ sym (rw (le-ltb (payer - first) count (omega arith)))
    ]

-- Who pays which charge of a record.
module _ (statement : List ℕ) (place payer : ℕ) where
  pub kth_person : payer < first_child → paid_in statement place payer ≡ kth_in statement place 0 (1 + adults_in statement place) payer
  unfolding paid_in
  kth_person person = rw (lt-ltb payer first_child person)

  pub kth_child :
      first_child ≤ payer → payer < first_bicycle
      → paid_in statement place payer ≡ kth_in statement place (1 + adults_in statement place) (children_in statement place) (payer - first_child)
  unfolding paid_in
  kth_child from to = rw (le-ltb payer first_child from, lt-ltb payer first_bicycle to)

  pub kth_bicycle :
      first_bicycle ≤ payer
      → paid_in statement place payer ≡ kth_in statement place (persons_in statement place) (bicycles_in statement place) (payer - first_bicycle)
  unfolding paid_in
  kth_bicycle from =
      let above : first_child ≤ payer = omega arith in
      rw (le-ltb payer first_child above, le-ltb payer first_bicycle from)

-- Holder and adults, children, and bicycles have the record's charges, each payer one at most.
module _ (statement : List ℕ) (place : ℕ) (at : RecordAt statement place) where
  abbrev adults : ℕ
  adults = 1 + adults_in statement place

  abbrev first : ℕ → ℕ
  first = charges_to statement place 0 adults 0

  abbrev second : ℕ → ℕ
  second = charges_to statement place adults (children_in statement place) first_child

  abbrev third : ℕ → ℕ
  third = charges_to statement place (adults + children_in statement place) (bicycles_in statement place) first_bicycle

  -- what a person, a child or a bicycle pays is among theirs
  paid_person : (payer : ℕ) → payer < first_child → paid_in statement place payer ≡ first payer
  paid_person payer person =
      let kth : kth_in statement place 0 adults payer ≡ kth_in statement place 0 adults (payer - 0) = ap (kth_in statement place 0 adults) (omega arith) in
      kth_person statement place payer person ∙ kth ∙ sym (charges_kth statement place 0 adults 0 payer (omega arith))

  paid_child : (payer : ℕ) → first_child ≤ payer → payer < first_bicycle → paid_in statement place payer ≡ second payer
  paid_child payer from to =
      kth_child statement place payer from to ∙ sym (charges_kth statement place adults (children_in statement place) first_child payer from)

  paid_bicycle : (payer : ℕ) → first_bicycle ≤ payer → paid_in statement place payer ≡ third payer
  paid_bicycle payer from =
      kth_bicycle statement place payer from
      ∙ sym (charges_kth statement place (persons_in statement place) (bicycles_in statement place) first_bicycle payer from)

  -- and of the other two there is nothing
  paid_three :
      (payer : ℕ)
      → (first payer + second payer + third payer ≡ paid_in statement place payer)
      × ((first payer ≤ 2 ^ 32) → (second payer ≤ 2 ^ 32) → (third payer ≤ 2 ^ 32) → paid_in statement place payer ≤ 2 ^ 32)
  paid_three payer =
      elim (dec_lt payer first_child) [
        | yes person ↦
            let here = paid_person payer person in
            let none₂ = charges_out statement place adults (children_in statement place) first_child payer (inl person) in
            let none₃ = charges_out statement place (adults + children_in statement place) (bicycles_in statement place) first_bicycle payer (inl (omega arith)) in
            (omega (arith, here, none₂, none₃), λ a b d. omega (arith, here, a))
        | no child ↦
            let none₁ = charges_out statement place 0 adults 0 payer (inr (omega (arith, at.adults))) in
            elim (dec_lt payer first_bicycle) [
              | yes below ↦
                  let here = paid_child payer (omega arith) below in
                  let none₃ = charges_out statement place (adults + children_in statement place) (bicycles_in statement place) first_bicycle payer (inl below) in
                  (omega (arith, here, none₁, none₃), λ a b d. omega (arith, here, b))
              | no bicycle ↦
                  let here = paid_bicycle payer (omega arith) in
                  let none₂ = charges_out statement place adults (children_in statement place) first_child payer (inr (omega (arith, at.children))) in
                  (omega (arith, here, none₁, none₂), λ a b d. omega (arith, here, d))
            ]
      ]

  pub record_added :
      {sums sums₁ sums₂ sums₃ : List ℕ} → Added first (2 ^ 32) sums sums₁ → Added second (2 ^ 32) sums₁ sums₂ → Added third (2 ^ 32) sums₂ sums₃
      → Added (paid_in statement place) (2 ^ 32) sums sums₃
  record_added one two three =
      record {
        size = three.size ∙ two.size ∙ one.size;
        is = λ payer. omega (arith, one.is payer, two.is payer, three.is payer, (paid_three payer).0);
        range = λ payer. (paid_three payer).1 (one.range payer) (two.range payer) (three.range payer);
      }

  -- by the counts that were read
  pub record_read :
      {read₁ read₂ read₃ : ℕ} {sums sums₁ sums₂ sums₃ : List ℕ} → read₁ ≡ adults_in statement place → read₂ ≡ children_in statement place
      → read₃ ≡ bicycles_in statement place → Added (charges_to statement place 0 (1 + read₁) 0) (2 ^ 32) sums sums₁
      → Added (charges_to statement place (1 + read₁) read₂ first_child) (2 ^ 32) sums₁ sums₂
      → Added (charges_to statement place (1 + read₁ + read₂) read₃ first_bicycle) (2 ^ 32) sums₂ sums₃
      → Added (paid_in statement place) (2 ^ 32) sums sums₃
  record_read is₁ is₂ is₃ one two three = record_added (rw is₁ at one) (rw (is₁, is₂) at two) (rw (is₁, is₂, is₃) at three)

-- ---- A statement.

-- Of records that go on, and where they end.
pub paid_go_on :
    (statement : List ℕ) (most : ℕ) {place end : ℕ} (payer : ℕ) → place < end
    → paid_from (suc most) statement place end payer
    ≡ paid_in statement place payer + paid_from most statement (place + size_in statement place) end payer
unfolding paid_from
paid_go_on statement most {place} {end} payer on = rw (lt-ltb place end on)

pub paid_end : (statement : List ℕ) (most : ℕ) {place end : ℕ} (payer : ℕ) → end ≤ place → paid_from most statement place end payer ≡ 0
unfolding paid_from
paid_end statement zero payer over = refl
paid_end statement (suc most) {place} {end} payer over = rw (le-ltb place end over)

-- the records before a place are added, and at most `left` records are left
pub record Passed (statement : List ℕ) (size place : ℕ) (sums₀ sums : List ℕ) : Type 0 where
  pub left : ℕ
  pub few : left ≤ most_parts
  pub records : RecordsTo statement size left place
  pub size_is : length sums ≡ length sums₀
  pub value : (payer : ℕ) → get_or sums payer 0 + paid_from left statement place size payer ≡ get_or sums₀ payer 0 + paid_over statement size payer
  pub range : (payer : ℕ) → paid_over statement size payer + left * 2 ^ 32 ≤ most_parts * 2 ^ 32 + paid_from left statement place size payer

-- Before the first record nothing is added.
pub passed_none : {statement : List ℕ} {size : ℕ} (sums : List ℕ) → RecordsTo statement size most_parts 0 → Passed statement size 0 sums sums
passed_none sums records =
    record { left = most_parts; few = le_refl most_parts; records = records; size_is = refl; value = λ payer. refl; range = λ payer. omega arith }

-- So far the sums have grown by no more than two records can charge.
pub passed_most :
    {statement : List ℕ} {size place before : ℕ} {sums₀ sums : List ℕ} → Passed statement size place sums₀ sums → AtMost before sums₀
    → AtMost (before + most_parts * 2 ^ 32) sums
passed_most so_far most =
    record { size = so_far.size_is ∙ most.size; each = λ payer. omega (arith, so_far.value payer, so_far.range payer, most.each payer) }

-- One turn: a record is added, and the next one stands behind it.
pub passed_more :
    {statement : List ℕ} {size place : ℕ} {sums₀ sums sums' : List ℕ} → place < size → Passed statement size place sums₀ sums
    → Added (paid_in statement place) (2 ^ 32) sums sums' → Passed statement size (place + size_in statement place) sums₀ sums'
passed_more {statement} {size} {place} {sums₀} {sums} {sums'} on so_far here =
    go so_far.left so_far.few so_far.records so_far.value so_far.range
  where
    go :
        (left : ℕ) → left ≤ most_parts → RecordsTo statement size left place
        → ((payer : ℕ) → get_or sums payer 0 + paid_from left statement place size payer ≡ get_or sums₀ payer 0 + paid_over statement size payer)
        → ((payer : ℕ) → paid_over statement size payer + left * 2 ^ 32 ≤ most_parts * 2 ^ 32 + paid_from left statement place size payer)
        → Passed statement size (place + size_in statement place) sums₀ sums'
    go left few (no_more is) value range = absurd (omega (arith, is, on))
    go (suc left) few (one_more at rest) value range =
        record {
          left = left;
          few = omega arith;
          records = rest;
          size_is = here.size ∙ so_far.size_is;
          value = λ payer. omega (arith, value payer, paid_go_on statement left {place = place} {end = size} payer on, here.is payer);
          range = λ payer. omega (arith, range payer, paid_go_on statement left {place = place} {end = size} payer on, here.range payer);
        }

-- Behind the last record all is added.
pub passed_all :
    {statement : List ℕ} {size place : ℕ} {sums₀ sums : List ℕ} → size ≤ place → Passed statement size place sums₀ sums
    → Added (paid_over statement size) (most_parts * 2 ^ 32) sums₀ sums
passed_all {statement} {size} {place} over so_far =
    record {
      size = so_far.size_is;
      is = λ payer. omega (arith, so_far.value payer, paid_end statement so_far.left {place = place} {end = size} payer over);
      range = λ payer. omega (arith, so_far.range payer, paid_end statement so_far.left {place = place} {end = size} payer over);
    }
