-- A record's fields by their places: its head, whose its charges are, and each charge; and which kinds and lengths fit.
-- Assumes nothing.
use Prim.Native.Nat.{ℕ, ◌+◌, ◌*◌, ◌≤◌, ◌<◌}
use native.Mathlib.Omega.{arith}
use mathlib.Core.Path.{◌≡◌, refl, sym, ap, subst, ◌∙◌}
use mathlib.Core.Bool.{true, false, ◌&&◌}
use mathlib.Core.List.{List}
use borrow.Author.Tests.{eq-eqb, ne_eqb}
use lib.ListN.{length}
use lib.Dec.{leb, eqb}
use Rattle.wire.specs.Number.{get_le}
use Rattle.trip.specs.declared.Party.{Party}
use Rattle.statement.specs.Record.{most_charges, long_with, persons_of, count_of, charge_kind, uncut}
use Rattle.statement.specs.Kind4.{charges_kind, charges_long}
use Rattle.statement.specs.Reading.{long_in, kind_in, adults_in, children_in, bicycles_in, persons_in, count_in, charge_place, charge_in}
use Rattle.statement.specs.Clauses.{RecordAt}
use Rattle.reader.specs.declared.Whose.{Whose}
use Rattle.reader.specs.declared.Whose.TheVariants.{Unsaid, Of}
use Rattle.reader.specs.declared.charges.Fit.TheVariants.{Fits, Unfit}
use Rattle.reader.specs.declared.Amount.{Amount}
use Rattle.reader.specs.Fields.{Fields, head_in, whose_in, charges_of, uncut_amount, amount_of}
use Rattle.reader.specs.Reading.{head_at, party_at, cut_at, kind4_charge, fields_for, kind4_charges, kind4_fit, kind6_fit, whose_at}
use Rattle.reader.specs.Clauses.{ReadableAt, ChargeAsked}
use Rattle.reader.proofs.Listed.{length_listed, listed_at, listed_past}

-- ---- Fields.

module _ (s : List ℕ) (p : ℕ) where
  pub fields_head : (whose : Whose) → head_in (fields_for s p whose) ≡ head_at s p
  unfolding fields_for
  fields_head (Unsaid n) = refl
  fields_head (Of party) = refl

  pub fields_whose : (whose : Whose) → whose_in (fields_for s p whose) ≡ whose
  unfolding fields_for
  fields_whose (Unsaid n) = ap Unsaid (length_listed n (kind4_charge s p))
  fields_whose (Of party) = refl

  pub unsaid_amount :
      (n i : ℕ) → i < n → amount_of (fields_for s p (Unsaid n)) i ≡ uncut_amount (kind4_charge s p i)
  unfolding fields_for
  unsaid_amount n i h = rw (listed_at n (kind4_charge s p) 0 i h)

  module _ (party : Party) (i : ℕ) where
    abbrev charge : ℕ
    charge = get_le 4 s (charge_place p (persons_of party) i)

    pub person_amount :
        i < persons_of party → amount_of (fields_for s p (Of party)) i ≡ record { charge = record { 0 = charge }; cut = cut_at s p i }
    unfolding fields_for
    person_amount h =
        rw (
          listed_at (count_of party) (λ (j : ℕ). get_le 4 s (charge_place p (persons_of party) j)) 0 i (omega arith),
          listed_at (persons_of party) (cut_at s p) uncut i h,
        )

    pub bicycle_amount :
        persons_of party ≤ i → i < count_of party → amount_of (fields_for s p (Of party)) i ≡ uncut_amount charge
    unfolding fields_for
    bicycle_amount past h =
        rw (
          listed_at (count_of party) (λ (j : ℕ). get_le 4 s (charge_place p (persons_of party) j)) 0 i h,
          listed_past (persons_of party) (cut_at s p) uncut i past,
        )

-- ---- What is asked of a charge.

module _ {s : List ℕ} {p : ℕ} {whose : Whose} {i : ℕ} (asked : ChargeAsked s p whose i) where
  -- A charge of kind 4 stands within the bytes.
  pub unsaid_asked : {n : ℕ} → whose ≡ Unsaid n → (i < n) × ((n ≤ most_charges) × (p + 13 + 4 * n ≤ length s))
  unsaid_asked e =
      let readable = subst (ReadableAt s p) e asked.readable in
      let there : i < _ = rw e at asked.there in
      (there, readable)

  pub unsaid_told :
      {n : ℕ} → whose ≡ Unsaid n → {r : Amount} {charge : ℕ} → charge ≡ kind4_charge s p i → r ≡ uncut_amount charge → r ≡ amount_of (fields_for s p whose) i
  unsaid_told {n} e read is = is ∙ ap uncut_amount read ∙ sym (rw e (unsaid_amount s p n i (unsaid_asked e).0))

  -- One of kind 6 is of the party that the record tells.
  module _ {party : Party} (e : whose ≡ Of party) where
    readable : RecordAt s p × (party ≡ party_at s p)
    readable = subst (ReadableAt s p) e asked.readable

    all_told : fields_for s p whose ≡ fields_for s p (Of (party_at s p))
    all_told = ap (fields_for s p) (e ∙ ap Of readable.1)

    pub there_asked : RecordAt s p × (i < count_in s p)
    there_asked = (readable.0, subst (λ (w : Whose). i < charges_of w) (e ∙ ap Of readable.1) asked.there)

    pub person_asked : i < persons_of party → RecordAt s p × (i < persons_in s p)
    person_asked h = (readable.0, subst (λ (q : Party). i < persons_of q) readable.1 h)

    pub person_told : {r : Amount} → r ≡ amount_of (fields_for s p (Of (party_at s p))) i → r ≡ amount_of (fields_for s p whose) i
    person_told is = is ∙ ap (λ (f : Fields). amount_of f i) (sym all_told)

    pub bicycle_told :
        persons_of party ≤ i → {r : Amount} {charge : ℕ} → charge ≡ charge_in s p i → r ≡ uncut_amount charge → r ≡ amount_of (fields_for s p whose) i
    bicycle_told past read is =
        let behind : persons_in s p ≤ i = subst (λ (q : Party). persons_of q ≤ i) readable.1 past in
        is ∙ ap uncut_amount read ∙ sym (bicycle_amount s p (party_at s p) i behind there_asked.1) ∙ ap (λ (f : Fields). amount_of f i) (sym all_told)

-- ---- Kinds and lengths.

-- A record of kind 4 too short for its head has no charge.
pub kind4_short : (long : ℕ) → long < 11 → kind4_fit long ≡ Unfit
unfolding kind4_fit
kind4_short long short = let none : kind4_charges long ≡ 0 = omega arith in rw none

-- And one of kind 6 too short for its three numbers is shorter than any party's.
pub kind6_short : (s : List ℕ) (p : ℕ) → long_in s p < 14 → kind6_fit s p ≡ Unfit
unfolding kind6_fit
kind6_short s p short =
    let party = party_at s p in
    let other : long_in s p ≡ long_with (persons_of party) party.bicycles → ⊥ = λ e. omega arith in
    rw (ne_eqb (long_in s p) (long_with (persons_of party) party.bicycles) other)

pub kind4_is : (s : List ℕ) (p : ℕ) → kind_in s p ≡ charges_kind → whose_at s p ≡ kind4_fit (long_in s p)
unfolding whose_at
kind4_is s p e = rw e

pub kind6_is : (s : List ℕ) (p : ℕ) → kind_in s p ≡ charge_kind → whose_at s p ≡ kind6_fit s p
unfolding whose_at
kind6_is s p e = rw e

pub other_is : (s : List ℕ) (p : ℕ) → (kind_in s p ≡ charges_kind → ⊥) → (kind_in s p ≡ charge_kind → ⊥) → whose_at s p ≡ Unfit
unfolding whose_at
other_is s p no4 no6 = rw (ne_eqb (kind_in s p) charges_kind no4, ne_eqb (kind_in s p) charge_kind no6)

pub kind6_fits :
    (s : List ℕ) (p : ℕ) → long_in s p ≡ long_with (persons_of (party_at s p)) (party_at s p).bicycles → kind6_fit s p ≡ Fits (Of (party_at s p))
unfolding kind6_fit
kind6_fits s p e = rw (eq-eqb (long_in s p) (long_with (persons_of (party_at s p)) (party_at s p).bicycles) e)

pub kind6_unfit :
    (s : List ℕ) (p : ℕ) → (long_in s p ≡ long_with (persons_of (party_at s p)) (party_at s p).bicycles → ⊥) → kind6_fit s p ≡ Unfit
unfolding kind6_fit
kind6_unfit s p e = rw (ne_eqb (long_in s p) (long_with (persons_of (party_at s p)) (party_at s p).bicycles) e)

pub kind4_fits :
    (long : ℕ) → (leb 1 (kind4_charges long) && leb (kind4_charges long) most_charges && eqb long (charges_long (kind4_charges long))) ≡ true
    → Fits (Unsaid (kind4_charges long)) ≡ kind4_fit long
unfolding kind4_fit
kind4_fits long e = rw e

pub kind4_unfit :
    (long : ℕ) → (leb 1 (kind4_charges long) && leb (kind4_charges long) most_charges && eqb long (charges_long (kind4_charges long))) ≡ false
    → Unfit ≡ kind4_fit long
unfolding kind4_fit
kind4_unfit long e = rw e

-- The three numbers, once read, are those that the length must fit.
module _ (s : List ℕ) (p long adults children bicycles size : ℕ) (is : long ≡ long_in s p) (a : adults ≡ adults_in s p) (c : children ≡ children_in s p)
    (b : bicycles ≡ bicycles_in s p) (sized : size ≡ 16 + 10 * (1 + adults + children) + 4 * bicycles) where
  pub party_fits : 2 + long ≡ size → Fits (Of (record { adults = adults; children = children; bicycles = bicycles })) ≡ kind6_fit s p
  party_fits e = rw (a, b, c) (sym (kind6_fits s p (omega arith)))

  pub party_unfit : (2 + long ≡ size → ⊥) → Unfit ≡ kind6_fit s p
  party_unfit ne = sym (kind6_unfit s p (λ e. ne (omega arith)))
