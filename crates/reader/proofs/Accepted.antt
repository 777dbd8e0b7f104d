-- Which records fit, by their kind and length; what each way through a reading comes to; and that an accepted record's charges can be read.
-- Assumes nothing.
use Prim.Native.Nat.{ℕ, ◌+◌, ◌-◌, ◌^◌, ◌≤◌, ◌<◌}
use native.Mathlib.Omega.{arith}
use native.Mathlib.Decide.{ℕ_discrete}
use mathlib.Core.Path.{◌≡◌, refl, sym, ap, subst, ◌∙◌}
use mathlib.Core.Bool.{Bool, true, false, ◌&&◌, false≢true}
use mathlib.Core.List.{List}
use borrow.Author.Tests.{eq-eqb, le-leb, leb-true, eqb-true}
use lib.ListN.{length}
use lib.Dec.{leb, eqb}
use Rattle.wire.specs.Frame.{broken, frame_at}
use Rattle.wire.specs.declared.Frame.TheVariants.{Whole}
use Rattle.wire.proofs.Frames.{WholeAt, broken_back, unbroken, whole}
use Rattle.wire.proofs.Tests.{both_left, both_right}
use Rattle.statement.specs.Record.{head_size, most_charges, long_with, persons_of, charge_kind}
use Rattle.statement.specs.Kind4.{charges_kind, charges_long}
use Rattle.statement.specs.Reading.{long_in, kind_in, size_in}
use Rattle.reader.specs.declared.Whose.{Whose}
use Rattle.reader.specs.declared.Whose.TheVariants.{Unsaid, Of}
use Rattle.reader.specs.declared.charges.Fit.{Fit}
use Rattle.reader.specs.declared.charges.Fit.TheVariants.{Fits, Unfit}
use Rattle.reader.specs.declared.Head.{Head}
use Rattle.reader.specs.declared.Read.{Read}
use Rattle.reader.specs.declared.Read.TheVariants.{Refused, Record}
use Rattle.reader.specs.Fields.{head_in, whose_in, charges_of}
use Rattle.reader.specs.Ranges.{head_right, whose_right, amounts_right, in_range}
use Rattle.reader.specs.Reading.{
  head_at,
  party_at,
  fields_for,
  kind4_charges,
  kind4_fit,
  kind6_fit,
  whose_at,
  Reading,
  refused,
  told,
  ranged,
  read_at,
}
use Rattle.reader.specs.Conditions.{OtherRecord, other_kind, no_charges, no_party}
use Rattle.reader.specs.Clauses.{FittedAt, ReadableAt, read_as}
use Rattle.reader.proofs.Ranges.{head_told}
use Rattle.reader.proofs.Places.{
  fields_head,
  fields_whose,
  kind4_is,
  kind6_is,
  other_is,
  kind4_fits,
  kind4_unfit,
  kind6_fits,
  kind6_unfit,
}

-- ---- Kind and length.

-- what a fit says of a record
abbrev pub FitSays : List ℕ → ℕ → Fit → Type 0
FitSays s p (Fits (Unsaid n)) = (kind_in s p ≡ charges_kind) × ((1 ≤ n) × ((n ≤ most_charges) × (long_in s p ≡ charges_long n)))
FitSays s p (Fits (Of party)) =
    (kind_in s p ≡ charge_kind) × ((party ≡ party_at s p) × (long_in s p ≡ long_with (persons_of party) party.bicycles))
FitSays s p Unfit = OtherRecord s p (kind_in s p)

pub fit_says : (s : List ℕ) (p : ℕ) → FitSays s p (whose_at s p)
fit_says s p =
    elim (ℕ_discrete (kind_in s p) charges_kind) [
      | yes is ↦ subst (FitSays s p) (sym (kind4_is s p is)) (four is _ refl)
      | no no4 ↦
          elim (ℕ_discrete (kind_in s p) charge_kind) [
            | yes is ↦ subst (FitSays s p) (sym (kind6_is s p is)) (six is)
            | no no6 ↦ subst (FitSays s p) (sym (other_is s p no4 no6)) (other_kind no4 no6)
          ]
    ]
  where
    long : ℕ
    long = long_in s p

    charges : ℕ
    charges = kind4_charges long

    test : Bool
    test = leb 1 charges && leb charges most_charges && eqb long (charges_long charges)

    four : kind_in s p ≡ charges_kind → (t : Bool) → test ≡ t → FitSays s p (kind4_fit long)
    four is true e =
        let most = both_left (leb 1 charges && leb charges most_charges) (eqb long (charges_long charges)) e in
        subst (FitSays s p) (kind4_fits long e) (
          is,
          (
            leb-true 1 charges (both_left (leb 1 charges) (leb charges most_charges) most),
            (
              leb-true charges most_charges (both_right (leb 1 charges) (leb charges most_charges) most),
              eqb-true long (charges_long charges) (both_right (leb 1 charges && leb charges most_charges) (eqb long (charges_long charges)) e),
            ),
          ),
        )
    four is false e = subst (FitSays s p) (kind4_unfit long e) (no_charges is none)
      where
        none : (n : ℕ) → 1 ≤ n → n ≤ most_charges → long ≡ charges_long n → ⊥
        none n least most same =
            let so-many : charges ≡ n = omega arith in
            let holds : test ≡ true =
            rw (le-leb 1 charges (omega arith), le-leb charges most_charges (omega arith), eq-eqb long (charges_long charges) (omega arith))
            in
            false≢true (sym e ∙ holds)

    six : kind_in s p ≡ charge_kind → FitSays s p (kind6_fit s p)
    six is =
        elim (ℕ_discrete long (long_with (persons_of (party_at s p)) (party_at s p).bicycles)) [
          | yes same ↦ subst (FitSays s p) (sym (kind6_fits s p same)) (is, (refl, same))
          | no other ↦ subst (FitSays s p) (sym (kind6_unfit s p other)) (no_party is other)
        ]

-- ---- A record that fits.

module _ {s : List ℕ} {p : ℕ} {whose : Whose} (fitted : FittedAt s p whose) where
  frame : WholeAt s p (kind_in s p) (long_in s p - 2)
  frame = unbroken s p fitted.whole

  says : FitSays s p (Fits whose)
  says = subst (FitSays s p) fitted.fits (fit_says s p)

  -- It has all that stands before the charges.
  pub fitted_head : p + head_size ≤ length s
  fitted_head = go whose says
    where
      go : (w : Whose) → FitSays s p (Fits w) → p + head_size ≤ length s
      go (Unsaid n) says_so = omega (arith, frame)
      go (Of party) says_so = omega (arith, frame)

  -- And its charges can be read, where the party is one that a trip can have.
  pub fitted_readable : whose_right whose ≡ true → ReadableAt s p whose
  fitted_readable = go whose says
    where
      go : (w : Whose) → FitSays s p (Fits w) → whose_right w ≡ true → ReadableAt s p w
      go (Unsaid n) says_so right = (says_so.1.1.0, omega (arith, frame))
      go (Of party) says_so right =
          let two = both_left (leb party.adults 10 && leb party.children 10) (leb party.bicycles 10) right in
          let adults = leb-true party.adults 10 (both_left (leb party.adults 10) (leb party.children 10) two) in
          let children = leb-true party.children 10 (both_right (leb party.adults 10) (leb party.children 10) two) in
          let bicycles =
          leb-true party.bicycles 10 (both_right (leb party.adults 10 && leb party.children 10) (leb party.bicycles 10) right)
          in
          let is = says_so.1.0 in (
            record {
              adults = rw is at adults;
              children = rw is at children;
              bicycles = rw is at bicycles;
              long = rw is at says_so.1.1;
              inside = omega (arith, frame);
            },
            is,
          )

-- ---- The ways through a reading.

-- A frame that is given as whole is not broken.
pub whole_unbroken : (s : List ℕ) (p kind body : ℕ) → frame_at s p ≡ Whole kind body → broken s p ≡ false
whole_unbroken s p kind body e = go (broken s p) refl
  where
    go : (t : Bool) → broken s p ≡ t → broken s p ≡ false
    go false is = is
    go true is = let given = broken_back s p is in absurd (let z : ◌≡◌ {A = ℕ} 0 1 = cc in omega arith)

module _ (s : List ℕ) (p : ℕ) where
  pub broken_way : broken s p ≡ true → read_at s p ≡ refused 14
  unfolding read_at
  broken_way e = rw e

  pub unfit_way : broken s p ≡ false → whose_at s p ≡ Unfit → read_at s p ≡ refused 15
  unfolding read_at
  unfit_way e unfit = rw (e, unfit)

  pub fit_way : broken s p ≡ false → (whose : Whose) → whose_at s p ≡ Fits whose → read_at s p ≡ ranged (fields_for s p whose) (size_in s p)
  unfolding read_at
  fit_way e whose fits = rw (e, fits)

  -- with the size by the frame's body
  pub fit_told :
      {kind body : ℕ} {whose : Whose} {r : Read} → frame_at s p ≡ Whole kind body → whose_at s p ≡ Fits whose
      → r ≡ read_as (ranged (fields_for s p whose) (4 + body)) → r ≡ read_as (read_at s p)
  fit_told {kind} {body} {whose} framed fits is =
      let frame = whole s p kind body framed in
      let size : 4 + body ≡ size_in s p = omega (arith, frame.length_is) in
      is
      ∙ ap (λ (n : ℕ). read_as (ranged (fields_for s p whose) n)) size
      ∙ sym (ap read_as (fit_way (whole_unbroken s p kind body framed) whose fits))

  module _ (whose : Whose) (size : ℕ) where
    pub wrong_front : head_right (head_at s p) && whose_right whose ≡ false → Refused 16 ≡ read_as (ranged (fields_for s p whose) size)
    unfolding ranged
    wrong_front e = rw (fields_head s p whose, fields_whose s p whose, e)

    pub wrong_amounts :
        head_right (head_at s p) && whose_right whose ≡ true → amounts_right (fields_for s p whose) (charges_of whose) ≡ false
        → Refused 16 ≡ read_as (ranged (fields_for s p whose) size)
    unfolding ranged
    wrong_amounts e wrong = rw (fields_head s p whose, fields_whose s p whose, e, wrong)

    pub right_all :
        head_right (head_at s p) && whose_right whose ≡ true → amounts_right (fields_for s p whose) (charges_of whose) ≡ true
        → Record size (head_at s p) whose ≡ read_as (ranged (fields_for s p whose) size)
    unfolding ranged
    right_all e right = rw (fields_head s p whose, fields_whose s p whose, e, right, fields_head s p whose, fields_whose s p whose)

-- The two tests of what stands before the charges, as they were made.
pub front_tested :
    (s : List ℕ) (p : ℕ) (whose : Whose) {head : Head} {right other : Bool} (both : Bool) → head ≡ head_at s p → right ≡ head_right head
    → other ≡ whose_right whose → right && other ≡ both → head_right (head_at s p) && whose_right whose ≡ both
front_tested s p whose both read is is' e = rw (sym (ap head_right read) ∙ sym is, sym is') e

-- and the second alone
pub whose_tested : (s : List ℕ) (p : ℕ) (whose : Whose) → head_right (head_at s p) && whose_right whose ≡ true → whose_right whose ≡ true
whose_tested s p whose = both_right (head_right (head_at s p)) (whose_right whose)

-- ---- What a reading says.

pub data View (s : List ℕ) (p : ℕ) : Reading → Type 0 where
  broken_view : broken s p ≡ true → View s p (refused 14)
  unfit_view : broken s p ≡ false → whose_at s p ≡ Unfit → View s p (refused 15)
  wrong_view : (whose : Whose) → FittedAt s p whose → in_range (fields_for s p whose) ≡ false → View s p (refused 16)
  right_view : (whose : Whose) → FittedAt s p whose → in_range (fields_for s p whose) ≡ true → View s p (told (fields_for s p whose) (size_in s p))

pub view : (s : List ℕ) (p : ℕ) → View s p (read_at s p)
unfolding ranged
view s p = go (broken s p) refl
  where
    right : (whose : Whose) → FittedAt s p whose → (t : Bool) → in_range (fields_for s p whose) ≡ t → View s p (ranged (fields_for s p whose) (size_in s p))
    right whose fitted true e = rw e (right_view whose fitted e)
    right whose fitted false e = rw e (wrong_view whose fitted e)

    fit : broken s p ≡ false → (f : Fit) → whose_at s p ≡ f → View s p (read_at s p)
    fit whole Unfit e = subst (View s p) (sym (unfit_way s p whole e)) (unfit_view whole e)
    fit whole (Fits whose) e =
        subst (View s p) (sym (fit_way s p whole whose e))
        (right whose (record { whole = whole; fits = e }) (in_range (fields_for s p whose)) refl)

    go : (t : Bool) → broken s p ≡ t → View s p (read_at s p)
    go true e = subst (View s p) (sym (broken_way s p e)) (broken_view e)
    go false e = fit e (whose_at s p) refl

-- an accepted record, as the answer tells it
pub record AcceptedAt (s : List ℕ) (p size : ℕ) (head : Head) (whose : Whose) : Type 0 where
  pub fitted : FittedAt s p whose
  pub size_is : size ≡ size_in s p
  pub head_is : head ≡ head_at s p
  pub right : in_range (fields_for s p whose) ≡ true
  pub read : read_at s p ≡ told (fields_for s p whose) size

pub accepted_at : (s : List ℕ) (p : ℕ) {size : ℕ} {head : Head} {whose : Whose} → read_as (read_at s p) ≡ Record size head whose → AcceptedAt s p size head whose
accepted_at s p {size} {head} {whose} e = go (read_at s p) (view s p) refl e
  where
    go : (r : Reading) → View s p r → read_at s p ≡ r → read_as r ≡ Record size head whose → AcceptedAt s p size head whose
    go (refused n) v is e' = absurd (let z : ◌≡◌ {A = ℕ} 0 1 = cc in omega arith)
    go (told fields n) (right_view w fitted right) is e' =
        let same_size : size_in s p ≡ size = cc in
        let same_head : head_in (fields_for s p w) ≡ head = cc in
        let same-whose : whose_in (fields_for s p w) ≡ whose = cc in
        let own : w ≡ whose = sym (fields_whose s p w) ∙ same-whose in
        record {
          fitted = rw own at fitted;
          size_is = sym same_size;
          head_is = sym same_head ∙ fields_head s p w;
          right = rw own at right;
          read = rw (← own, ← same_size) is;
        }

-- ---- What an accepted record is good for.

module _ {s : List ℕ} {p size : ℕ} {head : Head} {whose : Whose} (accepted : AcceptedAt s p size head whose) where
  front_right : head_right (head_at s p) && whose_right whose ≡ true
  front_right =
      let all = accepted.right in
      rw (fields_head s p whose, fields_whose s p whose)
      at (both_left (head_right (head_in (fields_for s p whose)) && whose_right (whose_in (fields_for s p whose))) _ all)

  -- Its charges can be read.
  pub accepted_readable : ReadableAt s p whose
  accepted_readable = fitted_readable accepted.fitted (both_right (head_right (head_at s p)) (whose_right whose) front_right)

  -- They are 31 at most.
  pub accepted_few : charges_of whose ≤ most_charges
  accepted_few = go whose accepted_readable
    where
      go : (w : Whose) → ReadableAt s p w → charges_of w ≤ most_charges
      go (Unsaid n) readable = readable.0
      go (Of party) readable = let ok = readable.0 in rw readable.1 (omega (arith, ok.adults, ok.children, ok.bicycles))

  -- Kilometres and minutes are numbers of two bytes.
  pub accepted_short : (head.km.0 < 2 ^ 16) × (head.minutes.0 < 2 ^ 16)
  accepted_short =
      let ok = head_told (head_at s p) (both_left (head_right (head_at s p)) (whose_right whose) front_right) in
      rw accepted.head_is (omega (arith, ok.km), omega (arith, ok.minutes))
