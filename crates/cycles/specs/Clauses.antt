-- What the functions ask of their callers and promise them beside the definitions. A reader of the rules needs none of it.
use Rattle.std.specs.Prelude.{ℕ, ◌+◌, ◌-◌, ◌≤◌, ◌<◌, min, ◌≡◌, List, true, cond}
use Rattle.layout.specs.declared.Counts.{Counts}
use Rattle.layout.specs.Rules.{most_money, flat_of}
use Rattle.areas.specs.Areas.{is_aachen, bicycle_price_of}
use Rattle.trip.specs.declared.Earlier.{Earlier}
use Rattle.trip.specs.declared.Earlier.TheVariants.{Nothing, Part}
use Rattle.ledger.specs.Sound.{most_paid}
use Rattle.cycles.specs.declared.bicycles.Words.{Words}
use Rattle.cycles.specs.declared.found.Found.{Found}
use Rattle.cycles.specs.declared.found.Changed.{Changed}
use Rattle.cycles.specs.declared.terms.Terms.{Terms}
use Rattle.cycles.specs.Bicycles.{new_cover, bicycle_charge, paid_with}

-- the area of an earlier part is one of the tariff's
abbrev pub EarlierThere : Counts → Earlier → Type 0
EarlierThere counts Nothing = Unit
EarlierThere counts (Part before) = before.area < counts.areas

-- a bicycle's word after an earlier part, by its word before
unfoldable pub cover_after : List ℕ → Counts → Earlier → ℕ → ℕ
cover_after tariff counts Nothing old = old
cover_after tariff counts (Part before) old = 1 + new_cover tariff counts before.area old

-- its payments after an earlier part, by its words before
unfoldable pub paid_after : List ℕ → Counts → Earlier → ℕ → ℕ → ℕ
paid_after tariff counts Nothing old paid = paid
paid_after tariff counts (Part before) old paid = paid_with tariff counts (new_cover tariff counts before.area old) paid

pub record WordsAfter (tariff : List ℕ) (counts : Counts) (earlier : Earlier) (old paid : ℕ) (r : Words) : Type 0 where
  pub cover : r.cover ≡ cover_after tariff counts earlier old
  pub known : r.cover ≤ counts.areas
  pub payments : r.paid.0 ≡ paid_after tariff counts earlier old paid
  pub range : r.paid.0 ≤ most_paid

pub record NewCover (tariff : List ℕ) (counts : Counts) (area old r : ℕ) : Type 0 where
  pub value : r ≡ new_cover tariff counts area old
  pub there : r < counts.areas

-- what an area asks of bicycles
pub record TermsOf (tariff : List ℕ) (counts : Counts) (area : ℕ) (r : Terms) : Type 0 where
  pub kind : r.aachen ≡ is_aachen tariff area
  pub flat : r.flat.0 ≡ flat_of tariff area
  pub price : is_aachen tariff area ≡ true → r.price.0 ≡ bicycle_price_of tariff area
  pub range : r.flat.0 ≤ most_money

-- what a bicycle pays by an area's terms, and its payments with that
abbrev pub pay_by : Terms → ℕ → ℕ
pay_by terms paid = min terms.price.0 (terms.flat.0 - paid)

abbrev pub paid_by : Terms → ℕ → ℕ
paid_by terms paid = cond terms.aachen (paid + pay_by terms paid) paid

pub record PaidWith (tariff : List ℕ) (counts : Counts) (cover paid r : ℕ) : Type 0 where
  pub value : r ≡ paid_with tariff counts cover paid
  pub range : r ≤ most_paid

pub record BicycleCharge (tariff : List ℕ) (counts : Counts) (area old paid r : ℕ) : Type 0 where
  pub value : r ≡ bicycle_charge tariff counts area old paid
  pub range : r ≤ most_money

-- a bicycle's charge by its words before an earlier part
abbrev pub charge_found : List ℕ → Counts → Earlier → ℕ → ℕ → ℕ → ℕ
charge_found tariff counts earlier area old paid =
    bicycle_charge tariff counts area (cover_after tariff counts earlier old) (paid_after tariff counts earlier old paid)

-- what is held of the bicycle before: the charge is that of its words, if they are any bicycle's
pub record FoundRight (tariff : List ℕ) (counts : Counts) (earlier : Earlier) (area : ℕ) (found : Found) : Type 0 where
  pub right : found.cover ≤ counts.areas → found.amount.0 ≡ charge_found tariff counts earlier area found.cover found.paid.0

pub record FoundAs (tariff : List ℕ) (counts : Counts) (earlier : Earlier) (area old paid : ℕ) (found : Found) : Type 0 where
  pub cover : found.cover ≡ old
  pub payments : found.paid.0 ≡ paid
  pub charge : found.amount.0 ≡ charge_found tariff counts earlier area old paid

-- the words that a ride in an area leaves a bicycle
pub record WordsWith (tariff : List ℕ) (counts : Counts) (area old paid : ℕ) (r : Words) : Type 0 where
  pub cover : r.cover ≡ 1 + new_cover tariff counts area old
  pub known : r.cover ≤ counts.areas
  pub payments : r.paid.0 ≡ paid_with tariff counts (new_cover tariff counts area old) paid
  pub range : r.paid.0 ≤ most_paid

-- what is held of the bicycle before: the words left are those that its words lead to, if they are any bicycle's
pub record ChangedRight (tariff : List ℕ) (counts : Counts) (area : ℕ) (changed : Changed) : Type 0 where
  pub right : changed.cover ≤ counts.areas → WordsWith tariff counts area changed.cover changed.paid.0 changed.words

pub record ChangedAs (tariff : List ℕ) (counts : Counts) (area old paid : ℕ) (changed : Changed) : Type 0 where
  pub cover : changed.cover ≡ old
  pub payments : changed.paid.0 ≡ paid
  pub left : WordsWith tariff counts area old paid changed.words
