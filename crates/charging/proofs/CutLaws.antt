-- What caps took off a rider's price, in the rules' words, and where each rider's cut stands among the party's.
-- Assumes nothing.
use Prim.Native.Nat.{ℕ, ◌+◌, ◌-◌, ◌≤◌, ◌<◌}
use native.Mathlib.Nat.{eq-zero-or-pos}
use native.Mathlib.Omega.{arith}
use native.Mathlib.Decide.{dec_lt}
use mathlib.Core.Path.{◌≡◌, sym, ap, subst, ◌∙◌}
use mathlib.Core.Logic.{⊎_elim}
use mathlib.Core.Bool.{Bool, true, false}
use mathlib.Core.List.{List}
use lib.ListN.{length, get_or}
use Rattle.units.specs.Price.{most_price}
use Rattle.caps.specs.declared.Name.{Name}
use Rattle.caps.specs.declared.Cut.{Cut}
use Rattle.caps.specs.Named.{no_name, CapHere, all_classes, second_class, NamedCap, cap_named, sum_named, FullOrPassed}
use Rattle.caps.proofs.Climb.{within_there}
use Rattle.caps.proofs.Charge.{charge_smallest}
use Rattle.caps.proofs.NamedCaps.{name_none, name_says, name_one, named_full}
use Rattle.layout.specs.declared.Counts.{Counts}
use Rattle.areas.specs.Areas.{area_at, FaultlessTariff}
use Rattle.areas.proofs.Faultless.{faultless}
use Rattle.trip.specs.declared.Ride.{Ride}
use Rattle.prices.proofs.Steps.{price_most}
use Rattle.ledger.specs.Words.{second_sum, all_sum, first_child}
use Rattle.charging.specs.Caps.{tree_of}
use Rattle.charging.specs.Charging.{is_child, price_for, rider_charge}
use Rattle.charging.specs.Cuts.{rider_cut, cuts_of}
use Rattle.charging.specs.InWords.{CutSays}
use Rattle.charging.specs.Clauses.{Rideable, CutRange}
use Rattle.charging.proofs.Trees.{is_tree}
use Rattle.charging.proofs.ChargeLaws.{cuts_length, adult_cut_stands, child_cut_stands, priceable}

-- ---- One rider.

module _ {tariff : List ℕ} {counts : Counts} (t : FaultlessTariff tariff counts) (w : List ℕ) (ride : Ride) (here : ride.area < counts.areas)
    (child : Bool) (rider : ℕ) where
  abbrev price : ℕ
  price = price_for tariff counts ride child

  abbrev charge : ℕ
  charge = rider_charge tariff counts w ride child rider

  abbrev cut : Cut
  cut = rider_cut tariff counts w ride child rider

  charge_most : charge ≤ price
  unfolding rider_charge
  charge_most = (charge_smallest (is_tree t child) (second_sum w rider) (all_sum w rider) ride.class ride.area here price).most

  makes_up : charge + cut.reduction.0 ≡ price
  unfolding rider_cut
  makes_up = omega (arith, charge_most)

  none_named : cut.reduction.0 ≡ 0 → (cut.area ≡ no_name.area) × (cut.class ≡ no_name.class)
  unfolding rider_cut rider_charge
  none_named nothing =
      let same : charge ≡ price = omega (arith, makes_up, nothing) in
      let is = name_none (is_tree t child) (second_sum w rider) (all_sum w rider) ride.class ride.area here price same in
      (ap (λ (n : Name). n.area) is, ap (λ (n : Name). n.class) is)

  one_named :
      0 < cut.reduction.0
      → NamedCap (tree_of tariff counts child) (second_sum w rider) (all_sum w rider) ride.class ride.area charge
      (record { area = cut.area; class = cut.class })
  unfolding rider_cut rider_charge
  one_named some =
      name_says (is_tree t child) (second_sum w rider) (all_sum w rider) ride.class ride.area here price (omega (arith, makes_up, some))

  -- an area's number is 0 to 31, or 255 for none; a class is 0, 1 or 2
  in-range : price ≤ most_price → CutRange cut
  in-range most =
      ⊎_elim
      (λ nothing.
      let none = none_named nothing in
      record { reduction = omega (arith, nothing); area = omega (arith, none.0); class = omega (arith, none.1) })
      (λ some.
      let cap = (one_named some).one_of_them in
      record {
        reduction = omega (arith, makes_up, most);
        area = omega (arith, within_there (is_tree t child) ride.area here cut.area cap.inside, t.few_areas);
        class = known cap.its;
      })
      (eq-zero-or-pos cut.reduction.0)
    where
      known :
          CapHere ((tree_of tariff counts child).caps cut.area) ride.class (second_sum w rider cut.area) (all_sum w rider cut.area) cut.class charge
          → cut.class ≤ 2
      known (all_classes most one is value) = omega (arith, one)
      known (second_class most two of is value) = omega (arith, two)

-- A rider's cut is what the words say, on every book.
pub cut_says :
    {tariff : List ℕ} {counts : Counts} → FaultlessTariff tariff counts → (w : List ℕ) (ride : Ride) → ride.area < counts.areas → (rider : ℕ)
    → CutSays tariff counts w ride rider (rider_charge tariff counts w ride (is_child rider) rider) (rider_cut tariff counts w ride (is_child rider) rider)
cut_says t w ride here rider =
    record {
      makes_up = makes_up t w ride here (is_child rider) rider;
      none = none_named t w ride here (is_child rider) rider;
      named = one_named t w ride here (is_child rider) rider;
    }

-- There is no other such cut.
pub cut_one :
    {tariff : List ℕ} {counts : Counts} → FaultlessTariff tariff counts → {w : List ℕ} {ride : Ride} → ride.area < counts.areas
    → {rider charge : ℕ} {cut cut' : Cut} → CutSays tariff counts w ride rider charge cut → CutSays tariff counts w ride rider charge cut' → cut ≡ cut'
cut_one {tariff} {counts} t {w} {ride} here {rider} {charge} {cut} {cut'} c c' =
    let same : cut.reduction.0 ≡ cut'.reduction.0 = omega (arith, c.makes_up, c'.makes_up) in
    ⊎_elim
    (λ (nothing : cut.reduction.0 ≡ 0).
    let one = c.none nothing in
    let other = c'.none (sym same ∙ nothing) in
    all_same same (one.0 ∙ sym other.0) (one.1 ∙ sym other.1))
    (λ (some : 0 < cut.reduction.0).
    let is =
    name_one (is_tree t (is_child rider)) (second_sum w rider) (all_sum w rider) ride.class ride.area here (c.named some)
    (c'.named (rw (← same) some)) in
    all_same same (ap (λ (n : Name). n.area) is) (ap (λ (n : Name). n.class) is))
    (eq-zero-or-pos cut.reduction.0)
  where
    all_same : {k k' : Cut} → k.reduction.0 ≡ k'.reduction.0 → k.area ≡ k'.area → k.class ≡ k'.class → k ≡ k'
    all_same e e' e'' = rw (e, e', e'')

-- The cap that it names is exactly full with the charge, or was passed before, and then nothing is charged.
pub cut_full :
    {tariff : List ℕ} {counts : Counts} {w : List ℕ} {ride : Ride} {rider charge : ℕ} {cut : Cut} → CutSays tariff counts w ride rider charge cut
    → 0 < cut.reduction.0
    → let name : Name = record { area = cut.area; class = cut.class } in
    FullOrPassed (cap_named (tree_of tariff counts (is_child rider)) name) (sum_named (second_sum w rider) (all_sum w rider) name) charge
cut_full c some = named_full (c.named some).one_of_them

-- ---- The party.

-- Each cut has its ranges.
pub cuts_in_range :
    {tariff : List ℕ} {counts : Counts} {book : List ℕ} {current : Bool} {ride : Ride} → Rideable tariff counts book current ride → (w : List ℕ) (d : Cut) (i : ℕ)
    → i < length (cuts_of tariff counts w ride) → CutRange (get_or (cuts_of tariff counts w ride) i d)
cuts_in_range {tariff} {counts} {ride = ride} r w d i h =
    elim (dec_lt i (1 + ride.party.adults)) [
      | yes adult ↦ subst CutRange (sym (adult_cut_stands tariff counts w ride d i adult)) (fits false i)
      | no child ↦
          let count = cuts_length tariff counts w ride in
          let k = i - (1 + ride.party.adults) in
          let at : 1 + ride.party.adults + k ≡ i = omega (arith, child) in
          subst (λ (n : ℕ). CutRange (get_or (cuts_of tariff counts w ride) n d)) at
          (subst CutRange (sym (child_cut_stands tariff counts w ride d k (omega (arith, child, h, count)))) (fits true (first_child + k)))
    ]
  where
    fits : (child : Bool) (rider : ℕ) → CutRange (rider_cut tariff counts w ride child rider)
    fits child rider =
        in-range (faultless tariff counts r.read) w ride r.area child rider
        (price_most (area_at tariff ride.area) ride child (priceable r))
