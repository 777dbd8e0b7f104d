-- Fault 3 in the rules' words: the test of a record's values fails exactly when one of them is outside its range or breaks a rule.
-- Assumes nothing.
use Prim.Native.Nat.{ℕ, ◌≤◌, ◌<◌}
use native.Mathlib.Omega.{arith}
use native.Mathlib.Decide.{ℕ_discrete, dec_lt}
use mathlib.Core.Path.{◌≡◌, refl, sym}
use mathlib.Core.Logic.{◌↔◌, ◌⊎◌, inl, inr, ⊎_elim}
use mathlib.Core.Bool.{Bool, true, false, cond, ◌&&◌, ◌||◌, false≢true}
use mathlib.Core.List.{List, [], ◌∷◌}
use borrow.Author.Tests.{leb-false, lt-leb, ltb-false, le-ltb, eqb-false, ne_eqb, eq-eqb}
use lib.Dec.{leb, ltb, eqb}
use Rattle.layout.specs.declared.Counts.{Counts}
use Rattle.layout.specs.declared.Factor.{Factor}
use Rattle.layout.specs.declared.fields.AreaFields.{AreaFields}
use Rattle.layout.specs.declared.fields.LongFields.{LongFields}
use Rattle.layout.specs.declared.fields.StopFields.{StopFields}
use Rattle.layout.specs.Layout.{common_kind, aachen_kind}
use Rattle.layout.specs.Rules.{
  most_base_price,
  most_price_per_km,
  least_minutes,
  most_minutes,
  most_percent,
  most_money,
  no_day_cap,
  most_factor,
  most_metres,
  prices_right,
  unused,
  trip_cap_right,
  caps_right,
  money,
  tickets_unused,
  tickets_right,
  long_right,
  level_of,
  flat_of,
  kind_of,
  place_right,
  area_right,
  factor_right,
  stop_right,
}
use Rattle.layout.specs.WrongValues.{
  OneOf,
  here,
  later,
  NotZero,
  TooMuch,
  WrongTripCap,
  no_sort,
  no_cap_zeros,
  flat_amount,
  flat_short,
  flat_long,
  flat_zeros,
  level_amount,
  WrongTickets,
  no_ticket_zeros,
  flat_ticket,
  flat_ticket_zeros,
  level_ticket,
  WrongPlace,
  state_level,
  state_parent,
  state_kind,
  second_state,
  high_level,
  region_parent,
  city_parent,
  city_kind,
  flat_above,
  WrongArea,
  high_base,
  high_rate,
  short_validity,
  long_validity,
  high_surcharge,
  high_reduction,
  wrong_trip_cap,
  high_day_cap,
  high_flat,
  wrong_place,
  wrong_tickets,
  high_bicycle_price,
  high_town,
  town_marked,
  WrongFactor,
  low_factor,
  high_factor,
  high_mark,
  state_marked,
  WrongStop,
  lacking_area,
  far_x,
  far_y,
}

-- ---- Tests that fail.

-- a test fails exactly when something is wrong
abbrev Fails : Bool → Type 0 → Type 0
Fails test wrong = test ≡ false ↔ wrong

-- two tests fail together when the one or the other is wrong, and one of two when both are
both : {P Q : Type 0} (s t : Bool) → Fails s P → Fails t Q → Fails (s && t) (P ⊎ Q)
both true t p q = (λ e. inr (q.0 e), ⊎_elim (λ w. absurd (false≢true (sym (p.1 w)))) q.1)
both false t p q = (λ e. inl (p.0 refl), λ w. refl)

either : {P Q : Type 0} (s t : Bool) → Fails s P → Fails t Q → Fails (s || t) (P × Q)
either true t p q = (λ e. absurd (false≢true (sym e)), λ w. p.1 w.0)
either false t p q = (λ e. (p.0 refl, q.0 e), λ w. q.1 w.1)

-- tests of two numbers
above : (n most : ℕ) → Fails (leb n most) (most < n)
above n most = (leb-false n most, lt-leb n most)

not_below : (m n : ℕ) → Fails (ltb m n) (n ≤ m)
not_below m n = (ltb-false m n, le-ltb m n)

other : (m n : ℕ) → Fails (eqb m n) (m ≡ n → ⊥)
other m n = (eqb-false m n, ne_eqb m n)

-- ---- Amounts by level: the test of the sort and of the five amounts.

module _ (sort k a b c d : ℕ) where
  abbrev LevelsWrong : Type 0
  LevelsWrong = (((((sort ≡ 2 → ⊥) ⊎ TooMuch k) ⊎ TooMuch a) ⊎ TooMuch b) ⊎ TooMuch c) ⊎ TooMuch d

  levels_fail : Fails (eqb sort 2 && money k && money a && money b && money c && money d) LevelsWrong
  levels_fail =
      both _ _
      (both _ _ (both _ _ (both _ _ (both _ _ (other sort 2) (above k most_money)) (above a most_money)) (above b most_money)) (above c most_money))
      (above d most_money)

  levels_amounts : sort ≡ 2 → LevelsWrong → OneOf TooMuch (k ∷ a ∷ b ∷ c ∷ d ∷ [])
  levels_amounts is (inl (inl (inl (inl (inl never))))) = absurd (never is)
  levels_amounts is (inl (inl (inl (inl (inr w))))) = here w
  levels_amounts is (inl (inl (inl (inr w)))) = later (here w)
  levels_amounts is (inl (inl (inr w))) = later (later (here w))
  levels_amounts is (inl (inr w)) = later (later (later (here w)))
  levels_amounts is (inr w) = later (later (later (later (here w))))

  amounts_levels : OneOf TooMuch (k ∷ a ∷ b ∷ c ∷ d ∷ []) → LevelsWrong
  amounts_levels (here w) = inl (inl (inl (inl (inr w))))
  amounts_levels (later (here w)) = inl (inl (inl (inr w)))
  amounts_levels (later (later (here w))) = inl (inl (inr w))
  amounts_levels (later (later (later (here w)))) = inl (inr w)
  amounts_levels (later (later (later (later (here w))))) = inr w
  amounts_levels (later (later (later (later (later x))))) = elim x [ ]

  not_levels : (sort ≡ 2 → ⊥) → LevelsWrong
  not_levels never = inl (inl (inl (inl (inl never))))

-- ---- The trip cap.

module _ (f : AreaFields) where
  -- what the test of the last three fields fails for
  abbrev LastWrong : Type 0
  LastWrong = ((f.cap3 ≡ 0 → ⊥) ⊎ (f.cap4 ≡ 0 → ⊥)) ⊎ (f.cap5 ≡ 0 → ⊥)

  unused_fails : Fails (unused f) LastWrong
  unused_fails = both _ _ (both _ _ (other f.cap3 0) (other f.cap4 0)) (other f.cap5 0)

  last_zeros : LastWrong → OneOf NotZero (f.cap3 ∷ f.cap4 ∷ f.cap5 ∷ [])
  last_zeros (inl (inl w)) = here w
  last_zeros (inl (inr w)) = later (here w)
  last_zeros (inr w) = later (later (here w))

  zeros_last : OneOf NotZero (f.cap3 ∷ f.cap4 ∷ f.cap5 ∷ []) → LastWrong
  zeros_last (here w) = inl (inl w)
  zeros_last (later (here w)) = inl (inr w)
  zeros_last (later (later (here w))) = inr w
  zeros_last (later (later (later x))) = elim x [ ]

  -- what the test of each sort fails for: another sort, or one of its fields
  abbrev NoneWrong : Type 0
  NoneWrong = (((f.sort ≡ 0 → ⊥) ⊎ (f.cap1 ≡ 0 → ⊥)) ⊎ (f.cap2 ≡ 0 → ⊥)) ⊎ LastWrong

  abbrev FlatWrong : Type 0
  FlatWrong = ((((f.sort ≡ 1 → ⊥) ⊎ TooMuch f.cap1) ⊎ (f.cap2 < least_minutes)) ⊎ (most_minutes < f.cap2)) ⊎ LastWrong

  abbrev CapsByLevel : Type 0
  CapsByLevel = LevelsWrong f.sort f.cap1 f.cap2 f.cap3 f.cap4 f.cap5

  sorts_fail : Fails (trip_cap_right f) ((NoneWrong × FlatWrong) × CapsByLevel)
  sorts_fail =
      either _ _
      (either _ _ (both _ _ (both _ _ (both _ _ (other f.sort 0) (other f.cap1 0)) (other f.cap2 0)) unused_fails)
      (both _ _
      (both _ _ (both _ _ (both _ _ (other f.sort 1) (above f.cap1 most_money)) (above least_minutes f.cap2)) (above f.cap2 most_minutes))
      unused_fails))
      (levels_fail f.sort f.cap1 f.cap2 f.cap3 f.cap4 f.cap5)

  none_wrong : f.sort ≡ 0 → NoneWrong → WrongTripCap f
  none_wrong is (inl (inl (inl never))) = absurd (never is)
  none_wrong is (inl (inl (inr w))) = no_cap_zeros is (here w)
  none_wrong is (inl (inr w)) = no_cap_zeros is (later (here w))
  none_wrong is (inr w) = no_cap_zeros is (later (later (last_zeros w)))

  flat_wrong : f.sort ≡ 1 → FlatWrong → WrongTripCap f
  flat_wrong is (inl (inl (inl (inl never)))) = absurd (never is)
  flat_wrong is (inl (inl (inl (inr w)))) = flat_amount is w
  flat_wrong is (inl (inl (inr w))) = flat_short is w
  flat_wrong is (inl (inr w)) = flat_long is w
  flat_wrong is (inr w) = flat_zeros is (last_zeros w)

  -- a sort is one of three, or above 2
  cap_words : (NoneWrong × FlatWrong) × CapsByLevel → WrongTripCap f
  cap_words w =
      elim (ℕ_discrete f.sort 0) [
        | yes is ↦ none_wrong is w.0.0
        | no not_none ↦
            elim (ℕ_discrete f.sort 1) [
              | yes is ↦ flat_wrong is w.0.1
              | no not_flat ↦
                  elim (ℕ_discrete f.sort 2) [
                    | yes is ↦ level_amount is (levels_amounts f.sort f.cap1 f.cap2 f.cap3 f.cap4 f.cap5 is w.1)
                    | no not-two ↦ no_sort (omega arith)
                  ]
            ]
      ]

  -- the tests of other sorts fail for the sort
  abbrev NotSort : ℕ → Type 0
  NotSort n = f.sort ≡ n → ⊥

  not_none : NotSort 0 → NoneWrong
  not_none never = inl (inl (inl never))

  not_flat : NotSort 1 → FlatWrong
  not_flat never = inl (inl (inl (inl never)))

  not_by_level : NotSort 2 → CapsByLevel
  not_by_level = not_levels f.sort f.cap1 f.cap2 f.cap3 f.cap4 f.cap5

  zeros_none : OneOf NotZero (f.cap1 ∷ f.cap2 ∷ f.cap3 ∷ f.cap4 ∷ f.cap5 ∷ []) → NoneWrong
  zeros_none (here w) = inl (inl (inr w))
  zeros_none (later (here w)) = inl (inr w)
  zeros_none (later (later w)) = inr (zeros_last w)

  words_cap : WrongTripCap f → (NoneWrong × FlatWrong) × CapsByLevel
  words_cap (no_sort w) = ((not_none (λ e. omega arith), not_flat (λ e. omega arith)), not_by_level (λ e. omega arith))
  words_cap (no_cap_zeros is w) = ((zeros_none w, not_flat (λ e. omega arith)), not_by_level (λ e. omega arith))
  words_cap (flat_amount is w) = ((not_none (λ e. omega arith), inl (inl (inl (inr w)))), not_by_level (λ e. omega arith))
  words_cap (flat_short is w) = ((not_none (λ e. omega arith), inl (inl (inr w))), not_by_level (λ e. omega arith))
  words_cap (flat_long is w) = ((not_none (λ e. omega arith), inl (inr w)), not_by_level (λ e. omega arith))
  words_cap (flat_zeros is w) = ((not_none (λ e. omega arith), inr (zeros_last w)), not_by_level (λ e. omega arith))
  words_cap (level_amount is w) = (
    (not_none (λ e. omega arith), not_flat (λ e. omega arith)),
    amounts_levels f.sort f.cap1 f.cap2 f.cap3 f.cap4 f.cap5 w,
  )

  pub cap_wrong : trip_cap_right f ≡ false ↔ WrongTripCap f
  cap_wrong = (λ e. cap_words (sorts_fail.0 e), λ w. sorts_fail.1 (words_cap w))

-- ---- What kind 8 has besides.

module _ (f : AreaFields) (g : LongFields) where
  -- what the test of the last four tickets fails for
  abbrev RestWrong : Type 0
  RestWrong = ((NotZero g.child2 ⊎ NotZero g.child3) ⊎ NotZero g.child4) ⊎ NotZero g.child5

  rest_fails : Fails (tickets_unused g) RestWrong
  rest_fails = both _ _ (both _ _ (both _ _ (other g.child2 0) (other g.child3 0)) (other g.child4 0)) (other g.child5 0)

  rest_zeros : RestWrong → OneOf NotZero (g.child2 ∷ g.child3 ∷ g.child4 ∷ g.child5 ∷ [])
  rest_zeros (inl (inl (inl w))) = here w
  rest_zeros (inl (inl (inr w))) = later (here w)
  rest_zeros (inl (inr w)) = later (later (here w))
  rest_zeros (inr w) = later (later (later (here w)))

  zeros_rest : OneOf NotZero (g.child2 ∷ g.child3 ∷ g.child4 ∷ g.child5 ∷ []) → RestWrong
  zeros_rest (here w) = inl (inl (inl w))
  zeros_rest (later (here w)) = inl (inl (inr w))
  zeros_rest (later (later (here w))) = inl (inr w)
  zeros_rest (later (later (later (here w)))) = inr w
  zeros_rest (later (later (later (later x)))) = elim x [ ]

  -- what the test of each sort fails for: another sort, or one of its tickets
  abbrev NoTicketWrong : Type 0
  NoTicketWrong = ((f.sort ≡ 0 → ⊥) ⊎ NotZero g.child1) ⊎ RestWrong

  abbrev FlatTicketWrong : Type 0
  FlatTicketWrong = ((f.sort ≡ 1 → ⊥) ⊎ TooMuch g.child1) ⊎ RestWrong

  abbrev TicketsWrong : Type 0
  TicketsWrong = (NoTicketWrong × FlatTicketWrong) × LevelsWrong f.sort g.child1 g.child2 g.child3 g.child4 g.child5

  tickets_fail : Fails (tickets_right f g) TicketsWrong
  tickets_fail =
      either _ _
      (either _ _ (both _ _ (both _ _ (other f.sort 0) (other g.child1 0)) rest_fails)
      (both _ _ (both _ _ (other f.sort 1) (above g.child1 most_money)) rest_fails))
      (levels_fail f.sort g.child1 g.child2 g.child3 g.child4 g.child5)

  no_ticket_wrong : f.sort ≡ 0 → NoTicketWrong → WrongTickets f g
  no_ticket_wrong is (inl (inl never)) = absurd (never is)
  no_ticket_wrong is (inl (inr w)) = no_ticket_zeros is (here w)
  no_ticket_wrong is (inr w) = no_ticket_zeros is (later (rest_zeros w))

  flat_ticket_wrong : f.sort ≡ 1 → FlatTicketWrong → WrongTickets f g
  flat_ticket_wrong is (inl (inl never)) = absurd (never is)
  flat_ticket_wrong is (inl (inr w)) = flat_ticket is w
  flat_ticket_wrong is (inr w) = flat_ticket_zeros is (rest_zeros w)

  -- by the sort; one above 2 is wrong itself
  tickets_words : TicketsWrong → WrongTickets f g ⊎ (2 < f.sort)
  tickets_words w =
      elim (ℕ_discrete f.sort 0) [
        | yes is ↦ inl (no_ticket_wrong is w.0.0)
        | no not_none ↦
            elim (ℕ_discrete f.sort 1) [
              | yes is ↦ inl (flat_ticket_wrong is w.0.1)
              | no not_flat ↦
                  elim (ℕ_discrete f.sort 2) [
                    | yes is ↦
                        inl (level_ticket is (levels_amounts f.sort g.child1 g.child2 g.child3 g.child4 g.child5 is w.1))
                    | no not-two ↦ inr (omega arith)
                  ]
            ]
      ]

  zeros_no_ticket : OneOf NotZero (g.child1 ∷ g.child2 ∷ g.child3 ∷ g.child4 ∷ g.child5 ∷ []) → NoTicketWrong
  zeros_no_ticket (here w) = inl (inr w)
  zeros_no_ticket (later w) = inr (zeros_rest w)

  -- the tests of other sorts fail for the sort
  no_levels : (f.sort ≡ 2 → ⊥) → LevelsWrong f.sort g.child1 g.child2 g.child3 g.child4 g.child5
  no_levels = not_levels f.sort g.child1 g.child2 g.child3 g.child4 g.child5

  words_tickets : WrongTickets f g → TicketsWrong
  words_tickets (no_ticket_zeros is w) = ((zeros_no_ticket w, inl (inl (λ e. omega arith))), no_levels (λ e. omega arith))
  words_tickets (flat_ticket is w) = ((inl (inl (λ e. omega arith)), inl (inr w)), no_levels (λ e. omega arith))
  words_tickets (flat_ticket_zeros is w) = ((inl (inl (λ e. omega arith)), inr (zeros_rest w)), no_levels (λ e. omega arith))
  words_tickets (level_ticket is w) = (
    (inl (inl (λ e. omega arith)), inl (inl (λ e. omega arith))),
    amounts_levels f.sort g.child1 g.child2 g.child3 g.child4 g.child5 w,
  )

  abbrev LongWrong : Type 0
  LongWrong = (TicketsWrong ⊎ TooMuch g.bicycle_price) ⊎ (NotZero g.town × ((2 < g.town) ⊎ (f.level ≡ 2 → ⊥)))

  long_fails : Fails (long_right f g) LongWrong
  unfolding long_right
  long_fails =
      both _ _ (both _ _ tickets_fail (above g.bicycle_price most_money))
      (either _ _ (other g.town 0) (both _ _ (above g.town 2) (other f.level 2)))

  kind_fails : (kind : ℕ) → Fails (cond (eqb kind aachen_kind) (long_right f g) true) ((kind ≡ aachen_kind) × LongWrong)
  kind_fails kind =
      elim (ℕ_discrete kind aachen_kind) [
        | yes is ↦ rw (eq-eqb kind aachen_kind is) (λ e. (is, long_fails.0 e), λ w. long_fails.1 w.1)
        | no never ↦ rw (ne_eqb kind aachen_kind never) (λ e. absurd (false≢true (sym e)), λ w. absurd (never w.0))
      ]

-- ---- The place.

module _ (b : List ℕ) (so_far : Counts) (kind : ℕ) (f : AreaFields) where
  -- what the test of the first area fails for, and what that of a later one
  abbrev FirstWrong : Type 0
  FirstWrong = ((f.level ≡ 0 → ⊥) ⊎ (f.parent ≡ 0 → ⊥)) ⊎ (kind ≡ common_kind → ⊥)

  abbrev CityWrong : Type 0
  CityWrong = ((f.level ≡ 2 → ⊥) ⊎ (level_of b f.parent ≡ 1 → ⊥)) ⊎ (kind_of b f.parent ≡ kind → ⊥)

  abbrev LaterWrong : Type 0
  LaterWrong =
      ((so_far.areas ≤ f.parent) ⊎ (((f.level ≡ 1 → ⊥) ⊎ (f.parent ≡ 0 → ⊥)) × CityWrong))
      ⊎ (((f.level ≡ 1 → ⊥) ⊎ (kind ≡ aachen_kind → ⊥)) × (flat_of b f.parent < f.bicycle_flat))

  first_fails : Fails (eqb f.level 0 && eqb f.parent 0 && eqb kind common_kind) FirstWrong
  first_fails = both _ _ (both _ _ (other f.level 0) (other f.parent 0)) (other kind common_kind)

  later_fails :
      Fails
      (ltb f.parent so_far.areas
      && (eqb f.level 1 && eqb f.parent 0
      || eqb f.level 2 && eqb (level_of b f.parent) 1 && eqb (kind_of b f.parent) kind)
      && (eqb f.level 1 && eqb kind aachen_kind || leb f.bicycle_flat (flat_of b f.parent)))
      LaterWrong
  later_fails =
      both _ _
      (both _ _ (not_below f.parent so_far.areas)
      (either _ _ (both _ _ (other f.level 1) (other f.parent 0))
      (both _ _ (both _ _ (other f.level 2) (other (level_of b f.parent) 1)) (other (kind_of b f.parent) kind))))
      (either _ _ (both _ _ (other f.level 1) (other kind aachen_kind)) (above f.bicycle_flat (flat_of b f.parent)))

  -- by the level: a region's parent is wrong, or what is wrong with a city
  by_level : 0 < so_far.areas → (f.level ≡ 1 → f.parent ≡ 0 → ⊥) → (f.level ≡ 2 → WrongPlace b so_far kind f) → WrongPlace b so_far kind f
  by_level some region city =
      elim (ℕ_discrete f.level 0) [
        | yes is ↦ second_state some is
        | no not_state ↦
            elim (ℕ_discrete f.level 1) [
              | yes is ↦ region_parent some is (region is)
              | no not-region ↦ elim (ℕ_discrete f.level 2) [ yes is ↦ city is | no not-city ↦ high_level (omega arith) ]
            ]
      ]

  lacking_parent : 0 < so_far.areas → so_far.areas ≤ f.parent → WrongPlace b so_far kind f
  lacking_parent some lacking = by_level some (λ _ e. omega arith) (λ is. city_parent some is (λ earlier _. omega arith))

  city_words : 0 < so_far.areas → f.level ≡ 2 → CityWrong → WrongPlace b so_far kind f
  city_words some is (inl (inl never)) = absurd (never is)
  city_words some is (inl (inr never)) = city_parent some is (λ _ parent. never parent)
  city_words some is (inr never) =
      elim (dec_lt f.parent so_far.areas) [
        | yes earlier ↦ city_kind some is earlier never
        | no lacking ↦ city_parent some is (λ earlier _. lacking earlier)
      ]

  later_words : 0 < so_far.areas → LaterWrong → WrongPlace b so_far kind f
  later_words some (inl (inl lacking)) = lacking_parent some lacking
  later_words some (inl (inr (region, city))) =
      by_level some (λ is zero-parent. ⊎_elim (λ never. never is) (λ never. never zero-parent) region) (λ is. city_words some is city)
  later_words some (inr (compared, high)) =
      elim (dec_lt f.parent so_far.areas) [
        | yes earlier ↦ flat_above some earlier (λ is long. ⊎_elim (λ never. never is) (λ never. never long) compared) high
        | no lacking ↦ lacking_parent some (omega arith)
      ]

  words_later : 0 < so_far.areas → WrongPlace b so_far kind f → LaterWrong
  words_later some (state_level none never) = absurd (omega arith)
  words_later some (state_parent none never) = absurd (omega arith)
  words_later some (state_kind none never) = absurd (omega arith)
  words_later some (second_state _ is) = inl (inr (inl (λ e. omega arith), inl (inl (λ e. omega arith))))
  words_later some (high_level w) = inl (inr (inl (λ e. omega arith), inl (inl (λ e. omega arith))))
  words_later some (region_parent _ is never) = inl (inr (inr never, inl (inl (λ e. omega arith))))
  words_later some (city_parent _ is never) =
      elim (dec_lt f.parent so_far.areas) [
        | yes earlier ↦ inl (inr (inl (λ e. omega arith), inl (inr (never earlier))))
        | no lacking ↦ inl (inl (omega arith))
      ]
  words_later some (city_kind _ is earlier never) = inl (inr (inl (λ e. omega arith), inr never))
  words_later some (flat_above _ earlier compared high) =
      inr (elim (ℕ_discrete f.level 1) [ yes is ↦ (inr (compared is), high) | no never ↦ (inl never, high) ])

  first_words : so_far.areas ≡ 0 → FirstWrong → WrongPlace b so_far kind f
  first_words none (inl (inl never)) = state_level none never
  first_words none (inl (inr never)) = state_parent none never
  first_words none (inr never) = state_kind none never

  words_first : so_far.areas ≡ 0 → WrongPlace b so_far kind f → FirstWrong
  words_first none (state_level _ never) = inl (inl never)
  words_first none (state_parent _ never) = inl (inr never)
  words_first none (state_kind _ never) = inr never
  words_first none (second_state some is) = absurd (omega arith)
  words_first none (high_level w) = inl (inl (λ e. omega arith))
  words_first none (region_parent some is never) = absurd (omega arith)
  words_first none (city_parent some is never) = absurd (omega arith)
  words_first none (city_kind some is earlier never) = absurd (omega arith)
  words_first none (flat_above some earlier compared high) = absurd (omega arith)

  pub place_fails : place_right b so_far kind f ≡ false ↔ WrongPlace b so_far kind f
  unfolding place_right
  place_fails =
      elim (ℕ_discrete so_far.areas 0) [
        | yes none ↦
            rw (eq-eqb so_far.areas 0 none) (λ e. first_words none (first_fails.0 e), λ w. first_fails.1 (words_first none w))
        | no some ↦
            rw (ne_eqb so_far.areas 0 some)
            (λ e. later_words (omega arith) (later_fails.0 e), λ w. later_fails.1 (words_later (omega arith) w))
      ]

-- ---- The whole area.

module _ (b : List ℕ) (so_far : Counts) (kind : ℕ) (f : AreaFields) (g : LongFields) where
  abbrev PricesWrong : Type 0
  PricesWrong =
      (((((most_base_price < f.base_price) ⊎ (most_price_per_km < f.price_per_km)) ⊎ (f.validity < least_minutes)) ⊎ (most_minutes < f.validity))
      ⊎ (most_percent < f.surcharge))
      ⊎ (most_percent < f.reduction)

  prices_fail : Fails (prices_right f) PricesWrong
  prices_fail =
      both _ _
      (both _ _
      (both _ _
      (both _ _ (both _ _ (above f.base_price most_base_price) (above f.price_per_km most_price_per_km)) (above least_minutes f.validity))
      (above f.validity most_minutes))
      (above f.surcharge most_percent))
      (above f.reduction most_percent)

  abbrev CapsWrong : Type 0
  CapsWrong = (WrongTripCap f ⊎ (TooMuch f.day_cap × (f.day_cap ≡ no_day_cap → ⊥))) ⊎ TooMuch f.bicycle_flat

  caps_fail : Fails (caps_right f) CapsWrong
  unfolding caps_right
  caps_fail =
      both _ _
      (both _ _ (cap_wrong f) (either _ _ (above f.day_cap most_money) (other f.day_cap no_day_cap)))
      (above f.bicycle_flat most_money)

  abbrev AreaWrong : Type 0
  AreaWrong = ((PricesWrong ⊎ CapsWrong) ⊎ WrongPlace b so_far kind f) ⊎ ((kind ≡ aachen_kind) × LongWrong f g)

  area_fails : Fails (area_right b so_far kind f g) AreaWrong
  area_fails = both _ _ (both _ _ (both _ _ prices_fail caps_fail) (place_fails b so_far kind f)) (kind_fails f g kind)

  prices_words : PricesWrong → WrongArea b so_far kind f g
  prices_words (inl (inl (inl (inl (inl w))))) = high_base w
  prices_words (inl (inl (inl (inl (inr w))))) = high_rate w
  prices_words (inl (inl (inl (inr w)))) = short_validity w
  prices_words (inl (inl (inr w))) = long_validity w
  prices_words (inl (inr w)) = high_surcharge w
  prices_words (inr w) = high_reduction w

  caps_words : CapsWrong → WrongArea b so_far kind f g
  caps_words (inl (inl w)) = wrong_trip_cap w
  caps_words (inl (inr (much, some))) = high_day_cap much some
  caps_words (inr w) = high_flat w

  long_words : kind ≡ aachen_kind → LongWrong f g → WrongArea b so_far kind f g
  long_words is (inl (inl w)) = ⊎_elim (wrong_tickets is) (λ high. wrong_trip_cap (no_sort high)) (tickets_words f g w)
  long_words is (inl (inr w)) = high_bicycle_price is w
  long_words is (inr (marked, inl high)) = high_town is high
  long_words is (inr (marked, inr no-city)) = town_marked is marked no-city

  words_area : WrongArea b so_far kind f g → AreaWrong
  words_area (high_base w) = inl (inl (inl (inl (inl (inl (inl (inl w)))))))
  words_area (high_rate w) = inl (inl (inl (inl (inl (inl (inl (inr w)))))))
  words_area (short_validity w) = inl (inl (inl (inl (inl (inl (inr w))))))
  words_area (long_validity w) = inl (inl (inl (inl (inl (inr w)))))
  words_area (high_surcharge w) = inl (inl (inl (inl (inr w))))
  words_area (high_reduction w) = inl (inl (inl (inr w)))
  words_area (wrong_trip_cap w) = inl (inl (inr (inl (inl w))))
  words_area (high_day_cap much some) = inl (inl (inr (inl (inr (much, some)))))
  words_area (high_flat w) = inl (inl (inr (inr w)))
  words_area (wrong_place w) = inl (inr w)
  words_area (wrong_tickets is w) = inr (is, inl (inl (words_tickets f g w)))
  words_area (high_bicycle_price is w) = inr (is, inl (inr w))
  words_area (high_town is w) = inr (is, inr (λ e. omega arith, inl w))
  words_area (town_marked is marked no-city) = inr (is, inr (marked, inr no-city))

  -- An area's values are refused exactly when one is wrong.
  pub area_wrong : area_right b so_far kind f g ≡ false ↔ WrongArea b so_far kind f g
  area_wrong = (
    λ e. ⊎_elim (⊎_elim (⊎_elim prices_words caps_words) wrong_place) (λ w. long_words w.0 w.1) (area_fails.0 e),
    λ w. area_fails.1 (words_area w),
  )

-- what the test of a factor record fails for
abbrev FactorWrong : Factor → ℕ → Type 0
FactorWrong f before =
    ((f.factor < 1) ⊎ (most_factor < f.factor)) ⊎ (NotZero f.mark × ((f.mark ≡ 1 → ⊥) ⊎ (before ≤ 0)))

-- So are a factor record's.
pub factor_wrong : (f : Factor) (before : ℕ) → factor_right f before ≡ false ↔ WrongFactor f before
factor_wrong f before = (λ e. to (fails.0 e), λ w. fails.1 (back w))
  where
    fails : Fails (factor_right f before) (FactorWrong f before)
    fails =
        both _ _ (both _ _ (above 1 f.factor) (above f.factor most_factor))
        (either _ _ (other f.mark 0) (both _ _ (other f.mark 1) (not_below 0 before)))

    to : FactorWrong f before → WrongFactor f before
    to (inl (inl w)) = low_factor w
    to (inl (inr w)) = high_factor w
    to (inr (marked, inl not-one)) = high_mark (omega arith)
    to (inr (marked, inr first)) = state_marked (omega arith) marked

    back : WrongFactor f before → FactorWrong f before
    back (low_factor w) = inl (inl w)
    back (high_factor w) = inl (inr w)
    back (high_mark w) = inr (λ e. omega arith, inl (λ e. omega arith))
    back (state_marked first marked) = inr (marked, inr (omega arith))

-- And so are a stop's.
pub stop_wrong : (f : StopFields) (areas : ℕ) → stop_right f areas ≡ false ↔ WrongStop f areas
stop_wrong f areas = (λ e. to (fails.0 e), λ w. fails.1 (back w))
  where
    fails : Fails (stop_right f areas) (((areas ≤ f.area) ⊎ (most_metres < f.x)) ⊎ (most_metres < f.y))
    fails = both _ _ (both _ _ (not_below f.area areas) (above f.x most_metres)) (above f.y most_metres)

    to : ((areas ≤ f.area) ⊎ (most_metres < f.x)) ⊎ (most_metres < f.y) → WrongStop f areas
    to (inl (inl w)) = lacking_area w
    to (inl (inr w)) = far_x w
    to (inr w) = far_y w

    back : WrongStop f areas → ((areas ≤ f.area) ⊎ (most_metres < f.x)) ⊎ (most_metres < f.y)
    back (lacking_area w) = inl (inl w)
    back (far_x w) = inl (inr w)
    back (far_y w) = inr w
