-- The tests of a trip's stops: how each goes on from stop to stop, and what its answer means.
-- Assumes nothing.
use Prim.Native.Nat.{ℕ, zero, suc, ◌+◌, ◌-◌, ◌<◌}
use native.Mathlib.Omega.{arith}
use mathlib.Core.Path.{◌≡◌, refl, sym, ◌∙◌}
use mathlib.Core.Logic.{◌↔◌}
use mathlib.Core.Bool.{Bool, true, false, ◌&&◌, and-true, false≢true}
use mathlib.Core.List.{List}
use borrow.Author.Tests.{ltb-true, ltb-false, lt-ltb, le-ltb, eqb-true, eq-eqb}
use lib.Dec.{eqb, ltb}
use Rattle.wire.specs.Each.{each}
use Rattle.wire.proofs.Each.{each_none, each_more, each_at, each_all, each_fails}
use Rattle.wire.proofs.Tests.{both_left, both_right}
use Rattle.trip.specs.Record.{stop_number}
use Rattle.trip.specs.Trips.{stops_known, one_stop, mistap_end, is_mistap}
use Rattle.trip.specs.Conditions.{LackingStop, Mistap}

-- a test that does not hold at each of the first numbers fails at one of them
each_lacks : (n : ℕ) (test : ℕ → Bool) → each n test ≡ false → (k : ℕ) × (k < n) × (test k ≡ false)
unfolding each
each_lacks zero test e = absurd (false≢true (sym e))
each_lacks (suc n) test e = go (test n) refl (each_lacks n test)
  where
    go : (t : Bool) → test n ≡ t → (each n test ≡ false → (k : ℕ) × (k < n) × (test k ≡ false)) → (k : ℕ) × (k < suc n) × (test k ≡ false)
    go true is before =
        let found = before (sym (and-true (each n test)) ∙ rw is at e) in
        (found.0, omega arith, found.2)
    go false is before = (n, omega arith, is)

module _ (b : List ℕ) (known : ℕ) where
  pub known_none : stops_known b 0 known ≡ true
  unfolding stops_known
  known_none = each_none _

  pub known_more : (i : ℕ) → stops_known b (i + 1) known ≡ stops_known b i known && ltb (stop_number b i) known
  unfolding stops_known
  known_more i = each_more i _

  -- The tariff has the stops exactly when it has each one.
  pub known_at : (n : ℕ) → stops_known b n known ≡ true ↔ ((i : ℕ) → i < n → stop_number b i < known)
  unfolding stops_known
  known_at n =
      (λ e i h. ltb-true (stop_number b i) known (each_at n _ e i h), λ all. each_all n _ (λ i h. lt-ltb (stop_number b i) known (all i h)))

  -- 7 in the rules' words.
  pub seven : (n : ℕ) → stops_known b n known ≡ false ↔ LackingStop b n known
  unfolding stops_known
  seven n = (
    λ e.
        let one = each_lacks n _ e in
        record { i = one.0; of_trip = one.1; lacking = ltb-false (stop_number b one.0) known one.2 },
    λ w. each_fails n _ w.i w.of_trip (le-ltb (stop_number b w.i) known w.lacking),
  )

module _ (b : List ℕ) where
  pub one_none : one_stop b 0 ≡ true
  unfolding one_stop
  one_none = each_none _

  pub one_more :
      (i : ℕ) {one : Bool} {stop first : ℕ} → one ≡ one_stop b i → stop ≡ stop_number b i → first ≡ stop_number b 0 → one && eqb stop first ≡ one_stop b (i + 1)
  unfolding one_stop
  one_more i one stop first = rw (one, stop, first) (sym (each_more i _))

  -- All stops are one exactly when each is the first.
  pub one_at : (n : ℕ) → one_stop b n ≡ true ↔ ((i : ℕ) → i < n → stop_number b i ≡ stop_number b 0)
  unfolding one_stop
  one_at n =
      (λ e i h. eqb-true (stop_number b i) (stop_number b 0) (each_at n _ e i h), λ all. each_all n _ (λ i h. eq-eqb (stop_number b i) (stop_number b 0) (all i h)))

  -- 17 in the rules' words.
  pub seventeen : (n from to : ℕ) → is_mistap b n from to ≡ true ↔ Mistap b n from to
  seventeen n from to = (
    λ e.
        record {
          one-stop = (one_at n).0 (both_left (one_stop b n) (ltb (to - from) mistap_end) e);
          short = ltb-true (to - from) mistap_end (both_right (one_stop b n) (ltb (to - from) mistap_end) e);
        },
    λ w. rw ((one_at n).1 w.one-stop, lt-ltb (to - from) mistap_end w.short),
  )
