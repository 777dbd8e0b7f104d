-- A dearer price, over the runs of Promises.antt. Take two windows of a rider under one edition, of two runs or of one, with all rides of one
-- class. Where the second differs from the first by dearer prices in one area alone, the rider's total never falls, and it never grows by more
-- than the increase.
-- Assumes nothing.
use Prim.Native.Nat.{ℕ, ◌+◌, ◌≤◌, ◌<◌}
use native.Mathlib.Omega.{arith}
use mathlib.Core.Path.{◌≡◌, subst}
use mathlib.Core.Bool.{true, cond}
use mathlib.Core.List.{List, Memᴰ}
use lib.Dec.{eqb}
use Rattle.caps.specs.Rides.{charges, own_prices, one_class, totals_alone, OneDearer}
use Rattle.caps.proofs.OneClass.{dearer_prices, totals_grow}
use Rattle.editions.specs.declared.Editions.{Editions}
use Rattle.editions.specs.Editions.{counts_in, tariff_in, in_force}
use Rattle.editions.specs.Reading.{ReadFile}
use Rattle.charging.specs.Caps.{tree_of}
use Rattle.charging.specs.Charging.{is_child}
use Rattle.settle.specs.Steps.{Step}
use Rattle.promises.specs.Runs.{RiderWindow, counts_at, tree_at, windows_of}
use Rattle.promises.proofs.Promises.{tree_is, one_class_sum}

module _ (file : List ℕ) (editions : Editions) (read : ReadFile file editions) (rider : ℕ) (known : rider < 21) (run run' : List Step)
    (window window' : RiderWindow) (there : Memᴰ window (windows_of file editions rider run))
    (there' : Memᴰ window' (windows_of file editions rider run'))
    (same : in_force editions window'.opening ≡ in_force editions window.opening) (class : ℕ) (one : one_class class window.rides ≡ true)
    (other : one_class class window'.rides ≡ true) (increase : ℕ) where
  -- the second window's total, by the first one's edition
  total' : charges window'.rides ≡ totals_alone (tree_at file editions window.opening rider) class window'.rides
  total' =
      subst
      (λ (edition : ℕ).
      charges window'.rides
      ≡ totals_alone (tree_of (tariff_in file editions edition) (counts_in editions edition) (is_child rider)) class window'.rides)
      same (one_class_sum file editions read rider known run' window' there' class other)

  -- Where the prices of one area's rides are dearer by `increase` in all, and those of each other area are the same,
  pub dearer_area :
      (a : ℕ)
      → ((x : ℕ) → x < (counts_at editions window.opening).areas
      → own_prices x window'.rides ≡ own_prices x window.rides + cond (eqb a x) increase 0)
      → (charges window.rides ≤ charges window'.rides) × (charges window'.rides ≤ charges window.rides + increase)
  dearer_area a prices =
      let total = one_class_sum file editions read rider known run window there class one in
      let is = tree_is file editions read rider known (in_force editions window.opening) in
      let (least, most) = totals_grow is class window.rides window'.rides a increase prices in
      (omega (arith, total, total', least), omega (arith, total, total', most))

  -- and so where the rides, each with its area and its price, are the same in any order but for one price.
  pub dearer_ride :
      OneDearer increase window.rides window'.rides
      → (charges window.rides ≤ charges window'.rides) × (charges window'.rides ≤ charges window.rides + increase)
  dearer_ride dearer = dearer_area dearer.area (λ x h. dearer_prices window.rides window'.rides dearer x)
