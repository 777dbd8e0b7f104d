-- A turn of the reading, by what stands at its place.
-- Assumes nothing.
use Prim.Native.Nat.{ℕ, suc, ◌+◌}
use mathlib.Core.Path.{◌≡◌}
use mathlib.Core.List.{List}
use Rattle.layout.specs.declared.Counts.{Counts}
use Rattle.layout.specs.declared.Reading.TheVariants.{Fault, Faultless}
use Rattle.layout.specs.declared.Entry.TheVariants.{End, Area, Factor, Stop, Faulty}
use Rattle.layout.specs.Layout.{factor_size, stop_size, area_end, one_area, more_factors, more_stops}
use Rattle.layout.specs.Scan.{entry_at, read_from}

module _ (turns : ℕ) (b : List ℕ) (at : ℕ) (so_far : Counts) where
  pub turn_end : entry_at b at so_far ≡ End → read_from (suc turns) b at so_far ≡ Faultless so_far
  unfolding read_from
  turn_end e = rw (e, read_from)

  pub turn_fault : (number : ℕ) → entry_at b at so_far ≡ Faulty number → read_from (suc turns) b at so_far ≡ Fault number at
  unfolding read_from
  turn_fault number e = rw (e, read_from)

  pub turn_area :
      (kind : ℕ) → entry_at b at so_far ≡ Area kind → read_from (suc turns) b at so_far ≡ read_from turns b (area_end b at) (one_area so_far kind)
  unfolding read_from
  turn_area kind e = rw (e, read_from)

  pub turn_factor : entry_at b at so_far ≡ Factor → read_from (suc turns) b at so_far ≡ read_from turns b (at + factor_size) (more_factors so_far 1)
  unfolding read_from
  turn_factor e = rw (e, read_from)

  pub turn_stop : entry_at b at so_far ≡ Stop → read_from (suc turns) b at so_far ≡ read_from turns b (at + stop_size) (more_stops so_far 1)
  unfolding read_from
  turn_stop e = rw (e, read_from)
