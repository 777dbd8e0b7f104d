-- docs/RULES.md, section 9: the windows of a run one after another. Each opens at the check-in of one of its trips; the next at one that does
-- not fit the window before it; and no trip of one begins before those of the windows before it have ended.
use Rattle.std.specs.Prelude.{◌+◌, ◌≤◌, ◌<◌, ◌≡◌}
use mathlib.Core.List.{List, [], ◌∷◌, Memᴰ}
use Rattle.units.specs.Day.{day_minutes}
use Rattle.promises.specs.Runs.{Span, RiderWindow}

-- the trip that opens a window: one of its own, at whose check-in it opens
pub record Opener (window : RiderWindow) : Type 0 where
  pub trip : Span
  pub there : Memᴰ trip window.trips
  pub opens : window.opening ≡ trip.checkin

-- every trip of the one has ended when any of the other begins
abbrev pub Before : RiderWindow → RiderWindow → Type 0
Before earlier later = (trip next : Span) → Memᴰ trip earlier.trips → Memᴰ next later.trips → trip.checkout ≤ next.checkin

-- windows in a row, the latest first
pub data InRow : List RiderWindow → Type 0 where
  no_window : InRow []
  first_window : {window : RiderWindow} → Opener window → InRow (window ∷ [])
  next_window :
      {later latest : RiderWindow} {earlier : List RiderWindow} (opener : Opener later) → latest.opening + day_minutes < opener.trip.checkout
      → ((window : RiderWindow) → Memᴰ window (latest ∷ earlier) → Before window later) → InRow (latest ∷ earlier)
      → InRow (later ∷ latest ∷ earlier)
