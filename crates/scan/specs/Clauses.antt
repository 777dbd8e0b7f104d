-- What serves the contracts of blocks.rt and lib.rt alone: stops that stand one after another.
use Rattle.std.specs.Prelude.{◌≡◌, ℕ, ◌+◌, ◌*◌, ◌<◌, Bool, true, ◌&&◌, List, ◌==◌}
use Rattle.wire.specs.Number.{get_le}
use Rattle.layout.specs.Layout.{stop_body, stop_size}
use Rattle.layout.specs.Fields.{stop_fields}
use Rattle.layout.specs.Rules.{stop_right}

-- a stop record: its length and kind, and its values are right
unfoldable pub stop_stands : List ℕ → ℕ → ℕ → Bool
stop_stands b at areas = (get_le 2 b at == 2 + stop_body && get_le 2 b (at + 2) == 2) && stop_right (stop_fields b at) areas

-- so many of them, one after another from a place on
pub record StopsStand (b : List ℕ) (from areas many : ℕ) : Type 0 where
  pub each : (i : ℕ) → i < many → stop_stands b (from + stop_size * i) areas ≡ true
