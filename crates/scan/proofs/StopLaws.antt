-- Stops that stand one after another: so many more, and that they are passed like stops one by one.
-- Assumes nothing.
use Rattle.std.proofs.Common.{◌≡◌, ℕ, zero, suc, ◌+◌, ◌-◌, ◌*◌, ◌<◌, ◌≤◌, true, List, length, refl, ◌∙◌, arith, below_none}
use native.Mathlib.Numerals.{unary_clauses}
use native.Mathlib.Decide.{dec_lt}
use Rattle.wire.specs.Number.{get_le}
use Rattle.wire.specs.Frame.{frame_at}
use Rattle.wire.specs.declared.Frame.TheVariants.{Whole}
use Rattle.wire.proofs.Frames.{whole_back}
use Rattle.layout.specs.declared.Counts.{Counts}
use Rattle.layout.specs.Layout.{stop_body, stop_size, most_stops, more_stops}
use Rattle.layout.specs.Fields.{stop_fields}
use Rattle.layout.specs.Rules.{factors_due, stop_right}
use Rattle.scan.specs.Clauses.{stop_stands, StopsStand}
use Rattle.layout.specs.Scan.{entry_at, FaultlessUntil}
use Rattle.layout.specs.declared.Entry.TheVariants.{Stop}
use Rattle.wire.proofs.Tests.{told}
use Rattle.layout.proofs.Entries.{stop_frame, stop_is_due, stop-holds}
use Rattle.layout.proofs.FaultlessUntil.{passed_stop}

-- None is asked for; one stands; so many, and so many from where they end; of so many, fewer.
module _ (b : List ℕ) (from areas : ℕ) where
  pub none_stand : StopsStand b from areas 0
  none_stand = record { each = below_none _ }

  pub one_stands : stop_stands b from areas ≡ true → StopsStand b from areas 1
  one_stands stands =
      record { each = λ i h. let first : from + stop_size * i ≡ from = omega arith in rw first stands }

  pub more_stand : (m n : ℕ) → StopsStand b from areas m → StopsStand b (from + stop_size * m) areas n → StopsStand b from areas (m + n)
  more_stand m n first rest =
      record {
        each =
            λ i h.
            elim (dec_lt i m) [
              | yes early ↦ first.each i early
              | no late ↦
                  let place : from + stop_size * m + stop_size * (i - m) ≡ from + stop_size * i = omega arith in
                  rw place at (rest.each (i - m) (omega arith))
            ];
      }

  pub fewer_stand : (m n : ℕ) → n ≤ m → StopsStand b from areas m → StopsStand b from areas n
  fewer_stand m n few all = record { each = λ i h. all.each i (omega arith) }

module _ (b : List ℕ) where
  -- the length and kind of a stop are those of a whole frame
  stop_head : (at : ℕ) → at + stop_size ≤ length b → get_le 2 b at ≡ 11 → get_le 2 b (at + 2) ≡ 2 → frame_at b at ≡ Whole 2 stop_body
  stop_head at fits long kind =
      whole_back b at 2 stop_body (record { kind_is = omega arith; length_is = omega arith; fits = omega arith; short = omega arith })

  -- What the tests of `stop_stands` let through, an area and the factor records due before it, is a faultless stop.
  stop-stands :
      (at : ℕ) (so_far : Counts) → 0 < so_far.areas → so_far.factors ≡ factors_due b so_far → at + stop_size ≤ length b → so_far.stops < most_stops
      → stop_stands b at so_far.areas ≡ true → entry_at b at so_far ≡ Stop
  unfolding stop_stands
  stop-stands at so_far some all fits few e =
      let frame = stop_head at fits (search told) (search told) in
      let right : stop_right (stop_fields b at) so_far.areas ≡ true = search told in
      stop_frame b at so_far stop_body frame
      ∙ stop_is_due b at so_far stop_body (factors_due b so_far) refl
      (stop-holds b at so_far (record { frame = frame; some = some; all = all; few = few })) right

  -- Where all before a place is faultless, it is so past the stops that stand there too.
  pub passed_stops :
      (n at : ℕ) (so_far : Counts) → 0 < so_far.areas → so_far.factors ≡ factors_due b so_far → at + stop_size * n ≤ length b
      → so_far.stops + n ≤ most_stops → StopsStand b at so_far.areas n → FaultlessUntil b at so_far → FaultlessUntil b (at + stop_size * n) (more_stops so_far n)
  passed_stops zero at so_far some all fits few s p = simp unary_clauses p
  passed_stops (suc n) at so_far some all fits few s p =
      let before =
      passed_stops n at so_far some all (omega arith) (omega arith) (record { each = λ i h. s.each i (omega arith) }) p
      in
      let place : at + stop_size * n + stop_size ≡ at + stop_size * suc n = omega arith in
      let count : so_far.stops + n + 1 ≡ so_far.stops + suc n = omega arith in
      rw (place, count)
      at (passed_stop b (at + stop_size * n) (more_stops so_far n) before
      (stop-stands (at + stop_size * n) (more_stops so_far n) some all (omega arith) (omega arith) (s.each n (omega arith))))
