-- One part of a trip posted after the other: where the window has room for both, the second is a ride on the book that has the first, in the same
-- window with one trip more.
-- Assumes nothing.
use Prim.Native.Nat.{ℕ, ◌+◌, ◌≤◌}
use native.Mathlib.Omega.{arith}
use mathlib.Core.Path.{◌≡◌, sym}
use mathlib.Core.Bool.{true}
use mathlib.Core.List.{List}
use Rattle.layout.specs.declared.Counts.{Counts}
use Rattle.trip.specs.declared.Ride.{Ride}
use Rattle.trip.specs.declared.Earlier.TheVariants.{Part}
use Rattle.ledger.specs.declared.Window.{Window}
use Rattle.ledger.specs.Words.{trips_of}
use Rattle.ledger.specs.Clauses.{WindowRight}
use Rattle.ledger.proofs.SoundLaws.{sound-alone, sound_covers}
use Rattle.ledger.proofs.WindowLaws.{window_room}
use Rattle.charging.specs.After.{posted}
use Rattle.charging.specs.Clauses.{Rideable, Ridden}
use Rattle.charging.proofs.PostedLaws.{posted_trips}
use Rattle.posting.proofs.SoundAgain.{posted_sound}

module _ {tariff : List ℕ} {counts : Counts} {book : List ℕ} {ride : Ride} {window : Window} (ok : Rideable tariff counts book window.current ride)
    {checkout : ℕ} (right : WindowRight book window checkout) where
  -- the book with the first part
  abbrev between : List ℕ
  between = posted tariff counts book window checkout ride

  -- it has one trip more
  pub next_trips : trips_of between ≡ window.trips + 1
  next_trips = posted_trips window ok checkout (window_room right) (omega (arith, right.head.few))

  -- Where the window has room for one trip more, it is right for another ride with the same check-out.
  pub next_right :
      window.trips + 2 ≤ 256
      → WindowRight between (record { current = true; opening = window.opening; trips = window.trips + 1; edition = window.edition }) checkout
  next_right few =
      let head = right.head in
      record {
        trips = sym next_trips;
        used = λ _. omega (arith, next_trips);
        head = record { some = omega arith; few = omega arith; order = head.order; last = head.last; day = head.day };
        edition = right.edition;
        small = right.small;
      }

  module _ {next : Ride} (ok' : Rideable tariff counts book window.current next) where
    -- The second part can be charged beside the book, with the first one pending.
    pub next_ridden : ride.class ≡ next.class → ride.party ≡ next.party → Ridden tariff counts book window.current next (Part ride)
    next_ridden class party =
        record { rideable = ok'; before = record { rideable = ok; room = window_room right; class = class; party = party } }

    -- It is a ride on the book that has the first one.
    pub next_rideable : Rideable tariff counts between true next
    next_rideable =
        record {
          read = ok'.read;
          alone = sound-alone between counts.areas (posted_sound ok right);
          covers = λ _. sound_covers between counts.areas (posted_sound ok right);
          area = ok'.area;
          km = ok'.km;
          minutes = ok'.minutes;
          adults = ok'.adults;
          children = ok'.children;
          bicycles = ok'.bicycles;
        }
