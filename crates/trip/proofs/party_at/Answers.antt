-- `trip::party_at` meets its contract: each number is read at its place of the layout.
use native.Mathlib.Nat.{add_assoc}
use Rattle.trip.specs.Record.{party_at}
use Rattle.trip.proofs.party_at.Goals as goal

pub returns : goal.returns
unfolding party_at
returns c =
    simp (
      c.one_at.ensures.value,
      c.one_at-2.ensures.value,
      c.one_at-3.ensures.value,
      add_assoc,
    )
