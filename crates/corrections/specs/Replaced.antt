-- The nth record in the bytes of a roll, the roll with other bytes in its place, and the run without it.
use Rattle.std.specs.Prelude.{ℕ, zero, suc, ◌+◌, ◌-◌, List, [], ◌∷◌, ◌++◌, take, drop}
use Rattle.wire.specs.Frame.{frame_at}
use Rattle.wire.specs.declared.Frame.TheVariants as frame
use Rattle.settle.specs.Runs.{Offer}

-- the bytes that the first so many records of a roll take
unfoldable pub place_of : ℕ → List ℕ → ℕ
place_of zero roll = 0
place_of (suc k) roll =
    elim (frame_at roll 0) [
      | frame.Broken ↦ 0
      | frame.Whole kind body ↦ 4 + body + place_of k (drop (4 + body) roll)
    ]

-- the nth record's own bytes, counted from 1
unfoldable pub record_in : ℕ → List ℕ → List ℕ
record_in zero roll = []
record_in (suc k) roll = take (place_of (suc k) roll - place_of k roll) (drop (place_of k roll) roll)

-- the roll with other bytes in their place
unfoldable pub replaced_in : ℕ → List ℕ → List ℕ → List ℕ
replaced_in zero replacement roll = roll
replaced_in (suc k) replacement roll = take (place_of k roll) roll ++ (replacement ++ drop (place_of (suc k) roll) roll)

-- the records without the nth
unfoldable pub without : ℕ → List Offer → List Offer
without zero offers = offers
without (suc n) [] = []
without (suc zero) (offer ∷ later) = later
without (suc (suc n)) (offer ∷ later) = offer ∷ without (suc n) later
