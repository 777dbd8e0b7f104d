-- What the functions ask of their callers and promise them beside the definitions. A reader of the rules needs none of it.
use Rattle.std.specs.Prelude.{◌≡◌, ℕ, ◌+◌, ◌^◌, ◌<◌, ◌≤◌, Bool, true, cond, List}
use Rattle.units.specs.Day.{day_minutes}
use Rattle.calendar.specs.Stamps.{last_minute}
use Rattle.ledger.specs.declared.Window.{Window}
use Rattle.ledger.specs.Words.{word, trips_of}
use Rattle.ledger.specs.Sound.{pairs_sound}

-- a word of the book
pub record Word (book : List ℕ) (place r : ℕ) : Type 0 where
  pub value : r ≡ word book place
  pub range : r < 2 ^ 32

-- the words from one place to another with their bits put together: none is set exactly where all of them are 0
pub record BitsOf (book : List ℕ) (from to bits : ℕ) : Type 0 where
  pub none : bits ≡ 0 → (k : ℕ) → from ≤ k → k < to → word book k ≡ 0
  pub clear : ((k : ℕ) → from ≤ k → k < to → word book k ≡ 0) → bits ≡ 0

-- a fast way over the pairs says only where all of them are sound
pub record PairsClear (book : List ℕ) (most : ℕ) (r : Bool) : Type 0 where
  pub all_sound : r ≡ true → pairs_sound book most ≡ true

-- a window in use: its trips, its opening and its last check-out
pub record HeadRight (t opening out : ℕ) : Type 0 where
  pub some : 1 ≤ t
  pub few : t ≤ 256
  pub order : opening ≤ out
  pub last : out ≤ last_minute
  pub day : out ≤ opening + day_minutes

-- what the window of a trip has: the trips of the words that count, and with one more a head whose opening is right for the check-out; and an
-- edition, which a byte holds
pub record WindowRight (book : List ℕ) (window : Window) (checkout : ℕ) : Type 0 where
  pub trips : window.trips ≡ cond window.current (trips_of book) 0
  pub used : window.current ≡ true → 1 ≤ trips_of book
  pub head : HeadRight (window.trips + 1) window.opening.0 checkout
  pub edition : 1 ≤ window.edition
  pub small : window.edition ≤ 255
