-- What the contracts say: a text was put behind what was put before; or in front of a place of a slice, or behind one.
use Rattle.std.specs.Prelude.{ℕ, ◌+◌, ◌≤◌, ◌≡◌, List, ◌++◌, length, take, drop}

-- the text stands behind what was put before; it is at most so long
pub record Put (text : List ℕ) (most : ℕ) (before after : List ℕ) : Type 0 where
  pub put : after ≡ before ++ text
  pub room : length after ≤ length before + most

-- from `start` on stand the text, and behind it what stood from `end` on; it took at most so many places
pub record Before (text : List ℕ) (most : ℕ) (before : List ℕ) (end : ℕ) (after : List ℕ) (start : ℕ) : Type 0 where
  pub put : drop start after ≡ text ++ drop end before
  pub order : start ≤ end
  pub room : end ≤ start + most

-- up to `end` stand what stood up to `place`, and the text behind it; it took at most so many places
pub record Behind (text : List ℕ) (most : ℕ) (before : List ℕ) (place : ℕ) (after : List ℕ) (end : ℕ) : Type 0 where
  pub put : take end after ≡ take place before ++ text
  pub order : place ≤ end
  pub room : end ≤ place + most
