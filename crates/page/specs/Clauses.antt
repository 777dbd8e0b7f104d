-- What serves contracts alone: what looking at places of a page asks.
use Rattle.std.specs.Prelude.{ℕ, ◌+◌, ◌≤◌, ◌<◌, ◌≡◌, List, length}
use Rattle.page.specs.Pages.{places, page_size}

-- what looking at some places asks: a page of the right length, which has them all
pub record Looked (page : List ℕ) (first count : ℕ) : Type 0 where
  pub size : length page ≡ page_size
  pub there : first + count ≤ places

-- at one place
pub record OnPage (page : List ℕ) (place : ℕ) : Type 0 where
  pub size : length page ≡ page_size
  pub there : place < places
