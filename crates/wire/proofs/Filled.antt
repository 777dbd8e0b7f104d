-- What a loop that fills a list comes to.
-- Assumes nothing.
use Prim.Native.Nat.{ℕ}
use mathlib.Core.Path.{◌≡◌, sym, ap, ◌∙◌}
use mathlib.Core.List.{List, ◌++◌, append-nil}
use lib.ListN.{length, drop, replicate}
use lib.Seq.{drop-length}

-- A list filled to its end is nothing but the filling.
pub filled :
    (n i v : ℕ) (d : List ℕ) {b : List ℕ} → b ≡ replicate i v ++ drop i d → i ≡ n → length d ≡ n → b ≡ replicate n v
filled n i v d e end size =
    e ∙ ap (λ (k : ℕ). replicate k v ++ drop k d) (end ∙ sym size)
    ∙ rw (drop-length d, append-nil) (ap (λ (k : ℕ). replicate k v) size)
