-- Posting leaves a book of bytes a book of bytes.
-- Assumes nothing.
use Prim.Native.Nat.{ℕ, ◌*◌, ◌<◌}
use mathlib.Core.Path.{◌≡◌, refl, sym, ap}
use mathlib.Core.List.{List}
use Rattle.wire.specs.Number.{Bytes}
use Rattle.wire.proofs.Number.{bytes_stay}
use Rattle.layout.specs.declared.Counts.{Counts}
use Rattle.areas.specs.Areas.{FaultlessTariff}
use Rattle.trip.specs.declared.Ride.{Ride}
use Rattle.ledger.specs.declared.Window.{Window}
use Rattle.ledger.specs.Words.{word, put_word}
use Rattle.ledger.specs.Windows.{in_window, opened}
use Rattle.charging.specs.After.{posted}
use Rattle.charging.proofs.AlikeBooks.{Alike, Touches, posted_alike}

-- the same book of bytes twice
abbrev Twice : List ℕ → List ℕ → Type 0
Twice b b' = (b ≡ b') × Bytes b

twice_alike : Alike Twice (λ i. Unit)
twice_alike =
    record {
      same = λ b b' s p known. ap (λ (c : List ℕ). word c p) (sym s.0);
      put = λ b b' s p v. (ap (λ (c : List ℕ). put_word c p v) s.0, bytes_stay 4 b (4 * p) v s.1);
    }

opened_bytes : (window : Window) (checkout : ℕ) (b : List ℕ) → Bytes b → Bytes (opened window checkout b)
unfolding opened
opened_bytes window checkout b bytes = bytes_stay 4 _ _ _ (bytes_stay 4 _ _ _ (bytes_stay 4 _ _ _ (bytes_stay 4 _ _ _ bytes)))

-- A ride leaves a book of bytes where the words that count are one.
pub posted_bytes :
    {tariff : List ℕ} {counts : Counts} → FaultlessTariff tariff counts → (ride : Ride) → ride.area < counts.areas → (book : List ℕ) (window : Window)
    (checkout : ℕ) → Bytes (in_window window.current book) → Bytes (posted tariff counts book window checkout ride)
posted_bytes t ride there book window checkout bytes =
    let touches : Touches (λ i. Unit) _ ride =
    record { adults = λ i h a h'. (tt, tt); children = λ i h a h'. (tt, tt); bicycles = λ i h. (tt, tt) }
    in
    (posted_alike twice_alike t ride there touches window window checkout checkout book book (refl, bytes)
    (refl, opened_bytes window checkout (in_window window.current book) bytes)).1
