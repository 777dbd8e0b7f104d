-- A fresh book is sound under every file: it is so under every tariff, and names no edition.
-- Assumes nothing.
use native.Mathlib.Omega.{arith}
use mathlib.Core.Path.{◌≡◌}
use mathlib.Core.Bool.{true}
use Rattle.editions.specs.declared.Editions.{Editions}
use Rattle.editions.specs.Editions.{counts_in}
use Rattle.ledger.specs.Words.{fresh_book, edition_place}
use Rattle.ledger.proofs.WordLaws.{word_fresh}
use Rattle.ledger.proofs.SoundLaws.{fresh_sound}
use Rattle.deciding.specs.Refusals.{sound_in}
use Rattle.deciding.proofs.Decisions.{in-back}

pub fresh_in : (editions : Editions) → sound_in editions fresh_book ≡ true
fresh_in editions = in-back editions fresh_book (word_fresh edition_place) (omega arith) (fresh_sound (counts_in editions 0).areas)
