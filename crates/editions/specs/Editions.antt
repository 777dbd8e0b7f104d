-- Rules, section 4: a file has one or two editions, numbered 1 and 2 in order. Which is in force at a minute, and the bytes of each one's
-- tariff.
use Rattle.std.specs.Prelude.{ℕ, ◌+◌, ◌≤◌, ◌<◌, ◌≡◌, cond, List, length, take, drop, leb, eqb}
use Rattle.layout.specs.declared.Counts.{Counts}
use Rattle.layout.specs.Layout.{tariff_size}
use Rattle.editions.specs.declared.Edition.{Edition}
use Rattle.editions.specs.declared.Editions.{Editions}
use Rattle.editions.specs.declared.Editions.TheVariants.{One, Two}
use Rattle.editions.specs.Openings.{opening_size}

unfoldable pub many_of : Editions → ℕ
many_of (One first) = 1
many_of (Two first second) = 2

-- the edition of a number: the second for 2 where there are two, else the first
unfoldable pub edition_in : Editions → ℕ → Edition
edition_in (One first) number = first
edition_in (Two first second) number = cond (eqb number 2) second first

abbrev pub counts_in : Editions → ℕ → Counts
counts_in editions number = (edition_in editions number).counts

-- the first minute from which it is valid
abbrev pub since_of : Editions → ℕ → ℕ
since_of editions number = (edition_in editions number).since.0

-- the bytes of its tariff: what follows the record that opens it, up to the next such record or the file's end
unfoldable pub tariff_in : List ℕ → Editions → ℕ → List ℕ
tariff_in file (One first) number = drop opening_size file
tariff_in file (Two first second) number =
    cond (eqb number 2) (drop (opening_size + tariff_size first.counts + opening_size) file)
    (take (tariff_size first.counts) (drop opening_size file))

-- where it begins in the file, and where it ends
unfoldable pub start_in : Editions → ℕ → ℕ
start_in (One first) number = opening_size
start_in (Two first second) number = cond (eqb number 2) (opening_size + tariff_size first.counts + opening_size) opening_size

unfoldable pub end_in : List ℕ → Editions → ℕ → ℕ
end_in file (One first) number = length file
end_in file (Two first second) number = cond (eqb number 2) (length file) (opening_size + tariff_size first.counts)

-- the edition in force at a minute: the last whose first minute is not after it; 0 where there is none
unfoldable pub in_force : Editions → ℕ → ℕ
in_force (One first) minute = cond (leb first.since.0 minute) 1 0
in_force (Two first second) minute = cond (leb second.since.0 minute) 2 (cond (leb first.since.0 minute) 1 0)

-- the same in words: it is one of them, its first minute is not after the minute, and that of each later edition is; or there is none, and the
-- first minute of each is after it
pub data InForce (editions : Editions) (minute number : ℕ) : Type 0 where
  it : 1 ≤ number → number ≤ many_of editions → since_of editions number ≤ minute
      → ((later : ℕ) → number < later → later ≤ many_of editions → minute < since_of editions later) → InForce editions minute number
  none : number ≡ 0 → ((each : ℕ) → 1 ≤ each → each ≤ many_of editions → minute < since_of editions each) → InForce editions minute number
