-- A roll is a run: its lines, whose text is what the program prints, are those of a run of the roll's records from a fresh book, each
-- offered with room for the largest statement. So promise 3 holds of what is printed, in each window.
-- Assumes nothing.
use Prim.Native.Nat.{ℕ, zero, suc, ◌≤◌, ◌<◌}
use mathlib.Core.Path.{◌≡◌, refl, ap, ◌∙◌}
use mathlib.Core.Bool.{cond}
use mathlib.Core.List.{List, [], ◌∷◌, ◌++◌, Memᴰ}
use lib.ListN.{length, take}
use lib.Seq.{take-append-le}
use Rattle.caps.specs.Rides.{PromiseThree}
use Rattle.editions.specs.declared.Editions.{Editions}
use Rattle.editions.specs.Reading.{ReadFile}
use Rattle.ledger.specs.Words.{fresh_book}
use Rattle.settle.specs.Outcome.{settled, book_after}
use Rattle.settle.specs.Runs.{Offer, run_from}
use Rattle.settle.specs.Steps.{settlings}
use Rattle.roll.specs.declared.Line.TheVariants.{Refused}
use Rattle.roll.specs.Lines.{offers_of, broken_in, line_of, lines_in, lines_of}
use Rattle.promises.specs.Runs.{RiderWindow, tree_at, windows_of}
use Rattle.promises.proofs.Promises.{promise_three}

-- the first lines of a run are those of its beginning
first_lines :
    (file book : List ℕ) (run : List Offer) (n : ℕ) → take n (lines_in (run_from file book run)) ≡ lines_in (run_from file book (take n run))
unfolding run_from lines_in
first_lines file book run zero = refl
first_lines file book [] (suc n) = refl
first_lines file book (o ∷ run) (suc n) =
    let outcome = settled file book o.bytes o.room in ap (line_of outcome ∷◌) (first_lines file (book_after outcome book) run n)

-- a run has a line for each of its trips
line_each : (file book : List ℕ) (run : List Offer) → length (lines_in (run_from file book run)) ≡ length run
unfolding run_from lines_in
line_each file book [] = refl
line_each file book (o ∷ run) = ap suc (line_each file (book_after (settled file book o.bytes o.room) book) run)

module _ (file roll : List ℕ) (records : ℕ) where
  -- the roll's records, in order
  abbrev run : List Offer
  run = offers_of records roll

  -- The lines of a roll are those of a run of its records, with one line more for a broken frame at its end.
  pub roll_is_a_run :
      lines_of records file fresh_book roll
      ≡ lines_in (run_from file fresh_book run) ++ cond (broken_in records roll) (Refused 5 ∷ []) []
  unfolding lines_of
  roll_is_a_run = refl

  -- So promise 3 holds of them, line by line: the first n are those of the run's first n trips, of which it holds for every rider in each
  -- window, by the tree of the edition in force at its opening.
  pub printed_promise_three :
      (editions : Editions) → ReadFile file editions → (n : ℕ) → n ≤ length run
      → (take n (lines_of records file fresh_book roll) ≡ lines_in (run_from file fresh_book (take n run)))
      × ((rider : ℕ) → rider < 21 → (window : RiderWindow) → Memᴰ window (windows_of file editions rider (settlings (take n run)))
      → PromiseThree (tree_at file editions window.opening rider) window.rides)
  printed_promise_three editions read n few = (
    ap (take n) roll_is_a_run
        ∙ take-append-le n (lines_in (run_from file fresh_book run)) _ (rw (line_each file fresh_book run) few)
        ∙ first_lines file fresh_book run n,
    λ rider known window there. promise_three file editions read rider known (settlings (take n run)) window there,
  )
