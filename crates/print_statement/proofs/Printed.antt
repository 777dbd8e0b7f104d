-- What the program writes, put together, is the table of the statement, whatever the pieces in which it came and whenever the program wrote; and
-- every statement is run through.
-- Assumes nothing.
use Prim.Native.Nat.{ℕ, ◌*◌, ◌≤◌, ◌<◌}
use native.Mathlib.Omega.{arith}
use mathlib.Core.Path.{◌≡◌, refl, ap, ◌∙◌}
use mathlib.Core.List.{List, ◌++◌, append_assoc}
use lib.ListN.{length}
use Rattle.streams.specs.Runs.{asks, puts, ends, State, turn_at, came, went, written, fed, holds, writes, Prints, goes_on, is_over}
use Rattle.streams.proofs.Printed.{Ends}
use Rattle.streams.proofs.Printed as run
use Rattle.csv_table.specs.Text.{csv_of}
use Rattle.csv_table.specs.Turns.{most_records, effect_of}
use Rattle.csv_table.specs.Turns as csv
use Rattle.csv_table.proofs.Whole.{puts_record, asks_more, table}
use Rattle.print_statement.specs.Prints.{numbered, turn_after, start}
use Rattle.print_statement.specs.Clauses.{records_left}

-- ---- What a turn does, by what is told of it.

asks_by : (d : csv.Effect) → numbered d ≡ asks → d ≡ csv.asks
unfolding numbered
asks_by csv.asks e = refl
asks_by (csv.puts used text number) e = absurd (let z : ◌≡◌ {A = ℕ} 0 1 = cc in omega arith)
asks_by (csv.ends text) e = absurd (let z : ◌≡◌ {A = ℕ} 0 1 = cc in omega arith)

puts_by : (d : csv.Effect) {used : ℕ} {text : List ℕ} {number : ℕ} → numbered d ≡ puts used text number → d ≡ csv.puts used text number
unfolding numbered
puts_by csv.asks e = absurd (let z : ◌≡◌ {A = ℕ} 0 1 = cc in omega arith)
puts_by (csv.puts used text number) e = cc
puts_by (csv.ends text) e = absurd (let z : ◌≡◌ {A = ℕ} 0 1 = cc in omega arith)

ends_by : (d : csv.Effect) {text : List ℕ} → numbered d ≡ ends text → d ≡ csv.ends text
unfolding numbered
ends_by csv.asks e = absurd (let z : ◌≡◌ {A = ℕ} 0 1 = cc in omega arith)
ends_by (csv.puts used text number) e = absurd (let z : ◌≡◌ {A = ℕ} 0 1 = cc in omega arith)
ends_by (csv.ends text) e = cc

-- ---- All turns.

-- what is written is what is held, and behind it what the turns put, one behind the other
turns_of :
    {s : State ℕ} {statement texts : List ℕ} → Prints turn_after s statement texts
    → (text : List ℕ) × csv.Turns s.kept s.more s.carried statement text × (texts ≡ s.held ++ text)
unfolding turn_at turn_after came went written
turns_of (goes_on (fed piece e) told on) = let rest = turns_of on in (rest.0, csv.fed piece (asks_by _ e) (told e) rest.1, rest.2)
turns_of (goes_on {s} (holds {text = text} e) told on) =
    let rest = turns_of on in
    (text ++ rest.0, csv.went_on (puts_by _ e) rest.1, rest.2 ∙ append_assoc s.held text rest.0)
turns_of (goes_on {s} (writes {text = text} e) told on) =
    let rest = turns_of on in
    (text ++ rest.0, csv.went_on (puts_by _ e) rest.1, ap ((s.held ++ text) ++◌) rest.2 ∙ append_assoc s.held text rest.0)
turns_of (is_over {text = text} e) = (text, csv.is_over (ends_by _ e), refl)

-- What is written from the start on is the statement's table: of any statement that has no more bytes than 2 ^ 66 - 4.
pub printed :
    (statement texts : List ℕ) → length statement ≤ 4 * most_records → Prints turn_after start statement texts → texts ≡ csv_of statement
unfolding start
printed statement texts short prints = let all = turns_of prints in all.2 ∙ table statement all.0 short all.1

-- ---- Every statement is run through.

ends_all : Ends turn_after (λ number. number < most_records) records_left
unfolding turn_after
ends_all =
    record {
      at_put =
          λ kept more number used text on few e.
          let put = puts_record kept more number (puts_by (effect_of kept more number) e) in
          let not_last = put.not_last in
          let is = put.next_is in (omega (arith, few), omega (arith, few));
      at_asks = λ kept more number e. asks_more kept more number (asks_by (effect_of kept more number) e);
    }

pub runs : (statement : List ℕ) → (texts : List ℕ) × Prints turn_after start statement texts
unfolding start
runs statement = run.runs ends_all start statement (omega arith)
