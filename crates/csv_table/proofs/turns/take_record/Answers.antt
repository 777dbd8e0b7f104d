-- `turns::take_record` meets its contract: the run goes on behind a record unless it is the last one that can be numbered.
use native.Mathlib.Omega.{arith}
use mathlib.Core.Path.{◌≡◌}
use Rattle.csv_table.specs.Turns.{most_records}
use Rattle.csv_table.specs.Clauses.{put, ended}
use Rattle.csv_table.proofs.Taken.{last_effect, on_effect}
use Rattle.csv_table.proofs.turns.take_record.Goals as goal

pub returns-then-number-eq-MOST_RECORDS : goal.returns-then-number-eq-MOST_RECORDS
returns-then-number-eq-MOST_RECORDS g c =
    let last : c.args.number ≡ most_records = omega arith in
    rw (last_effect _ _ c.args.number last) (ended c.put_record.ensures)

pub returns : goal.returns
returns g c =
    let not_last : c.args.number ≡ most_records → ⊥ = λ is. omega arith in
    rw (on_effect _ _ c.args.number not_last) (put c.put_record.ensures)
