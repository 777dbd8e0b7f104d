-- `records::put_rows` meets its contract. The loop's invariant: behind what was put stand the lines of the first `i` charges. The measure is the
-- charges that are left.
use native.Mathlib.Omega.{arith}
use mathlib.Core.Path.{◌≡◌, sym, ap, ◌∙◌}
use borrow.Author.Rules.{rules}
use mathlib.Core.List.{◌++◌, append-nil}
use Rattle.reader.specs.declared.Amount.{Amount}
use Rattle.reader.specs.Fields.{charges_of}
use Rattle.reader.specs.Reading.{fields_for}
use Rattle.text.proofs.Puts.{put_join, put_same}
use Rattle.csv_table.specs.Text.{row_text, rows_text}
use Rattle.csv_table.proofs.Readings.{no_rows, one_row}
use Rattle.csv_table.proofs.records.put_rows.Goals as goal

pub charges_of-i-end-requires : goal.charges_of-i-end-requires
charges_of-i-end-requires g c = _

pub loop-i-init : goal.loop-i-init
loop-i-init g c =
    let args = c.args in (
      omega arith,
      c.charges_of-i-end.ensures,
      record {
        put = sym (append-nil args.out.now) ∙ ap (args.out.now ++◌) (sym (no_rows args.number (fields_for args.whole.now 0 args.whose)));
        room = omega arith;
      },
    )

pub amount_at-amount-requires : goal.amount_at-amount-requires
amount_at-amount-requires g c = record { readable = c.requires.1.readable; there = omega arith }

pub put_row-requires : goal.put_row-requires
put_row-requires g c =
    let few = c.requires.1.few in
    let room = c.loop-i.invariant.2.room in (search rules, (omega arith, (c.requires.1.opening, omega arith)))

pub loop-i-preserved : goal.loop-i-preserved
loop-i-preserved g c =
    let args = c.args in
    let now = c.loop-i in
    let amount = c.amount_at-amount in
    let fields = fields_for args.whole.now 0 args.whose in
    let head_is = c.requires.1.head_is in
    let lines = put_join now.invariant.2 c.put_row.ensures in (
      omega arith,
      now.invariant.1,
      put_same lines
          (ap
          (λ (a : Amount). rows_text args.number fields now.i ++ row_text args.number args.head args.whose now.i a)
          amount.ensures
          ∙ sym (one_row args.number args.whole.now args.head args.whose now.i head_is))
          (omega arith),
    )

pub returns : goal.returns
returns g c =
    let args = c.args in
    let now = c.loop-i in
    let few = c.requires.1.few in
    let all : now.i ≡ charges_of args.whose = omega arith in
    put_same now.invariant.2 (ap (rows_text args.number (fields_for args.whole.now 0 args.whose)) all) (omega arith)
