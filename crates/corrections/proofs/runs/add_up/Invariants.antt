use mathlib.Core.Path.{◌≡◌}
use lib.ListN.{length}
use Rattle.statement.specs.Record.{largest_statement}
use Rattle.corrections.specs.Corrections.{settled_with, statements_in, paid_by}
use Rattle.corrections.specs.Clauses.{rest_of}
use Rattle.corrections.proofs.Turns.{statements_left, paid_left, Adding}
use Rattle.corrections.proofs.runs.add_up.Given as goal

abbrev pub invariant-loop-size : goal.invariant-loop-size
invariant-loop-size l =
    Adding (length (statements_in (settled_with l.file l.roll l.n l.replacement))) (λ payer. paid_by payer (settled_with l.file l.roll l.n l.replacement))
    (length (statements_left l.file l.book (rest_of l.roll l.replacement l.cursor))) (paid_left l.file l.book (rest_of l.roll l.replacement l.cursor)) l.cursor.left l.bytes l.sums
    × ((length l.book ≡ length l.initial.book) × (length l.statement ≡ largest_statement))

abbrev pub decreases-loop-size : goal.decreases-loop-size
decreases-loop-size l = l.cursor.left
