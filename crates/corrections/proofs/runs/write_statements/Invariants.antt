use mathlib.Core.Path.{◌≡◌}
use lib.ListN.{length}
use Rattle.corrections.specs.Corrections.{settled_with, statements_in}
use Rattle.corrections.specs.Clauses.{rest_of}
use Rattle.corrections.proofs.Turns.{statements_left, Writing}
use Rattle.corrections.proofs.runs.write_statements.Given as goal

abbrev pub invariant-loop-size : goal.invariant-loop-size
invariant-loop-size l =
    Writing (statements_in (settled_with l.file l.roll l.n l.replacement)) l.initial.statements (statements_left l.file l.book (rest_of l.roll l.replacement l.cursor)) l.end l.statements
    × ((length l.book ≡ length l.initial.book) × (length l.statements ≡ length l.initial.statements))

abbrev pub decreases-loop-size : goal.decreases-loop-size
decreases-loop-size l = l.cursor.left
