-- `put_run` meets its contract: a run's line is put where there is a run, and nothing elsewhere.
use native.Mathlib.Omega.{arith}
use mathlib.Core.Path.{sym}
use mathlib.Core.List.{append-nil}
use borrow.Author.Tests.{lt-ltb, le-ltb}
use Rattle.salvage.proofs.Texts.{run_line, no_line}
use Rattle.salvage.proofs.put_run.Goals as goal

pub returns-then-from-to : goal.returns-then-from-to
returns-then-from-to c =
    let args = c.args in
    rw (run_line args.from args.to (omega arith), lt-ltb args.from args.to (omega arith)) c.put_line.ensures

pub returns-else-from-to : goal.returns-else-from-to
returns-else-from-to c =
    let args = c.args in
    rw (no_line args.from args.to (omega arith), le-ltb args.from args.to (omega arith))
    (record { put = sym (append-nil _); room = omega arith })
