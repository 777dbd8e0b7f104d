-- `accounts::associations::settle_own` meets its contract: 21, or a trip is settled in its places.
use native.Mathlib.Omega.{arith}
use lib.ListN.{length}
use borrow.Author.Tests.{le-leb, lt-leb}
use Rattle.settle.proofs.Ways.{refusal_told}
use Rattle.accounts.proofs.Halves.{settled-for-under, settled_none_under}
use Rattle.accounts.proofs.associations.settle_own.Goals as goal

pub returns-then-association-gt1 : goal.returns-then-association-gt1
returns-then-association-gt1 c =
    let a = c.args in
    let none = lt-leb a.association 1 c.if-association-gt1.true in
    rw c.refuse.ensures
    (refusal_told _ _ _ _ 0 (settled_none_under a.association a.page.now a.member none a.file.now a.editions a.trip.now (length a.statement.now)) (omega arith))

pub returns : goal.returns
returns c =
    let a = c.args in
    let one = le-leb a.association 1 c.if-association-gt1.false in
    rw (settled-for-under a.association a.page.now a.member one a.file.now a.editions a.trip.now (length a.statement.now)) c.settle_found.ensures
