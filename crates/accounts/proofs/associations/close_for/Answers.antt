-- `accounts::associations::close_for` meets its contract: 21, or an account in its places is closed.
use borrow.Author.Tests.{le-leb, lt-leb}
use Rattle.accounts.proofs.Placing.{refusal_told}
use Rattle.accounts.proofs.Halves.{closed-for, closed_none}
use Rattle.accounts.proofs.associations.close_for.Goals as goal

pub returns-then-association-gt1 : goal.returns-then-association-gt1
returns-then-association-gt1 c =
    let a = c.args in
    refusal_told (closed_none a.association a.page.now a.member (lt-leb a.association 1 c.if-association-gt1.true)) c.refuse.ensures

pub returns : goal.returns
returns c =
    let a = c.args in
    rw (closed-for a.association a.page.now a.member (le-leb a.association 1 c.if-association-gt1.false)) c.close.ensures
