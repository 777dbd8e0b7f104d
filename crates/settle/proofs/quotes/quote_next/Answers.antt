-- `settle::quotes::quote_next` meets its contract: a refusal leaves the statement, and the records that were stated are the quote's.
use native.Mathlib.Omega.{arith}
use Rattle.settle.proofs.Ways.{unquoted_under, quote_refusal_told}
use Rattle.settle.proofs.Answers.{why-refused, quote-told}
use Rattle.settle.proofs.quotes.quote_next.Goals as goal

pub returns-in-Refused : goal.returns-in-Refused
returns-in-Refused c =
    let (decided, same) = why-refused c.state_trip.ensures c.in-Refused.is in
    rw same (quote_refusal_told _ _ _ 0 (rw c.number.ensures (unquoted_under _ _ _ _ _ decided)) (omega arith))

pub returns-in-Records : goal.returns-in-Records
returns-in-Records c = quote-told c.requires c.state_trip.ensures c.in-Records.is
