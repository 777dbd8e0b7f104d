-- `prices::trip_cap` meets its contract: each arm's sort, and the test or the level's answer in it, decide the definition's cases.
use borrow.Author.Tests.{le-leb, lt-leb}
use borrow.Author.Rules.{rules}
use Rattle.prices.specs.Prices.{trip_cap}
use Rattle.prices.proofs.trip_cap.Goals as goal

pub returns-in-NoCap : goal.returns-in-NoCap
unfolding trip_cap
returns-in-NoCap c = rw c.in-NoCap.is

pub returns-then-minutes-most : goal.returns-then-minutes-most
unfolding trip_cap
returns-then-minutes-most c =
    rw (c.in-Flat.is, le-leb _ _ c.if-minutes-most.true)

pub returns-else-minutes-most : goal.returns-else-minutes-most
unfolding trip_cap
returns-else-minutes-most c =
    rw (c.in-Flat.is, lt-leb _ _ c.if-minutes-most.false)

pub returns-in-UpTo : goal.returns-in-UpTo
unfolding trip_cap
returns-in-UpTo c =
    search rules

pub returns-in-NoCap-level_cap : goal.returns-in-NoCap-level_cap
unfolding trip_cap
returns-in-NoCap-level_cap c =
    search rules

pub returns-in-Refused : goal.returns-in-Refused
unfolding trip_cap
returns-in-Refused c =
    search rules
