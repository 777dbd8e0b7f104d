-- `scan::cap_words::long_found` meets its contract: the tickets and the price are told, and the town mark's test is the definition's.
use Rattle.std.proofs.Common.{sym}
use mathlib.Core.Bool.{false≢true}
use Rattle.layout.specs.Rules.{long_right}
use Rattle.scan.proofs.cap_words.long_found.Goals as goal

pub returns-then-not-tickets_found : goal.returns-then-not-tickets_found
returns-then-not-tickets_found c = record { told = λ e. absurd (false≢true e) }

pub returns : goal.returns
unfolding long_right
returns c =
    record {
      told =
          λ e.
          rw (c.tickets_found.ensures.told (c.if-not-tickets_found.false), sym c.town_at-town.ensures, sym c.level_at.ensures, e);
    }
