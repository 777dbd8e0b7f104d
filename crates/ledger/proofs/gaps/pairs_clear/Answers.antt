-- After i turns the first i pairs have second-class sums and gaps of no more than those with their bits put together.
use Rattle.std.proofs.Common.{arith}
use mathlib.Core.Bool.{false≢true}
use Rattle.ledger.proofs.GapLaws.{gaps_start, gaps_turn, gaps_end}
use Rattle.ledger.proofs.gaps.pairs_clear.Goals as goal

pub loop-i-init : goal.loop-i-init
loop-i-init c = gaps_start c.args.book.now

pub loop-i-preserved : goal.loop-i-preserved
loop-i-preserved c =
    gaps_turn c.wrapping_sub_u32-gaps.result c.loop-i.invariant c.loop-i-test.true c.pair_at-place.ensures.0 c.get-second.ensures.value
    c.get-all.ensures.value c.wrapping_sub_u32-gaps.ensures.value

pub returns-then-most-seconds : goal.returns-then-most-seconds
returns-then-most-seconds c = record { all_sound = λ clear. absurd (false≢true clear) }

pub returns : goal.returns
returns c =
    record {
      all_sound = λ clear. gaps_end c.loop-i.invariant c.loop-i-test.false (omega arith) clear (omega arith);
    }
