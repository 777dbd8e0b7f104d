-- `ledger::sound::pairs_sound` meets its contract: where the fast way says so, all pairs are right; else after i turns the flag says whether the first i pairs are right, and each turn is one pair more.
use Rattle.std.proofs.Common.{sym, arith}
use Rattle.wire.proofs.Each.{each_none}
use Rattle.ledger.specs.Words.{pairs}
use Rattle.ledger.specs.Sound.{pairs_sound}
use Rattle.ledger.proofs.SoundLaws.{pair_right, one_pair_more, all_done}
use Rattle.ledger.proofs.sound.pairs_sound.Goals as goal

pub returns-then-pairs_clear : goal.returns-then-pairs_clear
returns-then-pairs_clear c = sym (c.pairs_clear.ensures.all_sound c.if-pairs_clear.true)

pub loop-i-init : goal.loop-i-init
loop-i-init c = (omega arith, sym (each_none (pair_right c.args.book.now c.args.most)))

pub loop-i-preserved : goal.loop-i-preserved
loop-i-preserved c = (
  omega arith,
  one_pair_more c.args.book.now _ _ _ _ _ _ c.loop-i.invariant.1
      c.pair_at-place.ensures.0
      c.get-second.ensures.value
      c.get-all.ensures.value,
)

pub returns : goal.returns
unfolding pairs_sound
returns c =
    all_done pairs _ (pair_right c.args.book.now c.args.most) _
    c.loop-i.invariant.0
    c.loop-i-test.false
    c.loop-i.invariant.1
