-- `ledger::sound::covers_within` meets its contract: after i turns the flag says whether the first i bicycle words are right, and each turn is
-- one test more.
use Rattle.std.proofs.Common.{ℕ, leb, sym, ap, ◌∙◌, arith}
use Rattle.wire.proofs.Each.{each_none}
use Rattle.ledger.specs.Words.{word}
use Rattle.ledger.specs.Sound.{covers_sound}
use Rattle.ledger.proofs.SoundLaws.{cover_right, one_more, all_done}
use Rattle.ledger.proofs.sound.covers_within.Goals as goal

pub loop-i-init : goal.loop-i-init
loop-i-init c = (omega arith, sym (each_none (cover_right c.args.book.now c.args.areas)))

pub loop-i-preserved : goal.loop-i-preserved
loop-i-preserved c =
    let book = c.args.book.now in
    let areas = c.args.areas in (
      omega arith,
      one_more _ (cover_right book areas) _ _ c.loop-i.invariant.1
          (ap (λ (w : ℕ). leb w areas) (c.get.ensures.value ∙ ap (word book) c.cover.ensures.0)),
    )

pub returns : goal.returns
unfolding covers_sound
returns c =
    all_done 10 _ (cover_right c.args.book.now c.args.areas) _
    c.loop-i.invariant.0
    c.loop-i-test.false
    c.loop-i.invariant.1
