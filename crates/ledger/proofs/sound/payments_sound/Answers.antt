-- `ledger::sound::payments_sound` meets its contract: after i turns the flag says whether the first i payments are right, and each turn is
-- one test more.
use Rattle.std.proofs.Common.{ℕ, leb, sym, ap, ◌∙◌, arith}
use Rattle.wire.proofs.Each.{each_none}
use Rattle.ledger.specs.Words.{word}
use Rattle.ledger.specs.Sound.{most_paid, payments_sound}
use Rattle.ledger.proofs.SoundLaws.{paid_right, one_more, all_done}
use Rattle.ledger.proofs.sound.payments_sound.Goals as goal

pub loop-i-init : goal.loop-i-init
loop-i-init c = (omega arith, sym (each_none (paid_right c.args.book.now)))

pub loop-i-preserved : goal.loop-i-preserved
loop-i-preserved c =
    let book = c.args.book.now in (
      omega arith,
      one_more _ (paid_right book) _ _ c.loop-i.invariant.1
          (ap (λ (w : ℕ). leb w most_paid) (c.get.ensures.value ∙ ap (word book) c.payments.ensures.0)),
    )

pub returns : goal.returns
unfolding payments_sound
returns c =
    all_done 10 _ (paid_right c.args.book.now) _
    c.loop-i.invariant.0
    c.loop-i-test.false
    c.loop-i.invariant.1
