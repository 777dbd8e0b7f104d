-- `ledger::sound::is_sound` meets its contract: it makes the definition's two tests, and a book that passes the first has its length.
use Rattle.std.proofs.Common.{sym, ◌∙◌}
use Rattle.ledger.proofs.SoundLaws.{told_alone, told_never, alone_sized}
use Rattle.ledger.proofs.sound.is_sound.Goals as goal

pub returns-then-not-is_sound_alone : goal.returns-then-not-is_sound_alone
returns-then-not-is_sound_alone c = sym (told_never _ _ (sym c.is_sound_alone.ensures ∙ c.if-not-is_sound_alone.true))

pub covers_within-requires : goal.covers_within-requires
covers_within-requires c = alone_sized _ (sym c.is_sound_alone.ensures ∙ c.if-not-is_sound_alone.false)

pub returns : goal.returns
returns c =
    c.covers_within.ensures
    ∙ sym (told_alone _ _
    (sym c.is_sound_alone.ensures
    ∙ c.if-not-is_sound_alone.false))
