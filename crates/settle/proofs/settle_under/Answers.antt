-- `settle::settle_under` meets its contract: the book is refused, or what comes on a book that is sound.
use native.Mathlib.Omega.{arith}
use mathlib.Core.Path.{sym, ◌∙◌}
use Rattle.settle.proofs.Ways.{refusal_told, unsound_under}
use Rattle.settle.proofs.settle_under.Goals as goal

pub returns-then-not-is_sound_in : goal.returns-then-not-is_sound_in
returns-then-not-is_sound_in c =
    refusal_told _ _ _ _ 0
    (rw c.number.ensures (unsound_under _ _ _ _ _ (sym c.is_sound_in.ensures ∙ c.if-not-is_sound_in.true))) (omega arith)

pub settle_next-requires : goal.settle_next-requires
settle_next-requires c =
    record {
      read = c.requires;
      sound_book = sym c.is_sound_in.ensures ∙ c.if-not-is_sound_in.false;
    }
