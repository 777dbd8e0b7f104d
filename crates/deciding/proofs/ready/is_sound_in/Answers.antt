-- `deciding::ready::is_sound_in` meets its contract: each early return is a part of the definition that does not hold, and the last is what is
-- left of it.
use native.Mathlib.Omega.{arith}
use mathlib.Core.Path.{◌≡◌, sym, ◌∙◌}
use mathlib.Core.Bool.{true}
use borrow.Author.Tests.{le-leb, lt-leb}
use Rattle.ledger.specs.Sound.{sound_alone}
use Rattle.ledger.proofs.SoundLaws.{alone_sized}
use Rattle.deciding.specs.Refusals.{sound_in}
use Rattle.deciding.proofs.ready.is_sound_in.Goals as goal

pub returns-then-not-is_sound_alone : goal.returns-then-not-is_sound_alone
unfolding sound_in
returns-then-not-is_sound_alone c = rw (sym c.is_sound_alone.ensures ∙ c.if-not-is_sound_alone.true)

pub get-edition-requires : goal.get-edition-requires
get-edition-requires c =
    let alone : sound_alone c.args.book.now ≡ true = sym c.is_sound_alone.ensures ∙ c.if-not-is_sound_alone.false in
    (alone_sized _ alone, omega arith)

pub returns-then-edition-many_of : goal.returns-then-edition-many_of
unfolding sound_in
returns-then-edition-many_of c =
    let alone : sound_alone c.args.book.now ≡ true = sym c.is_sound_alone.ensures ∙ c.if-not-is_sound_alone.false in
    rw (alone, ← c.get-edition.ensures.value, ← c.many_of.ensures.0, lt-leb _ _ c.if-edition-many_of.true)

pub covers_within-requires : goal.covers_within-requires
covers_within-requires c =
    let alone : sound_alone c.args.book.now ≡ true = sym c.is_sound_alone.ensures ∙ c.if-not-is_sound_alone.false in
    alone_sized _ alone

pub returns : goal.returns
unfolding sound_in
returns c =
    let alone : sound_alone c.args.book.now ≡ true = sym c.is_sound_alone.ensures ∙ c.if-not-is_sound_alone.false in
    rw (
      alone,
      ← c.get-edition.ensures.value,
      ← c.many_of.ensures.0,
      le-leb _ _ c.if-edition-many_of.false,
      ← c.counts_in-counts.ensures,
    )
    c.covers_within.ensures
