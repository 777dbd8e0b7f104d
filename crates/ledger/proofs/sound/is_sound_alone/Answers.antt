-- `ledger::sound::is_sound_alone` meets its contract: its tests are the definition's, in the same order. A sound head has at most 256 trips, so the
-- largest sum that it allows fits 32 bits.
use Rattle.std.proofs.Common.{sym, ◌∙◌, arith}
use Rattle.ledger.specs.Clauses.{HeadRight}
use Rattle.ledger.proofs.SoundLaws.{InUse, told_unsized, told_unused, told_wrong, told_right, head_has}
use Rattle.ledger.proofs.sound.is_sound_alone.Goals as goal

pub returns-then-book-ne-SIZE : goal.returns-then-book-ne-SIZE
returns-then-book-ne-SIZE c = sym (told_unsized _ c.if-book-ne-SIZE.true)

pub returns-then-trips-eq0 : goal.returns-then-trips-eq0
returns-then-trips-eq0 c =
    c.all_zero.ensures
    ∙ sym (told_unused _ c.if-book-ne-SIZE.false
    (sym c.get-trips.ensures.value ∙ c.if-trips-eq0.true))

pub returns-then-not-head_sound : goal.returns-then-not-head_sound
returns-then-not-head_sound c =
    let used : InUse c.args.book.now
    c.get-trips.result
    c.get.result
    c.get-2.result = record {
      size = c.if-book-ne-SIZE.false;
      some = c.if-trips-eq0.false;
      trips = c.get-trips.ensures.value;
      opened = c.get.ensures.value;
      last = c.get-2.ensures.value;
    } in
    sym (told_wrong _ used
    (sym c.head_sound.ensures ∙ c.if-not-head_sound.true))

pub overflow_mul-trips : goal.overflow_mul-trips
overflow_mul-trips c =
    let right : HeadRight c.get-trips.result
    c.get.result
    c.get-2.result = head_has _ _ _ (sym c.head_sound.ensures ∙ c.if-not-head_sound.false) in
    omega (arith, right.few)

pub returns : goal.returns
returns c =
    let used : InUse c.args.book.now
    c.get-trips.result
    c.get.result
    c.get-2.result = record {
      size = c.if-book-ne-SIZE.false;
      some = c.if-trips-eq0.false;
      trips = c.get-trips.ensures.value;
      opened = c.get.ensures.value;
      last = c.get-2.ensures.value;
    } in
    let right : HeadRight c.get-trips.result
    c.get.result
    c.get-2.result = head_has _ _ _ (sym c.head_sound.ensures ∙ c.if-not-head_sound.false) in
    rw (c.pairs_sound.ensures, c.payments_sound.ensures, c.get-3.ensures.value)
    (sym (told_right _ used right))
