-- Each turn reads one bicycle's two words and writes them, and leaves those of the bicycles to come as they were. What is held of the bicycle before
-- is right for its words, so it is right for a bicycle that has the same.
use native.Mathlib.Omega.{arith}
use mathlib.Core.Path.{sym, ap, ◌∙◌}
use lib.ListN.{length}
use Rattle.areas.proofs.Faultless.{faultless}
use Rattle.ledger.specs.Words.{word}
use Rattle.ledger.proofs.WordLaws.{size_put}
use Rattle.posting.proofs.PostTurns.{bicycles_start, bicycles_turn, bicycles_end, bicycles_none}
use Rattle.posting.proofs.cover_bicycles.Goals as goal

pub returns-then-count-eq0 : goal.returns-then-count-eq0
returns-then-count-eq0 c =
    let a = c.args in
    bicycles_none a.tariff.now a.counts a.at a.count a.book.now c.if-count-eq0.true

pub terms_of-own-requires : goal.terms_of-own-requires
terms_of-own-requires c = let p = c.requires in (p.read, p.area)

pub loop-i-init : goal.loop-i-init
loop-i-init c =
    let p = c.requires in
    let few = (faultless _ _ p.read).few_areas in
    (bicycles_start p.size p.few p.covers p.payments, record { right = λ known. absurd (omega arith) })

pub cover-place-requires : goal.cover-place-requires
cover-place-requires c = omega (arith, c.requires.few)

pub get-old-requires : goal.get-old-requires
get-old-requires c = (c.loop-i.invariant.0.size, c.cover-place.ensures.1)

pub overflow_cast-old : goal.overflow_cast-old
overflow_cast-old c = omega (arith, c.get-old.ensures.range)

pub payments-paying-requires : goal.payments-paying-requires
payments-paying-requires c = omega (arith, c.requires.few)

pub get-requires : goal.get-requires
get-requires c = (c.loop-i.invariant.0.size, c.payments-paying.ensures.1)

pub words_found-last-requires : goal.words_found-last-requires
words_found-last-requires c =
    let p = c.requires in
    let l = c.loop-i in
    let more = c.loop-i-test.true in
    let old = c.get-old.ensures.value ∙ ap (word l.book) c.cover-place.ensures.0 in
    let paid = c.get.ensures.value ∙ ap (word l.book) c.payments-paying.ensures.0 in (
      p.read,
      (
        c.terms_of-own.ensures,
        (
          p.area,
          (
            omega (arith, old, l.invariant.0.covers l.i (omega arith) more),
            (omega (arith, paid, l.invariant.0.payments l.i (omega arith) more), l.invariant.1),
          ),
        ),
      ),
    )

pub overflow_cast-after : goal.overflow_cast-after
overflow_cast-after c = omega (arith, c.words_found-last.ensures.left.known, (faultless _ _ c.requires.read).few_areas)

pub put-requires : goal.put-requires
put-requires c = (c.loop-i.invariant.0.size, c.cover-place.ensures.1)

pub put-requires-in-loop-i : goal.put-requires-in-loop-i
put-requires-in-loop-i c = (ap length c.put.ensures ∙ size_put _ _ _ ∙ c.loop-i.invariant.0.size, c.payments-paying.ensures.1)

pub overflow_step-i : goal.overflow_step-i
overflow_step-i c = omega (arith, c.loop-i-test.true, c.requires.few)

pub loop-i-smaller : goal.loop-i-smaller
loop-i-smaller c = omega (arith, c.loop-i-test.true)

pub loop-i-preserved : goal.loop-i-preserved
loop-i-preserved c =
    let found = c.words_found-last.ensures in (
      bicycles_turn c.loop-i.invariant.0 c.loop-i-test.true c.cover-place.ensures.0
          c.get-old.ensures.value c.payments-paying.ensures.0 c.get.ensures.value found.left.cover
          found.left.payments c.put.ensures c.put-in-loop-i.ensures,
      record { right = λ known. rw (found.cover, found.payments) found.left },
    )

pub shape_of-book : goal.shape_of-book
shape_of-book c = c.loop-i.invariant.0.size ∙ sym c.requires.size

pub returns : goal.returns
returns c = bicycles_end c.loop-i.invariant.0 c.loop-i-test.false
