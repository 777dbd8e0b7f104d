-- `charging::state::state_bicycles` meets its contract. The loop's invariant: the charges of the first `i` bicycles are written, and what is held
-- is right for its words. The measure is the number of bicycles left.
use Prim.Native.Nat.{◌<◌}
use native.Mathlib.Omega.{arith}
use mathlib.Core.Path.{◌≡◌, ◌∙◌}
use Rattle.areas.proofs.Faultless.{faultless}
use Rattle.statement.proofs.Wrote.{nobody_wrote, length_wrote}
use Rattle.charging.specs.Charging.{in_turn}
use Rattle.charging.proofs.ChargeLaws.{ride_book, ride_words}
use Rattle.charging.proofs.EarlierLaws.{earlier_there, cover-after, paid-after}
use Rattle.charging.proofs.Stating.{bicycles_none, bicycles_more, bicycle_room}
use Rattle.charging.proofs.state.state_bicycles.Goals as goal

pub overflow_cast-count : goal.overflow_cast-count
overflow_cast-count c = omega (arith, c.requires.0.rideable.bicycles)

pub returns-then-count-eq0 : goal.returns-then-count-eq0
unfolding in_turn
returns-then-count-eq0 c = rw c.if-count-eq0.true (nobody_wrote _ _)

pub terms_of-own-requires : goal.terms_of-own-requires
terms_of-own-requires c = let p = c.requires.0.rideable in (p.read, p.area)

pub loop-i-init : goal.loop-i-init
loop-i-init c =
    let few = (faultless _ _ c.requires.0.rideable.read).few_areas in (
      omega arith,
      bicycles_none _ _ _,
      record { right = λ known. absurd (omega arith) },
    )

pub cover-requires : goal.cover-requires
cover-requires c = omega (arith, c.requires.0.rideable.bicycles)

pub get_in-found-requires : goal.get_in-found-requires
get_in-found-requires c = ((ride_book c.requires.0.rideable).size, c.cover.ensures.1)

pub payments-requires : goal.payments-requires
payments-requires c = omega (arith, c.requires.0.rideable.bicycles)

pub get_in-requires : goal.get_in-requires
get_in-requires c = ((ride_book c.requires.0.rideable).size, c.payments.ensures.1)

pub charge_found-last-requires : goal.charge_found-last-requires
charge_found-last-requires c =
    let r = c.requires.0 in
    let words = ride_words r.rideable in
    let few : c.loop-i.i < 10 = omega (arith, r.rideable.bicycles) in (
      r.rideable.read,
      (
        c.terms_of-own.ensures,
        (
          r.rideable.area,
          (
            earlier_there r,
            (
              rw (c.get_in-found.ensures.value, c.cover.ensures.0) (words.covers _ few),
              (rw (c.get_in.ensures.value, c.payments.ensures.0) (words.payments _ few), c.loop-i.invariant.2),
            ),
          ),
        ),
      ),
    )

pub write_charge-next-requires : goal.write_charge-next-requires
write_charge-next-requires c = bicycle_room c.loop-i.invariant.1 _ c.loop-i-test.true c.requires.1

pub loop-i-preserved : goal.loop-i-preserved
loop-i-preserved c =
    let r = c.requires.0 in
    let found = c.charge_found-last.ensures in (
      omega (arith, c.loop-i-test.true),
      bicycles_more c.loop-i.invariant.1
          (found.charge
          ∙ rw (
            c.get_in.ensures.value,
            c.payments.ensures.0,
            c.get_in-found.ensures.value,
            c.cover.ensures.0,
            cover-after r _ c.loop-i-test.true,
            paid-after r _ c.loop-i-test.true,
          ))
          c.write_charge-next.ensures,
      record { right = λ known. rw (found.cover, found.payments) found.charge },
    )

pub shape_of-statement : goal.shape_of-statement
shape_of-statement c = length_wrote c.loop-i.invariant.1.wrote

pub returns : goal.returns
returns c =
    let inv = c.loop-i.invariant in
    let all : c.loop-i.i ≡ c.args.ride.party.bicycles = omega (arith, inv.0, c.loop-i-test.false) in
    rw all at inv.1.wrote
