-- `charging::state::state_riders` meets its contract. The loop's invariant: the first `i` riders are written, each charged by the chain with what
-- stands of it in the earlier part's record, and what is held is right for the next. The measure is the number of riders left.
use Prim.Native.Nat.{◌+◌, ◌<◌}
use native.Mathlib.Omega.{arith}
use mathlib.Core.Path.{◌≡◌, ap}
use Rattle.statement.proofs.Wrote.{nobody_wrote, length_wrote}
use Rattle.charging.specs.declared.Person.{Person}
use Rattle.charging.specs.Charging.{in_turn}
use Rattle.charging.proofs.ChargeLaws.{ride_book, priceable}
use Rattle.charging.proofs.AlikeLaws.{held_next}
use Rattle.charging.proofs.EarlierLaws.{earlier_there}
use Rattle.charging.proofs.Stating.{turns_none, turns_more, next_room, paid_there, turn_fits, turn_charged, turns_all}
use Rattle.charging.proofs.state.state_riders.Goals as goal

pub returns-then-count-eq0 : goal.returns-then-count-eq0
unfolding in_turn
returns-then-count-eq0 c = rw c.if-count-eq0.true (nobody_wrote _ _)

pub record_size-size-requires : goal.record_size-size-requires
record_size-size-requires c = tt

pub area-requires : goal.area-requires
area-requires c = let p = c.requires.ridden.rideable in (p.read, p.area)

pub price-fare-requires : goal.price-fare-requires
price-fare-requires c = rw c.area.ensures (priceable c.requires.ridden.rideable)

pub chain_of-chain-requires : goal.chain_of-chain-requires
chain_of-chain-requires c = let r = c.requires.ridden in (r.rideable.read, (r.rideable.area, earlier_there r))

pub loop-i-init : goal.loop-i-init
loop-i-init c =
    let few : c.args.riders.first < 21 = omega (arith, c.requires.of_party.known, c.if-count-eq0.false) in (
      omega arith,
      turns_none _ _ _ _,
      record { told = λ is. absurd (omega arith); after = λ is. absurd (omega arith) },
    )

pub paid_before-paid-requires : goal.paid_before-paid-requires
paid_before-paid-requires c = paid_there c.requires c.record_size-size.ensures c.loop-i.invariant.1 c.loop-i-test.true

pub overflow_add-first : goal.overflow_add-first
overflow_add-first c = omega (arith, c.requires.of_party.known)

pub charge_alike-charge-requires : goal.charge_alike-charge-requires
charge_alike-charge-requires c =
    let p = c.requires in
    let fits = turn_fits p c.record_size-size.ensures c.loop-i.invariant.1 c.loop-i-test.true c.paid_before-paid.ensures c.chain_of-chain.ensures in
    ((ride_book p.ridden.rideable).size, (omega (arith, p.of_party.known), (fits, c.loop-i.invariant.2)))

pub overflow_add-last : goal.overflow_add-last
overflow_add-last c = omega (arith, c.requires.of_party.known)

pub overflow_add-last-in-loop-i : goal.overflow_add-last-in-loop-i
overflow_add-last-in-loop-i c = omega (arith, c.requires.of_party.known)

pub write_person-next-requires : goal.write_person-next-requires
write_person-next-requires c = next_room c.requires c.record_size-size.ensures c.loop-i.invariant.1 c.loop-i-test.true

pub overflow_step-i : goal.overflow_step-i
overflow_step-i c = omega (arith, c.requires.of_party.known)

pub loop-i-preserved : goal.loop-i-preserved
loop-i-preserved c =
    let inv = c.loop-i.invariant in
    let test = c.loop-i-test.true in
    let charge = c.charge_alike-charge.ensures in
    let same = turn_charged c.requires c.record_size-size.ensures inv.1 test c.paid_before-paid.ensures _ _ _ _ charge in
    let first = c.args.riders.first in
    let next : first + (c.loop-i.i + 1) ≡ first + c.loop-i.i + 1 = omega arith in (
      omega (arith, test),
      turns_more inv.1 (ap (λ (person : Person). person.amount.0) same) (ap (λ (person : Person). person.cut) same) c.write_person-next.ensures,
      rw next (held_next _ _ _ _ _ _ _ charge),
    )

pub shape_of-statement : goal.shape_of-statement
shape_of-statement c = length_wrote c.loop-i.invariant.1.wrote

pub returns : goal.returns
returns c =
    let inv = c.loop-i.invariant in
    turns_all c.requires c.record_size-size.ensures c.area.ensures c.chain_of-chain.ensures.value c.price-fare.ensures.value inv.1
    (omega (arith, inv.0, c.loop-i-test.false))
