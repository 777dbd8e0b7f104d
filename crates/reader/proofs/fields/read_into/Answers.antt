-- `reader::fields::read_into` meets its contract: a refusal writes nothing, and an accepted record's fields stand at the slice's start.
use native.Mathlib.Nat.{le_of_eq}
use native.Mathlib.Omega.{arith}
use mathlib.Core.Path.{sym, ◌∙◌}
use Rattle.reader.proofs.Accepted.{accepted_at, accepted_readable, accepted_few, accepted_short}
use Rattle.reader.proofs.Filled.{refused_filling, short_filling, all_filled}
use Rattle.reader.proofs.fields.read_into.Goals as goal

pub overflow_mul-count : goal.overflow_mul-count
overflow_mul-count c =
    let few = accepted_few (accepted_at _ _ (sym c.read_record.ensures ∙ c.in-Record.is)) in
    omega (arith, c.charges_of-count.ensures)

pub overflow_add-count : goal.overflow_add-count
overflow_add-count c =
    let few = accepted_few (accepted_at _ _ (sym c.read_record.ensures ∙ c.in-Record.is)) in
    omega (arith, c.charges_of-count.ensures)

pub returns-then-fields-count : goal.returns-then-fields-count
returns-then-fields-count c = short_filling _ _ _ (accepted_at _ _ (sym c.read_record.ensures ∙ c.in-Record.is)) (omega (arith, c.charges_of-count.ensures, c.if-fields-count.true))

pub put_whose-requires : goal.put_whose-requires
put_whose-requires c =
    let few = accepted_few (accepted_at _ _ (sym c.read_record.ensures ∙ c.in-Record.is)) in
    (omega arith, few)

pub put_ride-requires : goal.put_ride-requires
put_ride-requires c =
    let accepted = accepted_at _ _ (sym c.read_record.ensures ∙ c.in-Record.is) in
    (omega arith, accepted_short accepted)

pub put_amounts-requires : goal.put_amounts-requires
put_amounts-requires c =
    let accepted = accepted_at _ _ (sym c.read_record.ensures ∙ c.in-Record.is) in
    (accepted_readable accepted, (le_of_eq c.charges_of-count.ensures, (accepted_few accepted, omega arith)))

pub returns-in-Refused : goal.returns-in-Refused
returns-in-Refused c = refused_filling _ _ _ (sym c.read_record.ensures ∙ c.in-Refused.is)

pub returns-else-fields-count : goal.returns-else-fields-count
returns-else-fields-count c =
    let counted = c.charges_of-count.ensures in
    let accepted = accepted_at _ _ (sym c.read_record.ensures ∙ c.in-Record.is) in
    all_filled _ _ _ accepted (omega (arith, counted, c.if-fields-count.false)) counted c.put_whose.ensures
    c.put_ride.ensures c.put_amounts.ensures
