-- `reader::charges::amount_at` meets its contract: a charge of kind 4 and a bicycle's stand alone, a person's with its cut.
use native.Mathlib.Omega.{arith}
use Rattle.reader.proofs.Places.{unsaid_asked, unsaid_told, there_asked, person_asked, person_told, bicycle_told}
use Rattle.reader.proofs.charges.amount_at.Goals as goal

pub overflow_add-at : goal.overflow_add-at
overflow_add-at c = let near = unsaid_asked c.requires c.in-Unsaid.is in omega arith

pub overflow_mul-i : goal.overflow_mul-i
overflow_mul-i c = let near = unsaid_asked c.requires c.in-Unsaid.is in omega arith

pub overflow_add-at-in-Unsaid : goal.overflow_add-at-in-Unsaid
overflow_add-at-in-Unsaid c = let near = unsaid_asked c.requires c.in-Unsaid.is in omega arith

pub four_at-requires : goal.four_at-requires
four_at-requires c = let near = unsaid_asked c.requires c.in-Unsaid.is in omega arith

pub person_at-requires : goal.person_at-requires
person_at-requires c = person_asked c.requires c.in-Of.is c.if-i-party.true

pub charge_at-requires : goal.charge_at-requires
charge_at-requires c = there_asked c.requires c.in-Of.is

pub returns-in-Unsaid : goal.returns-in-Unsaid
returns-in-Unsaid c = unsaid_told c.requires c.in-Unsaid.is c.four_at.ensures.value c.bare.ensures

pub returns-then-i-party : goal.returns-then-i-party
returns-then-i-party c = person_told c.requires c.in-Of.is c.person_at.ensures

pub returns-else-i-party : goal.returns-else-i-party
returns-else-i-party c =
    bicycle_told c.requires c.in-Of.is c.if-i-party.false c.charge_at.ensures.value
    c.bare-else-i-party.ensures
