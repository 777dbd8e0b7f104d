-- `corrections::payers::add_record` meets its contract: each payer has a charge in at most one of the three groups.
use native.Mathlib.Omega.{arith}
use Rattle.corrections.proofs.Paid.{added_most, at_most_more, record_read}
use Rattle.corrections.proofs.payers.add_record.Goals as goal

pub add_charges-requires : goal.add_charges-requires
add_charges-requires c =
    let asked = c.requires in
    let adults = c.adults_at.ensures in
    record {
      there = asked.0;
      charges = omega (arith, adults);
      payers_most = omega (arith, adults, asked.0.adults);
      sums_most = at_most_more (omega arith) asked.1;
    }

pub add_charges-requires-2 : goal.add_charges-requires-2
add_charges-requires-2 c =
    let asked = c.requires in
    let adults = c.adults_at.ensures in
    let children = c.children_at-children.ensures in
    record {
      there = asked.0;
      charges = omega (arith, adults, children);
      payers_most = omega (arith, children, asked.0.children);
      sums_most = at_most_more (omega arith) (added_most c.add_charges.ensures asked.1);
    }

pub add_charges-requires-3 : goal.add_charges-requires-3
add_charges-requires-3 c =
    let asked = c.requires in
    let adults = c.adults_at.ensures in
    let children = c.children_at-children.ensures in
    let bicycles = c.bicycles_at-bicycles.ensures in
    record {
      there = asked.0;
      charges = omega (arith, adults, children, bicycles);
      payers_most = omega (arith, bicycles, asked.0.bicycles);
      sums_most =
          at_most_more (omega arith)
          (added_most c.add_charges-2.ensures (added_most c.add_charges.ensures asked.1));
    }

pub returns : goal.returns
returns c =
    record_read _ _ c.requires.0 c.adults_at.ensures c.children_at-children.ensures c.bicycles_at-bicycles.ensures
    c.add_charges.ensures c.add_charges-2.ensures c.add_charges-3.ensures
