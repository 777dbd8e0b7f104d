-- `reader::fields::put_whose` meets its contract: five numbers of a byte each.
use native.Mathlib.Omega.{arith}
use Rattle.reader.proofs.Filled.{whose_put}
use Rattle.reader.proofs.fields.put_whose.Goals as goal

pub overflow_cast-kind_of : goal.overflow_cast-kind_of
overflow_cast-kind_of c = omega (arith, c.kind_of.ensures.1)

pub returns : goal.returns
returns c =
    rw (
      c.put_one-5.ensures,
      c.put_one-4.ensures,
      c.put_one-3.ensures,
      c.put_one-2.ensures,
      c.put_one.ensures,
      c.charges_of.ensures,
      c.kind_of.ensures.0,
      c.party_of-party.ensures,
    )
    (whose_put _ _)
