-- `roll::entry_at` meets its contract: each number is that of the record.
use Rattle.roll.specs.Clauses.{entry_in}
use Rattle.roll.proofs.entry_at.Goals as goal

pub returns : goal.returns
unfolding entry_in
returns c =
    record {
      value =
          rw (
            c.area_at.ensures,
            c.km_at.ensures,
            c.minutes_at.ensures,
            c.opening_at.ensures,
            c.cents_at.ensures.value,
          );
      range = c.cents_at.ensures.range;
    }
