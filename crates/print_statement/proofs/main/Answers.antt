-- `main` is safe: a run that begins is in range.
use native.Mathlib.Omega.{arith}
use borrow.Author.Rules.{rules}
use mathlib.Core.Path.{ap}
use lib.ListN.{length}
use Rattle.print_statement.proofs.Turns.{begins}
use Rattle.print_statement.proofs.main.Goals as goal

pub print_all-requires : goal.print_all-requires
print_all-requires c =
    let header = c.put_header in
    record {
      running =
          record {
            size = search rules;
            range = record { order = omega arith; inside = omega arith; room_left = omega (arith, header.ensures.room, ap length c.new-out.ensures) };
            few = omega arith;
          };
      at_start = begins (rw c.new-out.ensures at header.ensures.put);
    }
