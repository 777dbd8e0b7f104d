-- `run::settle_roll` is safe: a fresh book is sound under every file, and a run that begins is in range.
use native.Mathlib.Omega.{arith}
use borrow.Author.Rules.{rules}
use mathlib.Core.Path.{ap}
use lib.ListN.{length}
use Rattle.settle_roll.proofs.Turns.{begins}
use Rattle.settle_roll.proofs.run.settle_roll.Goals as goal

pub settle_all-requires : goal.settle_all-requires
settle_all-requires g c =
    let fresh = c.fresh_book-book.ensures in
    let header = c.put_header in (
      record {
        running =
            record {
              ready = record { read = c.requires; sound_book = fresh.sound_book _ };
              size = search rules;
              range = record { order = omega arith; inside = omega arith; room_left = omega (arith, header.ensures.room, ap length c.new-out.ensures) };
              counting = record { few = omega arith; cents = omega arith };
            };
        at_start = begins fresh.is (rw c.new-out.ensures at header.ensures.put);
      },
      search rules,
    )
