-- `accounts::settle_at` meets its contract: the place's book is lent where it stands, and what comes back is put there.
use native.Mathlib.Omega.{arith}
use Prim.Native.Nat.{◌+◌, ◌-◌, ◌*◌}
use Rattle.ledger.specs.Words.{book_size}
use Rattle.page.specs.Pages.{number_size, place_size}
use Rattle.accounts.proofs.Placing.{place_told}
use Rattle.accounts.proofs.settle_at.Goals as goal

pub returns : goal.returns
returns c =
    let a = c.args in
    place_told _ a.editions a.page.now a.place (a.place * place_size + number_size + book_size - (a.place * place_size + number_size)) _ _ (omega arith) c.settle_under.ensures
