-- `page::clear::clear_place` meets its contract: the place is lent from its start to its end.
use native.Mathlib.Omega.{arith}
use Prim.Native.Nat.{◌+◌, ◌-◌, ◌*◌}
use Rattle.page.specs.Pages.{place_size}
use Rattle.page.proofs.Replacing.{part_put}
use Rattle.page.proofs.clear.clear_place.Goals as goal

pub returns : goal.returns
returns c =
    let a = c.args in
    let start = a.place * place_size in
    part_put a.page.now start (start + place_size - start) place_size (omega arith) c.clear.ensures
