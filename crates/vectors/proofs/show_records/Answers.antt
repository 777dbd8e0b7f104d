-- `vectors::show_records` is safe and ends: the second record is read where the bytes go on behind the first.
use native.Mathlib.Omega.{arith}
use Rattle.vectors.proofs.show_records.Goals as goal

pub show_record-requires-then-behind-size : goal.show_record-requires-then-behind-size
show_record-requires-then-behind-size g c =
    let is = c.size_at-behind.ensures.0 in
    rw is (c.requires.second (omega (arith, is, c.if-behind-size.true)))
