-- `deciding::groups::room_rows` meets its contract: each early return is a row that holds, and what goes on behind it has skipped that row.
use Prim.Native.Nat.{◌+◌}
use mathlib.Core.Path.{◌≡◌, sym, ap, ◌∙◌}
use borrow.Author.Tests.{lt-ltb, le-ltb}
use lib.ListN.{drop}
use lib.Dec.{ltb}
use Rattle.deciding.specs.declared.groups.Roomed.TheVariants.{Refused}
use Rattle.deciding.specs.Refusals.{first_of}
use Rattle.deciding.specs.Deciding.{roomed_by, rides_in, room_rows_by}
use Rattle.deciding.proofs.Rows.{comes_refused, comes_clear, skip, stop, end}
use Rattle.deciding.proofs.groups.room_rows.Goals as goal

pub returns-then-window-rides_in-gt256 : goal.returns-then-window-rides_in-gt256
unfolding roomed_by
returns-then-window-rides_in-gt256 c =
    let trips : c.args.window.trips + rides_in c.args.breaking ≡ c.args.window.trips + c.rides_in.result = rw c.rides_in.ensures.0 in
    sym (comes_refused Refused _ (stop _ _ (ap (ltb 256) trips ∙ lt-ltb _ _ c.if-window-rides_in-gt256.true)))

pub returns-then-room-records_size : goal.returns-then-room-records_size
unfolding roomed_by
returns-then-room-records_size c =
    let trips : c.args.window.trips + rides_in c.args.breaking ≡ c.args.window.trips + c.rides_in.result = rw c.rides_in.ensures.0 in
    let past-11 : let table = room_rows_by c.args.window c.args.breaking c.args.party c.args.room in first_of table ≡ first_of (drop 1 table) = skip _ _ (ap (ltb 256) trips ∙ le-ltb _ _ c.if-window-rides_in-gt256.false) in
    sym
    (comes_refused Refused _
    (past-11 ∙ stop _ _ (ap (ltb _) (sym c.records_size.ensures) ∙ lt-ltb _ _ c.if-room-records_size.true)))

pub returns : goal.returns
unfolding roomed_by
returns c =
    let trips : c.args.window.trips + rides_in c.args.breaking ≡ c.args.window.trips + c.rides_in.result = rw c.rides_in.ensures.0 in
    let past-11 : let table = room_rows_by c.args.window c.args.breaking c.args.party c.args.room in first_of table ≡ first_of (drop 1 table) = skip _ _ (ap (ltb 256) trips ∙ le-ltb _ _ c.if-window-rides_in-gt256.false) in
    let clear =
    past-11 ∙ skip _ _ (ap (ltb _) (sym c.records_size.ensures) ∙ le-ltb _ _ c.if-room-records_size.false) ∙ end
    in
    sym (comes_clear Refused _ clear)
