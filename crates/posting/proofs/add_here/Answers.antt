-- In class 2 the second-class sum is read and put with the charge; then, in either class, the all-classes sum, which that left as it
-- was. The rider has room in the area, so neither sum wraps.
use native.Mathlib.Omega.{arith}
use mathlib.Core.Path.{◌∙◌}
use Rattle.posting.proofs.PostTurns.{SecondAdded, second_put, second_left, second_fits, all_fits, all_put}
use Rattle.posting.proofs.add_here.Goals as goal
use Rattle.posting.proofs.add_here.Goals.{then-class-eq2, else-class-eq2}

pub overflow_add-second : goal.overflow_add-second
overflow_add-second c =
    record {
      fits =
          second_fits c.args.book.now c.args.rider c.args.at c.requires.room c.requires.range
          c.pair-place.ensures.0 c.get.ensures.value;
    }

pub get-requires-2 : goal.get-requires-2
get-requires-2 c =
    let joined : let a = c.args in SecondAdded a.book.now c.if-class-eq2.book a.rider a.class a.at a.amount.0 = let is = c.pair-place.ensures.0 in
    elim c.if-class-eq2.branch [
      | then-class-eq2 w ↦ second_put is w.if-class-eq2.true w.get.ensures.value (w.book-is ∙ w.put.ensures)
      | else-class-eq2 w ↦ second_left is w.if-class-eq2.false w.book-is
    ] in
    omega (arith, joined.size)

pub overflow_add-all : goal.overflow_add-all
overflow_add-all c =
    let joined : let a = c.args in SecondAdded a.book.now c.if-class-eq2.book a.rider a.class a.at a.amount.0 = let is = c.pair-place.ensures.0 in
    elim c.if-class-eq2.branch [
      | then-class-eq2 w ↦ second_put is w.if-class-eq2.true w.get.ensures.value (w.book-is ∙ w.put.ensures)
      | else-class-eq2 w ↦ second_left is w.if-class-eq2.false w.book-is
    ] in
    record {
      fits =
          all_fits c.pair-place.ensures.0 c.requires.room c.requires.range joined
          c.get-2.ensures.value;
    }

pub put-requires-2 : goal.put-requires-2
put-requires-2 c =
    let joined : let a = c.args in SecondAdded a.book.now c.if-class-eq2.book a.rider a.class a.at a.amount.0 = let is = c.pair-place.ensures.0 in
    elim c.if-class-eq2.branch [
      | then-class-eq2 w ↦ second_put is w.if-class-eq2.true w.get.ensures.value (w.book-is ∙ w.put.ensures)
      | else-class-eq2 w ↦ second_left is w.if-class-eq2.false w.book-is
    ] in
    omega (arith, joined.size)

pub shape_of-book : goal.shape_of-book
shape_of-book c =
    let joined : let a = c.args in SecondAdded a.book.now c.if-class-eq2.book a.rider a.class a.at a.amount.0 = let is = c.pair-place.ensures.0 in
    elim c.if-class-eq2.branch [
      | then-class-eq2 w ↦ second_put is w.if-class-eq2.true w.get.ensures.value (w.book-is ∙ w.put.ensures)
      | else-class-eq2 w ↦ second_left is w.if-class-eq2.false w.book-is
    ] in
    c.put-2.auto.book ∙ joined.size

pub returns : goal.returns
returns c =
    let joined : let a = c.args in SecondAdded a.book.now c.if-class-eq2.book a.rider a.class a.at a.amount.0 = let is = c.pair-place.ensures.0 in
    elim c.if-class-eq2.branch [
      | then-class-eq2 w ↦ second_put is w.if-class-eq2.true w.get.ensures.value (w.book-is ∙ w.put.ensures)
      | else-class-eq2 w ↦ second_left is w.if-class-eq2.false w.book-is
    ] in
    all_put c.pair-place.ensures.0 joined
    c.get-2.ensures.value c.put-2.ensures
