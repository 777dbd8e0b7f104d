-- Where the branches meet the book holds what counts in the window: cleared if that is new, else as it was, which is fresh if the window is
-- new and the book without trips. The four words follow.
use native.Mathlib.Omega.{arith}
use mathlib.Core.Path.{sym, ◌∙◌}
use Rattle.posting.proofs.PostTurns.{WindowReady, window_cleared, window_left, four_put}
use Rattle.posting.proofs.open_window.Goals as goal
use Rattle.posting.proofs.open_window.Goals.{then-window-get, else-window-get}

pub put-requires : goal.put-requires
put-requires c =
    let joined : let a = c.args in WindowReady a.window.current a.book.now c.if-window-get.book = let p = c.requires in
    elim c.if-window-get.branch [
      | then-window-get w ↦ window_cleared _ c.get.result w.if-window-get.true (w.book-is ∙ w.clear.ensures)
      | else-window-get w ↦ window_left _ c.get.result p.0 p.1.0 c.get.ensures.value w.if-window-get.false w.book-is
    ] in
    (joined.size, omega arith)

pub put-requires-2 : goal.put-requires-2
put-requires-2 c =
    let joined : let a = c.args in WindowReady a.window.current a.book.now c.if-window-get.book = let p = c.requires in
    elim c.if-window-get.branch [
      | then-window-get w ↦ window_cleared _ c.get.result w.if-window-get.true (w.book-is ∙ w.clear.ensures)
      | else-window-get w ↦ window_left _ c.get.result p.0 p.1.0 c.get.ensures.value w.if-window-get.false w.book-is
    ] in
    (c.put.auto.book ∙ joined.size, omega arith)

pub put-requires-3 : goal.put-requires-3
put-requires-3 c =
    let joined : let a = c.args in WindowReady a.window.current a.book.now c.if-window-get.book = let p = c.requires in
    elim c.if-window-get.branch [
      | then-window-get w ↦ window_cleared _ c.get.result w.if-window-get.true (w.book-is ∙ w.clear.ensures)
      | else-window-get w ↦ window_left _ c.get.result p.0 p.1.0 c.get.ensures.value w.if-window-get.false w.book-is
    ] in (
      c.put-2.auto.book ∙ c.put.auto.book ∙ joined.size,
      omega arith,
    )

pub put-requires-4 : goal.put-requires-4
put-requires-4 c =
    let joined : let a = c.args in WindowReady a.window.current a.book.now c.if-window-get.book = let p = c.requires in
    elim c.if-window-get.branch [
      | then-window-get w ↦ window_cleared _ c.get.result w.if-window-get.true (w.book-is ∙ w.clear.ensures)
      | else-window-get w ↦ window_left _ c.get.result p.0 p.1.0 c.get.ensures.value w.if-window-get.false w.book-is
    ] in (
      c.put-3.auto.book ∙ c.put-2.auto.book ∙ c.put.auto.book
          ∙ joined.size,
      omega arith,
    )

pub shape_of-book : goal.shape_of-book
shape_of-book c =
    let joined : let a = c.args in WindowReady a.window.current a.book.now c.if-window-get.book = let p = c.requires in
    elim c.if-window-get.branch [
      | then-window-get w ↦ window_cleared _ c.get.result w.if-window-get.true (w.book-is ∙ w.clear.ensures)
      | else-window-get w ↦ window_left _ c.get.result p.0 p.1.0 c.get.ensures.value w.if-window-get.false w.book-is
    ] in
    c.put-4.auto.book ∙ c.put-3.auto.book ∙ c.put-2.auto.book ∙ c.put.auto.book
    ∙ joined.size ∙ sym c.requires.0

pub returns : goal.returns
returns c =
    let joined : let a = c.args in WindowReady a.window.current a.book.now c.if-window-get.book = let p = c.requires in
    elim c.if-window-get.branch [
      | then-window-get w ↦ window_cleared _ c.get.result w.if-window-get.true (w.book-is ∙ w.clear.ensures)
      | else-window-get w ↦ window_left _ c.get.result p.0 p.1.0 c.get.ensures.value w.if-window-get.false w.book-is
    ] in
    let a = c.args in
    four_put a.window a.checkout.0 joined.value c.put.ensures
    c.put-2.ensures c.put-3.ensures c.put-4.ensures
