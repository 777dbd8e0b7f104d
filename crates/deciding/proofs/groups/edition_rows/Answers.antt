-- `deciding::groups::edition_rows` meets its contract: the early return is the row of 22, and what goes on behind it has skipped that row.
use native.Mathlib.Omega.{arith}
use mathlib.Core.Path.{◌≡◌, sym, ap, ◌∙◌}
use borrow.Author.Tests.{eq-eqb, ne_eqb}
use lib.Dec.{eqb}
use Rattle.ledger.specs.declared.Window.{Window}
use Rattle.editions.proofs.Places.{many_most}
use Rattle.deciding.specs.declared.groups.Opened.TheVariants.{Refused, In}
use Rattle.deciding.specs.Deciding.{window_over, opened_by}
use Rattle.deciding.proofs.Rows.{comes_refused, comes_clear, skip, stop, end}
use Rattle.deciding.proofs.Decisions.{in-alone, in-known}
use Rattle.deciding.proofs.groups.edition_rows.Goals as goal

pub window_of-window-requires : goal.window_of-window-requires
window_of-window-requires c = (in-alone _ _ c.requires, omega (arith, in-known _ _ c.requires, many_most c.args.editions))

pub returns-then-window-eq0 : goal.returns-then-window-eq0
unfolding opened_by
returns-then-window-eq0 c =
    let there : window_over c.args.editions c.args.book.now c.args.span ≡ c.window_of-window.result = rw (← c.in_force.ensures.0) (sym c.window_of-window.ensures.0) in
    sym (comes_refused Refused _ (stop _ _ (ap (λ (w : Window). eqb w.edition 0) there ∙ eq-eqb _ _ c.if-window-eq0.true)))

pub returns : goal.returns
unfolding opened_by
returns c =
    let there : window_over c.args.editions c.args.book.now c.args.span ≡ c.window_of-window.result = rw (← c.in_force.ensures.0) (sym c.window_of-window.ensures.0) in
    let found = there in
    let clear = skip _ _ (ap (λ (w : Window). eqb w.edition 0) found ∙ ne_eqb _ _ c.if-window-eq0.false) ∙ end in
    sym (comes_clear Refused _ clear ∙ ap In found)
