-- `settle::state::state_trip` meets its contract: what was decided is stated, and where all conditions are clear the trip's rides are, under the
-- tariff of the window's edition, which stands in the file.
use Prim.Native.Nat.{◌≤◌}
use native.Mathlib.Omega.{arith}
use mathlib.Core.Path.{sym, ◌∙◌}
use lib.ListN.{length}
use Rattle.editions.proofs.Places.{stands}
use Rattle.settle.proofs.Answers.{refusal-stated, clear-there, records-stated}
use Rattle.settle.proofs.state.state_trip.Goals as goal

pub slice_bounds-state_rides-count : goal.slice_bounds-state_rides-count
slice_bounds-state_rides-count c =
    let near : (c.start_in-from.result ≤ c.end_in-to.result) × (c.end_in-to.result ≤ length c.args.file.now) = let there = stands _ _ c.requires.read c.in-Clear.window.edition in
    (omega (arith, c.start_in-from.ensures, c.end_in-to.ensures, there.order), omega (arith, c.end_in-to.ensures, there.within)) in
    near.0

pub slice_bounds-state_rides-start : goal.slice_bounds-state_rides-start
slice_bounds-state_rides-start c =
    let near : (c.start_in-from.result ≤ c.end_in-to.result) × (c.end_in-to.result ≤ length c.args.file.now) = let there = stands _ _ c.requires.read c.in-Clear.window.edition in
    (omega (arith, c.start_in-from.ensures, c.end_in-to.ensures, there.order), omega (arith, c.end_in-to.ensures, there.within)) in
    omega (arith, near.0, near.1)

pub slice_bounds-state_rides-end : goal.slice_bounds-state_rides-end
slice_bounds-state_rides-end c =
    let near : (c.start_in-from.result ≤ c.end_in-to.result) × (c.end_in-to.result ≤ length c.args.file.now) = let there = stands _ _ c.requires.read c.in-Clear.window.edition in
    (omega (arith, c.start_in-from.ensures, c.end_in-to.ensures, there.order), omega (arith, c.end_in-to.ensures, there.within)) in
    omega (arith, near.0, near.1)

pub state_rides-size-requires : goal.state_rides-size-requires
state_rides-size-requires c =
    clear-there c.requires (sym c.decide.ensures ∙ c.in-Clear.is) c.start_in-from.ensures
    c.end_in-to.ensures c.counts_in-counts.ensures

pub returns-in-Refused : goal.returns-in-Refused
returns-in-Refused c = refusal-stated (sym c.decide.ensures ∙ c.in-Refused.is)

pub returns-in-Clear : goal.returns-in-Clear
returns-in-Clear c =
    records-stated c.requires (sym c.decide.ensures ∙ c.in-Clear.is) c.start_in-from.ensures
    c.end_in-to.ensures c.counts_in-counts.ensures c.state_rides-size.ensures
