-- `scan::entry_at` meets its contract: each way through its tests is a way through `entry_at`, and a whole frame leaves
-- room for its body.
use Rattle.std.proofs.Common.{◌≡◌, sym, ◌∙◌}
use Rattle.wire.specs.Frame.{frame_at}
use Rattle.wire.specs.declared.Frame.TheVariants.{Whole}
use Rattle.wire.proofs.Frames.{whole}
use Rattle.layout.proofs.Entries.{ended_early, ended, broken-frame, area_frame, factor_frame, stop_frame, other_frame}
use Rattle.scan.proofs.entry_at.Goals as goal

pub returns-then-so_far-due : goal.returns-then-so_far-due
returns-then-so_far-due c = sym (ended_early _ _ _ _ c.requires.1 c.if-b-at.true c.if-so_far-due.true)

pub returns-then-b-at : goal.returns-then-b-at
returns-then-b-at c = sym (ended _ _ _ _ c.requires.1 c.if-b-at.true c.if-so_far-due.false)

pub area_entry-requires : goal.area_entry-requires
area_entry-requires c =
    let frame : frame_at c.args.b.now c.args.at
    ≡ Whole c.in-Whole.kind c.in-Whole.body = sym c.frame_at.ensures ∙ c.in-Whole.is in
    let facts = whole _ _ _ _ frame in
    (c.requires.0, facts.fits)

pub factor_entry-requires : goal.factor_entry-requires
factor_entry-requires c =
    let frame : frame_at c.args.b.now c.args.at
    ≡ Whole c.in-Whole.kind c.in-Whole.body = sym c.frame_at.ensures ∙ c.in-Whole.is in
    let facts = whole _ _ _ _ frame in
    (c.requires.1, facts.fits)

pub stop_entry-requires : goal.stop_entry-requires
stop_entry-requires c =
    let frame : frame_at c.args.b.now c.args.at
    ≡ Whole c.in-Whole.kind c.in-Whole.body = sym c.frame_at.ensures ∙ c.in-Whole.is in
    let facts = whole _ _ _ _ frame in
    (c.requires.1, facts.fits)

pub returns-in-Broken : goal.returns-in-Broken
returns-in-Broken c = sym (broken-frame _ _ _ c.if-b-at.false (sym c.frame_at.ensures ∙ c.in-Broken.is))

pub returns-then-kind : goal.returns-then-kind
returns-then-kind c =
    let frame : frame_at c.args.b.now c.args.at
    ≡ Whole c.in-Whole.kind c.in-Whole.body = sym c.frame_at.ensures ∙ c.in-Whole.is in
    c.area_entry.ensures ∙ sym (area_frame _ _ _ _ _ c.if-kind.true frame)

pub returns-then-kind-eq-FACTOR_KIND : goal.returns-then-kind-eq-FACTOR_KIND
returns-then-kind-eq-FACTOR_KIND c =
    let frame : frame_at c.args.b.now c.args.at
    ≡ Whole c.in-Whole.kind c.in-Whole.body = sym c.frame_at.ensures ∙ c.in-Whole.is in
    c.factor_entry.ensures ∙ sym (factor_frame _ _ _ _ (rw c.if-kind-eq-FACTOR_KIND.true at frame))

pub returns-then-kind-eq-STOP_KIND : goal.returns-then-kind-eq-STOP_KIND
returns-then-kind-eq-STOP_KIND c =
    let frame : frame_at c.args.b.now c.args.at
    ≡ Whole c.in-Whole.kind c.in-Whole.body = sym c.frame_at.ensures ∙ c.in-Whole.is in
    c.stop_entry.ensures ∙ sym (stop_frame _ _ _ _ (rw c.if-kind-eq-STOP_KIND.true at frame))

pub returns-else-kind-eq-STOP_KIND : goal.returns-else-kind-eq-STOP_KIND
returns-else-kind-eq-STOP_KIND c =
    let frame : frame_at c.args.b.now c.args.at
    ≡ Whole c.in-Whole.kind c.in-Whole.body = sym c.frame_at.ensures ∙ c.in-Whole.is in
    sym (other_frame _ _ _ _ _ frame c.if-kind.false c.if-kind-eq-FACTOR_KIND.false c.if-kind-eq-STOP_KIND.false)
