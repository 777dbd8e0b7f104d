-- `scan::area_run::area_found` meets its contract: the kind that was found tells the frame, and what was found of its values is `area_right`.
use Rattle.std.proofs.Common.{◌≡◌, true, cond, eqb, sym, ◌∙◌, arith, eq-eqb, ne_eqb}
use mathlib.Core.Bool.{false≢true}
use Rattle.layout.specs.Layout.{aachen_kind}
use Rattle.layout.specs.Fields.{area_fields, long_fields}
use Rattle.layout.specs.Rules.{long_right}
use Rattle.layout.proofs.Places.{long_is}
use Rattle.scan.proofs.AreaRunLaws.{areas_there, found_fits, found_faultless}
use Rattle.scan.proofs.area_run.area_found.Goals as goal
use Rattle.scan.proofs.area_run.area_found.Goals.{then-kind-eq-AACHEN_KIND+else-not-long_found, else-kind-eq-AACHEN_KIND}

pub returns-then-kind-eq0 : goal.returns-then-kind-eq0
returns-then-kind-eq0 c = record { told = λ e. absurd (false≢true e) }

pub prices_found-requires : goal.prices_found-requires
prices_found-requires c = omega (arith, found_fits _ c.args.run _ c.requires.2 (omega arith))

pub returns-then-not-prices_found : goal.returns-then-not-prices_found
returns-then-not-prices_found c = record { told = λ e. absurd (false≢true e) }

pub caps_found-requires : goal.caps_found-requires
caps_found-requires c = omega (arith, found_fits _ c.args.run _ c.requires.2 (omega (arith, c.if-kind-eq0.false)))

pub returns-then-not-caps_found : goal.returns-then-not-caps_found
returns-then-not-caps_found c = record { told = λ e. absurd (false≢true e) }

pub area_fields-f-requires : goal.area_fields-f-requires
area_fields-f-requires c = omega (arith, found_fits _ c.args.run _ c.requires.2 (omega (arith, c.if-kind-eq0.false)))

pub long_found-requires : goal.long_found-requires
long_found-requires c = omega (arith, found_fits _ c.args.run _ c.requires.2 (omega (arith, c.if-kind-eq0.false)), long_is c.args.kind c.if-kind-eq-AACHEN_KIND.true)

pub returns-then-not-long_found : goal.returns-then-not-long_found
returns-then-not-long_found c = record { told = λ e. absurd (false≢true e) }

pub place_right-requires : goal.place_right-requires
place_right-requires c = areas_there _ _ _ c.requires.0.passed.reached

pub returns : goal.returns
returns c =
    let b = c.args.b.now in
    let at = c.args.run.at in
    let kind = c.args.kind in
    let besides : cond (eqb kind aachen_kind) (long_right (area_fields b at) (long_fields b at)) true ≡ true =
    elim c.if-kind-eq-AACHEN_KIND.branch [
      | then-kind-eq-AACHEN_KIND+else-not-long_found w ↦ rw (eq-eqb kind aachen_kind w.if-kind-eq-AACHEN_KIND.true) (w.long_found.ensures.told (w.if-not-long_found.false))
      | else-kind-eq-AACHEN_KIND w ↦ rw (ne_eqb kind aachen_kind w.if-kind-eq-AACHEN_KIND.false)
    ]
    in
    record {
      told =
          λ e.
          found_faultless b c.args.run kind c.requires.2 (omega (arith, c.if-kind-eq0.false)) c.requires.0 c.requires.1
          (rw (
            c.prices_found.ensures.told (c.if-not-prices_found.false),
            c.caps_found.ensures.told (c.if-not-caps_found.false),
            besides,
            sym c.area_fields-f.ensures,
            sym c.place_right.ensures ∙ e,
          ));
    }
