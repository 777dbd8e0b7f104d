-- `deciding::groups::clock_rows` meets its contract: each early return is a row that holds, and what goes on behind it has skipped that row.
use Prim.Native.Nat.{ℕ}
use native.Mathlib.Nat.{le_of_eq}
use native.Mathlib.Omega.{arith}
use mathlib.Core.Path.{◌≡◌, sym, ap, ◌∙◌}
use mathlib.Core.Bool.{not}
use mathlib.Core.List.{List}
use lib.ListN.{drop}
use Rattle.trip.specs.Record.{count_at}
use Rattle.trip.specs.Moments.{checkin_of, checkout_of}
use Rattle.trip.specs.Trips.{in_order, is_mistap}
use Rattle.trip.specs.Clauses.{times_of}
use Rattle.trip.specs.declared.Times.TheVariants.{Of}
use Rattle.trip.proofs.Ranges.{in-order}
use Rattle.trip.proofs.Stamps.{times_are, times_none, times_range}
use Rattle.ledger.specs.Windows.{too_early}
use Rattle.deciding.specs.declared.groups.Timed.TheVariants.{Refused}
use Rattle.deciding.specs.Refusals.{clock_rows, first_of}
use Rattle.deciding.specs.Deciding.{timed_by}
use Rattle.deciding.proofs.Rows.{comes_refused, comes_clear, skip, stop, end}
use Rattle.deciding.proofs.RowGroups.{filling}
use Rattle.deciding.proofs.groups.clock_rows.Goals as goal

-- the first rows do not hold
abbrev Past : ℕ → List ℕ → List ℕ → Type 0
Past k book trip = let table = clock_rows book trip in first_of table ≡ first_of (drop k table)

pub times_of-requires : goal.times_of-requires
times_of-requires c = omega (arith, (filling c.requires.1).size)

pub returns-in_default : goal.returns-in_default
unfolding timed_by
returns-in_default c = sym (comes_refused Refused _ (stop _ _ (ap not (times_none _ (sym c.times_of.ensures ∙ c.in_default.is)))))

pub in_order-requires : goal.in_order-requires
in_order-requires c =
    let times : times_of c.args.trip.now ≡ Of c.in-Of.checkin c.in-Of.checkout = sym c.times_of.ensures ∙ c.in-Of.is in
    let (right, (from, to)) = times_are _ _ _ times in omega (arith, times_range _ right)

pub returns-then-not-in_order : goal.returns-then-not-in_order
unfolding timed_by
returns-then-not-in_order c =
    let times : times_of c.args.trip.now ≡ Of c.in-Of.checkin c.in-Of.checkout = sym c.times_of.ensures ∙ c.in-Of.is in
    let past-8 : Past 1 c.args.book.now c.args.trip.now = skip _ _ (ap not (times_are _ _ _ times).0) in
    let order : let trip = c.args.trip.now in in_order (checkin_of trip) (checkout_of trip) ≡ c.in_order.result = let (right, (from, to)) = times_are _ _ _ times in rw (from, to) (sym c.in_order.ensures) in
    sym (comes_refused Refused _ (past-8 ∙ stop _ _ (ap not (order ∙ c.if-not-in_order.true))))

pub is_mistap-requires : goal.is_mistap-requires
is_mistap-requires c = (
  le_of_eq (filling c.requires.1).size,
  (in-order _ _ (sym c.in_order.ensures ∙ c.if-not-in_order.false)).0,
)

pub returns-then-is_mistap : goal.returns-then-is_mistap
unfolding timed_by
returns-then-is_mistap c =
    let times : times_of c.args.trip.now ≡ Of c.in-Of.checkin c.in-Of.checkout = sym c.times_of.ensures ∙ c.in-Of.is in
    let past-8 : Past 1 c.args.book.now c.args.trip.now = skip _ _ (ap not (times_are _ _ _ times).0) in
    let order : let trip = c.args.trip.now in in_order (checkin_of trip) (checkout_of trip) ≡ c.in_order.result = let (right, (from, to)) = times_are _ _ _ times in rw (from, to) (sym c.in_order.ensures) in
    let past-9 : Past 2 c.args.book.now c.args.trip.now = past-8 ∙ skip _ _ (ap not (order ∙ c.if-not-in_order.false)) in
    let mistap : let trip = c.args.trip.now in
    is_mistap trip (count_at trip 0) (checkin_of trip) (checkout_of trip) ≡ c.is_mistap.result = let (right, (from, to)) = times_are _ _ _ (times) in
    rw ((filling c.requires.1).count, from, to) (sym c.is_mistap.ensures) in
    sym (comes_refused Refused _ (past-9 ∙ stop _ _ (mistap ∙ c.if-is_mistap.true)))

pub returns-then-too_early : goal.returns-then-too_early
unfolding timed_by
returns-then-too_early c =
    let times : times_of c.args.trip.now ≡ Of c.in-Of.checkin c.in-Of.checkout = sym c.times_of.ensures ∙ c.in-Of.is in
    let past-8 : Past 1 c.args.book.now c.args.trip.now = skip _ _ (ap not (times_are _ _ _ times).0) in
    let order : let trip = c.args.trip.now in in_order (checkin_of trip) (checkout_of trip) ≡ c.in_order.result = let (right, (from, to)) = times_are _ _ _ times in rw (from, to) (sym c.in_order.ensures) in
    let past-9 : Past 2 c.args.book.now c.args.trip.now = past-8 ∙ skip _ _ (ap not (order ∙ c.if-not-in_order.false)) in
    let mistap : let trip = c.args.trip.now in
    is_mistap trip (count_at trip 0) (checkin_of trip) (checkout_of trip) ≡ c.is_mistap.result = let (right, (from, to)) = times_are _ _ _ (times) in
    rw ((filling c.requires.1).count, from, to) (sym c.is_mistap.ensures) in
    let past-17 : Past 3 c.args.book.now c.args.trip.now = past-9 ∙ skip _ _ (mistap ∙ c.if-is_mistap.false) in
    let early : too_early c.args.book.now (checkin_of c.args.trip.now) ≡ c.too_early.result = let (right, (from, to)) = times_are _ _ _ times in rw from (sym c.too_early.ensures) in
    sym (comes_refused Refused _ (past-17 ∙ stop _ _ (early ∙ c.if-too_early.true)))

pub returns : goal.returns
unfolding timed_by
returns c =
    let times : times_of c.args.trip.now ≡ Of c.in-Of.checkin c.in-Of.checkout = sym c.times_of.ensures ∙ c.in-Of.is in
    let past-8 : Past 1 c.args.book.now c.args.trip.now = skip _ _ (ap not (times_are _ _ _ times).0) in
    let order : let trip = c.args.trip.now in in_order (checkin_of trip) (checkout_of trip) ≡ c.in_order.result = let (right, (from, to)) = times_are _ _ _ times in rw (from, to) (sym c.in_order.ensures) in
    let past-9 : Past 2 c.args.book.now c.args.trip.now = past-8 ∙ skip _ _ (ap not (order ∙ c.if-not-in_order.false)) in
    let mistap : let trip = c.args.trip.now in
    is_mistap trip (count_at trip 0) (checkin_of trip) (checkout_of trip) ≡ c.is_mistap.result = let (right, (from, to)) = times_are _ _ _ (times) in
    rw ((filling c.requires.1).count, from, to) (sym c.is_mistap.ensures) in
    let past-17 : Past 3 c.args.book.now c.args.trip.now = past-9 ∙ skip _ _ (mistap ∙ c.if-is_mistap.false) in
    let early : too_early c.args.book.now (checkin_of c.args.trip.now) ≡ c.too_early.result = let (right, (from, to)) = times_are _ _ _ times in rw from (sym c.too_early.ensures) in
    let clear = past-17 ∙ skip _ _ (early ∙ c.if-too_early.false) ∙ end in
    let (right, (from, to)) = times_are _ _ _ times in
    rw (comes_clear Refused _ clear, from, to)
