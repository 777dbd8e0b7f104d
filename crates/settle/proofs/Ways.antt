-- From what is decided to the quote and the outcome; and what a refusal leaves behind.
-- Assumes nothing.
use Prim.Native.Nat.{ℕ, ◌^◌, ◌<◌}
use mathlib.Core.Path.{◌≡◌, refl, ap, ◌∙◌}
use mathlib.Core.Bool.{false}
use mathlib.Core.List.{List}
use Rattle.editions.specs.declared.Editions.{Editions}
use Rattle.editions.specs.declared.FileReading.TheVariants.{Fault}
use Rattle.editions.specs.Reading.{read_file, ReadFile}
use Rattle.editions.specs.Editions.{tariff_in, counts_in}
use Rattle.trip.specs.declared.Trip.{Trip}
use Rattle.fare.specs.declared.Breaking.{Breaking}
use Rattle.ledger.specs.declared.Window.{Window}
use Rattle.statement.specs.Clauses.{none}
use Rattle.settle.specs.declared.Answer.TheVariants as answer
use Rattle.deciding.specs.declared.decide.Decision.{Decision}
use Rattle.deciding.specs.declared.decide.Decision.TheVariants.{Refused, Clear}
use Rattle.deciding.specs.declared.refusals.Refusal.{Refusal}
use Rattle.deciding.specs.declared.refusals.Refusal.TheVariants as why
use Rattle.deciding.specs.Refusals.{refusal, sound_in, rows}
use Rattle.deciding.specs.Deciding.{decided_under}
use Rattle.settle.specs.Outcome.{
  Quote,
  unquoted,
  priced,
  Outcome,
  refused,
  accepted,
  parts_under,
  book_with,
  accepted_trip,
  quoted_under,
  quoted,
  settled_under,
  settled,
}
use Rattle.settle.specs.Clauses.{Told, QuoteTold}
use Rattle.deciding.proofs.Decisions.{refused_first, clear_found}
use Rattle.deciding.proofs.Rows.{stop}

-- ---- The quote.

-- what comes of a decision
abbrev after_decision : List ℕ → Editions → List ℕ → List ℕ → Decision → Quote
after_decision file editions book trip (Refused why) = unquoted (refusal why) 0
after_decision file editions book trip (Clear fields window breaking) = priced (parts_under file editions book trip fields window)

module _ (file : List ℕ) (editions : Editions) (book trip : List ℕ) (room : ℕ) where
  by_decision : quoted_under file editions book trip room ≡ after_decision file editions book trip (decided_under file editions book trip room)
  unfolding quoted_under
  by_decision = same (decided_under file editions book trip room)
    where
      same :
          (d : Decision)
          → (elim d as (λ x. Quote) [
            | Refused why ↦ unquoted (refusal why) 0
            | Clear fields window breaking ↦ priced (parts_under file editions book trip fields window)
          ])
          ≡ after_decision file editions book trip d
      same (Refused why) = refl
      same (Clear fields window breaking) = refl

  pub unquoted_under :
      {why : Refusal} → decided_under file editions book trip room ≡ Refused why → quoted_under file editions book trip room ≡ unquoted (refusal why) 0
  unquoted_under e = by_decision ∙ ap (after_decision file editions book trip) e

  pub unsound_quote : sound_in editions book ≡ false → quoted_under file editions book trip room ≡ unquoted (refusal why.UnsoundBook) 0
  unfolding rows
  unsound_quote is = unquoted_under (refused_first file editions book trip room (stop _ _ (rw is)))

  pub priced_under :
      (fields : Trip) (window : Window) {breaking : Breaking} → decided_under file editions book trip room ≡ Clear fields window breaking
      → quoted_under file editions book trip room ≡ priced (parts_under file editions book trip fields window)
  priced_under fields window e = by_decision ∙ ap (after_decision file editions book trip) e

module _ (file book trip : List ℕ) (room : ℕ) where
  pub fault_quote : (number at : ℕ) → read_file file ≡ Fault number at → quoted file book trip room ≡ unquoted number at
  unfolding quoted
  fault_quote number at e = rw (e, quoted)

  pub faultless_quote : (editions : Editions) → ReadFile file editions → quoted file book trip room ≡ quoted_under file editions book trip room
  unfolding quoted
  faultless_quote editions read = rw (read, quoted)

-- A refusal's answer, with nothing written.
pub quote_refusal_told :
    (q : Quote) (statement : List ℕ) (number place : ℕ) → q ≡ unquoted number place → place < 2 ^ 32
    → QuoteTold q statement statement (answer.Refused number place)
quote_refusal_told q statement number place e near = rw e (record { answer = refl; fits = near; recordable = none; statement_is = refl })

-- ---- The outcome.

-- the accepted trip in a window, by the tariff of its edition
abbrev pub accepted_under : List ℕ → Editions → List ℕ → List ℕ → Trip → Window → Outcome
accepted_under file editions book trip fields window =
    accepted_trip (tariff_in file editions window.edition) (counts_in editions window.edition) book trip fields window

-- what settling makes of a quote
abbrev pub after_quote : List ℕ → Quote → Outcome
after_quote new (unquoted number place) = refused number place
after_quote new (priced parts) = accepted new parts

module _ (file : List ℕ) (editions : Editions) (book trip : List ℕ) (room : ℕ) where
  pub by_quote : settled_under file editions book trip room ≡ after_quote (book_with file editions book trip) (quoted_under file editions book trip room)
  unfolding settled_under
  by_quote = same (quoted_under file editions book trip room)
    where
      same :
          (q : Quote)
          → (elim q as (λ x. Outcome) [
            | unquoted number place ↦ refused number place
            | priced parts ↦ accepted (book_with file editions book trip) parts
          ])
          ≡ after_quote (book_with file editions book trip) q
      same (unquoted number place) = refl
      same (priced parts) = refl

  pub refused_under :
      {why : Refusal} → decided_under file editions book trip room ≡ Refused why → settled_under file editions book trip room ≡ refused (refusal why) 0
  refused_under e = by_quote ∙ ap (after_quote (book_with file editions book trip)) (unquoted_under file editions book trip room e)

  pub unsound_under : sound_in editions book ≡ false → settled_under file editions book trip room ≡ refused (refusal why.UnsoundBook) 0
  unsound_under is = by_quote ∙ ap (after_quote (book_with file editions book trip)) (unsound_quote file editions book trip room is)

  pub accepted-under :
      (fields : Trip) (window : Window) {breaking : Breaking} → decided_under file editions book trip room ≡ Clear fields window breaking
      → settled_under file editions book trip room ≡ accepted_under file editions book trip fields window
  unfolding accepted_trip
  accepted-under fields window e =
      let (no_one, (fields_are, (window_is, broken))) = clear_found file editions book trip room e in
      by_quote ∙ ap (after_quote (book_with file editions book trip)) (priced_under file editions book trip room fields window e) ∙ rw (fields_are, window_is)

module _ (file book trip : List ℕ) (room : ℕ) where
  pub fault_way : (number at : ℕ) → read_file file ≡ Fault number at → settled file book trip room ≡ refused number at
  unfolding settled
  fault_way number at e = rw (e, settled)

  module _ (editions : Editions) (read : ReadFile file editions) where
    pub faultless_way : settled file book trip room ≡ settled_under file editions book trip room
    unfolding settled
    faultless_way = rw (read, settled)

    pub refused_way : {why : Refusal} → decided_under file editions book trip room ≡ Refused why → settled file book trip room ≡ refused (refusal why) 0
    refused_way e = faultless_way ∙ refused_under file editions book trip room e

    pub accepted_way :
        (fields : Trip) (window : Window) {breaking : Breaking} → decided_under file editions book trip room ≡ Clear fields window breaking
        → settled file book trip room ≡ accepted_under file editions book trip fields window
    accepted_way fields window e = faultless_way ∙ accepted-under file editions book trip room fields window e

-- A refusal's answer, with nothing written.
pub refusal_told :
    (o : Outcome) (book statement : List ℕ) (number place : ℕ) → o ≡ refused number place → place < 2 ^ 32
    → Told o book book statement statement (answer.Refused number place)
refusal_told o book statement number place e near =
    rw e (record { answer = refl; fits = near; recordable = none; book_is = refl; statement_is = refl })
