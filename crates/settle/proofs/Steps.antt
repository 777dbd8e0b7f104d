-- A step that is accepted, a posting too, is the trip's settling: the same book, and the same parts. So what holds of every settling holds of
-- every step.
-- Assumes nothing.
use Prim.Native.Nat.{ℕ}
use native.Mathlib.Omega.{arith}
use mathlib.Core.Path.{◌≡◌, refl, ap, ◌∙◌}
use mathlib.Core.Bool.{Bool, true, false, cond}
use mathlib.Core.List.{List, [], ◌∷◌}
use Rattle.editions.specs.declared.Editions.{Editions}
use Rattle.editions.specs.declared.FileReading.{FileReading}
use Rattle.editions.specs.declared.FileReading.TheVariants.{Fault, Faultless}
use Rattle.editions.specs.Reading.{read_file, ReadFile}
use Rattle.statement.specs.Record.{Part, largest_statement, statement_of}
use Rattle.deciding.specs.declared.decide.Decision.{Decision}
use Rattle.deciding.specs.declared.decide.Decision.TheVariants.{Refused, Clear}
use Rattle.deciding.specs.declared.refusals.Refusal.TheVariants.{OtherRecord}
use Rattle.deciding.specs.Refusals.{refusal}
use Rattle.deciding.specs.Deciding.{decided_under}
use Rattle.settle.specs.Outcome.{accepted, parts_under, accepted_trip, quoted, settled, parts_priced, book_after}
use Rattle.settle.specs.Posting.{same_bytes, unposted, renewed, posting_of}
use Rattle.settle.specs.Runs.{Offer, run_from, book_from}
use Rattle.settle.specs.Steps.{
  Step,
  settling,
  posting,
  offer_of,
  posted_in,
  step_outcome,
  each_from,
  book_after_each,
  under,
  steps_from,
  book_after_steps,
  settlings,
}
use Rattle.settle.proofs.Ways.{priced_under, faultless_quote, faultless_way, accepted-under}
use Rattle.settle.proofs.Postings.{posted_refused, posted_clear, fault_posting, faultless_posting}

-- ---- One step.

module _ (file book trip offered : List ℕ) {new : List ℕ} {parts : List Part}
    (is : posted_in (parts_priced (quoted file book trip largest_statement)) (posting_of file book trip offered) ≡ accepted new parts) where
  -- A posting that is accepted is the trip's settling, with room for any trip's records.
  pub posting_settles : settled file book trip largest_statement ≡ accepted new parts
  unfolding accepted_trip
  posting_settles = go (read_file file) refl
    where
      by_bytes :
          (posted : List ℕ) (charged : List Part) (same : Bool)
          → posted_in charged (cond same (renewed posted) (unposted (refusal OtherRecord) 0)) ≡ accepted new parts
          → accepted posted charged ≡ accepted new parts
      by_bytes posted charged true e = e
      by_bytes posted charged false e = absurd (let z : ◌≡◌ {A = ℕ} 0 1 = cc in omega arith)

      decided :
          (editions : Editions) → ReadFile file editions → (d : Decision) → decided_under file editions book trip largest_statement ≡ d
          → settled file book trip largest_statement ≡ accepted new parts
      decided editions read (Refused why) e =
          let e' = faultless_posting file book trip offered editions read ∙ posted_refused file editions book trip offered e in
          absurd (let z : ◌≡◌ {A = ℕ} 0 1 = cc (rw e' at is) in omega arith)
      decided editions read (Clear fields window breaking) e =
          let quote = faultless_quote file book trip largest_statement editions read ∙ priced_under file editions book trip largest_statement fields window e in
          let posts = faultless_posting file book trip offered editions read ∙ posted_clear file editions book trip offered fields window e in
          faultless_way file book trip largest_statement editions read
          ∙ accepted-under file editions book trip largest_statement fields window e
          ∙ by_bytes _ _ (same_bytes (statement_of (parts_under file editions book trip fields window)) offered) (rw (quote, posts) at is)

      go : (r : FileReading) → read_file file ≡ r → settled file book trip largest_statement ≡ accepted new parts
      go (Fault number at) e =
          let e' = fault_posting file book trip offered number at e in
          absurd (let z : ◌≡◌ {A = ℕ} 0 1 = cc (rw e' at is) in omega arith)
      go (Faultless editions) e = decided editions e (decided_under file editions book trip largest_statement) refl

-- So it is with every step.
pub step_settles :
    (file book : List ℕ) (step : Step) {new : List ℕ} {parts : List Part} → step_outcome file book step ≡ accepted new parts
    → settled file book (offer_of step).bytes (offer_of step).room ≡ accepted new parts
unfolding step_outcome
step_settles file book (settling o) is = is
step_settles file book (posting trip offered) is = posting_settles file book trip offered is

-- ---- Trips that are all settled are a run.

pub settlings_run : (file book : List ℕ) (run : List Offer) → steps_from file book (settlings run) ≡ run_from file book run
unfolding each_from under settlings run_from step_outcome
settlings_run file book [] = refl
settlings_run file book (o ∷ run) =
    let outcome = settled file book o.bytes o.room in
    ap (record { book = book; offer = o; outcome = outcome } ∷◌) (settlings_run file (book_after outcome book) run)

pub settlings_book : (file book : List ℕ) (run : List Offer) → book_after_steps file book (settlings run) ≡ book_from file book run
unfolding book_after_each under settlings book_from step_outcome
settlings_book file book [] = refl
settlings_book file book (o ∷ run) = settlings_book file (book_after (settled file book o.bytes o.room) book) run
