-- A quote and its posting: that together they are settling, when a posting is accepted, what its refusals say, and what comes back.
-- Assumes nothing.
use Prim.Native.Nat.{ℕ, ◌^◌, ◌≤◌, ◌<◌}
use native.Mathlib.Omega.{arith}
use mathlib.Core.Path.{◌≡◌, refl, sym, ap, subst, ◌∙◌}
use mathlib.Core.Logic.{◌↔◌, inl, inr, ⊎_elim}
use mathlib.Core.Bool.{Bool, true, false, cond, false≢true}
use mathlib.Core.List.{List}
use lib.ListN.{length, take, drop, length-append, length-drop}
use lib.Seq.{take-append_seam, drop_at}
use Rattle.editions.specs.declared.Editions.{Editions}
use Rattle.editions.specs.declared.FileReading.{FileReading}
use Rattle.editions.specs.declared.FileReading.TheVariants.{Fault, Faultless}
use Rattle.editions.specs.Editions.{counts_in, tariff_in}
use Rattle.editions.specs.Reading.{read_file, ReadFile, longest_file}
use Rattle.editions.proofs.FileLaws.{file_exactly}
use Rattle.editions.proofs.Cases.{file_fault_most}
use Rattle.trip.specs.declared.Trip.{Trip}
use Rattle.trip.specs.Record.{count_at}
use Rattle.trip.specs.Trips.{trip_of}
use Rattle.fare.specs.declared.Breaking.{Breaking}
use Rattle.fare.specs.Parts.{break_of}
use Rattle.ledger.specs.declared.Window.{Window}
use Rattle.ledger.specs.Words.{book_size}
use Rattle.ledger.proofs.SoundLaws.{sound_has}
use Rattle.statement.specs.Record.{Part, largest_statement, statement_of}
use Rattle.deciding.specs.declared.decide.Decision.{Decision}
use Rattle.deciding.specs.declared.decide.Decision.TheVariants.{Refused, Clear}
use Rattle.deciding.specs.declared.refusals.Refusal.TheVariants.{NoRoom, OtherRecord}
use Rattle.deciding.specs.Refusals.{refusal, last_refusal, Numbered, Verdict, nothing, found, first_of}
use Rattle.deciding.specs.Deciding.{decided_under}
use Rattle.settle.specs.Outcome.{
  Quote,
  unquoted,
  priced,
  Outcome,
  refused,
  accepted,
  trip_posted,
  parts_under,
  book_with,
  accepted_trip,
  quoted_under,
  quoted,
  settled,
  settled_under,
  Settled,
  Quoted,
}
use Rattle.settle.specs.Posting.{same_bytes, posting_rows, unposted, renewed, posting_of, Posted}
use Rattle.deciding.specs.Clauses.{AllClear}
use Rattle.settle.specs.Clauses.{clear_posting}
use Rattle.deciding.proofs.Rows.{has, first_range, first_has}
use Rattle.deciding.proofs.Decisions.{refused_found, clear_first, clear_found, all_clear}
use Rattle.settle.proofs.Ways.{
  unquoted_under,
  priced_under,
  fault_quote,
  faultless_quote,
  after_quote,
  by_quote,
  fault_way,
  faultless_way,
  refused_under,
  accepted-under,
}
use Rattle.settle.proofs.Clear.{parts_right, size_most}
use Rattle.settle.proofs.Postings.{
  posting_range,
  no_room_row,
  same_exactly,
  earlier_or_room,
  none_earlier,
  none_then,
  posting_found,
  posting_none,
  posting_earlier,
  posted_refused,
  posted_clear,
  fault_posting,
  faultless_posting,
}
use Rattle.promises.specs.Conditions.{RefusedBy, AcceptedBy}
use Rattle.promises.specs.Quotes.{InTwoSteps, refuse_alike, accept_alike, PostsQuote, PostingRefusedBy, at_fault, at_row}
use Rattle.promises.proofs.Refusing.{posting_first_exactly, none_exactly, fault_some}
use Rattle.promises.proofs.Answers.{windowBy, tariffBy, countsBy, clear, accepted-is, refused-exactly, refused-number}

-- ---- The quote and settling.

-- settling's outcome is made of the quote
module _ (file book trip : List ℕ) (room : ℕ) where
  pub data Made : Quote → Outcome → Type 0 where
    both_refuse : {number place : ℕ} → Made (unquoted number place) (refused number place)
    both_accept : {new : List ℕ} {parts : List Part} → Made (priced parts) (accepted new parts)

  made : Made (quoted file book trip room) (settled file book trip room)
  made = go (read_file file) refl
    where
      after : (new : List ℕ) (q : Quote) → Made q (after_quote new q)
      after new (unquoted number place) = both_refuse
      after new (priced parts) = both_accept

      go : (r : FileReading) → read_file file ≡ r → Made (quoted file book trip room) (settled file book trip room)
      go (Fault number at) e = rw (fault_quote file book trip room number at e, fault_way file book trip room number at e) both_refuse
      go (Faultless editions) e =
          rw (
            faultless_quote file book trip room editions e,
            faultless_way file book trip room editions e,
            by_quote file editions book trip room,
          )
          (after (book_with file editions book trip) (quoted_under file editions book trip room))

  -- A quote refuses exactly where settling does, with the same number and place.
  pub quote_refuses_alike : (n place : ℕ) → quoted file book trip room ≡ unquoted n place ↔ settled file book trip room ≡ refused n place
  quote_refuses_alike n place = (λ e. there _ _ made e, λ e. back _ _ made e)
    where
      there : (q : Quote) (o : Outcome) → Made q o → q ≡ unquoted n place → o ≡ refused n place
      there (unquoted m at) (refused m' at') both_refuse e = let same : m ≡ n = cc in let same' : at ≡ place = cc in rw (same, same')
      there (priced parts) (accepted new parts') both_accept e = absurd (let z : ◌≡◌ {A = ℕ} 0 1 = cc in omega arith)
      there (unquoted m at) (accepted new parts') made' e = elim made' [ ]
      there (priced parts) (refused m' at') made' e = elim made' [ ]

      back : (q : Quote) (o : Outcome) → Made q o → o ≡ refused n place → q ≡ unquoted n place
      back (unquoted m at) (refused m' at') both_refuse e = let same : m ≡ n = cc in let same' : at ≡ place = cc in rw (same, same')
      back (priced parts) (accepted new parts') both_accept e = absurd (let z : ◌≡◌ {A = ℕ} 0 1 = cc in omega arith)
      back (unquoted m at) (accepted new parts') made' e = elim made' [ ]
      back (priced parts) (refused m' at') made' e = elim made' [ ]

  -- And it tells the parts that settling would charge.
  pub quote_accepts_alike :
      (parts : List Part)
      → quoted file book trip room ≡ priced parts ↔ ((new : List ℕ) × (settled file book trip room ≡ accepted new parts))
  quote_accepts_alike parts = (λ e. there _ _ made e, λ w. back _ _ made w.0 w.1)
    where
      there : (q : Quote) (o : Outcome) → Made q o → q ≡ priced parts → (new : List ℕ) × (o ≡ accepted new parts)
      there (unquoted m at) (refused m' at') both_refuse e = absurd (let z : ◌≡◌ {A = ℕ} 0 1 = cc in omega arith)
      there (priced these) (accepted new these') both_accept e = let same : these ≡ parts = cc in (new, rw same)
      there (unquoted m at) (accepted new these') made' e = elim made' [ ]
      there (priced these) (refused m' at') made' e = elim made' [ ]

      back : (q : Quote) (o : Outcome) → Made q o → (new : List ℕ) → o ≡ accepted new parts → q ≡ priced parts
      back (unquoted m at) (refused m' at') both_refuse new e = absurd (let z : ◌≡◌ {A = ℕ} 0 1 = cc in omega arith)
      back (priced these) (accepted new' these') both_accept new e = let same : these ≡ parts = cc in rw same
      back (unquoted m at) (accepted new' these') made' new e = elim made' [ ]
      back (priced these) (refused m' at') made' new e = elim made' [ ]

  -- So each of 1 to 12 is given for a quote exactly under its own condition, in the table's order.
  pub quote_refused_exactly : (n place : ℕ) → quoted file book trip room ≡ unquoted n place ↔ RefusedBy file book trip room n place
  quote_refused_exactly n place =
      let alike = quote_refuses_alike n place in
      let exactly = refused-exactly file book trip room n place in
      (λ e. exactly.0 (alike.0 e), λ w. alike.1 (exactly.1 w))

  -- Its number is 1 to 12, 17 or 22, and 0 is the place from 4 on.
  pub quote_number :
      {n place : ℕ} → quoted file book trip room ≡ unquoted n place → (1 ≤ n) × Numbered last_refusal n × (place ≤ longest_file) × (4 ≤ n → place ≡ 0)
  quote_number {n} {place} e = refused-number file book trip room ((quote_refuses_alike n place).0 e)

  -- An accepted trip's records have room, and the new book is as long as every book.
  pub accepted_clear :
      {new : List ℕ} {parts : List Part} (a : AcceptedBy file book trip room new parts)
      → AllClear (tariffBy a) (countsBy a) book trip (trip_of trip) (windowBy a) (break_of (tariffBy a) (countsBy a) trip (count_at trip 0)) room
  accepted_clear a =
      all_clear file a.editions book trip _ _ _ room (record { read = a.read; sound_book = (clear a).sound_book })
      (clear_first file a.editions book trip room ((none_exactly file a.editions a.read book trip room).1 a.none))

  within_room : {new : List ℕ} {parts : List Part} → settled file book trip room ≡ accepted new parts → length (statement_of parts) ≤ room
  within_room e =
      let a = accepted-is file book trip room e in
      rw a.parts_is (size_most (tariffBy a) (countsBy a) book trip (trip_of trip) (windowBy a) room (accepted_clear a)).1

  new_size : {new : List ℕ} {parts : List Part} → settled file book trip room ≡ accepted new parts → length new ≡ book_size
  new_size e =
      let a = accepted-is file book trip room e in
      let sound_again = (parts_right (tariffBy a) (countsBy a) book trip (trip_of trip) (windowBy a) room (accepted_clear a)).1 in
      rw a.new_is (sound_has (book_with file a.editions book trip) (countsBy a).areas sound_again).size

-- ---- The posting.

-- what is decided to be clear with some room is so with room for the largest statement
largest_clear :
    (file : List ℕ) (editions : Editions) (book trip : List ℕ) (room : ℕ) {fields : Trip} {window : Window} {breaking : Breaking}
    → decided_under file editions book trip room ≡ Clear fields window breaking
    → decided_under file editions book trip largest_statement ≡ Clear fields window breaking
largest_clear file editions book trip room e =
    let (no_one, (fields_are, (window_is, broken_is))) = clear_found file editions book trip room e in
    clear_first file editions book trip largest_statement (none_then file editions book trip (none_earlier file editions book trip room no_one))
    ∙ rw (fields_are, window_is, broken_is)

module _ (file book trip : List ℕ) where
  -- Where settling accepts with some room, a posting of any record comes to the new book, or to 13 where the record is not settling's.
  pub posting_if_clear :
      (editions : Editions) → ReadFile file editions → (room : ℕ) {fields : Trip} {window : Window} {breaking : Breaking}
      → decided_under file editions book trip room ≡ Clear fields window breaking → (offered : List ℕ)
      → posting_of file book trip offered
      ≡ clear_posting (tariff_in file editions window.edition) (counts_in editions window.edition) book trip fields window offered
  posting_if_clear editions read room {fields} {window} e offered =
      faultless_posting file book trip offered editions read
      ∙ posted_clear file editions book trip offered fields window (largest_clear file editions book trip room e)

  -- A quote, and at once its posting: settling.
  pub quote_then_post : (room : ℕ) → InTwoSteps file book trip (quoted file book trip room) (settled file book trip room)
  unfolding accepted_trip
  quote_then_post room = go (read_file file) refl
    where
      under :
          (editions : Editions) → ReadFile file editions → (d : Decision) → decided_under file editions book trip room ≡ d
          → InTwoSteps file book trip (quoted_under file editions book trip room) (settled_under file editions book trip room)
      under editions read (Refused why) e =
          rw (unquoted_under file editions book trip room e, refused_under file editions book trip room e)
          (refuse_alike
          (⊎_elim
          (λ is.
          inr
          (λ offered.
          faultless_posting file book trip offered editions read
          ∙ posting_found file editions book trip offered (posting_earlier file editions book trip offered is)))
          (λ small. inl (ap refusal small.1.0))
          (earlier_or_room file editions book trip room (refused_found file editions book trip room e))))
      under editions read (Clear fields window breaking) e =
          let parts = parts_under file editions book trip fields window in
          rw (priced_under file editions book trip room fields window e, accepted-under file editions book trip room fields window e)
          (accept_alike {new = trip_posted (tariff_in file editions window.edition) (counts_in editions window.edition) book trip fields window}
          (posting_if_clear editions read room e (statement_of parts) ∙ rw ((same_exactly (statement_of parts) (statement_of parts)).1 refl)))

      go : (r : FileReading) → read_file file ≡ r → InTwoSteps file book trip (quoted file book trip room) (settled file book trip room)
      go (Fault number at) e =
          rw (fault_quote file book trip room number at e, fault_way file book trip room number at e)
          (refuse_alike (inr (λ offered. fault_posting file book trip offered number at e)))
      go (Faultless editions) e =
          rw (faultless_quote file book trip room editions e, faultless_way file book trip room editions e)
          (under editions e (decided_under file editions book trip room) refl)

  -- The present quote decides what comes of every record: each is refused as the quote is, or each but the quote's own is refused with 13.
  pub data Present : Type 0 where
    refuses :
        (n place : ℕ) → ((offered : List ℕ) → posting_of file book trip offered ≡ unposted n place)
        → quoted file book trip largest_statement ≡ unquoted n place → Present
    quotes :
        (parts : List Part) (new : List ℕ)
        → ((offered : List ℕ)
        → posting_of file book trip offered ≡ cond (same_bytes (statement_of parts) offered) (renewed new) (unposted (refusal OtherRecord) 0))
        → quoted file book trip largest_statement ≡ priced parts → settled file book trip largest_statement ≡ accepted new parts → Present

  pub present : Present
  unfolding accepted_trip
  present = go (read_file file) refl
    where
      under : (editions : Editions) → ReadFile file editions → (d : Decision) → decided_under file editions book trip largest_statement ≡ d → Present
      under editions read (Refused why) e =
          refuses (refusal why) 0
          (λ offered. faultless_posting file book trip offered editions read ∙ posted_refused file editions book trip offered e)
          (faultless_quote file book trip largest_statement editions read ∙ unquoted_under file editions book trip largest_statement e)
      under editions read (Clear fields window breaking) e =
          quotes (parts_under file editions book trip fields window)
          (trip_posted (tariff_in file editions window.edition) (counts_in editions window.edition) book trip fields window)
          (posting_if_clear editions read largest_statement e)
          (faultless_quote file book trip largest_statement editions read ∙ priced_under file editions book trip largest_statement fields window e)
          (faultless_way file book trip largest_statement editions read ∙ accepted-under file editions book trip largest_statement fields window e)

      go : (r : FileReading) → read_file file ≡ r → Present
      go (Fault number at) e =
          refuses number at (λ offered. fault_posting file book trip offered number at e) (fault_quote file book trip largest_statement number at e)
      go (Faultless editions) e = under editions e (decided_under file editions book trip largest_statement) refl

  -- A posting is accepted exactly where the record is the bytes of the present quote; and the book that it leaves is settling's.
  pub posted_exactly : (offered new : List ℕ) → posting_of file book trip offered ≡ renewed new ↔ PostsQuote file book trip offered new
  posted_exactly offered new = (there present, back present)
    where
      told :
          (parts : List Part) (new' : List ℕ) → quoted file book trip largest_statement ≡ priced parts
          → settled file book trip largest_statement ≡ accepted new' parts → (t : Bool) → same_bytes (statement_of parts) offered ≡ t
          → cond t (renewed new') (unposted (refusal OtherRecord) 0) ≡ renewed new → PostsQuote file book trip offered new
      told parts new' q s true is e =
          let same : new' ≡ new = cc in
          record { parts = parts; quote = q; bytes = (same_exactly (statement_of parts) offered).0 is; as_settled = rw (← same) s }
      told parts new' q s false is e = absurd (let z : ◌≡◌ {A = ℕ} 0 1 = cc in omega arith)

      there : Present → posting_of file book trip offered ≡ renewed new → PostsQuote file book trip offered new
      there (refuses n place posts q) e = absurd (let e' = posts offered in let z : ◌≡◌ {A = ℕ} 0 1 = cc in omega arith)
      there (quotes parts new' posts q s) e = told parts new' q s (same_bytes (statement_of parts) offered) refl (sym (posts offered) ∙ e)

      back : Present → PostsQuote file book trip offered new → posting_of file book trip offered ≡ renewed new
      back (refuses n place posts q) w = absurd (let q' = w.quote in let z : ◌≡◌ {A = ℕ} 0 1 = cc in omega arith)
      back (quotes parts new' posts q s) w =
          let q' = w.quote in
          let s' = w.as_settled in
          let same : parts ≡ w.parts = cc in
          let same' : new' ≡ new = cc in
          posts offered ∙ rw ((same_exactly (statement_of parts) offered).1 (ap statement_of same ∙ w.bytes), same')

  -- A quote is stale only by its bytes: whatever book and room it was made with, it is accepted on a book whose quote has the same bytes.
  pub stale_only_by_bytes :
      (book₀ : List ℕ) (room₀ : ℕ) (parts₀ parts : List Part) → quoted file book₀ trip room₀ ≡ priced parts₀
      → quoted file book trip largest_statement ≡ priced parts → statement_of parts₀ ≡ statement_of parts
      → (new : List ℕ) × (posting_of file book trip (statement_of parts₀) ≡ renewed new)
  stale_only_by_bytes book₀ room₀ parts₀ parts before now same =
      let (new, settles) = (quote_accepts_alike file book trip largest_statement parts).0 now in
      (new, (posted_exactly (statement_of parts₀) new).1 (record { parts = parts; quote = now; bytes = sym same; as_settled = settles }))

  -- ---- Its refusals.

  -- Each of 1 to 11 and 13 is given exactly under its own condition, in the table's order.
  pub posting_refused_exactly :
      (offered : List ℕ) (n place : ℕ) → posting_of file book trip offered ≡ unposted n place ↔ PostingRefusedBy file book trip offered n place
  posting_refused_exactly offered n place = (go (read_file file) refl, back)
    where
      by_row :
          (editions : Editions) → ReadFile file editions → (f : Verdict) → first_of (posting_rows file editions book trip offered) ≡ f
          → posting_of file book trip offered ≡ unposted n place → PostingRefusedBy file book trip offered n place
      by_row editions read (found why) is e =
          let e' = faultless_posting file book trip offered editions read ∙ posting_found file editions book trip offered is in
          let number : n ≡ refusal why = cc in
          let at : place ≡ 0 = cc in
          at_row editions read why number at ((posting_first_exactly file editions read book trip offered why).0 is)
      by_row editions read nothing is e =
          let e' = faultless_posting file book trip offered editions read ∙ posting_none file editions book trip offered is in
          absurd (let z : ◌≡◌ {A = ℕ} 0 1 = cc in omega arith)

      go : (r : FileReading) → read_file file ≡ r → posting_of file book trip offered ≡ unposted n place → PostingRefusedBy file book trip offered n place
      go (Fault m at) is e =
          let e' = fault_posting file book trip offered m at is in
          let number : m ≡ n = cc in
          let here : at ≡ place = cc in
          at_fault ((file_exactly file (Fault n place)).0 (is ∙ rw (number, here)))
      go (Faultless editions) is e = by_row editions is (first_of (posting_rows file editions book trip offered)) refl e

      back : PostingRefusedBy file book trip offered n place → posting_of file book trip offered ≡ unposted n place
      back (at_fault says) = fault_posting file book trip offered n place ((file_exactly file (Fault n place)).1 says)
      back (at_row editions read why is at first) =
          rw (is, at)
          (faultless_posting file book trip offered editions read
          ∙ posting_found file editions book trip offered ((posting_first_exactly file editions read book trip offered why).1 first))

  -- Its number is 1 to 11, 13, 17 or 22, its place lies in the file or at its end, and 0 is the place from 4 on.
  pub posting_number :
      (offered : List ℕ) {n place : ℕ} → posting_of file book trip offered ≡ unposted n place
      → (1 ≤ n) × Numbered (refusal OtherRecord) n × (n ≡ refusal NoRoom → ⊥) × (place ≤ longest_file) × (4 ≤ n → place ≡ 0)
  posting_number offered {n} {place} e = met ((posting_refused_exactly offered n place).0 e)
    where
      met :
          PostingRefusedBy file book trip offered n place
          → (1 ≤ n) × Numbered (refusal OtherRecord) n × (n ≡ refusal NoRoom → ⊥) × (place ≤ longest_file) × (4 ≤ n → place ≡ 0)
      met (at_fault says) =
          let (small, near) = file_fault_most file n place ((file_exactly file (Fault n place)).1 says) in
          (fault_some says, inl (omega (arith, small)), λ twelve. omega (arith, small), near, λ h. absurd (omega (arith, small)))
      met (at_row editions read why is at first) =
          let table = posting_rows file editions book trip offered in
          let there = (posting_first_exactly file editions read book trip offered why).1 first in
          let (low, high) = first_range (refusal OtherRecord) table (posting_range file editions book trip offered) there in
          let stands = first_has refusal table there in (
            omega (arith, is, low),
            rw is high,
            λ twelve.
                false≢true (sym (no_room_row file editions book trip offered) ∙ ap (λ (k : ℕ). has refusal k table) (sym twelve ∙ is) ∙ stands),
            omega (arith, at),
            λ h. at,
          )

  -- ---- What comes back.

  -- A refused posting leaves the book.
  pub posting_leaves :
      (offered : List ℕ) {n place : ℕ} {book' : List ℕ} {r : ℕ} → posting_of file book trip offered ≡ unposted n place
      → Posted (posting_of file book trip offered) book book' r → book' ≡ book
  posting_leaves offered {n} {place} {book'} {r} e p = let p' : Posted (unposted n place) book book' r = rw e at p in p'.book_is

  -- An accepted one leaves a book of the same length, 5,472 bytes, and that is the answer.
  pub posting_size : (offered : List ℕ) {new : List ℕ} → posting_of file book trip offered ≡ renewed new → length new ≡ book_size
  posting_size offered {new} e = new_size file book trip largest_statement ((posted_exactly offered new).0 e).as_settled

-- Two results that the contract allows for the same quote are equal: the answer and every byte of the statement. And so it is with a
-- posting: the answer and the book.
pub quote_determined :
    (file book trip statement : List ℕ) {s₁ s₂ : List ℕ} {r₁ r₂ : ℕ} → Quoted (quoted file book trip (length statement)) statement s₁ r₁
    → Quoted (quoted file book trip (length statement)) statement s₂ r₂ → (r₁ ≡ r₂) × (s₁ ≡ s₂)
quote_determined file book trip statement one other = (one.answer ∙ sym other.answer, one.statement_is ∙ sym other.statement_is)

pub posting_determined :
    (file book trip offered : List ℕ) {b₁ b₂ : List ℕ} {r₁ r₂ : ℕ} → Posted (posting_of file book trip offered) book b₁ r₁
    → Posted (posting_of file book trip offered) book b₂ r₂ → (r₁ ≡ r₂) × (b₁ ≡ b₂)
posting_determined file book trip offered one other = (one.answer ∙ sym other.answer, one.book_is ∙ sym other.book_is)

-- Quoting once more, into the statement that the first quote left, gives the same answer and changes no byte.
pub quote_again :
    (file book trip statement : List ℕ) {s₁ s₂ : List ℕ} {r₁ r₂ : ℕ} → Quoted (quoted file book trip (length statement)) statement s₁ r₁
    → Quoted (quoted file book trip (length s₁)) s₁ s₂ r₂ → (r₂ ≡ r₁) × (s₂ ≡ s₁)
quote_again file book trip statement {s₁} {s₂} {r₁} {r₂} one other = go (quoted file book trip (length statement)) refl one
  where
    same_room : length s₁ ≡ length statement → Quoted (quoted file book trip (length statement)) s₁ s₂ r₂
    same_room e = subst (λ (room : ℕ). Quoted (quoted file book trip room) s₁ s₂ r₂) e other

    go : (q : Quote) → quoted file book trip (length statement) ≡ q → Quoted q statement s₁ r₁ → (r₂ ≡ r₁) × (s₂ ≡ s₁)
    go (unquoted n place) is one' =
        let other' : Quoted (unquoted n place) s₁ s₂ r₂ = rw is at (same_room (ap length one'.statement_is)) in
        (other'.answer ∙ sym one'.answer, other'.statement_is)
    go (priced parts) is one' =
        let (new, settles) = (quote_accepts_alike file book trip (length statement) parts).0 is in
        let bytes = statement_of parts in
        let fits = within_room file book trip (length statement) settles in
        let long : length s₁ ≡ length statement =
        ap length one'.statement_is ∙ length-append bytes (drop (length bytes) statement)
        ∙ rw (length-drop (length bytes) statement) (omega (arith, fits))
        in
        let other' : Quoted (priced parts) s₁ s₂ r₂ = rw is at (same_room long) in
        let rest : drop (length bytes) s₁ ≡ drop (length bytes) statement =
        ap (drop (length bytes)) one'.statement_is ∙ drop_at bytes (drop (length bytes) statement) (length bytes) refl
        in
        (other'.answer ∙ sym one'.answer, other'.statement_is ∙ rw rest (sym one'.statement_is))

-- In two calls, as the contracts of the exported functions have them: where a quote is accepted, its bytes posted at once give settling's
-- book, and its answer and its statement are settling's.
pub in-two-calls :
    (file book trip statement : List ℕ) {s₁ b₂ b₃ s₃ : List ℕ} {r₁ r₂ r₃ : ℕ} → Quoted (quoted file book trip (length statement)) statement s₁ r₁
    → r₁ < 2 ^ 32 → Posted (posting_of file book trip (take r₁ s₁)) book b₂ r₂
    → Settled (settled file book trip (length statement)) book b₃ statement s₃ r₃ → (r₁ ≡ r₃) × (s₁ ≡ s₃) × (b₂ ≡ b₃) × (r₂ ≡ book_size)
in-two-calls file book trip statement {s₁} {b₂} {b₃} {s₃} {r₁} {r₂} {r₃} quoting near posting settling =
    go (quoted file book trip (length statement)) (settled file book trip (length statement)) (quote_then_post file book trip (length statement)) refl
    quoting settling
  where
    go :
        (q : Quote) (o : Outcome) → InTwoSteps file book trip q o → settled file book trip (length statement) ≡ o → Quoted q statement s₁ r₁
        → Settled o book b₃ statement s₃ r₃ → (r₁ ≡ r₃) × (s₁ ≡ s₃) × (b₂ ≡ b₃) × (r₂ ≡ book_size)
    go (unquoted n place) (refused n' place') (refuse_alike why) is quoting' settling' =
        let (low, high, small, none) = refused-number file book trip (length statement) is in
        absurd (omega (arith, quoting'.answer))
    go (priced parts) (accepted new parts') (accept_alike posts) is quoting' settling' =
        let first : take r₁ s₁ ≡ statement_of parts = rw (quoting'.answer, quoting'.statement_is) (take-append_seam (statement_of parts) _) in
        let posting' : Posted (renewed new) book b₂ r₂ = rw (first, posts) at posting in (
          quoting'.answer ∙ sym settling'.answer,
          quoting'.statement_is ∙ sym settling'.statement_is,
          posting'.book_is ∙ sym settling'.book_is,
          posting'.answer ∙ new_size file book trip (length statement) is,
        )
    go (unquoted n place) (accepted new parts') steps is quoting' settling' = elim steps [ ]
    go (priced parts) (refused n' place') steps is quoting' settling' = elim steps [ ]
