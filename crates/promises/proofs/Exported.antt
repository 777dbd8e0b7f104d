-- What holds of the exported functions by their contracts alone, as C calls them: what was settled or quoted is read back; and of calls on a
-- page, in any order, an association is told what its own calls tell it.
-- Assumes nothing.
use Prim.Native.Nat.{ℕ, ◌+◌, ◌^◌, ◌≤◌, ◌<◌}
use native.Mathlib.Omega.{arith}
use mathlib.Core.Path.{◌≡◌, refl, sym, ap, ◌∙◌}
use mathlib.Core.Bool.{false}
use mathlib.Core.List.{List, [], ◌∷◌}
use borrow.Author.Tests.{le-ltb, lt-ltb, eq-eqb, ne_eqb}
use lib.ListN.{length}
use lib.Seq.{take-append_seam}
use Rattle.editions.specs.declared.Editions.{Editions}
use Rattle.editions.specs.declared.FileReading.{FileReading}
use Rattle.editions.specs.declared.FileReading.TheVariants.{Fault, Faultless}
use Rattle.editions.specs.Reading.{read_file, ReadFile, longest_file}
use Rattle.editions.proofs.FileLaws.{file_exactly}
use Rattle.editions.proofs.Cases.{file_fault_most}
use Rattle.ledger.specs.Words.{book_size}
use Rattle.statement.specs.Record.{Part, count_of, record_of, statement_of}
use Rattle.reader.specs.Fields.{fields_of}
use Rattle.reader.specs.Filling.{field_size, filled, filling_from}
use Rattle.settle.specs.Outcome.{Quote, unquoted, priced, Outcome, refused, accepted, quoted, settled_under, settled, parts_in, Settled, Quoted}
use Rattle.settle.specs.Posting.{Posting, unposted, renewed, posting_of, Posted}
use Rattle.settle.proofs.Ways.{faultless_way}
use Rattle.page.specs.Pages.{number_size, start_of, book_at, replaced}
use Rattle.accounts.specs.Members.{on_page, member_settled}
use Rattle.accounts.specs.Associations.{own_places, first_place, is_association, AgreeFor, settled_for}
use Rattle.accounts.specs.Associations as refusals
use Rattle.accounts.specs.InWords as words
use Rattle.accounts.specs.InWords.{settle_faulty, settle_eighteen, settle_nineteen, settle_table}
use Rattle.accounts.specs.Lent.{page_posted}
use Rattle.accounts.specs.Calls.{Call}
use Rattle.accounts.specs.Sharing.{Asked, page_with_for, page_shared, calls_of, Reply, reply_to, replies_to}
use Rattle.page.proofs.Replacing.{put_back}
use Rattle.accounts.proofs.Effects.{at_fault, settle_wrong_page, settle_absent, settle_at, settling, Settling}
use Rattle.accounts.proofs.Halves.{
  Which,
  is_one,
  is_none,
  which,
  one_is,
  settled_none_under,
  for_fault,
  for_read,
  settled-for,
  settling_refused_for,
}
use Rattle.accounts.proofs.Lending.{posted_there, posted-for}
use Rattle.accounts.proofs.Sharing.{runs_alike}
use Rattle.milecopper.specs.Clauses.{ReadTo}
use Rattle.promises.specs.ReadBack.{ReadFrom, over, then, EachReadable, nobody, also}
use Rattle.promises.specs.Exported.{
  ReadOut,
  no_more,
  one_more,
  written_by,
  Called,
  called_add,
  called_close,
  called_settle,
  called_post,
  CalledAll,
  no_call,
  own_call,
  others_call,
}
use Rattle.promises.proofs.Refusing.{fault_some}
use Rattle.promises.proofs.Answers.{refused-number, accepted-answer}
use Rattle.promises.proofs.Quotes.{quote_refuses_alike, quote_accepts_alike}
use Rattle.promises.proofs.ReadBack.{settled_readable, settled_read_back}

-- ---- What was written is read.

-- what a record is read as, it is filled as, with room for the fields of any
read_out : (statement : List ℕ) (place : ℕ) (parts : List Part) → EachReadable parts → ReadFrom statement place parts → ReadOut statement place parts
unfolding filling_from
read_out statement place [] nobody over = no_more
read_out statement place (part ∷ parts) (also complete ok each) (then e rest) =
    one_more {place = place} {part = part}
    (λ before after r room to.
    let party = ok.whose in
    let fits : field_size (count_of part.ride.party) ≤ length before = omega (arith, room, party.0, party.1.0, party.1.1) in
    let to' : ReadTo (filled (fields_of part) (length (record_of part))) before after r =
    rw (e, le-ltb (length before) (field_size (count_of part.ride.party)) fits) at to
    in
    (to'.answer, to'.fields_are))
    (read_out statement (place + length (record_of part)) parts each rest)

module _ (file book trip statement : List ℕ) where
  -- Settled, and read: where the answer is that bytes were written, they are the charge records of the trip's parts, and `milecopper_read` tells
  -- these one after another, to the field.
  pub settle_then_read :
      {book' statement' : List ℕ} {r : ℕ} → Settled (settled file book trip (length statement)) book book' statement statement' r → r < 2 ^ 32
      → (parts : List Part)
      × ((settled file book trip (length statement) ≡ accepted book' parts) × ((length (statement_of parts) ≡ r) × ReadOut statement' 0 parts))
  settle_then_read {book'} {statement'} {r} s near = go (settled file book trip (length statement)) refl s
    where
      go :
          (o : Outcome) → settled file book trip (length statement) ≡ o → Settled o book book' statement statement' r
          → (parts : List Part)
          × ((settled file book trip (length statement) ≡ accepted book' parts) × ((length (statement_of parts) ≡ r) × ReadOut statement' 0 parts))
      go (refused n place) is s' =
          absurd (omega (arith, s'.answer, (refused-number file book trip (length statement) is).0))
      go (accepted new parts) is s' =
          let back = settled_read_back file book trip statement (length statement) is in
          let readable = settled_readable file book trip (length statement) is in
          (parts, (is ∙ rw s'.book_is, (sym s'.answer, rw s'.statement_is (read_out _ 0 parts readable back))))

  -- Quoted, and read.
  pub quote_then_read :
      {statement' : List ℕ} {r : ℕ} → Quoted (quoted file book trip (length statement)) statement statement' r → r < 2 ^ 32
      → (parts : List Part)
      × ((quoted file book trip (length statement) ≡ priced parts) × ((length (statement_of parts) ≡ r) × ReadOut statement' 0 parts))
  quote_then_read {statement'} {r} q near = go (quoted file book trip (length statement)) refl q
    where
      go :
          (o : Quote) → quoted file book trip (length statement) ≡ o → Quoted o statement statement' r
          → (parts : List Part)
          × ((quoted file book trip (length statement) ≡ priced parts) × ((length (statement_of parts) ≡ r) × ReadOut statement' 0 parts))
      go (unquoted n place) is q' =
          let settles = (quote_refuses_alike file book trip (length statement) n place).0 is in
          absurd (omega (arith, q'.answer, (refused-number file book trip (length statement) settles).0))
      go (priced parts) is q' =
          let (new, settles) = (quote_accepts_alike file book trip (length statement) parts).0 is in
          let back = settled_read_back file book trip statement (length statement) settles in
          let readable = settled_readable file book trip (length statement) settles in
          (parts, (is, (sym q'.answer, rw q'.statement_is (read_out _ 0 parts readable back))))

-- ---- A call on a page.

-- a member's trip that is refused has a number; one that is accepted is accepted on a book
module _ (file : List ℕ) (association : ℕ) (page : List ℕ) (member : ℕ) (trip : List ℕ) (room : ℕ) where
  faulty_number : {n at : ℕ} → read_file file ≡ Fault n at → (1 ≤ n) × (at ≤ longest_file)
  faulty_number {n} {at} e = (fault_some ((file_exactly file (Fault n at)).0 e), (file_fault_most file n at e).1)

  pub for_number : {n at : ℕ} → settled_for file association page member trip room ≡ refused n at → (1 ≤ n) × (at ≤ longest_file)
  for_number {n} {at} e = met ((settling_refused_for association page member file trip room n at).0 e)
    where
      behind : {n at : ℕ} → words.SettlingRefused file (first_place association) own_places page member trip room n at → (1 ≤ n) × (at ≤ longest_file)
      behind (settle_faulty n at e) = faulty_number e
      behind (settle_eighteen editions read why) = (omega arith, omega arith)
      behind (settle_nineteen editions read none absent) = (omega arith, omega arith)
      behind (settle_table editions read none one n at e) =
          let (low, high, near, none-behind) =
          refused-number file (book_at page one.place) trip room (faultless_way file (book_at page one.place) trip room editions read ∙ e)
          in
          (low, near)

      met : {n at : ℕ} → refusals.SettlingRefusedFor file association page member trip room n at → (1 ≤ n) × (at ≤ longest_file)
      met (refusals.for_faulty n at e) = faulty_number e
      met (refusals.for_twenty_one editions read none) = (omega arith, omega arith)
      met (refusals.for_others editions read one n at w) = behind w

  -- in some places
  placed_few :
      {new : List ℕ} {parts : List Part} → member_settled file (first_place association) own_places page member trip room ≡ accepted new parts
      → length (statement_of parts) < 2 ^ 32
  placed_few {new} {parts} e = go (settling (first_place association) own_places page member file trip room)
    where
      by_book :
          (editions : Editions) (q : ℕ) → ReadFile file editions → (o : Outcome) → settled_under file editions (book_at page q) trip room ≡ o
          → on_page page q o ≡ accepted new parts → length (statement_of parts) < 2 ^ 32
      by_book editions q read (refused n at) is e' = absurd (let z : ◌≡◌ {A = ℕ} 0 1 = cc in omega arith)
      by_book editions q read (accepted book these) is e' =
          let same : these ≡ parts = cc in
          let settles = faultless_way file (book_at page q) trip room editions read ∙ is in
          let few = (accepted-answer file (book_at page q) trip room settles).1 in
          omega (arith, rw settles at few, ap (λ (l : List Part). length (statement_of l)) same)

      go : Settling (first_place association) own_places page member file trip room → length (statement_of parts) < 2 ^ 32
      go (at_fault n at is e') = absurd (let z : ◌≡◌ {A = ℕ} 0 1 = cc in omega arith)
      go (settle_wrong_page editions read why e') = absurd (let z : ◌≡◌ {A = ℕ} 0 1 = cc in omega arith)
      go (settle_absent editions read p can none e') = absurd (let z : ◌≡◌ {A = ℕ} 0 1 = cc in omega arith)
      go (settle_at editions q read p can l e') =
          by_book editions q read (settled_under file editions (book_at page q) trip room) refl (sym e' ∙ e)

  pub for_few : {new : List ℕ} {parts : List Part} → settled_for file association page member trip room ≡ accepted new parts → length (statement_of parts) < 2 ^ 32
  for_few {new} {parts} e = go (which association)
    where
      none_taken : is_association association ≡ false → (r : FileReading) → read_file file ≡ r → length (statement_of parts) < 2 ^ 32
      none_taken none (Fault n at) is =
          absurd (let z : ◌≡◌ {A = ℕ} 0 1 = cc (for_fault association page member file trip room n at is, e) in omega arith)
      none_taken none (Faultless editions) is =
          let e' = for_read association page member file trip room editions is ∙ settled_none_under association page member none file editions trip room in
          absurd (let z : ◌≡◌ {A = ℕ} 0 1 = cc (e', e) in omega arith)

      go : Which association → length (statement_of parts) < 2 ^ 32
      go (is_one one is) = placed_few (sym (settled-for association page member file trip room is) ∙ e)
      go (is_none none is) = none_taken is (read_file file) refl

  -- So what it writes to a statement is told by the answer and the statement that it leaves.
  written_is :
      (o : Outcome) → settled_for file association page member trip room ≡ o → {page' statement statement' : List ℕ} {r : ℕ}
      → Settled o page page' statement statement' r → written_by r statement' ≡ statement_of (parts_in o)
  unfolding statement_of
  written_is (refused n at) is {r = r} s =
      let some = (for_number is).0 in
      let large : 2 ^ 32 ≤ r = omega (arith, s.answer) in
      rw (le-ltb r (2 ^ 32) large)
  written_is (accepted new parts) is {statement = statement} {statement' = statement'} {r = r} s =
      let few = for_few is in
      let small : r < 2 ^ 32 = omega (arith, s.answer) in
      rw (lt-ltb r (2 ^ 32) small, s.answer, s.statement_is) (take-append_seam (statement_of parts) _)

-- A call by its contract leaves the page and tells the reply that the definitions of runs have.
pub call_is :
    (association : ℕ) {page page' : List ℕ} {call : Call} {reply : Reply} → Called association page page' call reply
    → (page' ≡ page_with_for association page call) × (reply ≡ reply_to association page call)
unfolding page_with_for reply_to
call_is association (called_add c) = (c.page_is, rw (c.answer, c.page_is))
call_is association (called_close c) = (c.page_is, rw (c.answer, c.page_is))
call_is association {page} (called_settle {file} {member} {trip} {statement} s) =
    let outcome = settled_for file association page member trip (length statement) in
    let written = written_is file association page member trip (length statement) outcome refl s in
    (s.book_is, rw (written, s.answer, s.book_is))
call_is association {page} {page'} (called_post {file} {place} {trip} {offered} {book'} {r} one lent posted is) =
    let there = posted-for file association page place trip offered (one_is one) ∙ posted_there file (first_place association) own_places page place trip offered lent in
    let left = on-page (posting_of file (book_at page place) trip offered) posted in
    (is ∙ left ∙ rw there, rw (posted.answer, is ∙ left, there))
  where
    on-page :
        (p : Posting) → Posted p (book_at page place) book' r → replaced page (start_of place + number_size) book_size book' ≡ page_posted page place p
    on-page (unposted n at) posted = rw posted.book_is (put_back page (start_of place + number_size) book_size)
    on-page (renewed new) posted = rw posted.book_is

-- ---- Calls one after another.

module _ (association : ℕ) where
  -- So do calls of both associations.
  pub calls_are :
      {page page' : List ℕ} {calls : List Asked} {replies : List Reply} → CalledAll association page calls page' replies
      → (page' ≡ page_shared page calls) × (replies ≡ replies_to association page calls)
  unfolding page_shared replies_to
  calls_are no_call = (refl, refl)
  calls_are (own_call c rest) =
      let (page_is, reply-is) = call_is association c in
      let (pages, replies) = calls_are rest in
      rw (eq-eqb association association refl, ← page_is) (pages, rw (reply-is, replies))
  calls_are (others_call {other} ne c rest) =
      let (page_is, reply-is) = call_is other c in
      let (pages, replies) = calls_are rest in
      rw (ne_eqb other association ne, ← page_is) (pages, replies)

  -- Neither association learns anything of the other: where its own calls are the same, and the other's are any, on two pages of one length
  -- that agree in its places, what it is told is equal, and so are its places at the end.
  pub neither_learns :
      {page page' end end' : List ℕ} {calls calls' : List Asked} {replies replies' : List Reply} → AgreeFor association page page'
      → calls_of association calls ≡ calls_of association calls' → CalledAll association page calls end replies
      → CalledAll association page' calls' end' replies' → (replies ≡ replies') × AgreeFor association end end'
  neither_learns {page} {page'} {calls = calls} {calls' = calls'} agree same one other =
      let (end_is, replies-are) = calls_are one in
      let (end-is', replies-are') = calls_are other in
      let (alike, places) = runs_alike association calls calls' agree same in
      (replies-are ∙ alike ∙ sym replies-are', rw (end_is, end-is') places)
