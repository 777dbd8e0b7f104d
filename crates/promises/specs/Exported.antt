-- What a caller in C sees, by the contracts of the exported functions alone: records read that were written, and calls on a page.
use Rattle.std.specs.Prelude.{ℕ, ◌+◌, ◌^◌, ◌≤◌, ◌≡◌, List, [], ◌∷◌, ◌++◌, true, cond, length, take, drop, ltb}
use Rattle.ledger.specs.Words.{book_size}
use Rattle.statement.specs.Record.{Part, most_charges, record_of}
use Rattle.reader.specs.Fields.{fields_of}
use Rattle.reader.specs.Filling.{field_bytes, field_size, filling_of}
use Rattle.settle.specs.Outcome.{Settled}
use Rattle.settle.specs.Posting.{posting_of, Posted}
use Rattle.page.specs.Pages.{number_size, start_of, book_at, replaced}
use Rattle.accounts.specs.Members.{Changed}
use Rattle.accounts.specs.Associations.{own_places, first_place, places_of, Association, added_for, closed_for, settled_for}
use Rattle.accounts.specs.Lent.{lends}
use Rattle.accounts.specs.Calls.{Call, adds, closes, settles, posts}
use Rattle.accounts.specs.Sharing.{Asked, Reply}
use Rattle.milecopper.specs.Clauses.{ReadTo}

-- ---- Reading what was written.

-- from a place of a statement on, whatever `milecopper_read` does with 324 bytes for the fields: of each part in turn it answers the bytes of
-- its record, and leaves its fields; the next is read where that record ends
pub data ReadOut (statement : List ℕ) : ℕ → List Part → Type 0 where
  no_more : {place : ℕ} → ReadOut statement place []
  one_more :
      {place : ℕ} {part : Part} {more : List Part}
      → ((before after : List ℕ) (r : ℕ) → field_size most_charges ≤ length before → ReadTo (filling_of statement place (length before)) before after r
      → (r ≡ length (record_of part)) × (after ≡ field_bytes (fields_of part) ++ drop (length (field_bytes (fields_of part))) before))
      → ReadOut statement (place + length (record_of part)) more → ReadOut statement place (part ∷ more)

-- ---- Calls on a page.

-- the bytes that an answer says were written to a statement: none where it is 2^32 or more
abbrev pub written_by : ℕ → List ℕ → List ℕ
written_by answer statement = cond (ltb answer (2 ^ 32)) (take answer statement) []

-- what an association is told: the answer, what was written to a statement, and its places
abbrev pub tells : ℕ → List ℕ → ℕ → List ℕ → Reply
tells answer written association page = record { answer = answer; written = written; places = places_of association page }

-- a call on a page with what it leaves and tells: `milecopper_add`, `milecopper_close`, `milecopper_settle_member`; and `milecopper_post` on the
-- book in one of the association's places, lent where it stands
pub data Called (association : ℕ) (page page' : List ℕ) : Call → Reply → Type 0 where
  called_add :
      {member r : ℕ} → Changed (added_for association page member) page page' r
      → Called association page page' (adds member) (tells r [] association page')
  called_close :
      {member r : ℕ} → Changed (closed_for association page member) page page' r
      → Called association page page' (closes member) (tells r [] association page')
  called_settle :
      {file : List ℕ} {member : ℕ} {trip statement statement' : List ℕ} {r : ℕ}
      → Settled (settled_for file association page member trip (length statement)) page page' statement statement' r
      → Called association page page' (settles file member (record { bytes = trip; room = length statement }))
      (tells r (written_by r statement') association page')
  called_post :
      {file : List ℕ} {place : ℕ} {trip offered book' : List ℕ} {r : ℕ} → Association association
      → lends (first_place association) own_places page place ≡ true
      → Posted (posting_of file (book_at page place) trip offered) (book_at page place) book' r
      → page' ≡ replaced page (start_of place + number_size) book_size book'
      → Called association page page' (posts file place trip offered) (tells r [] association page')

-- such calls of both associations one after another, with what they tell the one
pub data CalledAll (association : ℕ) : List ℕ → List Asked → List ℕ → List Reply → Type 0 where
  no_call : {page : List ℕ} → CalledAll association page [] page []
  own_call :
      {page between page' : List ℕ} {call : Call} {reply : Reply} {later : List Asked} {replies : List Reply}
      → Called association page between call reply → CalledAll association between later page' replies
      → CalledAll association page (record { association = association; call = call } ∷ later) page' (reply ∷ replies)
  others_call :
      {other : ℕ} {page between page' : List ℕ} {call : Call} {reply : Reply} {later : List Asked} {replies : List Reply}
      → (other ≡ association → ⊥) → Called other page between call reply → CalledAll association between later page' replies
      → CalledAll association page (record { association = other; call = call } ∷ later) page' replies
