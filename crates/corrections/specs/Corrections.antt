-- docs/RULES.md, section 24: a roll with one record exchanged is settled afresh, and so is the roll as it was; what each payer is charged more or less.
use Rattle.std.specs.Prelude.{ℕ, zero, suc, ◌+◌, ◌-◌, ◌*◌, ◌^◌, ◌%◌, List, [], ◌∷◌, ◌++◌, Bool, cond, not, ◌&&◌, ◌||◌, length, drop, leb, ltb}
use Rattle.wire.specs.Number.{bytes_of}
use Rattle.editions.specs.declared.FileReading.TheVariants.{Fault, Faultless}
use Rattle.editions.specs.Reading.{read_file}
use Rattle.ledger.specs.Words.{fresh_book, first_child}
use Rattle.statement.specs.Record.{largest_statement, most_parts, statement_of}
use Rattle.statement.specs.Reading.{adults_in, children_in, bicycles_in, size_in, persons_in, charge_in}
use Rattle.settle.specs.Outcome.{parts_in, refused_as}
use Rattle.settle.specs.Runs.{Offer, Settlement, run_from}
use Rattle.roll.specs.Lines.{most_records, offers_of}

-- ---- The corrected roll.

-- the records of a roll, of which the nth is exchanged, counted from 1; with 0 none is. A replacement takes its place whatever its bytes are
unfoldable pub exchanged : ℕ → List ℕ → List Offer → List Offer
exchanged zero replacement offers = offers
exchanged (suc n) replacement [] = []
exchanged (suc zero) replacement (offer ∷ later) = record { bytes = replacement; room = largest_statement } ∷ later
exchanged (suc (suc n)) replacement (offer ∷ later) = offer ∷ exchanged (suc n) replacement later

-- the roll has an nth record: a whole frame, of any kind, with whole ones before it
unfoldable pub has_record : List ℕ → ℕ → Bool
has_record roll n = leb 1 n && leb n (length (offers_of most_records roll))

-- a roll settled afresh, with its nth record exchanged
unfoldable pub settled_with : List ℕ → List ℕ → ℕ → List ℕ → List Settlement
settled_with file roll n replacement = run_from file fresh_book (exchanged n replacement (offers_of most_records roll))

-- as it was
abbrev pub settled_before : List ℕ → List ℕ → List ℕ → List Settlement
settled_before file roll replacement = settled_with file roll 0 replacement

-- ---- Its statements.

-- the statement of a settled record; that of a refused one has no byte
abbrev pub statement_in : Settlement → List ℕ
statement_in s = statement_of (parts_in s.outcome)

-- all statements of a run, one behind another
unfoldable pub statements_in : List Settlement → List ℕ
statements_in [] = []
statements_in (s ∷ later) = statement_in s ++ statements_in later

-- ---- What each payer is charged. Payers 0 to 20 are the riders by their numbers: account holder, adults, children; 21 to 30 are the bicycles.

abbrev pub first_bicycle : ℕ
first_bicycle = 21

abbrev pub payers : ℕ
payers = 31

-- in the record at a place of a statement: the kth charge of some that stand together, where there are so many
abbrev pub kth_in : List ℕ → ℕ → ℕ → ℕ → ℕ → ℕ
kth_in statement place first count k = cond (ltb k count) (charge_in statement place (first + k)) 0

-- a payer's charge in it, by the record's own bytes; who is not on the trip has none
unfoldable pub paid_in : List ℕ → ℕ → ℕ → ℕ
paid_in statement place payer =
    cond (ltb payer first_child) (kth_in statement place 0 (1 + adults_in statement place) payer)
    (cond (ltb payer first_bicycle) (kth_in statement place (1 + adults_in statement place) (children_in statement place) (payer - first_child))
    (kth_in statement place (persons_in statement place) (bicycles_in statement place) (payer - first_bicycle)))

-- in the records that stand one behind the other from a place up to an end, of which there are at most `most`
unfoldable pub paid_from : ℕ → List ℕ → ℕ → ℕ → ℕ → ℕ
paid_from zero statement place end payer = 0
paid_from (suc most) statement place end payer =
    let more = paid_from most statement (place + size_in statement place) end payer in
    cond (ltb place end) (paid_in statement place payer + more) 0

-- in a statement of one or two records, which are its first `size` bytes
abbrev pub paid_over : List ℕ → ℕ → ℕ → ℕ
paid_over statement size payer = paid_from most_parts statement 0 size payer

-- in the statements of a run, added up
unfoldable pub paid_by : ℕ → List Settlement → ℕ
paid_by payer [] = 0
paid_by payer (s ∷ later) = paid_over (statement_in s) (length (statement_in s)) payer + paid_by payer later

-- ---- The differences: 8 bytes for each payer, by number.

abbrev pub differences_size : ℕ
differences_size = 8 * payers

-- a sum less another one, in two's complement of 64 bits
abbrev pub less : ℕ → ℕ → ℕ
less new old = (2 ^ 64 + new - old) % 2 ^ 64

-- those of so many payers, from one on, by what each was charged before and is charged now
unfoldable pub differences_from : ℕ → ℕ → (ℕ → ℕ) → (ℕ → ℕ) → List ℕ
differences_from zero payer old new = []
differences_from (suc more) payer old new = bytes_of 8 (less (new payer) (old payer)) ++ differences_from more (payer + 1) old new

abbrev pub differences_of : List Settlement → List Settlement → List ℕ
differences_of old new = differences_from payers 0 (λ payer. paid_by payer old) (λ payer. paid_by payer new)

-- ---- The outcome.

-- a refusal with its number and place; or the roll settled as it was, and corrected
pub data Correction : Type 0 where
  uncorrected : ℕ → ℕ → Correction
  corrected : List Settlement → List Settlement → Correction

-- 23: the roll has no whole nth record
abbrev pub no_record : ℕ
no_record = 23

-- 12: not all statements fit, or the differences do not
abbrev pub no_room : ℕ
no_room = 12

unfoldable pub too_little : ℕ → ℕ → List Settlement → Bool
too_little room differences new = ltb room (length (statements_in new)) || ltb differences differences_size

-- with so many bytes of room for the statements and for the differences. 23; 1 to 3: the file's first fault, at its record's offset; 12
unfoldable pub correction_of : List ℕ → List ℕ → ℕ → List ℕ → ℕ → ℕ → Correction
correction_of file roll n replacement room differences =
    cond (not (has_record roll n)) (uncorrected no_record 0)
    (elim (read_file file) [
      | Fault number at ↦ uncorrected number at
      | Faultless editions ↦
          cond (too_little room differences (settled_with file roll n replacement)) (uncorrected no_room 0)
          (corrected (settled_before file roll replacement) (settled_with file roll n replacement))
    ])

-- ---- What comes back; a refusal leaves both slices, and further bytes stay.

abbrev pub correction_answer : Correction → ℕ
correction_answer (uncorrected number place) = refused_as number place
correction_answer (corrected old new) = length (statements_in new)

abbrev pub statements_after : Correction → List ℕ → List ℕ
statements_after (uncorrected number place) statements = statements
statements_after (corrected old new) statements = statements_in new ++ drop (length (statements_in new)) statements

abbrev pub differences_after : Correction → List ℕ → List ℕ
differences_after (uncorrected number place) differences = differences
differences_after (corrected old new) differences = differences_of old new ++ drop differences_size differences
