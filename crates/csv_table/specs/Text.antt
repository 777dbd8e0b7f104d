-- What is printed of a statement, byte for byte: a table with a line for each charge, and one for each record that is refused.
use Rattle.std.specs.Prelude.{ℕ, zero, suc, ◌+◌, ◌-◌, ◌/◌, Bool, false, cond, not, ◌&&◌, List, [], ◌∷◌, ◌++◌, length, take, drop, leb, ltb, eqb}
use Rattle.wire.specs.Frame.{frame_at}
use Rattle.wire.specs.declared.Frame.TheVariants as frame
use Rattle.calendar.specs.declared.Moment.{Moment}
use Rattle.calendar.specs.Moments.{moment_of}
use Rattle.caps.specs.declared.Cut.{Cut}
use Rattle.trip.specs.declared.Party.{Party}
use Rattle.statement.specs.Record.{persons_of}
use Rattle.reader.specs.declared.Head.{Head}
use Rattle.reader.specs.declared.Whose.{Whose}
use Rattle.reader.specs.declared.Whose.TheVariants.{Unsaid, Of}
use Rattle.reader.specs.declared.Amount.{Amount}
use Rattle.reader.specs.Fields.{Fields, head_in, whose_in, charges_of, amount_of}
use Rattle.reader.specs.Reading.{Reading, refused, told, read_at, broken_frame}
use Rattle.text.specs.Texts.{bytes, digit, decimal}

-- ---- A line: the record's number, each further column behind a comma, and the line's end.

unfoldable pub columns : List (List ℕ) → List ℕ
columns [] = bytes "\n"
columns (column ∷ more) = (bytes "," ++ column) ++ columns more

abbrev pub empty : List ℕ
empty = []

unfoldable pub header : List ℕ
header = bytes "record,opening,area,km,minutes,payer,cents,off,cap_area,cap_class,refused\n"

-- ---- The opening: a moment of UTC, like 2026-10-31T22:50Z.

-- a number below 100 in two digits, and one below 10,000 in four: 0 stands in front where it has fewer
unfoldable pub two_digits : ℕ → List ℕ
two_digits n = digit (n / 10) ∷ digit n ∷ []

unfoldable pub four_digits : ℕ → List ℕ
four_digits n = digit (n / 1000) ∷ digit (n / 100) ∷ digit (n / 10) ∷ digit n ∷ []

unfoldable pub moment_text : Moment → List ℕ
moment_text m =
    four_digits m.year
    ++ (bytes "-" ++ two_digits m.month)
    ++ (bytes "-" ++ two_digits m.day)
    ++ (bytes "T" ++ two_digits m.hour)
    ++ (bytes ":" ++ two_digits m.minute)
    ++ bytes "Z"

-- ---- Who pays.

-- the charges of a party are the account holder's, then the adults', the children's and the bicycles', each sort counted from 1
unfoldable pub rider_text : Party → ℕ → List ℕ
rider_text party i =
    cond (eqb i 0) (bytes "holder")
    (cond (leb i party.adults) (bytes "adult " ++ decimal i)
    (cond (leb i (party.adults + party.children)) (bytes "child " ++ decimal (i - party.adults))
    (bytes "bicycle " ++ decimal (i - (party.adults + party.children)))))

-- where a record does not say whose its charges are, they are counted from 1
unfoldable pub payer_text : Whose → ℕ → List ℕ
payer_text (Unsaid charges) i = bytes "charge " ++ decimal (i + 1)
payer_text (Of party) i = rider_text party i

-- ---- What caps took off: told of a party's persons, and not of its bicycles.

unfoldable pub is_person : Whose → ℕ → Bool
is_person (Unsaid charges) i = false
is_person (Of party) i = ltb i (persons_of party)

unfoldable pub off_text : Bool → Cut → List ℕ
off_text person cut = cond person (decimal cut.reduction.0) empty

-- the named cap's area or class, where it took something off
unfoldable pub cap_text : Bool → Cut → ℕ → List ℕ
cap_text person cut n = cond (person && not (eqb cut.reduction.0 0)) (decimal n) empty

-- ---- The line of a charge, and that of a refused record.

unfoldable pub row_text : ℕ → Head → Whose → ℕ → Amount → List ℕ
row_text number head whose i amount =
    let person = is_person whose i in
    let cut = amount.cut in
    decimal number
    ++ columns
    (moment_text (moment_of head.opening.0)
    ∷ decimal head.area
    ∷ decimal head.km.0
    ∷ decimal head.minutes.0
    ∷ payer_text whose i
    ∷ decimal amount.charge.0
    ∷ off_text person cut
    ∷ cap_text person cut cut.area
    ∷ cap_text person cut cut.class
    ∷ empty
    ∷ [])

unfoldable pub refused_text : ℕ → ℕ → List ℕ
refused_text number refusal =
    decimal number
    ++ columns (empty ∷ empty ∷ empty ∷ empty ∷ empty ∷ empty ∷ empty ∷ empty ∷ empty ∷ decimal refusal ∷ [])

-- the lines of a record's first charges
unfoldable pub rows_text : ℕ → Fields → ℕ → List ℕ
rows_text number fields zero = []
rows_text number fields (suc i) =
    rows_text number fields i ++ row_text number (head_in fields) (whose_in fields) i (amount_of fields i)

-- what is printed of a record, by what reading it comes to
unfoldable pub record_text : ℕ → Reading → List ℕ
record_text number (refused refusal) = refused_text number refusal
record_text number (told fields size) = rows_text number fields (charges_of (whose_in fields))

-- ---- The whole table.

-- The records from a number on, at most so many. Each is read by itself, and the next stands behind its frame, whether it was refused or not; a
-- broken frame is refused and the last. No byte at all is the statement's end.
unfoldable pub records_text : ℕ → ℕ → List ℕ → List ℕ
records_text zero number statement = []
records_text (suc more) number statement =
    cond (eqb (length statement) 0) []
    (elim (frame_at statement 0) [
      | frame.Broken ↦ refused_text number broken_frame
      | frame.Whole kind body ↦
          record_text number (read_at (take (4 + body) statement) 0) ++ records_text more (number + 1) (drop (4 + body) statement)
    ])

-- the records are numbered from 1; there are no more of them than bytes
unfoldable pub csv_of : List ℕ → List ℕ
csv_of statement = header ++ records_text (length statement) 1 statement
