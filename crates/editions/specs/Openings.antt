-- Rules, section 4: the record that opens an edition. Kind 9; its body is the date from which the edition is valid: year 2 bytes, month 1,
-- day 1. The edition is valid from that day's first minute in UTC.
use Rattle.std.specs.Prelude.{ℕ, ◌+◌, ◌≤◌, ◌<◌, ◌≡◌, Bool, true, false, cond, ◌&&◌, List, length, leb, eqb}
use Rattle.units.specs.declared.Minutes.{Minutes}
use Rattle.wire.specs.Number.{get_le}
use Rattle.wire.specs.Frame.{head_size, frame_at}
use Rattle.wire.specs.declared.Frame.TheVariants.{Whole, Broken}
use Rattle.calendar.specs.Stamps.{is_date}
use Rattle.calendar.specs.Moments.{first_minute}
use Rattle.editions.specs.declared.openings.Opening.{Opening}
use Rattle.editions.specs.declared.openings.Opening.TheVariants.{Faulty, Since}

abbrev pub edition_kind : ℕ
edition_kind = 9

-- its body's bytes, and with the head the whole record's
abbrev pub opening_body : ℕ
opening_body = 4

abbrev pub opening_size : ℕ
opening_size = head_size + opening_body

-- the date's fields
abbrev pub year_at : List ℕ → ℕ → ℕ
year_at file at = get_le 2 file (at + 4)

abbrev pub month_at : List ℕ → ℕ → ℕ
month_at file at = get_le 1 file (at + 6)

abbrev pub day_at : List ℕ → ℕ → ℕ
day_at file at = get_le 1 file (at + 7)

-- they are a date of the years 2000 to 2099
abbrev pub date_at : List ℕ → ℕ → Bool
date_at file at = is_date (year_at file at) (month_at file at) (day_at file at)

-- that day's first minute in UTC
abbrev pub minute_at : List ℕ → ℕ → ℕ
minute_at file at = first_minute (year_at file at) (month_at file at) (day_at file at)

-- a record of kind 9 stands at a place, whatever its body is
unfoldable pub opens_at : List ℕ → ℕ → Bool
opens_at file at = elim (frame_at file at) [ Broken ↦ false | Whole kind body ↦ eqb kind edition_kind ]

-- the date is one, and its first minute is not before the least that it may be, or it is 3
unfoldable pub since_at : List ℕ → ℕ → ℕ → Opening
since_at file at least =
    cond (date_at file at && leb least (minute_at file at)) (Since (record { 0 = minute_at file at })) (Faulty 3)

-- what stands at a place where an edition has to begin. The file's end is 2, a broken frame 1; another kind than 9, or another body than of 4
-- bytes, is 2; then the date
unfoldable pub opening_at : List ℕ → ℕ → ℕ → Opening
opening_at file at least =
    cond (leb (length file) at) (Faulty 2)
    (elim (frame_at file at) [
      | Broken ↦ Faulty 1
      | Whole kind body ↦ cond (eqb kind edition_kind && eqb body opening_body) (since_at file at least) (Faulty 2)
    ])

-- ---- The same in words.

-- an edition is opened at a place: the record is in place, and its date is one, not before the least that it may be
pub record Opened (file : List ℕ) (at least : ℕ) (since : Minutes) : Type 0 where
  pub frame : frame_at file at ≡ Whole edition_kind opening_body
  pub date : date_at file at ≡ true
  pub first : since.0 ≡ minute_at file at
  pub late : least ≤ since.0

-- what is wrong where an edition has to begin, by the number of the fault. 1: a broken frame. 2: the file has ended, or another record stands
-- there, of another kind or with another body. 3: the record is in place, and its date is none of 2000 to 2099, or too early
pub data OpeningSays (file : List ℕ) (at least number : ℕ) : Type 0 where
  broken_off : number ≡ 1 → at < length file → frame_at file at ≡ Broken → OpeningSays file at least number
  ended : number ≡ 2 → length file ≤ at → OpeningSays file at least number
  other-record : (kind body : ℕ) → number ≡ 2 → frame_at file at ≡ Whole kind body → (kind ≡ edition_kind → body ≡ opening_body → ⊥)
      → OpeningSays file at least number
  no_date : number ≡ 3 → frame_at file at ≡ Whole edition_kind opening_body → date_at file at ≡ false → OpeningSays file at least number
  too-early : number ≡ 3 → frame_at file at ≡ Whole edition_kind opening_body → date_at file at ≡ true → minute_at file at < least
      → OpeningSays file at least number
