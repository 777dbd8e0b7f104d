-- Rules, section 4: a file is one or two editions, each a record of kind 9 and then a tariff; the first faulty record decides. Places are offsets
-- in the file.
use Rattle.std.specs.Prelude.{ℕ, ◌+◌, ◌*◌, ◌≡◌, cond, List, drop}
use Rattle.units.specs.declared.Minutes.{Minutes}
use Rattle.wire.specs.Frame.{longest_record}
use Rattle.layout.specs.Layout.{longest_tariff}
use Rattle.layout.specs.Scan.{read_tariff}
use Rattle.layout.specs.declared.Reading.{Reading}
use Rattle.layout.specs.declared.Reading.TheVariants as tariff
use Rattle.scan.specs.Halts.{halt_of}
use Rattle.scan.specs.declared.Halt.{Halt}
use Rattle.scan.specs.declared.Halt.TheVariants.{End, Behind, Amid}
use Rattle.editions.specs.declared.Edition.{Edition}
use Rattle.editions.specs.declared.Editions.{Editions}
use Rattle.editions.specs.declared.Editions.TheVariants.{One, Two}
use Rattle.editions.specs.declared.FileReading.{FileReading}
use Rattle.editions.specs.declared.FileReading.TheVariants.{Fault, Faultless}
use Rattle.editions.specs.declared.openings.Opening.{Opening}
use Rattle.editions.specs.declared.openings.Opening.TheVariants.{Faulty, Since}
use Rattle.editions.specs.Openings.{opening_size, opening_at, opens_at}

-- the second edition's tariff, from a place on, by what its reading comes to. A third record of kind 9 is no part of it, and so 2
unfoldable pub second_read : Edition → Minutes → ℕ → Reading → FileReading
second_read first since start (tariff.Fault number place) = Fault number (start + place)
second_read first since start (tariff.Faultless counts) = Faultless (Two first (record { since = since; counts = counts }))

-- the second edition, by what stands at the place where it begins
unfoldable pub second_opened : List ℕ → Edition → ℕ → Opening → FileReading
second_opened file first at (Faulty number) = Fault number at
second_opened file first at (Since since) = second_read first since (at + opening_size) (read_tariff (drop (at + opening_size) file))

-- it begins at a place, behind the first; its date is after the first's
unfoldable pub read_second : List ℕ → Edition → ℕ → FileReading
read_second file first at = second_opened file first at (opening_at file at (first.since.0 + 1))

-- the first edition, valid from a minute on, by where the reading of its tariff stops: at the file's end; at a record of kind 9 behind a tariff that
-- is faultless alone, where the second edition begins; or at the tariff's first fault. A record of kind 9 where an area or a factor record is due
-- is no part of the tariff, and so 2
unfoldable pub first_read : List ℕ → Minutes → Halt → FileReading
first_read file since (End counts) = Faultless (One (record { since = since; counts = counts }))
first_read file since (Amid number place) = Fault number (opening_size + place)
first_read file since (Behind number place before) =
    cond (opens_at file (opening_size + place)) (read_second file (record { since = since; counts = before }) (opening_size + place))
    (Fault number (opening_size + place))

unfoldable pub read_first : List ℕ → Minutes → FileReading
read_first file since = first_read file since (halt_of (drop opening_size file))

-- the file, by what stands at its first byte
unfoldable pub first_opened : List ℕ → Opening → FileReading
first_opened file (Faulty number) = Fault number 0
first_opened file (Since since) = read_first file since

unfoldable pub read_file : List ℕ → FileReading
read_file file = first_opened file (opening_at file 0 0)

-- the file is faultless, with these editions
abbrev pub ReadFile : List ℕ → Editions → Type 0
ReadFile file editions = read_file file ≡ Faultless editions

-- the longest file, two of the longest tariffs with their openings, and the bytes that decide what any is read as: a record too many follows it
abbrev pub longest_file : ℕ
longest_file = 2 * (opening_size + longest_tariff)

abbrev pub deciding_file : ℕ
deciding_file = longest_file + longest_record
