-- docs/RULES.md, section 16 (R16.2, R16.6, R16.7): what the program prints, byte for byte.
use Rattle.std.specs.Prelude.{ℕ, ◌+◌, List, [], ◌∷◌, ◌++◌}
use Rattle.text.specs.Texts.{bytes, decimal}
use Rattle.roll.specs.declared.Entry.{Entry}
use Rattle.roll.specs.declared.Line.{Line}
use Rattle.roll.specs.declared.Line.TheVariants.{Charged, Both, Refused}

-- ---- R16.6: the header, and a line.

unfoldable pub header : List ℕ
header = bytes "trip area km min open cents\n"

-- each number behind a blank, and the line's end
unfoldable pub spaced : List ℕ → List ℕ
spaced [] = bytes "\n"
spaced (n ∷ numbers) = (bytes " " ++ decimal n) ++ spaced numbers

-- an accepted trip's number, and a part's area, kilometres, minutes, opening minute and cents
unfoldable pub entry_text : ℕ → Entry → List ℕ
entry_text number entry =
    decimal number ++ spaced (entry.area ∷ entry.km ∷ entry.minutes ∷ entry.opening ∷ entry.cents ∷ [])

-- an accepted trip's one part; or its two, one line behind the other under the one number; a refused one's number and refusal
unfoldable pub line_text : ℕ → Line → List ℕ
line_text number (Charged entry) = entry_text number entry
line_text number (Both one other) = entry_text number one ++ entry_text number other
line_text number (Refused refusal) = decimal number ++ bytes " refused " ++ decimal refusal ++ bytes "\n"

-- ---- R16.7: the last line.

unfoldable pub tail_text : ℕ → ℕ → ℕ → List ℕ
tail_text accepted refused cents =
    bytes "accepted " ++ decimal accepted ++ bytes " refused " ++ decimal refused ++ bytes " cents " ++ decimal cents ++ bytes "\n"

-- how many trips are accepted, each as one whether it has one part or two; how many are refused; and all their cents
unfoldable pub accepted_of : List Line → ℕ
accepted_of [] = 0
accepted_of (Charged entry ∷ lines) = 1 + accepted_of lines
accepted_of (Both one other ∷ lines) = 1 + accepted_of lines
accepted_of (Refused refusal ∷ lines) = accepted_of lines

unfoldable pub refused_of : List Line → ℕ
refused_of [] = 0
refused_of (Charged entry ∷ lines) = refused_of lines
refused_of (Both one other ∷ lines) = refused_of lines
refused_of (Refused refusal ∷ lines) = 1 + refused_of lines

unfoldable pub cents_of : List Line → ℕ
cents_of [] = 0
cents_of (Charged entry ∷ lines) = entry.cents + cents_of lines
cents_of (Both one other ∷ lines) = one.cents + other.cents + cents_of lines
cents_of (Refused refusal ∷ lines) = cents_of lines

-- ---- The text of a roll's lines.

-- the lines, numbered from a number on
unfoldable pub lines_text : ℕ → List Line → List ℕ
lines_text number [] = []
lines_text number (line ∷ lines) = line_text number line ++ lines_text (number + 1) lines

unfoldable pub text_of : List Line → List ℕ
text_of lines = header ++ lines_text 1 lines ++ tail_text (accepted_of lines) (refused_of lines) (cents_of lines)

-- ---- R16.2: the one line of a refused tariff.

unfoldable pub fault_text : ℕ → ℕ → List ℕ
fault_text refusal place = bytes "tariff refused " ++ decimal refusal ++ bytes " at " ++ decimal place ++ bytes "\n"
