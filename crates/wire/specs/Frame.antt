-- Rules, section 3: two-byte length, two-byte kind, body. The length counts kind and body.
use Rattle.std.specs.Prelude.{ℕ, ◌+◌, ◌-◌, List, Bool, cond, ◌||◌, length, ltb}
use Rattle.wire.specs.Number.{get_le}
use Rattle.wire.specs.declared.Frame.{Frame}
use Rattle.wire.specs.declared.Frame.TheVariants.{Whole, Broken}

-- length and kind stand before the body
abbrev pub head_size : ℕ
head_size = 4

-- what a record's length is at most, and so the whole record
abbrev pub most_length : ℕ
most_length = 1024

abbrev pub longest_record : ℕ
longest_record = 2 + most_length

-- broken: fewer than 4 bytes remain, or the length is below 2 or above 1,024, or the record runs past the end
unfoldable pub broken : List ℕ → ℕ → Bool
broken bytes place =
    ltb (length bytes - place) head_size
    || ((ltb (get_le 2 bytes place) 2 || ltb most_length (get_le 2 bytes place))
    || ltb (length bytes - place) (2 + get_le 2 bytes place))

-- a record's kind, and its body's length, which is what its length counts less the kind's two bytes
unfoldable pub frame_at : List ℕ → ℕ → Frame
frame_at bytes place =
    cond (broken bytes place) Broken (Whole (get_le 2 bytes (place + 2)) (get_le 2 bytes place - 2))
