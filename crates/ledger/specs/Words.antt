-- Rules, section 12: 5,472 bytes, 1,368 little-endian words of 4 bytes.
use Rattle.std.specs.Prelude.{ℕ, ◌+◌, ◌*◌, List, replicate}
use Rattle.wire.specs.Number.{get_le, put_le}

abbrev pub book_size : ℕ
book_size = 5472

abbrev pub book_words : ℕ
book_words = 1368

-- a fresh book is all zero
abbrev pub fresh_book : List ℕ
fresh_book = replicate book_size 0

abbrev pub word : List ℕ → ℕ → ℕ
word book place = get_le 4 book (4 * place)

abbrev pub put_word : List ℕ → ℕ → ℕ → List ℕ
put_word book place v = put_le 4 book (4 * place) v

-- word 0: trips in the window; 1: opening minute; 2: last check-out
abbrev pub trips_of : List ℕ → ℕ
trips_of book = word book 0

abbrev pub opening_of : List ℕ → ℕ
opening_of book = word book 1

abbrev pub last_out_of : List ℕ → ℕ
last_out_of book = word book 2

-- riders: 0 holder, 1..10 adults, 11..20 children
abbrev pub first_child : ℕ
first_child = 11

-- for rider r and area a, words 3+64r+2a and the next
abbrev pub pair_place : ℕ → ℕ → ℕ
pair_place rider area = 3 + 64 * rider + 2 * area

-- the 21 × 32 pairs stand one after another
abbrev pub pairs : ℕ
pairs = 672

abbrev pub pair_at : ℕ → ℕ
pair_at number = 3 + 2 * number

-- charges in second class, and in all classes
abbrev pub second_sum : List ℕ → ℕ → ℕ → ℕ
second_sum book rider area = word book (pair_place rider area)

abbrev pub all_sum : List ℕ → ℕ → ℕ → ℕ
all_sum book rider area = word book (pair_place rider area + 1)

-- words 1,347..1,356: for each bicycle 0 if unused, else 1 + its covering area
abbrev pub cover_place : ℕ → ℕ
cover_place bicycle = 1347 + bicycle

abbrev pub cover_word : List ℕ → ℕ → ℕ
cover_word book bicycle = word book (cover_place bicycle)

-- words 1,357..1,366: for each bicycle its payments per trip in the window
abbrev pub paid_place : ℕ → ℕ
paid_place bicycle = 1357 + bicycle

abbrev pub paid_word : List ℕ → ℕ → ℕ
paid_word book bicycle = word book (paid_place bicycle)

-- word 1,367, the last: the edition of the tariff that the window was opened under
abbrev pub edition_place : ℕ
edition_place = 1367

abbrev pub edition_of : List ℕ → ℕ
edition_of book = word book edition_place
