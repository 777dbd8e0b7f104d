-- What stands at the start of a piece: each way through `unfinished`, `step_of` and `bookStep`.
-- Assumes nothing.
use Prim.Native.Nat.{ℕ, ◌+◌, ◌≤◌, ◌<◌}
use native.Mathlib.Decide.{ℕ_discrete}
use native.Mathlib.Omega.{arith}
use mathlib.Core.Path.{◌≡◌, refl, sym, ◌∙◌}
use mathlib.Core.Bool.{Bool, true, false, ◌&&◌, and-false}
use mathlib.Core.List.{List}
use borrow.Author.Tests.{lt-ltb, le-ltb, eq-eqb, ne_eqb, ltb-true}
use lib.ListN.{length, take}
use lib.Dec.{leb, ltb}
use Rattle.wire.specs.Number.{get_le}
use Rattle.wire.specs.Frame.{frame_at}
use Rattle.wire.specs.declared.Frame.{Frame}
use Rattle.wire.specs.declared.Frame.TheVariants as frame
use Rattle.wire.proofs.Frames.{whole}
use Rattle.wire.proofs.Tests.{both_left, both_right, one_of, told}
use Rattle.editions.specs.declared.Editions.{Editions}
use Rattle.deciding.specs.Refusals.{sound_in}
use Rattle.settle.specs.Outcome.{book_after}
use Rattle.roll.specs.declared.Line.{Line}
use Rattle.roll.specs.declared.Step.{Step}
use Rattle.roll.specs.declared.Step.TheVariants.{End, More, Record, Broken}
use Rattle.roll.specs.Lines.{line_of}
use Rattle.roll.specs.Pieces.{unfinished, outcome_at, step_of, book_step}
use Rattle.roll.specs.Clauses.{SettledLine, Stepped}

-- Fewer than 4 bytes are not a whole record yet.
pub few_unfinished : (piece : List ℕ) → length piece < 4 → true ≡ unfinished piece
unfolding unfinished
few_unfinished piece few = rw (lt-ltb (length piece) 4 few)

-- With 4 bytes the length decides.
pub length_decides :
    (piece : List ℕ) (long : ℕ) → 4 ≤ length piece → long ≡ get_le 2 piece 0
    → leb 2 long && leb long 1024 && ltb (length piece) (2 + long) ≡ unfinished piece
unfolding unfinished
length_decides piece long enough e = rw (le-ltb (length piece) 4 enough, e)

-- a piece that ends before its record does has fewer than 1,026 bytes
unfinished_short : (piece : List ℕ) → unfinished piece ≡ true → length piece < 1026
unfolding unfinished
unfinished_short piece e =
    one_of (ltb (length piece) 4) _ e (λ few. omega (arith, ltb-true (length piece) 4 few))
    (λ part.
    let most : get_le 2 piece 0 ≤ 1024 = search told in
    let fewer : length piece < 2 + get_le 2 piece 0 = search told in
    omega arith)

-- A whole record is not unfinished.
pub whole_finished : (piece : List ℕ) (more : Bool) (kind body : ℕ) → frame_at piece 0 ≡ frame.Whole kind body → more && unfinished piece ≡ false
unfolding unfinished
whole_finished piece more kind body e =
    let facts = whole piece 0 kind body e in
    rw (le-ltb (length piece) 4 (omega arith), le-ltb (length piece) (2 + get_le 2 piece 0) (omega arith), and-false, and-false)

-- Each way through a step, and the book after it.
module _ (file book piece : List ℕ) (more : Bool) where
  pub more_way : more && unfinished piece ≡ true → (step_of file book piece more ≡ More) × (book_step file book piece more ≡ book)
  unfolding step_of book_step
  more_way e = (rw e, rw e)

  module _ (now : more && unfinished piece ≡ false) where
    pub end_way : length piece ≡ 0 → (step_of file book piece more ≡ End) × (book_step file book piece more ≡ book)
    unfolding step_of book_step
    end_way none = (rw (now, eq-eqb (length piece) 0 none), rw (now, eq-eqb (length piece) 0 none))

    pub broken_way :
        (length piece ≡ 0 → ⊥) → frame_at piece 0 ≡ frame.Broken
        → (step_of file book piece more ≡ Broken) × (book_step file book piece more ≡ book)
    unfolding step_of book_step
    broken_way some e = (rw (now, ne_eqb (length piece) 0 some, e), rw (now, ne_eqb (length piece) 0 some, e))

    pub whole_way :
        (kind body : ℕ) → frame_at piece 0 ≡ frame.Whole kind body
        → (step_of file book piece more ≡ Record (line_of (outcome_at file book piece (4 + body))) (4 + body))
        × (book_step file book piece more ≡ book_after (outcome_at file book piece (4 + body)) book)
    unfolding step_of book_step
    whole_way kind body e =
        let facts = whole piece 0 kind body e in
        let some : length piece ≡ 0 → ⊥ = λ none. omega arith in
        (rw (now, ne_eqb (length piece) 0 some, e), rw (now, ne_eqb (length piece) 0 some, e))

-- What stands at the start, by what the step says.
data Stands (file book piece : List ℕ) (more : Bool) : Step → Type 0 where
  unfinished_yet : more && unfinished piece ≡ true → Stands file book piece more More
  nothing : length piece ≡ 0 → Stands file book piece more End
  not_framed : frame_at piece 0 ≡ frame.Broken → Stands file book piece more Broken
  framed : {line : Line} {used : ℕ} (kind body : ℕ) → used ≡ 4 + body → frame_at piece 0 ≡ frame.Whole kind body
      → Stands file book piece more (Record line used)

module _ (file book piece : List ℕ) (more : Bool) where
  stands : Stands file book piece more (step_of file book piece more)
  stands = go (more && unfinished piece) refl
    where
      at_frame : more && unfinished piece ≡ false → (length piece ≡ 0 → ⊥) → (f : Frame) → frame_at piece 0 ≡ f → Stands file book piece more (step_of file book piece more)
      at_frame now some frame.Broken e = rw (broken_way file book piece more now some e).0 (not_framed e)
      at_frame now some (frame.Whole kind body) e = rw (whole_way file book piece more now kind body e).0 (framed kind body refl e)

      go : (t : Bool) → more && unfinished piece ≡ t → Stands file book piece more (step_of file book piece more)
      go true e = rw (more_way file book piece more e).0 (unfinished_yet e)
      go false e =
          elim (ℕ_discrete (length piece) 0) [
            | yes none ↦ rw (end_way file book piece more e none).0 (nothing none)
            | no some ↦ at_frame e some (frame_at piece 0) refl
          ]

  -- A record is used whole: 4 bytes at least, and no more than the piece has.
  pub record_within : (line : Line) (used : ℕ) → step_of file book piece more ≡ Record line used → (4 ≤ used) × (used ≤ length piece)
  record_within line used e = go (rw e at stands)
    where
      go : {line : Line} {used : ℕ} → Stands file book piece more (Record line used) → (4 ≤ used) × (used ≤ length piece)
      go (framed kind body is f) = let facts = whole piece 0 kind body f in (omega arith, omega arith)

  -- A record that is not whole yet has fewer than 1,026 bytes.
  pub more_short : step_of file book piece more ≡ More → (more ≡ true) × (length piece < 1026)
  more_short e = go (rw e at stands)
    where
      go : Stands file book piece more More → (more ≡ true) × (length piece < 1026)
      go (unfinished_yet t) = (both_left more (unfinished piece) t, unfinished_short piece (both_right more (unfinished piece) t))

  -- It leaves the book as it is.
  pub more_stays : step_of file book piece more ≡ More → book_step file book piece more ≡ book
  more_stays e = go (rw e at stands)
    where
      go : Stands file book piece more More → book_step file book piece more ≡ book
      go (unfinished_yet t) = (more_way file book piece more t).1

-- The contract of `next`, way by way.
module _ (file : List ℕ) (editions : Editions) (book piece : List ℕ) (more u : Bool) (is : sound_in editions book ≡ true) (e : u ≡ unfinished piece) where
  pub more_stepped : {statement : List ℕ} → more && u ≡ true → Stepped file editions book piece more statement book statement More
  more_stepped t =
      let way = more_way file book piece more (rw e at t) in
      record { found = sym way.0; book_is = sym way.1; statement_is = refl; sound_again = is; range = omega arith }

  module _ (t : more && u ≡ false) where
    pub end_stepped : {statement : List ℕ} → length piece ≡ 0 → Stepped file editions book piece more statement book statement End
    end_stepped none =
        let way = end_way file book piece more (rw e at t) none in
        record { found = sym way.0; book_is = sym way.1; statement_is = refl; sound_again = is; range = omega arith }

    pub broken_stepped : {statement : List ℕ} → (length piece ≡ 0 → ⊥) → frame.Broken ≡ frame_at piece 0 → Stepped file editions book piece more statement book statement Broken
    broken_stepped some f =
        let way = broken_way file book piece more (rw e at t) some (sym f) in
        record { found = sym way.0; book_is = sym way.1; statement_is = refl; sound_again = is; range = omega arith }

    pub record_stepped :
        (kind body : ℕ) {statement : List ℕ} (book' : List ℕ) {statement' : List ℕ} (line : Line) → frame.Whole kind body ≡ frame_at piece 0
        → SettledLine file editions book (take (4 + body) piece) statement book' statement' line
        → Stepped file editions book piece more statement book' statement' (Record line (4 + body))
    unfolding outcome_at
    record_stepped kind body book' line f s =
        let way = whole_way file book piece more (rw e at t) kind body (sym f) in
        record {
          found = rw s.line (sym way.0);
          book_is = s.book_is ∙ sym way.1;
          statement_is = s.statement_is;
          sound_again = s.sound_again;
          range = s.range;
        }
