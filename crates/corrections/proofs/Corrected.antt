-- What a corrected roll is: where a whole record is exchanged for one, it is the roll with other bytes, settled afresh; a record exchanged for itself
-- changes nothing; and one exchanged for what is no trip is left out.
-- Assumes nothing.
use Prim.Native.Nat.{ℕ, zero, suc, ◌+◌, ◌-◌, ◌*◌, ◌≤◌}
use native.Mathlib.Omega.{arith}
use native.Mathlib.Nat.{add-zero, zero-add}
use mathlib.Core.Path.{◌≡◌, refl, sym, ap, ◌∙◌}
use mathlib.Core.Bool.{Bool, true, false}
use mathlib.Core.List.{List, [], ◌∷◌, ◌++◌, append_assoc}
use borrow.Author.Tests.{leb-true}
use lib.ListN.{length, take, drop, replicate, length-append}
use lib.Seq.{drop-drop, drop_at, take_at, take-add, length-take-le}
use lib.Dec.{leb}
use Rattle.wire.specs.Number.{bytes_of}
use Rattle.wire.specs.Frame.{broken, frame_at}
use Rattle.wire.specs.declared.Frame.{Frame}
use Rattle.wire.specs.declared.Frame.TheVariants.{Whole, Broken}
use Rattle.wire.proofs.Number.{get_front}
use Rattle.wire.proofs.Frames.{whole, whole_back, whole_take}
use Rattle.wire.proofs.Tests.{both_right}
use Rattle.editions.specs.declared.Editions.{Editions}
use Rattle.editions.specs.declared.FileReading.{FileReading}
use Rattle.editions.specs.declared.FileReading.TheVariants.{Fault, Faultless}
use Rattle.editions.specs.Reading.{read_file, ReadFile}
use Rattle.trip.specs.Record.{shape_at}
use Rattle.trip.specs.Trips.{is_trip}
use Rattle.ledger.specs.Words.{fresh_book}
use Rattle.statement.specs.Record.{largest_statement, statement_of}
use Rattle.deciding.specs.Refusals.{sound_in, rows}
use Rattle.deciding.proofs.Rows.{skip, stop}
use Rattle.deciding.proofs.Decisions.{refused_first}
use Rattle.settle.specs.Outcome.{Outcome, refused, settled, parts_in, book_after}
use Rattle.settle.specs.Runs.{Offer, run_from}
use Rattle.settle.proofs.Ways.{fault_way, refused_way}
use Rattle.roll.specs.Lines.{most_records, offers_of}
use Rattle.corrections.specs.Corrections.{
  exchanged,
  has_record,
  settled_with,
  settled_before,
  statements_in,
  paid_from,
  paid_by,
  payers,
  differences_size,
  less,
  differences_from,
  differences_of,
}
use Rattle.corrections.specs.Clauses.{offered}
use Rattle.corrections.specs.Replaced.{place_of, record_in, replaced_in, without}
use Rattle.corrections.proofs.Rests.{none_offered, one_offered}

-- ---- Records at the front.

-- a record that is whole by itself is whole with bytes behind it
whole_front : (p rest : List ℕ) (kind body : ℕ) → frame_at p 0 ≡ Whole kind body → frame_at (p ++ rest) 0 ≡ Whole kind body
whole_front p rest kind body e =
    let facts = whole p 0 kind body e in
    whole_back (p ++ rest) 0 kind body
    (record {
      kind_is = facts.kind_is ∙ sym (get_front 2 p rest 2 (omega arith));
      length_is = get_front 2 p rest 0 (omega arith) ∙ facts.length_is;
      fits = omega (arith, length-append p rest);
      short = facts.short;
    })

-- it is the first that is offered
front_offered :
    (most : ℕ) (p rest : List ℕ) (kind body : ℕ) → frame_at p 0 ≡ Whole kind body → length p ≡ 4 + body
    → offers_of (suc most) (p ++ rest) ≡ offered p ∷ offers_of most rest
front_offered most p rest kind body e size =
    one_offered most (p ++ rest) kind body (whole_front p rest kind body e)
    ∙ ap (λ (b : List ℕ). offered b ∷ offers_of most (drop (4 + body) (p ++ rest))) (take_at p rest (4 + body) size)
    ∙ ap (λ (b : List ℕ). offered p ∷ offers_of most b) (drop_at p rest (4 + body) size)

place_next :
    (k : ℕ) (roll : List ℕ) (kind body : ℕ) → frame_at roll 0 ≡ Whole kind body → place_of (suc k) roll ≡ 4 + body + place_of k (drop (4 + body) roll)
unfolding place_of
place_next k roll kind body e = rw (e, place_of)

first-place : (roll : List ℕ) (kind body : ℕ) → frame_at roll 0 ≡ Whole kind body → place_of 1 roll ≡ 4 + body
unfolding place_of
first-place roll kind body e = place_next 0 roll kind body e ∙ add-zero (4 + body)

-- ---- The nth record exchanged for a whole one: the roll has its bytes in the other's place.

module _ (replacement : List ℕ) (kind body : ℕ) (e : frame_at replacement 0 ≡ Whole kind body) (size : length replacement ≡ 4 + body) where
  -- behind the first record nothing else changes
  replaced_later :
      (k : ℕ) (roll : List ℕ) (kind₀ body₀ : ℕ) → frame_at roll 0 ≡ Whole kind₀ body₀
      → take (place_of (suc k) roll) roll ++ (replacement ++ drop (place_of (suc (suc k)) roll) roll)
      ≡ take (4 + body₀) roll
      ++ (take (place_of k (drop (4 + body₀) roll)) (drop (4 + body₀) roll)
      ++ (replacement ++ drop (place_of (suc k) (drop (4 + body₀) roll)) (drop (4 + body₀) roll)))
  replaced_later k roll kind₀ body₀ is =
      let n = 4 + body₀ in
      let later = drop n roll in
      ap (λ (p : ℕ). take p roll ++ (replacement ++ drop (place_of (suc (suc k)) roll) roll)) (place_next k roll kind₀ body₀ is)
      ∙ ap (λ (p : ℕ). take (n + place_of k later) roll ++ (replacement ++ drop p roll)) (place_next (suc k) roll kind₀ body₀ is)
      ∙ ap (λ (l : List ℕ). take (n + place_of k later) roll ++ (replacement ++ l)) (sym (drop-drop (place_of (suc k) later) n roll))
      ∙ ap (λ (l : List ℕ). l ++ (replacement ++ drop (place_of (suc k) later) later)) (take-add n (place_of k later) roll)
      ∙ append_assoc (take n roll) (take (place_of k later) later) (replacement ++ drop (place_of (suc k) later) later)

  spliced_from :
      (k most : ℕ) (roll : List ℕ) → suc k ≤ length (offers_of most roll)
      → exchanged (suc k) replacement (offers_of most roll) ≡ offers_of most (replaced_in (suc k) replacement roll)
  unfolding exchanged replaced_in place_of offers_of
  spliced_from k zero roll there = absurd (omega (arith, there))
  spliced_from zero (suc most) roll there = go (frame_at roll 0) refl
    where
      go :
          (f : Frame) → frame_at roll 0 ≡ f
          → exchanged 1 replacement (offers_of (suc most) roll) ≡ offers_of (suc most) (replaced_in 1 replacement roll)
      go Broken is = absurd (omega (arith, there, ap length (none_offered (suc most) roll is)))
      go (Whole kind₀ body₀) is =
          ap (exchanged 1 replacement) (one_offered most roll kind₀ body₀ is)
          ∙ sym (front_offered most replacement (drop (4 + body₀) roll) kind body e size)
          ∙ ap (λ (n : ℕ). offers_of (suc most) (replacement ++ drop n roll)) (sym (first-place roll kind₀ body₀ is))
  spliced_from (suc k) (suc most) roll there = go (frame_at roll 0) refl (spliced_from k most)
    where
      go :
          (f : Frame) → frame_at roll 0 ≡ f
          → ((later : List ℕ) → suc k ≤ length (offers_of most later)
          → exchanged (suc k) replacement (offers_of most later) ≡ offers_of most (replaced_in (suc k) replacement later))
          → exchanged (suc (suc k)) replacement (offers_of (suc most) roll) ≡ offers_of (suc most) (replaced_in (suc (suc k)) replacement roll)
      go Broken is more = absurd (omega (arith, there, ap length (none_offered (suc most) roll is)))
      go (Whole kind₀ body₀) is more =
          let n = 4 + body₀ in
          let later = drop n roll in
          let facts = whole roll 0 kind₀ body₀ is in
          let there' : suc k ≤ length (offers_of most later) = omega (arith, there, ap length (one_offered most roll kind₀ body₀ is)) in
          ap (exchanged (suc (suc k)) replacement) (one_offered most roll kind₀ body₀ is)
          ∙ ap (λ (l : List Offer). offered (take n roll) ∷ l) (more later there')
          ∙ sym
          (front_offered most (take n roll) (replaced_in (suc k) replacement later) kind₀ body₀
          (whole_take n roll 0 kind₀ body₀ (omega arith) (omega arith) is) (length-take-le n roll (omega arith)))
          ∙ ap (offers_of (suc most)) (sym (replaced_later k roll kind₀ body₀ is))

-- how many there are
has_count : (roll : List ℕ) (n : ℕ) → has_record roll n ≡ true → n ≤ length (offers_of most_records roll)
unfolding has_record
has_count roll n has =
    leb-true n (length (offers_of most_records roll)) (both_right (leb 1 n) (leb n (length (offers_of most_records roll))) has)

module _ (roll : List ℕ) where
  pub spliced :
      (n : ℕ) → has_record roll n ≡ true → (replacement : List ℕ) (kind body : ℕ) → frame_at replacement 0 ≡ Whole kind body
      → length replacement ≡ 4 + body → exchanged n replacement (offers_of most_records roll) ≡ offers_of most_records (replaced_in n replacement roll)
  unfolding exchanged replaced_in
  spliced zero has replacement kind body e size = refl
  spliced (suc k) has replacement kind body e size = spliced_from replacement kind body e size k most_records roll (has_count roll (suc k) has)

  -- So it comes to what that roll comes to, settled afresh.
  pub afresh :
      (file : List ℕ) (n : ℕ) → has_record roll n ≡ true → (replacement : List ℕ) (kind body : ℕ) → frame_at replacement 0 ≡ Whole kind body
      → length replacement ≡ 4 + body → settled_with file roll n replacement ≡ settled_before file (replaced_in n replacement roll) replacement
  unfolding settled_with exchanged
  afresh file n has replacement kind body e size = ap (run_from file fresh_book) (spliced n has replacement kind body e size)

-- ---- A record exchanged for itself.

itself_from :
    (k most : ℕ) (roll : List ℕ) → suc k ≤ length (offers_of most roll)
    → exchanged (suc k) (record_in (suc k) roll) (offers_of most roll) ≡ offers_of most roll
unfolding exchanged record_in place_of offers_of
itself_from k zero roll there = absurd (omega (arith, there))
itself_from zero (suc most) roll there = go (frame_at roll 0) refl
  where
    go : (f : Frame) → frame_at roll 0 ≡ f → exchanged 1 (record_in 1 roll) (offers_of (suc most) roll) ≡ offers_of (suc most) roll
    go Broken is = absurd (omega (arith, there, ap length (none_offered (suc most) roll is)))
    go (Whole kind body) is =
        let long : place_of 1 roll - 0 ≡ 4 + body = omega (arith, first-place roll kind body is) in
        ap (exchanged 1 (record_in 1 roll)) (one_offered most roll kind body is)
        ∙ ap (λ (n : ℕ). offered (take n roll) ∷ offers_of most (drop (4 + body) roll)) long
        ∙ sym (one_offered most roll kind body is)
itself_from (suc k) (suc most) roll there = go (frame_at roll 0) refl (itself_from k most)
  where
    go :
        (f : Frame) → frame_at roll 0 ≡ f
        → ((later : List ℕ) → suc k ≤ length (offers_of most later)
        → exchanged (suc k) (record_in (suc k) later) (offers_of most later) ≡ offers_of most later)
        → exchanged (suc (suc k)) (record_in (suc (suc k)) roll) (offers_of (suc most) roll) ≡ offers_of (suc most) roll
    go Broken is more = absurd (omega (arith, there, ap length (none_offered (suc most) roll is)))
    go (Whole kind body) is more =
        let n = 4 + body in
        let later = drop n roll in
        let there' : suc k ≤ length (offers_of most later) = omega (arith, there, ap length (one_offered most roll kind body is)) in
        let one = place_next k roll kind body is in
        let two = place_next (suc k) roll kind body is in
        let long : place_of (suc (suc k)) roll - place_of (suc k) roll ≡ place_of (suc k) later - place_of k later = omega (arith, one, two) in
        let same : record_in (suc (suc k)) roll ≡ record_in (suc k) later =
        ap (λ (m : ℕ). take m (drop (place_of (suc k) roll) roll)) long
        ∙ ap (λ (p : ℕ). take (place_of (suc k) later - place_of k later) (drop p roll)) one
        ∙ ap (take (place_of (suc k) later - place_of k later)) (sym (drop-drop (place_of k later) n roll))
        in
        ap (exchanged (suc (suc k)) (record_in (suc (suc k)) roll)) (one_offered most roll kind body is)
        ∙ ap (λ (r : List ℕ). offered (take n roll) ∷ exchanged (suc k) r (offers_of most later)) same
        ∙ ap (λ (l : List Offer). offered (take n roll) ∷ l) (more later there')
        ∙ sym (one_offered most roll kind body is)

-- no difference of a sum and itself
no_difference : (n payer : ℕ) (paid : ℕ → ℕ) → differences_from n payer paid paid ≡ replicate (8 * n) 0
unfolding differences_from bytes_of
no_difference zero payer paid = refl
no_difference (suc n) payer paid =
    let none : less (paid payer) (paid payer) ≡ 0 = omega arith in
    let eight : suc (suc (suc (suc (suc (suc (suc (suc (8 * n)))))))) ≡ 8 * suc n = omega arith in
    ap (λ (d : ℕ). bytes_of 8 d ++ differences_from n (payer + 1) paid paid) none
    ∙ ap (λ (l : List ℕ). bytes_of 8 0 ++ l) (no_difference n (payer + 1) paid)
    ∙ ap (λ (m : ℕ). replicate m 0) eight

module _ (file roll : List ℕ) (n : ℕ) (has : has_record roll n ≡ true) where
  -- The corrected roll is the roll as it was, and so are its statements,
  pub itself : settled_with file roll n (record_in n roll) ≡ settled_before file roll (record_in n roll)
  unfolding settled_with exchanged
  itself = ap (run_from file fresh_book) (go n has)
    where
      go : (m : ℕ) → has_record roll m ≡ true → exchanged m (record_in m roll) (offers_of most_records roll) ≡ offers_of most_records roll
      go zero has' = refl
      go (suc k) has' = itself_from k most_records roll (has_count roll (suc k) has')

  pub itself_statements : statements_in (settled_with file roll n (record_in n roll)) ≡ statements_in (settled_before file roll (record_in n roll))
  itself_statements = ap statements_in itself

  -- and the differences are 248 zero bytes.
  pub itself_differences :
      differences_of (settled_before file roll (record_in n roll)) (settled_with file roll n (record_in n roll)) ≡ replicate differences_size 0
  itself_differences =
      ap (differences_of (settled_before file roll (record_in n roll))) itself
      ∙ no_difference payers 0 (λ payer. paid_by payer (settled_before file roll (record_in n roll)))

-- ---- A record exchanged for what is no trip, as for no byte at all: the others are settled without it.

-- it is refused on every book
record RefusedThere (outcome : Outcome) : Type 0 where
  number : ℕ
  place : ℕ
  is : outcome ≡ refused number place

no_trip_refused : (file book bytes : List ℕ) (room : ℕ) → is_trip bytes ≡ false → RefusedThere (settled file book bytes room)
unfolding rows
no_trip_refused file book bytes room none = go (read_file file) refl
  where
    under : (editions : Editions) → ReadFile file editions → (t : Bool) → sound_in editions book ≡ t → RefusedThere (settled file book bytes room)
    under editions read true is =
        record {
          number = _;
          place = _;
          is = refused_way file book bytes room editions read
              (refused_first file editions book bytes room (skip _ _ (rw is) ∙ stop _ _ (rw none)));
        }
    under editions read false is =
        record {
          number = _;
          place = _;
          is = refused_way file book bytes room editions read (refused_first file editions book bytes room (stop _ _ (rw is)));
        }

    go : (r : FileReading) → read_file file ≡ r → RefusedThere (settled file book bytes room)
    go (Fault number at) is = record { number = number; place = at; is = fault_way file book bytes room number at is }
    go (Faultless editions) is = under editions is (sound_in editions book) refl

-- what was refused leaves neither a statement nor anything on the book
module _ (file book bytes : List ℕ) (room : ℕ) (later : List Offer) (r : RefusedThere (settled file book bytes room)) where
  refused_statements :
      statements_in (run_from file book (record { bytes = bytes; room = room } ∷ later)) ≡ statements_in (run_from file book later)
  unfolding run_from statements_in statement_of
  refused_statements =
      ap (λ (o : Outcome). statement_of (parts_in o) ++ statements_in (run_from file (book_after o book) later)) r.is

  refused_paid :
      (payer : ℕ) → paid_by payer (run_from file book (record { bytes = bytes; room = room } ∷ later)) ≡ paid_by payer (run_from file book later)
  unfolding run_from paid_by paid_from statement_of
  refused_paid payer =
      ap (λ (o : Outcome). paid_from 2 (statement_of (parts_in o)) 0 (length (statement_of (parts_in o))) payer + paid_by payer (run_from file (book_after o book) later)) r.is
      ∙ zero-add (paid_by payer (run_from file book later))

module _ (file replacement : List ℕ) (none : is_trip replacement ≡ false) where
  left_out_statements :
      (n : ℕ) (book : List ℕ) (offers : List Offer)
      → statements_in (run_from file book (exchanged n replacement offers)) ≡ statements_in (run_from file book (without n offers))
  unfolding exchanged without run_from statements_in
  left_out_statements zero book offers = refl
  left_out_statements (suc n) book [] = refl
  left_out_statements (suc zero) book (offer ∷ later) =
      refused_statements file book replacement largest_statement later (no_trip_refused file book replacement largest_statement none)
  left_out_statements (suc (suc n)) book (offer ∷ later) =
      let o = settled file book offer.bytes offer.room in
      ap (λ (l : List ℕ). statement_of (parts_in o) ++ l) (left_out_statements (suc n) (book_after o book) later)

  left_out_paid :
      (payer n : ℕ) (book : List ℕ) (offers : List Offer)
      → paid_by payer (run_from file book (exchanged n replacement offers)) ≡ paid_by payer (run_from file book (without n offers))
  unfolding exchanged without run_from paid_by
  left_out_paid payer zero book offers = refl
  left_out_paid payer (suc n) book [] = refl
  left_out_paid payer (suc zero) book (offer ∷ later) =
      refused_paid file book replacement largest_statement later (no_trip_refused file book replacement largest_statement none) payer
  left_out_paid payer (suc (suc n)) book (offer ∷ later) =
      let o = settled file book offer.bytes offer.room in
      ap (λ (rest : ℕ). paid_from 2 (statement_of (parts_in o)) 0 (length (statement_of (parts_in o))) payer + rest)
      (left_out_paid payer (suc n) (book_after o book) later)

  pub cancelled_statements :
      (roll : List ℕ) (n : ℕ)
      → statements_in (settled_with file roll n replacement) ≡ statements_in (run_from file fresh_book (without n (offers_of most_records roll)))
  unfolding settled_with
  cancelled_statements roll n = left_out_statements n fresh_book (offers_of most_records roll)

  pub cancelled_paid :
      (roll : List ℕ) (n payer : ℕ)
      → paid_by payer (settled_with file roll n replacement) ≡ paid_by payer (run_from file fresh_book (without n (offers_of most_records roll)))
  unfolding settled_with
  cancelled_paid roll n payer = left_out_paid payer n fresh_book (offers_of most_records roll)

-- No byte is no trip.
pub empty_no_trip : is_trip [] ≡ false
unfolding is_trip shape_at frame_at broken
empty_no_trip = refl
