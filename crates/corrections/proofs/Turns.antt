-- A run turn by turn: what is left of it, what was written of its statements, and what was added up.
-- Assumes nothing.
use Prim.Native.Nat.{ℕ, ◌+◌, ◌-◌, ◌*◌, ◌^◌, ◌≤◌}
use native.Mathlib.Omega.{arith}
use mathlib.Core.Path.{◌≡◌, refl, sym, ap, ◌∙◌}
use mathlib.Core.List.{List, [], ◌∷◌, ◌++◌, append_assoc, append-nil}
use lib.ListN.{length, get_or, take, drop, length-append, length-drop, take-append-drop}
use lib.Seq.{drop-drop, drop_at, drop-length, take_at, take_all}
use Rattle.ledger.specs.Words.{fresh_book}
use Rattle.statement.specs.Record.{largest_statement, most_parts, statement_of}
use Rattle.settle.specs.Outcome.{Outcome, refused, accepted, parts_in, book_after, statement_after}
use Rattle.settle.specs.Runs.{Offer, run_from}
use Rattle.roll.specs.Lines.{most_records}
use Rattle.corrections.specs.declared.runs.Cursor.{Cursor}
use Rattle.corrections.specs.Corrections.{settled_with, statements_in, paid_over, paid_by}
use Rattle.corrections.specs.Clauses.{
  AtMost,
  Added,
  came_to,
  TripSized,
  offered,
  start_at,
  behind_at,
  rest_of,
  NextFits,
  NextSettled,
}
use Rattle.corrections.proofs.Paid.{added_most, at_most_more}

-- ---- A turn.

pub turned :
    {file book trip statement book' statement' : List ℕ} (roll replacement : List ℕ) (cursor : Cursor) {cursor' : Cursor} {end size : ℕ} → 1 ≤ cursor.left
    → cursor' ≡ behind_at cursor end → rest_of roll replacement cursor ≡ offered trip ∷ rest_of roll replacement (behind_at cursor end)
    → TripSized file book trip statement book' statement' size
    → NextSettled file book (rest_of roll replacement cursor) (rest_of roll replacement cursor') statement book' statement' size
    × (cursor.left ≡ cursor'.left + 1)
turned {trip = trip} roll replacement cursor some is next sized = (
  record { trip = trip; next = next ∙ ap (λ (x : Cursor). offered trip ∷ rest_of roll replacement x) (sym is); sized = sized },
  omega (arith, ap (λ (x : Cursor). x.left) is),
)

-- ---- What is left of a run.

-- the statements and the charges of those that are left
abbrev pub statements_left : List ℕ → List ℕ → List Offer → List ℕ
statements_left file book rest = statements_in (run_from file book rest)

abbrev pub paid_left : List ℕ → List ℕ → List Offer → ℕ → ℕ
paid_left file book rest payer = paid_by payer (run_from file book rest)

abbrev statement_by : List ℕ → List ℕ → List ℕ → List ℕ
statement_by file book trip = statement_of (parts_in (came_to file book trip))

pub nothing_left : (file book : List ℕ) → statements_left file book [] ≡ []
unfolding run_from statements_in
nothing_left file book = refl

nothing_paid : (file book : List ℕ) (payer : ℕ) → paid_left file book [] payer ≡ 0
unfolding run_from paid_by
nothing_paid file book payer = refl

first_written :
    (file book trip : List ℕ) (later : List Offer)
    → statements_left file book (offered trip ∷ later)
    ≡ statement_by file book trip ++ statements_left file (book_after (came_to file book trip) book) later
unfolding run_from statements_in
first_written file book trip later = refl

first_paid :
    (file book trip : List ℕ) (later : List Offer) (payer : ℕ)
    → paid_left file book (offered trip ∷ later) payer
    ≡ paid_over (statement_by file book trip) (length (statement_by file book trip)) payer
    + paid_left file (book_after (came_to file book trip) book) later payer
unfolding run_from paid_by
first_paid file book trip later payer = refl

-- a refused trip has no byte of a statement
after_is : (o : Outcome) (statement : List ℕ) → statement_after o statement ≡ statement_of (parts_in o) ++ drop (length (statement_of (parts_in o))) statement
unfolding statement_of
after_is (refused number place) statement = refl
after_is (accepted new parts) statement = refl

module _ (file book : List ℕ) {rest later : List Offer} {statement book' statement' : List ℕ} {size : ℕ}
    (s : NextSettled file book rest later statement book' statement' size) where
  pub left_written : statements_left file book rest ≡ statement_by file book s.trip ++ statements_left file book' later
  left_written =
      ap (statements_left file book) s.next
      ∙ first_written file book s.trip later
      ∙ ap (λ (b : List ℕ). statement_by file book s.trip ++ statements_left file b later) (sym s.sized.book_is)

  left_paid : (payer : ℕ) → paid_left file book rest payer ≡ paid_over statement' size payer + paid_left file book' later payer
  left_paid payer =
      let all = s.sized.size_is in
      let same = s.sized.paid payer in
      ap (λ (r : List Offer). paid_left file book r payer) s.next
      ∙ first_paid file book s.trip later payer
      ∙ ap (λ (n : ℕ). paid_over (statement_by file book s.trip) n payer + paid_left file (book_after (came_to file book s.trip) book) later payer) (sym all)
      ∙ ap (λ (n : ℕ). n + paid_left file (book_after (came_to file book s.trip) book) later payer) (sym same)
      ∙ ap (λ (b : List ℕ). paid_over statement' size payer + paid_left file b later payer) (sym s.sized.book_is)

  now_written : statement' ≡ statement_by file book s.trip ++ drop size statement
  now_written =
      s.sized.statement_is
      ∙ after_is (came_to file book s.trip) statement
      ∙ ap (λ (n : ℕ). statement_by file book s.trip ++ drop n statement) (sym s.sized.size_is)

-- ---- Writing: all statements are those written and those left; behind the written ones the bytes stay.

pub record Writing (all before left : List ℕ) (end : ℕ) (now : List ℕ) : Type 0 where
  pub written : List ℕ
  pub whole : all ≡ written ++ left
  pub place : end ≡ length written
  pub is : now ≡ written ++ drop end before

pub writing_starts : (all before : List ℕ) → Writing all before all 0 before
writing_starts all before = record { written = []; whole = refl; place = refl; is = refl }

pub writing_ends : {all before left : List ℕ} {end : ℕ} {now : List ℕ} → Writing all before left end now → left ≡ [] → now ≡ all ++ drop (length all) before
writing_ends {all} {before} {end = end} w none =
    let same : all ≡ w.written = w.whole ∙ ap (λ (l : List ℕ). w.written ++ l) none ∙ append-nil w.written in
    w.is
    ∙ ap (λ (l : List ℕ). l ++ drop end before) (sym same)
    ∙ ap (λ (n : ℕ). all ++ drop n before) (w.place ∙ ap length (sym same))

module _ {all before left now : List ℕ} {end : ℕ} (w : Writing all before left end now) where
  in-front : take end now ≡ w.written
  in-front = ap (take end) w.is ∙ take_at w.written (drop end before) end (sym w.place)

  behind_it : drop end now ≡ drop end before
  behind_it = ap (drop end) w.is ∙ drop_at w.written (drop end before) end (sym w.place)

  pub end_inside : end ≤ length all
  end_inside = omega (arith, w.place, ap length w.whole, length-append w.written left)

  -- the next statement has its room
  pub next_room : (statement later : List ℕ) → left ≡ statement ++ later → length all ≤ length now → length statement ≤ length (drop end now)
  next_room statement later next fits =
      omega (
        arith,
        length-drop end now,
        w.place,
        fits,
        ap length w.whole,
        length-append w.written left,
        ap length next,
        length-append statement later,
      )

  pub writing_goes :
      (statement later : List ℕ) {part now' : List ℕ} {size : ℕ} → left ≡ statement ++ later → size ≡ length statement → part ≡ statement ++ drop size (drop end now)
      → now' ≡ take end now ++ part → Writing all before later (end + size) now'
  writing_goes statement later {part} {now'} {size} next all-of-it part-is is =
      record {
        written = w.written ++ statement;
        whole = w.whole ∙ ap (λ (l : List ℕ). w.written ++ l) next ∙ sym (append_assoc w.written statement later);
        place = omega (arith, w.place, all-of-it, length-append w.written statement);
        is =
            is
            ∙ ap (λ (l : List ℕ). l ++ part) in-front
            ∙ ap (λ (l : List ℕ). w.written ++ l)
            (part-is ∙ ap (λ (l : List ℕ). statement ++ drop size l) behind_it ∙ ap (λ (l : List ℕ). statement ++ l) (drop-drop size end before))
            ∙ sym (append_assoc w.written statement (drop (end + size) before));
      }

-- ---- The bytes from a place on are lent, and come back.

abbrev pub lent_from : ℕ → List ℕ → List ℕ
lent_from end now = take (length now - end) (drop end now)

abbrev pub given_back : ℕ → List ℕ → List ℕ → List ℕ
given_back end now part = take end now ++ (part ++ drop (length now - end) (drop end now))

lent_all : (end : ℕ) (now : List ℕ) → lent_from end now ≡ drop end now
lent_all end now = take_all (length now - end) (drop end now) (omega (arith, length-drop end now))

back_all : (end : ℕ) (now part : List ℕ) → given_back end now part ≡ take end now ++ part
back_all end now part =
    let none : drop (length now - end) (drop end now) ≡ [] =
    ap (λ (n : ℕ). drop n (drop end now)) (sym (length-drop end now)) ∙ drop-length (drop end now)
    in
    ap (λ (l : List ℕ). take end now ++ (part ++ l)) none ∙ ap (λ (l : List ℕ). take end now ++ l) (append-nil part)

module _ (file book : List ℕ) {rest : List Offer} {all before now : List ℕ} {end : ℕ} (w : Writing all before (statements_left file book rest) end now) where
  -- the next statement has its room
  pub next_fits : length all ≤ length now → NextFits file book rest (length (lent_from end now))
  next_fits fits =
      record {
        fits = λ trip later next.
            omega (
              arith,
              ap length (lent_all end now),
              next_room w (statement_by file book trip) (statements_left file (book_after (came_to file book trip) book) later)
                  (ap (statements_left file book) next ∙ first_written file book trip later) fits,
            );
      }

  pub statements_go :
      {later : List Offer} {book' part' : List ℕ} {size : ℕ} → NextSettled file book rest later (lent_from end now) book' part' size
      → Writing all before (statements_left file book' later) (end + size) (given_back end now part')
  statements_go {later} {book'} {part'} {size} s =
      writing_goes w (statement_by file book s.trip) (statements_left file book' later) (left_written file book s) s.sized.size_is
      (now_written file book s ∙ ap (λ (l : List ℕ). statement_by file book s.trip ++ drop size l) (lent_all end now)) (back_all end now part')

  pub statements_end : {part' : List ℕ} → rest ≡ [] → part' ≡ lent_from end now → given_back end now part' ≡ all ++ drop (length all) before
  statements_end {part'} over same =
      back_all end now part'
      ∙ ap (λ (l : List ℕ). take end now ++ l) (same ∙ lent_all end now)
      ∙ take-append-drop end now
      ∙ writing_ends w (ap (statements_left file book) over ∙ nothing_left file book)

-- before the first turn
pub statements_start :
    (file roll : List ℕ) (n : ℕ) (replacement statements : List ℕ) {book : List ℕ} {cursor : Cursor} → book ≡ fresh_book → cursor ≡ start_at n
    → Writing (statements_in (settled_with file roll n replacement)) statements (statements_left file book (rest_of roll replacement cursor)) 0 statements
unfolding settled_with
statements_start file roll n replacement statements fresh is = rw (fresh, is) (writing_starts _ statements)

-- ---- Adding up: all bytes and charges are those so far and those left.

pub record Adding (bytes-all : ℕ) (paid_all : ℕ → ℕ) (bytes_left : ℕ) (paid-left : ℕ → ℕ) (left bytes : ℕ) (sums : List ℕ) : Type 0 where
  pub used : ℕ
  pub used_is : used + left ≡ most_records
  pub bytes_is : bytes + bytes_left ≡ bytes-all
  pub bytes_most : bytes ≤ used * largest_statement
  pub paid_is : (payer : ℕ) → get_or sums payer 0 + paid-left payer ≡ paid_all payer
  pub sums_most : AtMost (used * (most_parts * 2 ^ 32)) sums

pub adding_starts : {sums : List ℕ} (bytes : ℕ) (paid : ℕ → ℕ) → AtMost 0 sums → Adding bytes paid bytes paid most_records 0 sums
adding_starts bytes paid none =
    record {
      used = 0;
      used_is = refl;
      bytes_is = omega arith;
      bytes_most = omega arith;
      paid_is = λ payer. omega (arith, none.each payer);
      sums_most = none;
    }

-- before the first turn
pub adding_start :
    (file roll : List ℕ) (n : ℕ) (replacement : List ℕ) {book : List ℕ} {cursor : Cursor} {sums : List ℕ} → book ≡ fresh_book → cursor ≡ start_at n
    → AtMost 0 sums
    → Adding (length (statements_in (settled_with file roll n replacement))) (λ payer. paid_by payer (settled_with file roll n replacement))
    (length (statements_left file book (rest_of roll replacement cursor))) (paid_left file book (rest_of roll replacement cursor)) cursor.left 0 sums
unfolding settled_with
adding_start file roll n replacement fresh is none = rw (fresh, is) (adding_starts _ _ none)

pub sums_near :
    {bytes-all bytes_left left bytes : ℕ} {paid_all paid-left : ℕ → ℕ} {sums : List ℕ} → Adding bytes-all paid_all bytes_left paid-left left bytes sums
    → AtMost (most_records * (most_parts * 2 ^ 32)) sums
sums_near a = at_most_more (omega (arith, a.used_is)) a.sums_most

module _ (file book : List ℕ) {rest later : List Offer} {statement book' statement' sums : List ℕ} {bytes-all left : ℕ} (left' : ℕ) {bytes size : ℕ}
    {paid_all : ℕ → ℕ} (a : Adding bytes-all paid_all (length (statements_left file book rest)) (paid_left file book rest) left bytes sums)
    (s : NextSettled file book rest later statement book' statement' size) (turn : left ≡ left' + 1) where
  pub bytes_near : bytes + size ≤ most_records * largest_statement
  bytes_near = omega (arith, a.used_is, a.bytes_most, s.sized.size_most, turn)

  pub adding_goes :
      {sums' : List ℕ} → Added (paid_over statement' size) (most_parts * 2 ^ 32) sums sums'
      → Adding bytes-all paid_all (length (statements_left file book' later)) (paid_left file book' later) left' (bytes + size) sums'
  adding_goes more =
      record {
        used = a.used + 1;
        used_is = omega (arith, a.used_is, turn);
        bytes_is =
            omega (
              arith,
              a.bytes_is,
              s.sized.size_is,
              ap length (left_written file book s),
              length-append (statement_by file book s.trip) (statements_left file book' later),
            );
        bytes_most = omega (arith, a.bytes_most, s.sized.size_most);
        paid_is = λ payer. omega (arith, more.is payer, a.paid_is payer, left_paid file book s payer);
        sums_most = at_most_more (omega arith) (added_most more a.sums_most);
      }

-- At the roll's end nothing is left.
module _ (file book : List ℕ) {rest : List Offer} {bytes-all left bytes : ℕ} {paid_all : ℕ → ℕ} {sums : List ℕ}
    (a : Adding bytes-all paid_all (length (statements_left file book rest)) (paid_left file book rest) left bytes sums) (over : rest ≡ []) where
  pub bytes_added : bytes ≡ bytes-all
  bytes_added =
      omega (arith, a.bytes_is, ap (λ (r : List Offer). length (statements_left file book r)) over, ap length (nothing_left file book))

  pub bytes_few : bytes ≤ most_records * largest_statement
  bytes_few = omega (arith, a.used_is, a.bytes_most)

  pub all_paid : (payer : ℕ) → get_or sums payer 0 ≡ paid_all payer
  all_paid payer =
      omega (arith, a.paid_is payer, ap (λ (r : List Offer). paid_left file book r payer) over, nothing_paid file book payer)
