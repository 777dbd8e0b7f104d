-- What the turns put, from the first one on, is the table of the whole statement, whatever the pieces in which it came: each turn's text is that
-- of the record that it takes from those still to come.
-- Assumes nothing.
use Prim.Native.Nat.{ℕ, zero, suc, ◌+◌, ◌-◌, ◌*◌, ◌≤◌, ◌<◌}
use native.Mathlib.Omega.{arith}
use native.Mathlib.Decide.{ℕ_discrete, dec_lt}
use mathlib.Core.Path.{◌≡◌, refl, sym, ap, ◌∙◌}
use mathlib.Core.Logic.{◌⊎◌, inl, inr}
use mathlib.Core.Bool.{Bool, true, false, ◌&&◌, false≢true}
use mathlib.Core.List.{List, [], ◌++◌, append-nil, append_assoc}
use borrow.Author.Tests.{lt-ltb, eq-eqb, ne_eqb, ltb-false, eqb-true, eqb-false}
use lib.ListN.{length, take, drop, length-append, length-drop}
use lib.Seq.{take-append-le, drop-append-le, take-length}
use lib.Dec.{ltb, eqb}
use Rattle.wire.specs.Frame.{frame_at, longest_record}
use Rattle.wire.specs.declared.Frame.{Frame}
use Rattle.wire.specs.declared.Frame.TheVariants as frame
use Rattle.wire.proofs.Number.{get_front}
use Rattle.wire.proofs.Tests.{both_left}
use Rattle.wire.proofs.Frames.{whole, whole_back, broken_is, frame_take}
use Rattle.reader.specs.Reading.{refused, read_at, broken_frame}
use Rattle.reader.proofs.Accepted as reader
use Rattle.csv_table.specs.Text.{header, refused_text, record_text, records_text, csv_of}
use Rattle.csv_table.specs.Turns.{most_records, Effect, asks, puts, ends, effect_of, Turns, fed, went_on, is_over}
use Rattle.csv_table.proofs.Taken.{last_effect, on_effect, more_effect, end_effect, broken-effect, whole_way, broken_way}

-- ---- What stands at the start of a piece that tells it stands at the start of every longer one.

pub longer_whole :
    (piece rest : List ℕ) (kind body : ℕ) → frame_at piece 0 ≡ frame.Whole kind body → frame_at (piece ++ rest) 0 ≡ frame.Whole kind body
longer_whole piece rest kind body e =
    let facts = whole piece 0 kind body e in
    whole_back (piece ++ rest) 0 kind body
    (record {
      kind_is = facts.kind_is ∙ sym (get_front 2 piece rest 2 (omega (arith, facts.fits)));
      length_is = get_front 2 piece rest 0 (omega (arith, facts.fits)) ∙ facts.length_is;
      fits = omega (arith, facts.fits, length-append piece rest);
      short = facts.short;
    })

pub longer_broken :
    (piece rest : List ℕ) → longest_record ≤ length piece → frame_at piece 0 ≡ frame.Broken → frame_at (piece ++ rest) 0 ≡ frame.Broken
longer_broken piece rest long e =
    sym (frame_take (length piece) (piece ++ rest) 0 (omega (arith, length-append piece rest)) (omega arith))
    ∙ rw (take-append-le (length piece) piece rest (omega arith), take-length piece) e

-- no byte comes once the statement is at its end
abbrev Still : Bool → List ℕ → Type 0
Still more rest = (more ≡ true) ⊎ (rest ≡ [])

all_come : (kept rest : List ℕ) → rest ≡ [] → kept ++ rest ≡ kept
all_come kept rest none = rw none (append-nil kept)

rest_broken :
    (kept rest : List ℕ) (more : Bool) → Still more rest → more && ltb (length kept) longest_record ≡ false → frame_at kept 0 ≡ frame.Broken
    → frame_at (kept ++ rest) 0 ≡ frame.Broken
rest_broken kept rest more (inr none) now e = rw (all_come kept rest none) e
rest_broken kept rest false (inl still) now e = absurd (false≢true still)
rest_broken kept rest true (inl still) now e = longer_broken kept rest (ltb-false (length kept) longest_record now) e

-- ---- The table from a record on, by what stands there.

pub none_left : (most number : ℕ) (statement : List ℕ) → length statement ≡ 0 → records_text most number statement ≡ []
unfolding records_text
none_left zero number statement none = refl
none_left (suc most) number statement none = rw (eq-eqb (length statement) 0 none)

pub broken_left :
    (most number : ℕ) (statement : List ℕ) → (length statement ≡ 0 → ⊥) → frame_at statement 0 ≡ frame.Broken
    → records_text (suc most) number statement ≡ refused_text number broken_frame
unfolding records_text
broken_left most number statement some e = rw (ne_eqb (length statement) 0 some, e)

pub record_left :
    (most number : ℕ) (statement : List ℕ) (kind body : ℕ) → frame_at statement 0 ≡ frame.Whole kind body
    → records_text (suc most) number statement
    ≡ record_text number (read_at (take (4 + body) statement) 0) ++ records_text most (number + 1) (drop (4 + body) statement)
unfolding records_text
record_left most number statement kind body e =
    let facts = whole statement 0 kind body e in
    let some : length statement ≡ 0 → ⊥ = λ none. omega arith in
    rw (ne_eqb (length statement) 0 some, e)

-- a broken frame's refusal is the reader's
pub broken_read : (statement : List ℕ) → frame_at statement 0 ≡ frame.Broken → read_at statement 0 ≡ refused broken_frame
broken_read statement e = reader.broken_way statement 0 (broken_is statement 0 e)

-- how many records may come does not matter, where there are bytes for no more
enough :
    (k m number : ℕ) (statement : List ℕ) → length statement ≤ 4 * k → length statement ≤ 4 * m
    → records_text k number statement ≡ records_text m number statement
enough zero m number s in-k in-m = none_left zero number s (omega arith) ∙ sym (none_left m number s (omega arith))
enough (suc k) zero number s in-k in-m = none_left (suc k) number s (omega arith) ∙ sym (none_left zero number s (omega arith))
enough (suc k) (suc m) number s in-k in-m =
    elim (ℕ_discrete (length s) 0) [
      | yes none ↦ none_left (suc k) number s none ∙ sym (none_left (suc m) number s none)
      | no some ↦
          go some
          (λ body.
          let shorter = length-drop (4 + body) s in
          enough k m (number + 1) (drop (4 + body) s) (omega arith) (omega arith))
          (frame_at s 0) refl
    ]
  where
    go : (length s ≡ 0 → ⊥)
        → ((body : ℕ) → records_text k (number + 1) (drop (4 + body) s) ≡ records_text m (number + 1) (drop (4 + body) s))
        → (f : Frame) → frame_at s 0 ≡ f → records_text (suc k) number s ≡ records_text (suc m) number s
    go some on frame.Broken e = broken_left k number s some e ∙ sym (broken_left m number s some e)
    go some on (frame.Whole kind body) e =
        record_left k number s kind body e
        ∙ ap (record_text number (read_at (take (4 + body) s) 0) ++◌) (on body)
        ∙ sym (record_left m number s kind body e)

-- ---- What a turn does tells what stood at the start.

asks_puts : {d : Effect} {used : ℕ} {text : List ℕ} {number : ℕ} → d ≡ asks → d ≡ puts used text number → ⊥
asks_puts p q = let z : ◌≡◌ {A = ℕ} 0 1 = cc in omega arith

asks_ends : {d : Effect} {text : List ℕ} → d ≡ asks → d ≡ ends text → ⊥
asks_ends p q = let z : ◌≡◌ {A = ℕ} 0 1 = cc in omega arith

ends_puts : {d : Effect} {last : List ℕ} {used : ℕ} {text : List ℕ} {number : ℕ} → d ≡ ends last → d ≡ puts used text number → ⊥
ends_puts p q = let z : ◌≡◌ {A = ℕ} 0 1 = cc in omega arith

module _ (kept : List ℕ) (more : Bool) (number : ℕ) where
  -- the text of a record that uses so many bytes
  abbrev own_text : ℕ → List ℕ
  own_text used = record_text (number + 1) (read_at (take used kept) 0)

  pub record PutsRecord (used : ℕ) (text : List ℕ) (next : ℕ) : Type 0 where
    pub kind : ℕ
    pub body : ℕ
    pub stands : frame_at kept 0 ≡ frame.Whole kind body
    pub used_is : used ≡ 4 + body
    pub text_is : text ≡ own_text (4 + body)
    pub next_is : next ≡ number + 1
    pub not_last : number + 1 ≡ most_records → ⊥

  pub puts_record : {used : ℕ} {text : List ℕ} {next : ℕ} → effect_of kept more number ≡ puts used text next → PutsRecord used text next
  puts_record {used} {text} {next} e = go (frame_at kept 0) refl
    where
      on : (kind body : ℕ) → frame_at kept 0 ≡ frame.Whole kind body → (t : Bool) → eqb (number + 1) most_records ≡ t → PutsRecord used text next
      on kind body f true last =
          absurd (ends_puts (whole_way kept more number kind body f ∙ last_effect _ _ (number + 1) (eqb-true (number + 1) most_records last)) e)
      on kind body f false other =
          let not_last = eqb-false (number + 1) most_records other in
          let same = sym e ∙ whole_way kept more number kind body f ∙ on_effect _ _ (number + 1) not_last in
          record { kind = kind; body = body; stands = f; used_is = cc; text_is = cc; next_is = cc; not_last = not_last }

      off : frame_at kept 0 ≡ frame.Broken → (t : Bool) → more && ltb (length kept) longest_record ≡ t → PutsRecord used text next
      off f true t = absurd (asks_puts (broken_way kept more number f ∙ more_effect (length kept) more (number + 1) t) e)
      off f false t =
          elim (ℕ_discrete (length kept) 0) [
            | yes none ↦ absurd (ends_puts (broken_way kept more number f ∙ end_effect (length kept) more (number + 1) t none) e)
            | no some ↦ absurd (ends_puts (broken_way kept more number f ∙ broken-effect (length kept) more (number + 1) t some) e)
          ]

      go : (f : Frame) → frame_at kept 0 ≡ f → PutsRecord used text next
      go (frame.Whole kind body) f = on kind body f (eqb (number + 1) most_records) refl
      go frame.Broken f = off f (more && ltb (length kept) longest_record) refl

  pub data Ends (text : List ℕ) : Type 0 where
    at_last : (kind body : ℕ) → frame_at kept 0 ≡ frame.Whole kind body → number + 1 ≡ most_records → text ≡ own_text (4 + body) → Ends text
    at_end : more && ltb (length kept) longest_record ≡ false → length kept ≡ 0 → text ≡ [] → Ends text
    at_broken : frame_at kept 0 ≡ frame.Broken → more && ltb (length kept) longest_record ≡ false → (length kept ≡ 0 → ⊥)
        → text ≡ refused_text (number + 1) broken_frame → Ends text

  pub ends_by : {text : List ℕ} → effect_of kept more number ≡ ends text → Ends text
  ends_by {text} e = go (frame_at kept 0) refl
    where
      on : (kind body : ℕ) → frame_at kept 0 ≡ frame.Whole kind body → (t : Bool) → eqb (number + 1) most_records ≡ t → Ends text
      on kind body f true t =
          let last = eqb-true (number + 1) most_records t in
          let same = sym e ∙ whole_way kept more number kind body f ∙ last_effect _ _ (number + 1) last in
          at_last kind body f last cc
      on kind body f false other =
          absurd (ends_puts e (whole_way kept more number kind body f ∙ on_effect _ _ (number + 1) (eqb-false (number + 1) most_records other)))

      off : frame_at kept 0 ≡ frame.Broken → (t : Bool) → more && ltb (length kept) longest_record ≡ t → Ends text
      off f true t = absurd (asks_ends (broken_way kept more number f ∙ more_effect (length kept) more (number + 1) t) e)
      off f false t =
          elim (ℕ_discrete (length kept) 0) [
            | yes none ↦
                let same = sym e ∙ broken_way kept more number f ∙ end_effect (length kept) more (number + 1) t none in at_end t none cc
            | no some ↦
                let same = sym e ∙ broken_way kept more number f ∙ broken-effect (length kept) more (number + 1) t some in
                at_broken f t some cc
          ]

      go : (f : Frame) → frame_at kept 0 ≡ f → Ends text
      go (frame.Whole kind body) f = on kind body f (eqb (number + 1) most_records) refl
      go frame.Broken f = off f (more && ltb (length kept) longest_record) refl

  -- it asks for more only where more can come
  pub asks_more : effect_of kept more number ≡ asks → more ≡ true
  asks_more e = go (frame_at kept 0) refl
    where
      on : (kind body : ℕ) → frame_at kept 0 ≡ frame.Whole kind body → (t : Bool) → eqb (number + 1) most_records ≡ t → more ≡ true
      on kind body f true t =
          absurd (asks_ends e (whole_way kept more number kind body f ∙ last_effect _ _ (number + 1) (eqb-true (number + 1) most_records t)))
      on kind body f false t =
          absurd (asks_puts e (whole_way kept more number kind body f ∙ on_effect _ _ (number + 1) (eqb-false (number + 1) most_records t)))

      off : frame_at kept 0 ≡ frame.Broken → (t : Bool) → more && ltb (length kept) longest_record ≡ t → more ≡ true
      off f true t = both_left more (ltb (length kept) longest_record) t
      off f false t =
          elim (ℕ_discrete (length kept) 0) [
            | yes none ↦ absurd (asks_ends e (broken_way kept more number f ∙ end_effect (length kept) more (number + 1) t none))
            | no some ↦ absurd (asks_ends e (broken_way kept more number f ∙ broken-effect (length kept) more (number + 1) t some))
          ]

      go : (f : Frame) → frame_at kept 0 ≡ f → more ≡ true
      go (frame.Whole kind body) f = on kind body f (eqb (number + 1) most_records) refl
      go frame.Broken f = off f (more && ltb (length kept) longest_record) refl

-- ---- A turn's text, and the table of what is left.

module _ (kept : List ℕ) (more : Bool) (number : ℕ) (rest : List ℕ) (few : number < most_records) where
  one_left : most_records - number ≡ suc (most_records - (number + 1))
  one_left = omega (arith, few)

  -- behind a record comes the table of the rest
  whole_left :
      (kind body : ℕ) → frame_at kept 0 ≡ frame.Whole kind body
      → records_text (most_records - number) (number + 1) (kept ++ rest)
      ≡ own_text kept more number (4 + body) ++ records_text (most_records - (number + 1)) (number + 1 + 1) (drop (4 + body) kept ++ rest)
  whole_left kind body e =
      let facts = whole kept 0 kind body e in
      let fits : 4 + body ≤ length kept = omega arith in
      ap (λ (most : ℕ). records_text most (number + 1) (kept ++ rest)) one_left
      ∙ record_left (most_records - (number + 1)) (number + 1) (kept ++ rest) kind body (longer_whole kept rest kind body e)
      ∙ rw (take-append-le (4 + body) kept rest fits, drop-append-le (4 + body) kept rest fits)

  went_text :
      (kind body : ℕ) → frame_at kept 0 ≡ frame.Whole kind body → {used next : ℕ} {first text : List ℕ} → used ≡ 4 + body
      → first ≡ own_text kept more number (4 + body) → next ≡ number + 1
      → text ≡ records_text (most_records - next) (next + 1) (drop used kept ++ rest)
      → first ++ text ≡ records_text (most_records - number) (number + 1) (kept ++ rest)
  went_text kind body f used_is first_is next_is text_is = rw (text_is, first_is, next_is, used_is) (sym (whole_left kind body f))

  over_text : Still more rest → {text : List ℕ} → Ends kept more number text → text ≡ records_text (most_records - number) (number + 1) (kept ++ rest)
  unfolding records_text
  over_text still (at_last kind body f last is) =
      let none : most_records - (number + 1) ≡ 0 = omega arith in
      is ∙ sym (whole_left kind body f ∙ rw none (append-nil (own_text kept more number (4 + body))))
  over_text (inl can) (at_end now none is) =
      absurd (false≢true (sym now ∙ rw (can, lt-ltb (length kept) longest_record (omega arith))))
  over_text (inr gone) (at_end now none is) = is ∙ sym (rw (all_come kept rest gone) (none_left (most_records - number) (number + 1) kept none))
  over_text still (at_broken f now some is) =
      let longer = length-append kept rest in
      is
      ∙ sym
      (ap (λ (most : ℕ). records_text most (number + 1) (kept ++ rest)) one_left
      ∙ broken_left (most_records - (number + 1)) (number + 1) (kept ++ rest) (λ none. some (omega arith)) (rest_broken kept rest more still now f))

-- ---- All turns.

still_more : (piece rest : List ℕ) → (length piece ≡ 0 → rest ≡ []) → Still (ltb 0 (length piece)) rest
still_more piece rest told =
    elim (dec_lt 0 (length piece)) [
      | yes some ↦ inl (lt-ltb 0 (length piece) some)
      | no none ↦ inr (told (omega arith))
    ]

before_last : {number next : ℕ} → number < most_records → next ≡ number + 1 → (number + 1 ≡ most_records → ⊥) → next < most_records
before_last few is not_last = omega (arith, few, is, not_last)

pub turns_from :
    {kept : List ℕ} {more : Bool} {number : ℕ} {rest text : List ℕ} → Turns kept more number rest text → number < most_records → Still more rest
    → text ≡ records_text (most_records - number) (number + 1) (kept ++ rest)
turns_from (fed {kept} {rest} piece e told on) few still =
    rw append_assoc at (turns_from on few (still_more piece rest told))
turns_from (went_on {kept} {more} {number} {rest} e on) few still =
    let put = puts_record kept more number e in
    let more-come = before_last few put.next_is put.not_last in
    went_text kept more number rest few put.kind put.body put.stands put.used_is put.text_is put.next_is
    (turns_from on more-come still)
turns_from (is_over {kept} {more} {number} {rest} e) few still = over_text kept more number rest few still (ends_by kept more number e)

-- The whole table. A statement for which the numbers do not do has more bytes than 2 ^ 66 - 4.
pub table : (statement text : List ℕ) → length statement ≤ 4 * most_records → Turns [] true 0 statement text → header ++ text ≡ csv_of statement
unfolding csv_of
table statement text short turns =
    ap (header ++◌)
    (turns_from turns (omega arith) (inl refl) ∙ enough most_records (length statement) 1 statement short (omega arith))
