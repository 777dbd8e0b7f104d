-- The one number that each exported function answers is taken apart in one way: a refusal with its number and place, or the bytes written. Told
-- by the contracts alone.
-- Assumes nothing.
use Prim.Native.Nat.{ℕ, ◌^◌, ◌≤◌, ◌<◌}
use native.Mathlib.Omega.{arith}
use mathlib.Core.Path.{◌≡◌, refl, sym, ap, subst, ◌∙◌}
use mathlib.Core.Bool.{Bool, true, false, cond}
use mathlib.Core.List.{List}
use lib.ListN.{length, drop}
use lib.Dec.{ltb}
use Rattle.editions.specs.declared.FileReading.{FileReading}
use Rattle.editions.specs.declared.FileReading.TheVariants.{Fault, Faultless}
use Rattle.editions.specs.Reading.{read_file}
use Rattle.editions.proofs.FileLaws.{file_exactly}
use Rattle.reader.specs.Conditions.{RefusedBy, broken-frame, other-record, out-of-range}
use Rattle.reader.specs.Fields.{Fields, whose_in, charges_of}
use Rattle.reader.specs.Reading as reading
use Rattle.reader.specs.Reading.{read_at}
use Rattle.reader.specs.Filling.{field_bytes, field_size, Filling, unfilled, filled, filling_from, filling_of, filled_as, FieldsFound}
use Rattle.reader.proofs.ReadBack.{read_refused_exactly}
use Rattle.reader.proofs.Filled.{filled_size}
use Rattle.reader.proofs.Found.{filled_found}
use Rattle.settle.specs.declared.Answer.{Answer}
use Rattle.settle.specs.declared.Answer.TheVariants.{Refused, Written}
use Rattle.settle.specs.Outcome.{Quote, unquoted, priced, Outcome, refused, accepted, quoted, settled, Settled, Quoted}
use Rattle.settle.specs.Posting.{Posting, unposted, renewed, posting_of, Posted}
use Rattle.settle.specs.Clauses.{told_by, told_quote, told_posting}
use Rattle.page.specs.Pages.{Change, unchanged, changed}
use Rattle.accounts.specs.Members.{Changed}
use Rattle.page.specs.InWords.{AddingRefused, add_eighteen, add_nineteen, add_twenty, ClosingRefused, close_eighteen, close_nineteen}
use Rattle.accounts.specs.Associations.{added_for, closed_for, settled_for, Behind, twenty_one, other_refusal}
use Rattle.accounts.specs.Clauses.{told_change}
use Rattle.accounts.proofs.Halves.{adding_refused_for, closing_refused_for}
use Rattle.milecopper.specs.Clauses.{encoded_as, ReadTo}
use Rattle.milecopper.specs.Tariffs.{tariff_answer}
use Rattle.milecopper.proofs.TariffAnswers.{fault_fits, fault_answer, length_fits, faultless_answer}
use Rattle.promises.specs.Numbers.{Apart, a_refusal, some_bytes, Tellable, told_filling, told_tariff}
use Rattle.promises.proofs.Refusing.{fault_some}
use Rattle.promises.proofs.Answers.{refused-number, accepted-answer}
use Rattle.promises.proofs.Quotes.{quote_number, quote_accepts_alike, posting_number, posting_size}
use Rattle.promises.proofs.Exported.{for_number, for_few}

-- Every answer that can be told is taken apart from its number.
pub taken_apart : (a : Answer) → Tellable a → Apart (encoded_as a) a
taken_apart (Refused number place) (some, near) = a_refusal {number = number} {place = place} (omega arith) (omega arith) (omega arith)
taken_apart (Written size) near = some_bytes near refl

apart_from : {r : ℕ} (a : Answer) → r ≡ encoded_as a → Tellable a → Apart r a
apart_from a is ok = rw is (taken_apart a ok)

-- ---- `milecopper_settle`, `milecopper_quote`, `milecopper_post`.

module _ (file book trip : List ℕ) where
  pub settle_apart :
      (statement : List ℕ) {book' statement' : List ℕ} {r : ℕ}
      → Settled (settled file book trip (length statement)) book book' statement statement' r
      → Apart r (told_by (settled file book trip (length statement)))
  settle_apart statement {book'} {statement'} {r} s = go (settled file book trip (length statement)) refl s
    where
      go : (o : Outcome) → settled file book trip (length statement) ≡ o → Settled o book book' statement statement' r → Apart r (told_by o)
      go (refused n place) is s' =
          let (low, high, near, none) = refused-number file book trip (length statement) is in
          apart_from (Refused n place) s'.answer (low, omega (arith, near))
      go (accepted new parts) is s' =
          let few = (accepted-answer file book trip (length statement) is).1 in
          apart_from (told_by (accepted new parts)) s'.answer (omega (arith, rw is at few))

  pub quote_apart :
      (statement : List ℕ) {statement' : List ℕ} {r : ℕ} → Quoted (quoted file book trip (length statement)) statement statement' r
      → Apart r (told_quote (quoted file book trip (length statement)))
  quote_apart statement {statement'} {r} q = go (quoted file book trip (length statement)) refl q
    where
      go : (o : Quote) → quoted file book trip (length statement) ≡ o → Quoted o statement statement' r → Apart r (told_quote o)
      go (unquoted n place) is q' =
          let (low, high, near, none) = quote_number file book trip (length statement) is in
          apart_from (Refused n place) q'.answer (low, omega (arith, near))
      go (priced parts) is q' =
          let (new, settles) = (quote_accepts_alike file book trip (length statement) parts).0 is in
          let few = (accepted-answer file book trip (length statement) settles).1 in
          apart_from (told_quote (priced parts)) q'.answer (omega (arith, rw settles at few))

  pub post_apart :
      (offered : List ℕ) {book' : List ℕ} {r : ℕ} → Posted (posting_of file book trip offered) book book' r
      → Apart r (told_posting (posting_of file book trip offered))
  post_apart offered {book'} {r} p = go (posting_of file book trip offered) refl p
    where
      go : (o : Posting) → posting_of file book trip offered ≡ o → Posted o book book' r → Apart r (told_posting o)
      go (unposted n place) is p' =
          let (low, high, other, near, none) = posting_number file book trip offered is in
          apart_from (Refused n place) p'.answer (low, omega (arith, near))
      go (renewed new) is p' =
          apart_from (told_posting (renewed new)) p'.answer (omega (arith, posting_size file book trip offered is))

-- ---- `milecopper_add`, `milecopper_close`, `milecopper_settle_member`.

module _ (association : ℕ) (page : List ℕ) (member : ℕ) where
  -- 18 to 21 have no place
  change_apart :
      (c : Change) → ((n : ℕ) → c ≡ unchanged n → 1 ≤ n) → {page' : List ℕ} {r : ℕ} → Changed c page page' r → Apart r (told_change c)
  change_apart (unchanged n) some d = apart_from (Refused n 0) d.answer (some n refl, omega arith)
  change_apart (changed new) some d = apart_from (told_change (changed new)) d.answer (omega arith)

  pub add_apart : {page' : List ℕ} {r : ℕ} → Changed (added_for association page member) page page' r → Apart r (told_change (added_for association page member))
  add_apart d = change_apart (added_for association page member) (λ n e. met ((adding_refused_for association page member n).0 e)) d
    where
      inside : {first count n : ℕ} → AddingRefused first count page member n → 1 ≤ n
      inside (add_eighteen why) = omega arith
      inside (add_nineteen none one) = omega arith
      inside (add_twenty none absent full) = omega arith

      met : {first count n : ℕ} → Behind association (AddingRefused first count page member) n → 1 ≤ n
      met (twenty_one none) = omega arith
      met (other_refusal n one w) = inside w

  pub close_apart :
      {page' : List ℕ} {r : ℕ} → Changed (closed_for association page member) page page' r → Apart r (told_change (closed_for association page member))
  close_apart d = change_apart (closed_for association page member) (λ n e. met ((closing_refused_for association page member n).0 e)) d
    where
      inside : {first count n : ℕ} → ClosingRefused first count page member n → 1 ≤ n
      inside (close_eighteen why) = omega arith
      inside (close_nineteen none absent) = omega arith

      met : {first count n : ℕ} → Behind association (ClosingRefused first count page member) n → 1 ≤ n
      met (twenty_one none) = omega arith
      met (other_refusal n one w) = inside w

  pub member_apart :
      (file trip statement : List ℕ) {page' statement' : List ℕ} {r : ℕ}
      → Settled (settled_for file association page member trip (length statement)) page page' statement statement' r
      → Apart r (told_by (settled_for file association page member trip (length statement)))
  member_apart file trip statement {page'} {statement'} {r} s = go (settled_for file association page member trip (length statement)) refl s
    where
      go :
          (o : Outcome) → settled_for file association page member trip (length statement) ≡ o → Settled o page page' statement statement' r
          → Apart r (told_by o)
      go (refused n place) is s' =
          let (low, near) = for_number file association page member trip (length statement) is in
          apart_from (Refused n place) s'.answer (low, omega (arith, near))
      go (accepted new parts) is s' =
          apart_from (told_by (accepted new parts)) s'.answer (for_few file association page member trip (length statement) is)

-- ---- `milecopper_read`, `milecopper_check_tariff`.

pub read_apart :
    (statement : List ℕ) (at : ℕ) (fields : List ℕ) {fields' : List ℕ} {r : ℕ} → ReadTo (filling_of statement at (length fields)) fields fields' r
    → Apart r (told_filling (filling_of statement at (length fields)))
unfolding filling_from
read_apart statement at fields {fields'} {r} to = go (filling_of statement at (length fields)) refl to
  where
    numbered : {n : ℕ} → RefusedBy statement at n → 1 ≤ n
    numbered (broken-frame e) = omega arith
    numbered (other-record kind body e w) = omega arith
    numbered (out-of-range kind body e whose fits w) = omega arith

    by_reading : {n : ℕ} (o : reading.Reading) → read_at statement at ≡ o → filling_from o (length fields) ≡ unfilled n → 1 ≤ n
    by_reading {n} (reading.refused m) is e = let same : m ≡ n = cc in numbered ((read_refused_exactly statement at n).0 (is ∙ ap reading.refused same))
    by_reading {n} (reading.told f size) is e = by_room (ltb (length fields) (field_size (charges_of (whose_in f)))) e
      where
        by_room : (t : Bool) → cond t (unfilled 12) (filled f size) ≡ unfilled n → 1 ≤ n
        by_room true e' = let same : 12 ≡ n = cc in omega arith
        by_room false e' = absurd (let z : ◌≡◌ {A = ℕ} 0 1 = cc in omega arith)

    go : (f : Filling) → filling_of statement at (length fields) ≡ f → ReadTo f fields fields' r → Apart r (told_filling f)
    go (unfilled n) is to' = apart_from (Refused n 0) to'.answer (by_reading (read_at statement at) refl is, omega arith)
    go (filled f size) is to' = apart_from (Written size) to'.answer (omega (arith, filled_size statement at (length fields) (ap filled_as is)))

-- Where it is no refusal, every field of the record that was read is found in the slice, at its place, and the answer is the record's bytes.
pub read_finds :
    (statement : List ℕ) (at : ℕ) (before : List ℕ) {after : List ℕ} {r : ℕ} → ReadTo (filling_of statement at (length before)) before after r
    → r < 2 ^ 32 → (fields : Fields) × ((read_at statement at ≡ reading.told fields r) × FieldsFound fields after)
read_finds statement at before {after} {r} to near = go (filling_of statement at (length before)) refl to (read_apart statement at before to)
  where
    go :
        (f : Filling) → filling_of statement at (length before) ≡ f → ReadTo f before after r → Apart r (told_filling f)
        → (fields : Fields) × ((read_at statement at ≡ reading.told fields r) × FieldsFound fields after)
    go (unfilled n) is to' (a_refusal far number none) = absurd (omega arith)
    go (filled fields size) is to' apart =
        let (read, found) = filled_found statement at (length before) is (drop (length (field_bytes fields)) before) in
        (fields, (read ∙ ap (reading.told fields) (sym to'.answer), subst (FieldsFound fields) (sym to'.fields_are) found))

pub check_apart : (file : List ℕ) {r : ℕ} → r ≡ tariff_answer file → Apart r (told_tariff file (read_file file))
check_apart file {r} e = go (read_file file) refl
  where
    go : (o : FileReading) → read_file file ≡ o → Apart r (told_tariff file o)
    go (Fault n at) is =
        let some : 1 ≤ n = fault_some ((file_exactly file (Fault n at)).0 is) in
        apart_from (Refused n at) (e ∙ fault_answer file n at is) (some, fault_fits file n at is)
    go (Faultless editions) is = apart_from (Written (length file)) (e ∙ faultless_answer file editions is) (length_fits file editions is)
