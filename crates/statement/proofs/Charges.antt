-- The charges behind the head: their bytes, charges behind others, and the whole record.
-- Assumes nothing.
use Prim.Native.Nat.{ℕ, ◌+◌, ◌*◌, ◌≤◌}
use native.Mathlib.Omega.{arith}
use mathlib.Core.Path.{◌≡◌, refl, sym, ap, ◌∙◌}
use mathlib.Core.List.{List, [], ◌∷◌, ◌++◌, append_assoc, append-nil}
use lib.ListN.{length, length-append}
use Rattle.wire.specs.Number.{bytes_of}
use Rattle.wire.proofs.Number.{length_bytes}
use Rattle.caps.specs.declared.Cut.{Cut}
use Rattle.statement.specs.Record.{Part, record_size, head_of, person_bytes, charge_bytes, record_of, statement_of, Complete}
use Rattle.statement.specs.Kind4.{charges_long, charges_head, charges_record_of}
use Rattle.statement.proofs.Head.{length_head, length_person}

-- ---- Bytes.

-- Each charge has four bytes, and each cut six.
pub length_charges : (charges : List ℕ) (cuts : List Cut) → length cuts ≤ length charges → length (charge_bytes charges cuts) ≡ 4 * length charges + 6 * length cuts
unfolding charge_bytes
length_charges [] [] h = refl
length_charges [] (k ∷ cuts) h = absurd (omega arith)
length_charges (c ∷ more) [] h = rw (length-append, length_bytes) (omega (arith, length_charges more [] (omega arith)))
length_charges (c ∷ more) (k ∷ cuts) h = rw (length-append, length_person) (omega (arith, length_charges more cuts (omega arith)))

-- Behind as many charges as cuts stand further charges with cuts of their own.
pub charges_join :
    (charges others : List ℕ) (cuts further : List Cut) → length cuts ≡ length charges
    → charge_bytes (charges ++ others) (cuts ++ further) ≡ charge_bytes charges cuts ++ charge_bytes others further
unfolding charge_bytes
charges_join [] others [] further same = refl
charges_join [] others (k ∷ cuts) further same = absurd (omega arith)
charges_join (c ∷ charges) others [] further same = absurd (omega arith)
charges_join (c ∷ charges) others (k ∷ cuts) further same =
    ap (person_bytes c k ++◌) (charges_join charges others cuts further (omega arith))
    ∙ sym (append_assoc (person_bytes c k) (charge_bytes charges cuts) (charge_bytes others further))

-- Bicycles' charges stand behind those of others.
pub bicycles_join : (charges others : List ℕ) → charge_bytes (charges ++ others) [] ≡ charge_bytes charges [] ++ charge_bytes others []
unfolding charge_bytes
bicycles_join [] others = refl
bicycles_join (c ∷ charges) others =
    ap (bytes_of 4 c ++◌) (bicycles_join charges others) ∙ sym (append_assoc (bytes_of 4 c) (charge_bytes charges []) (charge_bytes others []))

-- ---- The record.

-- The record's length: its head, 10 for each person, and 4 for each bicycle.
pub length_record : (part : Part) → Complete part → length (record_of part) ≡ record_size part.ride.party
unfolding record_of
length_record part complete =
    length-append (head_of part.opening part.ride) (charge_bytes part.charges part.cuts)
    ∙ omega (
      arith,
      length_head part.opening part.ride,
      complete.charges,
      complete.cuts,
      length_charges part.charges part.cuts (omega (arith, complete.charges, complete.cuts)),
    )

-- A record of kind 4 has 13 bytes, and 4 for each charge.
pub length_kind4 : (part : Part) → length (charges_record_of part) ≡ 13 + 4 * length part.charges
unfolding charges_record_of charges_head bytes_of
length_kind4 part =
    let head = charges_head (charges_long (length part.charges)) part.opening part.ride.area part.ride.km.0 part.ride.minutes.0 in
    let short : length head ≡ 13 = refl in
    length-append head (charge_bytes part.charges []) ∙ omega (arith, short, length_charges part.charges [] (omega arith))

-- A statement of one part is its record.
pub one_part : (part : Part) → statement_of (part ∷ []) ≡ record_of part
unfolding statement_of
one_part part = append-nil (record_of part)

-- One of two parts is as long as both records.
pub length_two : (one other : Part) → length (statement_of (one ∷ other ∷ [])) ≡ length (record_of one) + length (record_of other)
unfolding statement_of
length_two one other = length-append (record_of one) (statement_of (other ∷ [])) ∙ ap (λ (s : List ℕ). length (record_of one) + length s) (one_part other)
