-- The charge records of parts that are alike but for the opening minute, d minutes later in the second: whatever other such parts are compared
-- with them, the first records are these parts' exactly where the second are. So what quotes wrote in two nights, one d minutes after the
-- other, are records so moved.
-- Assumes nothing.
use Prim.Native.Nat.{ℕ}
use native.Mathlib.Omega.{arith}
use mathlib.Core.Path.{◌≡◌, refl, sym, ap, subst, ◌∙◌}
use mathlib.Core.List.{List, [], ◌∷◌, ◌++◌, append-nil}
use lib.ListN.{length, drop, length-append}
use lib.Seq.{drop_at}
use Rattle.statement.specs.Record.{Part, record_of, statement_of}
use Rattle.statement.proofs.Charges.{length_record}
use Rattle.reader.specs.declared.Head.{Head}
use Rattle.reader.specs.Fields.{Fields, head_in, head_of, Complete, fields_of, written}
use Rattle.reader.specs.Reading.{told, read_at}
use Rattle.reader.proofs.ReadBack.{written_part}
use Rattle.settle.specs.Outcome.{priced, accepted, quoted}
use Rattle.promises.specs.ReadBack.{ReadFrom, then, EachReadable, nobody, also}
use Rattle.promises.specs.Moved.{MovedTrip, MovedBook, MovedPart, MovedParts, no_part, one_part, MovedOutcome, both_accepted, MovedRecord, OpensAlike}
use Rattle.promises.proofs.ReadBack.{settled_readable, read_all}
use Rattle.promises.proofs.Quotes.{quote_accepts_alike}
use Rattle.promises.proofs.Midnight.{moved_alike}

-- parts that tell the same fields, one after another
data SameFields : List Part → List Part → Type 0 where
  no_fields : SameFields [] []
  then-fields : {p q : Part} {ps qs : List Part} → fields_of p ≡ fields_of q → SameFields ps qs → SameFields (p ∷ ps) (q ∷ qs)

-- they are written alike
written_alike : (p q : Part) → fields_of p ≡ fields_of q → record_of p ≡ record_of q
written_alike p q e = sym (written_part p) ∙ ap written e ∙ written_part q

same_statement : {ps qs : List Part} → SameFields ps qs → statement_of ps ≡ statement_of qs
unfolding statement_of
same_statement no_fields = refl
same_statement (then-fields {p} {q} e rest) = rw (written_alike p q e, same_statement rest)

-- reading from one place on gives one list
first_read : {s : List ℕ} {place : ℕ} {p : Part} {ps : List Part} → ReadFrom s place (p ∷ ps) → read_at s place ≡ told (fields_of p) (length (record_of p))
first_read (then e rest) = e

-- records are some bytes
some_bytes : (q : Part) → Complete (fields_of q) → (rest : List ℕ) → [] ≡ record_of q ++ rest → ⊥
some_bytes q whole rest e =
    omega (
      arith,
      ap length e,
      length-append (record_of q) rest,
      length_record q (record { charges = whole.0; cuts = whole.1 }),
    )

-- the records by themselves are read from their start on
read_whole : (parts : List Part) → EachReadable parts → ReadFrom (statement_of parts) 0 parts
read_whole parts each = subst (λ (s : List ℕ). ReadFrom s 0 parts) (append-nil (statement_of parts)) (read_all parts each [] [])

-- And what is written alike tells the same fields.
same_fields : (ps qs : List Part) → EachReadable ps → EachReadable qs → statement_of ps ≡ statement_of qs → SameFields ps qs
unfolding statement_of
same_fields [] [] nobody nobody e = no_fields
same_fields [] (q ∷ qs) nobody (also whole ok each) e = absurd (some_bytes q whole (statement_of qs) e)
same_fields (p ∷ ps) [] (also whole ok each) nobody e = absurd (some_bytes p whole (statement_of ps) (sym e))
same_fields (p ∷ ps) (q ∷ qs) (also whole ok each) (also whole' ok' each') e =
    let one = first_read (read_whole (p ∷ ps) (also whole ok each)) in
    let other = first_read (read_whole (q ∷ qs) (also whole' ok' each')) in
    let fields : fields_of p ≡ fields_of q = cc (sym one ∙ ap (λ (s : List ℕ). read_at s 0) e ∙ other) in
    let bytes = written_alike p q fields in
    let rest : statement_of ps ≡ statement_of qs =
    sym (drop_at (record_of p) (statement_of ps) (length (record_of p)) refl)
    ∙ ap (drop (length (record_of p))) e
    ∙ drop_at (record_of q) (statement_of qs) (length (record_of p)) (sym (ap length bytes))
    in
    then-fields fields (same_fields ps qs each each' rest)

-- ---- Moved.

-- what a part's record tells, by its opening and the rest
fields_are :
    (p q : Part) → p.opening ≡ q.opening → head_of 0 p.ride ≡ head_of 0 q.ride → p.ride.party ≡ q.ride.party → p.charges ≡ q.charges
    → p.cuts ≡ q.cuts → fields_of p ≡ fields_of q
fields_are p q opening head party charges cuts =
    let area = ap (λ (h : Head). h.area) head in
    let km = ap (λ (h : Head). h.km) head in
    let minutes = ap (λ (h : Head). h.minutes) head in
    rw (opening, area, km, minutes, party, charges, cuts)

module _ (p q : Part) (e : fields_of p ≡ fields_of q) where
  opening_same : p.opening ≡ q.opening
  opening_same = ap (λ (f : Fields). (head_in f).opening.0) e

  head_same : head_of 0 p.ride ≡ head_of 0 q.ride
  head_same =
      let area = ap (λ (f : Fields). (head_in f).area) e in
      let km = ap (λ (f : Fields). (head_in f).km) e in
      let minutes = ap (λ (f : Fields). (head_in f).minutes) e in
      rw (area, km, minutes)

  party_same : p.ride.party ≡ q.ride.party
  party_same = cc

  charges_same : p.charges ≡ q.charges
  charges_same = cc

  cuts_same : p.cuts ≡ q.cuts
  cuts_same = cc

module _ {d : ℕ} {p p' q q' : Part} (m : MovedPart d p p') (n : MovedPart d q q') where
  part_later : fields_of p ≡ fields_of q → fields_of p' ≡ fields_of q'
  part_later e =
      fields_are p' q' (omega (arith, m.opening, n.opening, opening_same p q e)) (rw (m.ride, n.ride) (head_same p q e))
      (rw (m.ride, n.ride) (party_same p q e)) (m.charges ∙ charges_same p q e ∙ sym n.charges)
      (m.cuts ∙ cuts_same p q e ∙ sym n.cuts)

  part_earlier : fields_of p' ≡ fields_of q' → fields_of p ≡ fields_of q
  part_earlier e =
      fields_are p q (omega (arith, m.opening, n.opening, opening_same p' q' e)) (rw (m.ride, n.ride) at (head_same p' q' e))
      (rw (m.ride, n.ride) at (party_same p' q' e)) (sym m.charges ∙ charges_same p' q' e ∙ n.charges)
      (sym m.cuts ∙ cuts_same p' q' e ∙ n.cuts)

later : {d : ℕ} {ps ps' qs qs' : List Part} → MovedParts d ps ps' → MovedParts d qs qs' → SameFields ps qs → SameFields ps' qs'
later no_part no_part no_fields = no_fields
later (one_part m ms) (one_part n ns) (then-fields e rest) = then-fields (part_later m n e) (later ms ns rest)
later no_part (one_part n ns) same = elim same [ ]
later (one_part m ms) no_part same = elim same [ ]

earlier : {d : ℕ} {ps ps' qs qs' : List Part} → MovedParts d ps ps' → MovedParts d qs qs' → SameFields ps' qs' → SameFields ps qs
earlier no_part no_part no_fields = no_fields
earlier (one_part m ms) (one_part n ns) (then-fields e rest) = then-fields (part_earlier m n e) (earlier ms ns rest)
earlier no_part (one_part n ns) same = elim same [ ]
earlier (one_part m ms) no_part same = elim same [ ]

-- The records of parts so moved are records so moved.
pub records_moved :
    {d : ℕ} {parts parts' : List Part} → EachReadable parts → EachReadable parts' → MovedParts d parts parts'
    → MovedRecord d (statement_of parts) (statement_of parts')
records_moved {d} {parts} {parts'} ok ok' n =
    record {
      alike = λ {parts = ps} {parts' = ps'} each each' m. (
        λ e. same_statement (later m n (same_fields ps parts each ok e)),
        λ e. same_statement (earlier m n (same_fields ps' parts' each' ok' e)),
      );
    }

-- So are those that quotes wrote, of a trip moved, on books so moved, under the same edition: whatever is settled and posted before they are
-- posted themselves.
pub quotes_moved :
    (file : List ℕ) {d : ℕ} {trip trip' book book' : List ℕ} (room : ℕ) {parts parts' : List Part} → MovedTrip d trip trip' → MovedBook d book book'
    → OpensAlike file d book trip → quoted file book trip room ≡ priced parts → quoted file book' trip' room ≡ priced parts'
    → MovedRecord d (statement_of parts) (statement_of parts')
quotes_moved file {d} {trip} {trip'} {book} {book'} room {parts} {parts'} m books opens q q' =
    let (new, s) = (quote_accepts_alike file book trip room parts).0 q in
    let (new', s') = (quote_accepts_alike file book' trip' room parts').0 q' in
    let alike : MovedOutcome d (accepted new parts) (accepted new' parts') = rw (s, s') at (moved_alike file room d m books opens) in
    records_moved (settled_readable file book trip room s) (settled_readable file book' trip' room s') (parts-of alike)
  where
    parts-of : {new new' : List ℕ} → MovedOutcome d (accepted new parts) (accepted new' parts') → MovedParts d parts parts'
    parts-of (both_accepted books parts) = parts

-- And two that are no charge records, be they the same bytes or not.
pub others_moved :
    {d : ℕ} {offered offered' : List ℕ} → ((parts : List Part) → statement_of parts ≡ offered → ⊥)
    → ((parts : List Part) → statement_of parts ≡ offered' → ⊥) → MovedRecord d offered offered'
others_moved none none' = record { alike = λ {parts} {parts'} ok ok' m. (λ e. absurd (none parts e), λ e. absurd (none' parts' e)) }
