-- Riders whose sums are those of the rider before: what equal pairs of eight bytes tell, and that the caps leave both the same.
-- Assumes nothing.
use Prim.Native.Nat.{ℕ, ◌+◌, ◌-◌, ◌*◌, ◌^◌}
use native.Mathlib.Omega.{arith}
use mathlib.Core.Path.{◌≡◌, sym, ◌∙◌}
use mathlib.Core.Bool.{Bool, true, ◌&&◌}
use mathlib.Core.List.{List}
use Rattle.wire.specs.Number.{get_le, Bytes}
use Rattle.wire.proofs.Number.{get_range, point_word}
use Rattle.wire.proofs.Tests.{both_left, both_right}
use Rattle.ledger.specs.Words.{fresh_book, word, pair_place}
use Rattle.ledger.proofs.WordLaws.{word_fresh}
use Rattle.charging.specs.declared.Person.{Person}
use Rattle.charging.specs.declared.limits.Chain.{Chain}
use Rattle.charging.specs.declared.alike.Last.{Last}
use Rattle.charging.specs.Clauses.{rest_by, person_by}
use Rattle.charging.specs.Alike.{SameAt, SamePair, SameSums, AsBefore, LastRight}

-- where eight bytes are equal, both words are
same_words :
    (b : List ℕ) → Bytes b → (p q : ℕ) → get_le 8 b (4 * p) ≡ get_le 8 b (4 * q) → (word b p ≡ word b q) × (word b (p + 1) ≡ word b (q + 1))
same_words b bytes p q e =
    let first = halves p in
    let other = halves q in
    let low = get_range 4 b (4 * p) bytes in
    let low' = get_range 4 b (4 * q) bytes in
    (omega (arith, e, first, other, low, low'), omega (arith, e, first, other, low, low'))
  where
    halves : (k : ℕ) → get_le 8 b (4 * k) ≡ word b k + 2 ^ 32 * word b (k + 1)
    halves k =
        let second : 4 * k + 4 ≡ 4 * (k + 1) = omega arith in
        point_word b (4 * k) ∙ rw second

pub same_at :
    (b : List ℕ) → Bytes b → (before area : ℕ) → get_le 8 b (4 * pair_place (before + 1) area) ≡ get_le 8 b (4 * pair_place before area) → SameAt b before area
same_at b bytes before area e =
    let (second, all) = same_words b bytes (pair_place (before + 1) area) (pair_place before area) e in
    record { second = second; all = all }

-- in a new window all sums are 0
pub same_fresh : (before area : ℕ) → SameAt fresh_book before area
same_fresh before area =
    record {
      second = word_fresh (pair_place (before + 1) area) ∙ sym (word_fresh (pair_place before area));
      all = word_fresh (pair_place (before + 1) area + 1) ∙ sym (word_fresh (pair_place before area + 1));
    }

-- three tests together tell of all areas of a chain
pub same_sums :
    (chain : Chain) (w : List ℕ) (before : ℕ) (x y z : Bool) → SamePair w before chain.own.area x → SamePair w before chain.above.area y
    → SamePair w before chain.top.area z → AsBefore chain w before ((x && y) && z)
same_sums chain w before x y z own above top =
    record {
      told =
          λ e.
          let low = both_left (x && y) z e in
          record { own = own.told (both_left x y low); above = above.told (both_right x y low); top = top.told (both_right (x && y) z e) };
    }

pub fresh_sums : (chain : Chain) (before : ℕ) → AsBefore chain fresh_book before true
fresh_sums chain before = record { told = λ e. record { own = same_fresh before _; above = same_fresh before _; top = same_fresh before _ } }

-- of a rider the caps look at nothing but the sums, and at what was paid for an earlier part
pub same_charge :
    (chain : Chain) (w : List ℕ) (before class paid price : ℕ) → SameSums chain w before
    → person_by chain w before class paid price ≡ person_by chain w (before + 1) class paid price
unfolding person_by rest_by
same_charge chain w before class paid price same =
    rw (same.own.second, same.own.all, same.above.second, same.above.all, same.top.second, same.top.all)

-- so what was held of the rider before is this one's too, where both are alike
pub held_charge :
    (chain : Chain) (w : List ℕ) (rider class paid price : ℕ) {last : Last} → LastRight chain w rider class price last → rider ≡ last.next → paid ≡ last.paid
    → SameSums chain w (rider - 1) → last.charge ≡ person_by chain w rider class paid price
held_charge chain w rider class paid price held some same-paid same =
    let next : rider - 1 + 1 ≡ rider = omega (arith, held.after some) in
    rw (same-paid, ← next) (held.told some (rider - 1) (sym next) ∙ same_charge chain w (rider - 1) class _ price same)

-- and what is held after a rider is right for the next
pub held_next :
    (chain : Chain) (w : List ℕ) (rider class paid price : ℕ) (charge : Person) → charge ≡ person_by chain w rider class paid price
    → LastRight chain w (rider + 1) class price (record { next = rider + 1; paid = paid; charge = charge })
held_next chain w rider class paid price charge by =
    record {
      told = λ some before e. let same : before ≡ rider = omega arith in rw same by;
      after = λ some. omega arith;
    }
