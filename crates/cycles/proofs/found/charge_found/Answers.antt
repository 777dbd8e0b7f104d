-- `cycles::found::charge_found` meets its contract: the same words have the same charge; else it is worked out.
use Prim.Native.Nat.{ℕ}
use mathlib.Core.Path.{◌≡◌, refl, ◌∙◌}
use Rattle.cycles.specs.Clauses.{charge_found}
use Rattle.cycles.proofs.BicycleLaws.{held_again}
use Rattle.cycles.proofs.found.charge_found.Goals as goal

pub words_after-words-requires : goal.words_after-words-requires
words_after-words-requires c = let p = c.requires in (p.0, (p.1.1.1.0, (p.1.1.1.1.0, p.1.1.1.1.1.0)))

pub returns-then-cover-last : goal.returns-then-cover-last
returns-then-cover-last c =
    let a = c.args in
    let p = c.requires.1.1.1.1 in
    let same = held_again (λ (old paid : ℕ). a.last.amount.0 ≡ charge_found a.tariff.now a.counts a.earlier a.at old paid)
    a.cover a.paid.0 a.last.cover a.last.paid.0 c.if-cover-last.true p.0 p.1.1.right in
    record { cover = same.cover; payments = same.payments; charge = same.held }

pub returns-else-cover-last : goal.returns-else-cover-last
returns-else-cover-last c =
    record {
      cover = refl;
      payments = refl;
      charge =
          c.charge_bicycle.ensures.value
          ∙ rw (c.words_after-words.ensures.cover, c.words_after-words.ensures.payments);
    }
