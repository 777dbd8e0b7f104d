-- `cycles::found::words_found` meets its contract: a ride leaves the same words where it finds the same words; else they are worked out.
use Prim.Native.Nat.{ℕ}
use mathlib.Core.Path.{refl}
use Rattle.cycles.specs.Clauses.{WordsWith}
use Rattle.cycles.proofs.BicycleLaws.{held_again}
use Rattle.cycles.proofs.found.words_found.Goals as goal

pub words_with-requires : goal.words_with-requires
words_with-requires c = let p = c.requires in (p.0, (p.1.0, (p.1.1.0, (p.1.1.1.0, p.1.1.1.1.0))))

pub returns-then-cover-last : goal.returns-then-cover-last
returns-then-cover-last c =
    let a = c.args in
    let p = c.requires.1.1.1 in
    let same = held_again (λ (old paid : ℕ). WordsWith a.tariff.now a.counts a.at old paid a.last.words)
    a.cover a.paid.0 a.last.cover a.last.paid.0 c.if-cover-last.true p.0 p.1.1.right in
    record { cover = same.cover; payments = same.payments; left = same.held }

pub returns-else-cover-last : goal.returns-else-cover-last
returns-else-cover-last c = record { cover = refl; payments = refl; left = c.words_with.ensures }
