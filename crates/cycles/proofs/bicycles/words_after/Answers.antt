-- `cycles::bicycles::words_after` meets its contract: where a part is earlier, the words are those that the part leaves.
use mathlib.Core.Path.{refl}
use Rattle.cycles.specs.Clauses.{cover_after, paid_after}
use Rattle.cycles.proofs.bicycles.words_after.Goals as goal

pub terms_of-requires : goal.terms_of-requires
terms_of-requires c = let p = c.requires in (p.0, rw c.in-Part.is at p.1.0)

pub words_with-requires : goal.words_with-requires
words_with-requires c =
    let p = c.requires in
    (p.0, (c.terms_of.ensures, (rw c.in-Part.is at p.1.0, p.1.1)))

pub returns-in-Nothing : goal.returns-in-Nothing
unfolding cover_after paid_after
returns-in-Nothing c =
    let p = c.requires.1.1 in
    rw c.in-Nothing.is (record { cover = refl; known = p.0; payments = refl; range = p.1 })

pub returns-in-Part : goal.returns-in-Part
unfolding cover_after paid_after
returns-in-Part c =
    let left = c.words_with.ensures in
    rw c.in-Part.is
    (record { cover = left.cover; known = left.known; payments = left.payments; range = left.range })
