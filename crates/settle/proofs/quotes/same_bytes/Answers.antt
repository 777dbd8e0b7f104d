-- `settle::quotes::same_bytes` meets its contract: after i turns it is known whether the first i bytes are the same.
use native.Mathlib.Omega.{arith}
use mathlib.Core.Path.{refl, sym}
use borrow.Author.Tests.{eq-eqb, ne_eqb}
use Rattle.wire.proofs.Each.{each_none}
use Rattle.ledger.proofs.SoundLaws.{one_more, all_done}
use Rattle.settle.specs.Posting.{same_bytes}
use Rattle.settle.proofs.Postings.{byte_same}
use Rattle.settle.proofs.quotes.same_bytes.Goals as goal

pub returns-then-bytes-other : goal.returns-then-bytes-other
unfolding same_bytes
returns-then-bytes-other c = rw (ne_eqb _ _ c.if-bytes-other.true)

pub loop-i-init : goal.loop-i-init
loop-i-init c = (omega arith, (refl, (c.if-bytes-other.false, sym (each_none (byte_same c.args.bytes.now c.args.other.now)))))

pub bounds-bytes-i : goal.bounds-bytes-i
bounds-bytes-i c = let (inside, (end, (size, sofar))) = c.loop-i.invariant in omega arith

pub bounds-other-i : goal.bounds-other-i
bounds-other-i c = let (inside, (end, (size, sofar))) = c.loop-i.invariant in omega arith

pub loop-i-preserved : goal.loop-i-preserved
loop-i-preserved c =
    let (inside, (end, (size, sofar))) = c.loop-i.invariant in
    (omega arith, (end, (size, one_more _ (byte_same c.args.bytes.now c.args.other.now) _ _ sofar refl)))

pub returns : goal.returns
unfolding same_bytes
returns c =
    let (inside, (end, (size, sofar))) = c.loop-i.invariant in
    rw (eq-eqb _ _ size) (all_done _ _ (byte_same c.args.bytes.now c.args.other.now) _ (omega arith) (omega (arith, c.loop-i-test.false)) sofar)
