-- `fours::put_eight` meets its contract: the word's bytes are those that std gives, and they stand from the place on.
use Prim.Native.Nat.{◌+◌}
use native.Mathlib.Omega.{arith}
use mathlib.Core.Path.{ap, ◌∙◌}
use mathlib.Core.List.{◌++◌}
use lib.ListN.{take}
use Rattle.std.proofs.lemmas.Slice.{take-put_mid}
use Rattle.text.proofs.Puts.{low_first}
use Rattle.text.proofs.fours.put_eight.Goals as goal

pub returns : goal.returns
returns c =
    let args = c.args in
    let copied = c.copy_from_slice in
    record {
      put =
          take-put_mid args.place _ args.out.now copied.new.self (args.place + 8) (omega arith) (omega arith)
          ∙ ap (take args.place args.out.now ++◌) (copied.ensures.after ∙ c.to_le_bytes.ensures ∙ low_first args.word);
      order = omega arith;
      room = omega arith;
    }
