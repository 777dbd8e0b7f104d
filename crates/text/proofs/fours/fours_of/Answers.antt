-- `fours::fours_of` meets its contract: each number's digits are a half of the word.
use Prim.Native.Nat.{◌/◌, ◌%◌}
use mathlib.Core.Path.{ap, ◌∙◌}
use Rattle.text.proofs.Split.{front_half, back_half}
use Rattle.text.proofs.fours.fours_of.Goals as goal

pub returns : goal.returns
returns c =
    let args = c.args in
    let small = c.requires.0 in
    let is = c.digits_of-digits.ensures.0 in
    (ap (◌% 4294967296) is ∙ front_half args.front args.back small, ap (◌/ 4294967296) is ∙ back_half args.front args.back small)
