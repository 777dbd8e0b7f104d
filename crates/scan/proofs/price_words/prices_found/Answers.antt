-- `scan::price_words::prices_found` meets its contract: where its mask picks nothing, `prices_told` says the rest.
use Rattle.std.proofs.Common.{eqb-true}
use lib.Bits.{bit_and, bit_or}
use Rattle.scan.proofs.PriceLaws.{prices_told}
use Rattle.scan.proofs.price_words.prices_found.Goals as goal

pub returns : goal.returns
returns c =
    let picked = bit_and (bit_or c.wrapping_add_u64-less.result c.wrapping_add_u64.result) 9259673516985335808 in
    record {
      told =
          λ e.
          prices_told c.args.b.now (λ i. (c.type_inv.b i).fits) c.args.at
          (rw (c.wrapping_add_u64.ensures.value, c.wrapping_add_u64-less.ensures.value, c.eight_at.ensures.value) at (eqb-true picked 0 e));
    }
