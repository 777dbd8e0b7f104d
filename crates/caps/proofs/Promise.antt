-- Promise 3, whatever the prices are: of rides that were each charged what the caps had left over the rides before.
-- Assumes nothing.
use mathlib.Core.Path.{subst}
use mathlib.Core.List.{List}
use Rattle.caps.specs.Tree.{Tree, IsTree}
use Rattle.caps.specs.Rides.{ChargedRide, ChargedInTurn, PromiseThree}
use Rattle.caps.proofs.Window.{earlier, no_cap_passed, each_no_more_than_price, cut_leaves_full}
use Rattle.caps.proofs.OneClass.{one_class_total}

pub promise_three : {t : Tree} → IsTree t → {rides : List ChargedRide} → ChargedInTurn t rides → PromiseThree t rides
promise_three {t} tree r =
    record {
      at_most_prices = λ e m. each_no_more_than_price tree r m;
      caps_hold = no_cap_passed tree r;
      cut_at_full = λ later e es is. cut_leaves_full tree (earlier later (subst (ChargedInTurn t) is r));
      one_class_adds = λ class. one_class_total tree class r;
    }
