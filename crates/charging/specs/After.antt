-- Rules, sections 9 to 11: what a ride leaves in the book, and to the part of its trip that comes after it.
use Rattle.std.specs.Prelude.{ℕ, zero, suc, ◌+◌, List, false, cond, get_or, eqb}
use Rattle.caps.specs.Tree.{climb}
use Rattle.layout.specs.declared.Counts.{Counts}
use Rattle.trip.specs.declared.Ride.{Ride}
use Rattle.trip.specs.declared.Earlier.{Earlier}
use Rattle.trip.specs.declared.Earlier.TheVariants.{Nothing, Part}
use Rattle.ledger.specs.declared.Window.{Window}
use Rattle.ledger.specs.Words.{put_word, pair_place, second_sum, all_sum, first_child}
use Rattle.ledger.specs.Windows.{in_window, opened}
use Rattle.cycles.specs.Bicycles.{cover_bicycles}
use Rattle.charging.specs.Caps.{tree_of}
use Rattle.charging.specs.Charging.{charges_of}

-- the charge added to a rider's sums in one area: to all classes always, to second class only in class 2
unfoldable pub add_here : List ℕ → ℕ → ℕ → ℕ → ℕ → List ℕ
add_here book rider class area amount =
    let both = cond (eqb class 2) (put_word book (pair_place rider area) (second_sum book rider area + amount)) book in
    put_word both (pair_place rider area + 1) (all_sum both rider area + amount)

-- to the sums of an area and of every area above it
unfoldable pub add_up : List ℕ → Counts → List ℕ → ℕ → ℕ → ℕ → ℕ → List ℕ
add_up tariff counts book rider class area amount =
    climb (tree_of tariff counts false) (λ a sums. add_here sums rider class a amount) area book

-- a list's charges from a place on, added for `count` riders from `first` on, one after another
unfoldable pub add_list : List ℕ → Counts → ℕ → ℕ → ℕ → ℕ → List ℕ → ℕ → List ℕ → List ℕ
add_list tariff counts class area first zero charges from book = book
add_list tariff counts class area first (suc count) charges from book =
    add_up tariff counts (add_list tariff counts class area first count charges from book) (first + count) class area (get_or charges (from + count) 0)

-- the riders' sums with their charges, and the bicycles' covering areas and payments
abbrev pub with_charges : List ℕ → Counts → Ride → List ℕ → List ℕ → List ℕ
with_charges tariff counts ride charges w =
    let adults = 1 + ride.party.adults in
    let older = add_list tariff counts ride.class ride.area 0 adults charges 0 w in
    let all = add_list tariff counts ride.class ride.area first_child ride.party.children charges adults older in
    cover_bicycles tariff counts ride.area ride.party.bicycles all

-- the book after a ride in a window: the window's words, and the charges on the words that count in it
unfoldable pub posted : List ℕ → Counts → List ℕ → Window → ℕ → Ride → List ℕ
posted tariff counts book window checkout ride =
    let w = in_window window.current book in
    with_charges tariff counts ride (charges_of tariff counts w ride) (opened window checkout w)

-- the words that count, with a ride's charges on them
unfoldable pub with_ride : List ℕ → Counts → List ℕ → Ride → List ℕ
with_ride tariff counts w ride = with_charges tariff counts ride (charges_of tariff counts w ride) w

-- the words that a ride is charged on: where an earlier part of its trip goes before it, those that the part leaves
abbrev pub words_after : List ℕ → Counts → List ℕ → Earlier → List ℕ
words_after tariff counts w Nothing = w
words_after tariff counts w (Part before) = with_ride tariff counts w before
