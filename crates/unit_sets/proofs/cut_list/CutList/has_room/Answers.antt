use Rattle.std.proofs.Common.{◌≡◌, ◌<◌, ◌≤◌, ◌+◌, ◌-◌, ◌++◌, ℕ, List, length, arith, sum_by}
use Rattle.std.proofs.lemmas.Bool.{leb-true, leb-false}
use Rattle.unit_sets.specs.CutOrder.{weight, weight_limit}
use Rattle.unit_sets.proofs.CutOrderLemmas.{weight-with}
use Rattle.unit_sets.proofs.cut_list.CutList.has_room.Goals as goal

fits : (most own count items : ℕ) {all : ℕ} → all ≡ own + (count + items) → own ≤ most → count ≤ most - own
    → items ≤ most - own - count → all ≤ most
fits most own count items is within few small = omega arith

too_large : (most own count items : ℕ) {all : ℕ} → all ≡ own + (count + items) → own ≤ most → count ≤ most - own
    → most - own - count < items → most < all
too_large most own count items is within few large = omega arith

too_many : (most own count items : ℕ) {all : ℕ} → all ≡ own + (count + items) → own ≤ most → most - own < count
    → most < all
too_many most own count items is within many = omega arith

-- what the list weighs with the sets, by what was counted
summed : (cuts sets : List (List ℕ)) {own count : ℕ} → own ≡ weight cuts → count ≡ length sets
    → weight (cuts ++ sets) ≡ own + (count + sum_by length sets)
summed cuts sets a b = let e = weight-with cuts sets in omega (arith, a, b, e)

pub returns-then-count-room-clause-room : goal.returns-then-count-room-clause-room
returns-then-count-room-clause-room c small =
    fits weight_limit c.weight-room.result c.len-count.result (sum_by length c.args.sets.now)
    (summed c.args.self.now c.args.sets.now c.weight-room.ensures.value c.len-count.ensures)
    c.weight-room.ensures.within c.if-count-room.true
    (rw (← c.item_count.ensures)
    (leb-true c.item_count.result (weight_limit - c.weight-room.result - c.len-count.result) small))

pub returns-then-count-room-clause-none : goal.returns-then-count-room-clause-none
returns-then-count-room-clause-none c large =
    too_large weight_limit c.weight-room.result c.len-count.result (sum_by length c.args.sets.now)
    (summed c.args.self.now c.args.sets.now c.weight-room.ensures.value c.len-count.ensures)
    c.weight-room.ensures.within c.if-count-room.true
    (rw (← c.item_count.ensures)
    (leb-false c.item_count.result (weight_limit - c.weight-room.result - c.len-count.result) large))

pub returns-else-count-room-clause-none : goal.returns-else-count-room-clause-none
returns-else-count-room-clause-none c none =
    too_many weight_limit c.weight-room.result c.len-count.result (sum_by length c.args.sets.now)
    (summed c.args.self.now c.args.sets.now c.weight-room.ensures.value c.len-count.ensures)
    c.weight-room.ensures.within c.if-count-room.false
