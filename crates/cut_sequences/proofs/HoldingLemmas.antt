-- The lists of several sets in one list of orders.
use Rattle.std.proofs.Common.{◌≡◌, ℕ, zero, suc, ◌+◌, ◌-◌, ◌<◌, ◌≤◌, Bool, true, false, List, [], ◌∷◌, ◌++◌, length}
use Rattle.std.proofs.Common.{get_or, drop, Option, Some, None, is_some, unwrap_or, nat_le, refl, ap, sym, subst, ◌∙◌}
use Rattle.std.proofs.Common.{arith, append-nil, length-append, length-drop, if◌then◌else◌}
use Rattle.std.proofs.lemmas.Bool.{le-leb, lt-leb, both_ways}
use Rattle.std.proofs.lemmas.List.{length-take-le}
use Rattle.fault_definitions.specs.Tree.{FaultTree}
use Rattle.flat_rows.specs.Rows.{between, rows_from, start_of}
use Rattle.flat_rows.proofs.RowsLemmas.{length-rows_from, row_at, rows_from-push, Rise-at, Rise-push}
use Rattle.replay_semantics.specs.Replayed.{Replayed}
use Rattle.cut_sequences.specs.{declared.refusal.OrderEnd.OrderEnd, declared.search.Search.Search}
use Rattle.cut_sequences.specs.{declared.share.GrowingShare.GrowingShare, declared.share.Share.TheInside.Inside}
use Rattle.cut_sequences.specs.{declared.share.Sets.Sets, Going.failing_from, Going.due, Working.share_of}
use Rattle.cut_sequences.specs.{Working.CanGrow}
use Rattle.cut_sequences.specs.Holding.{if_listed, lists_of, HoldsShare}
use Rattle.cut_sequences.specs.Orders.{failing_orders, orders_of, order_count, order_limit, order_total, is_listed}
use Rattle.cut_sequences.specs.Orders.{orders_at, IsOver}
use Rattle.cut_sequences.proofs.{GoingLemmas.failing_from-start, ListLemmas.order_total-push, ListLemmas.get_or-between}

length-if_listed : (listed : List Bool) (rows : List (List (List ℕ))) → length listed ≡ length rows
    → length (if_listed listed rows) ≡ length listed
length-if_listed [] rows same = refl
length-if_listed (is ∷ listed) [] same = absurd (omega (arith, same))
length-if_listed (is ∷ listed) (orders ∷ rows) same =
    ap suc (length-if_listed listed rows (omega (arith, same)))

if_listed-at : (listed : List Bool) (rows : List (List (List ℕ))) (i : ℕ) → length listed ≡ length rows
    → i < length listed
    → get_or (if_listed listed rows) i None ≡ (if get_or listed i false then Some (get_or rows i []) else None)
if_listed-at [] rows i same short = absurd (omega arith)
if_listed-at (is ∷ listed) [] i same short = absurd (omega (arith, same))
if_listed-at (is ∷ listed) (orders ∷ rows) zero same short = refl
if_listed-at (is ∷ listed) (orders ∷ rows) (suc i) same short =
    if_listed-at listed rows i (omega (arith, same)) (omega arith)

if_listed-push : (listed : List Bool) (rows : List (List (List ℕ))) (is : Bool) (orders : List (List ℕ))
    → length listed ≡ length rows → if_listed (listed ++ is ∷ []) (rows ++ orders ∷ [])
    ≡ if_listed listed rows ++ (if is then Some orders else None) ∷ []
if_listed-push [] [] is orders same = refl
if_listed-push [] (first ∷ rows) is orders same = absurd (omega (arith, same))
if_listed-push (test ∷ listed) [] is orders same = absurd (omega (arith, same))
if_listed-push (test ∷ listed) (first ∷ rows) is orders same =
    ap (λ (l : List (Option (List (List ℕ)))). (if test then Some first else None) ∷ l)
    (if_listed-push listed rows is orders (omega (arith, same)))

-- where the list of a place stands among all orders of a share
pub record ListStands (lists : List (Option (List (List ℕ)))) (share : Inside) (i : ℕ) : Type 0 where
  pub short : i < length share.ends.items
  pub rise : start_of 0 share.ends.items i ≤ get_or share.ends.items i 0
  pub within : get_or share.ends.items i 0 ≤ length share.orders
  pub mark : is_listed lists i ≡ get_or share.listed.items i false
  pub there : is_listed lists i ≡ true
      → orders_at lists i ≡ between (start_of 0 share.ends.items i) (get_or share.ends.items i 0) share.orders
  pub count : is_listed lists i ≡ true
      → length (orders_at lists i) ≡ get_or share.ends.items i 0 - start_of 0 share.ends.items i

rows_count : {share : Inside} → HoldsShare share
    → length share.listed.items ≡ length (rows_from 0 share.ends.items share.orders)
rows_count {share} held = held.sets ∙ sym (length-rows_from 0 share.ends.items share.orders)

-- as many sets have a mark as have a list
pub held_count : {lists : List (Option (List (List ℕ)))} {share : Inside} → HoldsShare share
    → lists_of share ≡ lists → length lists ≡ length share.listed.items
held_count {share} held view =
    sym (ap length view)
    ∙ length-if_listed share.listed.items (rows_from 0 share.ends.items share.orders) (rows_count held)

pub past_listed : (lists : List (Option (List (List ℕ)))) (i : ℕ) → length lists ≤ i → is_listed lists i ≡ false
past_listed [] i past = refl
past_listed (list ∷ lists) zero past = absurd (omega arith)
past_listed (list ∷ lists) (suc i) past = past_listed lists i (omega arith)

some_if : (test : Bool) (orders : List (List ℕ)) → is_some (if test then Some orders else None) ≡ test
some_if true orders = refl
some_if false orders = refl

length-between : (from to : ℕ) (items : List (List ℕ)) → to ≤ length items
    → length (between from to items) ≡ to - from
length-between from to items within =
    let room : to - from ≤ length (drop from items) = rw length-drop (omega arith) in
    length-take-le (to - from) (drop from items) room

pub list_stands : {lists : List (Option (List (List ℕ)))} {share : Inside} (i : ℕ) → HoldsShare share
    → lists_of share ≡ lists → i < length lists → ListStands lists share i
list_stands {lists} {share} i held view within =
    let listed : List Bool = share.listed.items in
    let ends : List ℕ = share.ends.items in
    let rows : List (List (List ℕ)) = rows_from 0 ends share.orders in
    let short : i < length listed = omega (arith, held_count held view) in
    let below : i < length ends = omega (arith, held.sets) in
    let rises = Rise-at 0 ends (length share.orders) i held.rise below in
    let part : List (List ℕ) = between (start_of 0 ends i) (get_or ends i 0) share.orders in
    let at : get_or lists i None ≡ (if get_or listed i false then Some part else None) =
    ap (λ (l : List (Option (List (List ℕ)))). get_or l i None) (sym view)
    ∙ if_listed-at listed rows i (rows_count held) short
    ∙ ap (λ (l : List (List ℕ)). if get_or listed i false then Some l else None) (row_at 0 ends share.orders i below) in
    let mark : is_listed lists i ≡ get_or listed i false = ap is_some at ∙ some_if (get_or listed i false) part in
    let there : is_listed lists i ≡ true → orders_at lists i ≡ part =
    λ yes. ap (λ (o : Option (List (List ℕ))). unwrap_or o []) at
    ∙ ap (λ test. unwrap_or (if test then Some part else None) []) (sym mark ∙ yes) in
    record {
      short = below;
      rise = rises.0;
      within = rises.1;
      mark = mark;
      there = there;
      count =
          λ yes. ap length (there yes) ∙ length-between (start_of 0 ends i) (get_or ends i 0) share.orders rises.1;
    }

-- a set that is listed stands in its share
pub listed-within : (lists : List (Option (List (List ℕ)))) (i : ℕ) → is_listed lists i ≡ true → i < length lists
listed-within [] i is = absurd cc
listed-within (list ∷ lists) zero is = omega arith
listed-within (list ∷ lists) (suc i) is = omega (arith, listed-within lists i is)

-- where an order of a set stands among all orders
pub record OrderStands (lists : List (Option (List (List ℕ)))) (share : Inside) (i j : ℕ) : Type 0 where
  pub set : i < length share.ends.items
  pub short : start_of 0 share.ends.items i + j < length share.orders
  pub is : get_or (orders_at lists i) j [] ≡ get_or share.orders (start_of 0 share.ends.items i + j) []

-- a set that is not listed has no orders
listed_from_order : (lists : List (Option (List (List ℕ)))) (i j : ℕ) → j < length (orders_at lists i)
    → is_listed lists i ≡ true
listed_from_order lists i j short = either (get_or lists i None) short
  where
    either : (list : Option (List (List ℕ))) → j < length (unwrap_or list []) → is_some list ≡ true
    either None h = absurd (omega arith)
    either (Some orders) h = refl

pub order_stands : {lists : List (Option (List (List ℕ)))} {share : Inside} (i j : ℕ) → HoldsShare share
    → lists_of share ≡ lists → j < length (orders_at lists i) → OrderStands lists share i j
order_stands {lists} {share} i j held view order =
    let yes : is_listed lists i ≡ true = listed_from_order lists i j order in
    let here : ListStands lists share i = list_stands i held view (listed-within lists i yes) in
    let start : ℕ = start_of 0 share.ends.items i in
    let short : j < get_or share.ends.items i 0 - start = omega (arith, order, here.count yes) in
    record {
      set = here.short;
      short = omega (arith, short, here.within);
      is =
          ap (λ (l : List (List ℕ)). get_or l j []) (here.there yes)
          ∙ get_or-between start (get_or share.ends.items i 0) j share.orders [] short;
    }

-- ---- one set more

-- the orders of one set more, or none where it is not listed
record Adds (share share' : Inside) (due : List (List ℕ)) (is : Bool) : Type 0 where
  listed : share'.listed.items ≡ share.listed.items ++ is ∷ []
  ends : share'.ends.items ≡ share.ends.items ++ length share'.orders ∷ []
  orders : share'.orders ≡ share.orders ++ due
  few : length share'.orders ≤ order_limit
  none : is ≡ false → due ≡ []

holds_more : {share : Inside} (share' : Inside) (due : List (List ℕ)) (is : Bool) → HoldsShare share
    → Adds share share' due is
    → HoldsShare share' × (lists_of share' ≡ lists_of share ++ (if is then Some due else None) ∷ [])
holds_more {share} share' due is held adds =
    let long : length share'.orders ≡ length share.orders + length due =
    ap length adds.orders ∙ length-append share.orders due in
    let ends : share'.ends.items ≡ share.ends.items ++ (length share.orders + length due) ∷ [] =
    adds.ends ∙ ap (λ n. share.ends.items ++ n ∷ []) long in
    let lists : lists_of share' ≡ lists_of share ++ (if is then Some due else None) ∷ [] =
    rw (adds.listed, ends, adds.orders)
    (ap (if_listed (share.listed.items ++ is ∷ [])) (rows_from-push 0 share.ends.items share.orders due held.rise)
    ∙ if_listed-push share.listed.items (rows_from 0 share.ends.items share.orders) is due (rows_count held)) in (
      record {
        sets =
            omega (
              arith,
              ap length adds.listed,
              ap length adds.ends,
              length-append share.listed.items (is ∷ []),
              length-append share.ends.items (length share'.orders ∷ []),
              held.sets,
            );
        rise = rw (ends, long) (Rise-push 0 share.ends.items (length share.orders) (length due) held.rise);
        few = adds.few;
        total =
            ap order_total lists ∙ order_total-push (lists_of share) (if is then Some due else None)
            ∙ omega (arith, held.total, long, counted is adds.none);
      },
      lists,
    )
  where
    counted : (test : Bool) → (test ≡ false → due ≡ []) → order_count (if test then Some due else None) ≡ length due
    counted true n = refl
    counted false n = sym (ap length (n refl))

-- what is due of a set where no unit has failed
due_first : {sets : Sets} (set : List ℕ) {growing : GrowingShare} → CanGrow sets growing
    → due growing.search set ≡ failing_orders sets.tree.now set
due_first {sets} set grows =
    ap (λ (r : Replayed). failing_from r.tree r.order set) grows.start ∙ failing_from-start sets.tree.now set

pub over_listed : {sets : Sets} (set : List ℕ) {growing : GrowingShare} (end : OrderEnd) → CanGrow sets growing
    → length set ≤ sets.most → IsOver (length growing.search.orders + length (due growing.search set)) end
    → IsOver (length growing.search.orders + order_count (orders_of sets.tree.now sets.most set)) end
over_listed {sets} set {growing} end grows small over =
    subst (λ n. IsOver (length growing.search.orders + n) end) (ap length (due_first set grows)
    ∙ ap (λ test. order_count (if test then Some (failing_orders sets.tree.now set) else None))
    (sym (le-leb (length set) sets.most small))) over

-- a set of at most so many members, and a larger one
module _ {sets : Sets} (set : List ℕ) {before : GrowingShare} (after : GrowingShare) (grows : CanGrow sets before)
    (listed : after.listed.items ≡ before.listed.items ++ nat_le (length set) sets.most ∷ [])
    (ends : after.ends.items ≡ before.ends.items ++ length after.search.orders ∷ []) where
  pub adds_listed : length set ≤ sets.most → after.search.replay ≡ before.search.replay
      → after.search.orders ≡ before.search.orders ++ due before.search set → length after.search.orders ≤ order_limit
      → CanGrow sets after × (lists_of (share_of after)
      ≡ lists_of (share_of before) ++ orders_of sets.tree.now sets.most set ∷ [])
  adds_listed small replay more few =
      let tree : FaultTree = sets.tree.now in
      let orders : after.search.orders ≡ before.search.orders ++ failing_orders tree set =
      more ∙ ap (λ (l : List (List ℕ)). before.search.orders ++ l) (due_first set grows) in
      let held = holds_more (share_of after) (failing_orders tree set) (nat_le (length set) sets.most)
      grows.held (record {
        listed = listed;
        ends = ends;
        orders = orders;
        few = few;
        none = λ lacks. absurd (both_ways (nat_le (length set) sets.most) lacks (le-leb (length set) sets.most small));
      }) in
      (record { kept = grows.kept; start = replay ∙ grows.start; held = held.0 }, held.1)

  pub adds_unlisted : sets.most < length set → after.search ≡ before.search
      → CanGrow sets after × (lists_of (share_of after)
      ≡ lists_of (share_of before) ++ orders_of sets.tree.now sets.most set ∷ [])
  adds_unlisted large same =
      let lacks : nat_le (length set) sets.most ≡ false = lt-leb (length set) sets.most large in
      let orders : after.search.orders ≡ before.search.orders = ap (λ (s : Search). s.orders) same in
      let held = holds_more (share_of after) [] (nat_le (length set) sets.most) grows.held (record {
        listed = listed;
        ends = ends;
        orders = orders ∙ sym (append-nil before.search.orders);
        few = omega (arith, grows.held.few, ap length orders);
        none = λ h. refl;
      }) in (
        record {
          kept = grows.kept;
          start = ap (λ (s : Search). s.replay) same ∙ grows.start;
          held = held.0;
        },
        held.1 ∙ ap (λ (o : Option (List (List ℕ))). lists_of (share_of before) ++ o ∷ [])
            (ap (λ test. if test then Some [] else None) lacks
            ∙ ap (λ test. if test then Some (failing_orders sets.tree.now set) else None) (sym lacks)),
      )
