-- The numbers of orders of several sets, and a place of an order among the orders of several sets.
use Rattle.std.proofs.Common.{◌≡◌, ℕ, ◌+◌, ◌-◌, ◌<◌, ◌≤◌, List, [], ◌∷◌, ◌++◌, get_or, drop, Option, ◌∙◌, arith}
use Rattle.std.proofs.lemmas.List.{get_or-take, get_or-drop}
use Rattle.cut_sequences.specs.declared.refusal.OrderEnd.{OrderEnd}
use Rattle.cut_sequences.specs.declared.refusal.OrderEnd.TheVariants.{OrderLimit, NoMemory}
use Rattle.flat_rows.specs.Rows.{between}
use Rattle.cut_sequences.specs.Orders.{order_count, order_total, IsOver}

pub order_total-push : (lists : List (Option (List (List ℕ)))) (list : Option (List (List ℕ)))
    → order_total (lists ++ list ∷ []) ≡ order_total lists + order_count list
order_total-push [] list = omega arith
order_total-push (first ∷ lists) list = omega (arith, order_total-push lists list)

pub order_total-append : (xs ys : List (Option (List (List ℕ))))
    → order_total (xs ++ ys) ≡ order_total xs + order_total ys
order_total-append [] ys = omega arith
order_total-append (first ∷ xs) ys = omega (arith, order_total-append xs ys)

pub get_or-between : {X : Type 0} (from to j : ℕ) (items : List X) (d : X) → j < to - from
    → get_or (between from to items) j d ≡ get_or items (from + j) d
get_or-between from to j items d short =
    get_or-take (to - from) (drop from items) j d short ∙ get_or-drop from items j d

-- what is over the limit is so with more
pub IsOver-more : (less more : ℕ) (end : OrderEnd) → less ≤ more → IsOver less end → IsOver more end
IsOver-more less more OrderLimit below over = omega arith
IsOver-more less more NoMemory below over = tt
