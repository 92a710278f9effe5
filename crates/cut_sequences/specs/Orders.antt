-- The orders of each cut set that fail the top event.
use Rattle.std.specs.Prelude.{ℕ, ◌+◌, ◌<◌, ⊤, Bool, nat_le, is_some, List, [], ◌∷◌, length, map, filter, Option, Some}
use Rattle.std.specs.Prelude.{None, unwrap_or, slice_index_or, if◌then◌else◌}
use Rattle.cut_sequences.specs.declared.listing.TheConstants.{ORDER_LIMIT}
use Rattle.cut_sequences.specs.declared.refusal.OrderEnd.{OrderEnd}
use Rattle.cut_sequences.specs.declared.refusal.OrderEnd.TheVariants.{OrderLimit, NoMemory}
use Rattle.fault_definitions.specs.{Tree.FaultTree, FailingOrder.is_failing}
use Rattle.cut_sequences.specs.Permutations.{permutations}

-- the orders of a set that can happen and fail the top event, in lexicographic order by unit numbers
abbrev pub failing_orders : FaultTree → List ℕ → List (List ℕ)
failing_orders tree set = filter (is_failing tree) (permutations set)

-- the same of a set of at most so many members; a larger set is not listed
abbrev pub orders_of : FaultTree → ℕ → List ℕ → Option (List (List ℕ))
orders_of tree most set = if nat_le (length set) most then Some (failing_orders tree set) else None

-- the same of each set of a cut list
abbrev pub order_lists : FaultTree → List (List ℕ) → ℕ → List (Option (List (List ℕ)))
order_lists tree cuts most = map (orders_of tree most) cuts

-- how many orders are listed, of one set and of all
abbrev pub order_count : Option (List (List ℕ)) → ℕ
order_count None = 0
order_count (Some orders) = length orders

-- how many orders are listed over all sets; a set that is not listed adds none
abbrev pub order_total : List (Option (List (List ℕ))) → ℕ
order_total [] = 0
order_total (orders ∷ lists) = order_count orders + order_total lists

-- the most orders that are listed over all sets
abbrev pub order_limit : ℕ
order_limit = ORDER_LIMIT

-- whether the set of a place is listed, and its orders
abbrev pub is_listed : List (Option (List (List ℕ))) → ℕ → Bool
is_listed lists i = is_some (slice_index_or lists i None)

-- the orders that are listed for the set of a place; none where it is not listed
abbrev pub orders_at : List (Option (List (List ℕ))) → ℕ → List (List ℕ)
orders_at lists i = unwrap_or (slice_index_or lists i None) []

-- what the end of a listing says of a number of orders: the limit is below it, or nothing where memory was refused
abbrev pub IsOver : ℕ → OrderEnd → Type 0
IsOver orders OrderLimit = order_limit < orders
IsOver orders NoMemory = ⊤
