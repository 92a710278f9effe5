-- How one list of orders holds the lists of several sets.
use Rattle.std.specs.Prelude.{◌≡◌, ℕ, ◌≤◌, Bool, List, [], ◌∷◌, length, Option, Some, None, if◌then◌else◌}
use Rattle.flat_rows.specs.Rows.{rows_from, Rise}
use Rattle.cut_sequences.specs.{declared.share.Share.TheInside.Inside, Orders.order_limit, Orders.order_total}

-- of each set its orders, if it is listed
abbrev pub if_listed : List Bool → List (List (List ℕ)) → List (Option (List (List ℕ)))
if_listed [] rows = []
if_listed (is ∷ listed) [] = []
if_listed (is ∷ listed) (orders ∷ rows) = (if is then Some orders else None) ∷ if_listed listed rows

-- the lists of all sets of a share, the orders of which are the rows of its one list
abbrev pub lists_of : Inside → List (Option (List (List ℕ)))
lists_of share = if_listed share.listed.items (rows_from 0 share.ends.items share.orders)

-- what a share keeps
pub record HoldsShare (share : Inside) : Type 0 where
  pub sets : length share.listed.items ≡ length share.ends.items
  pub rise : Rise 0 share.ends.items (length share.orders)
  pub few : length share.orders ≤ order_limit
  pub total : order_total (lists_of share) ≡ length share.orders
