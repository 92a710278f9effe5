-- The text of the command `cuts`: the tree, how many cut sets and listed orders there are, and each cut set with its
-- failing orders.
use Rattle.std.specs.Prelude.{ℕ, ◌+◌, List, [], ◌∷◌, ◌++◌, length, map, codes, decimal, Option, Some, None}
use Rattle.cut_sequences.specs.Orders.{order_total}
use Rattle.std.specs.List.{flat_map}
use Rattle.fault_definitions.specs.Tree.{FaultTree, unit_count, gate_count, name_of}
use Rattle.text_pieces.specs.Shown.{show}
use Rattle.cut_texts.specs.UnitTexts.{spaced}

-- a title, and then `U units, G gates, top`
abbrev pub tree_counts : List ℕ → ℕ → ℕ → List ℕ
tree_counts title units gates = title ++ decimal units ++ codes " units, " ++ decimal gates ++ codes " gates, top "

-- the same, and the name of the top event
abbrev pub titled_line : List ℕ → FaultTree → List ℕ
titled_line title tree = tree_counts title (unit_count tree) (gate_count tree)
    ++ (show (name_of tree tree.top) ++ codes "\n")

-- `tree: U units, G gates, top NAME`
abbrev pub tree_line : FaultTree → List ℕ
tree_line tree = titled_line (codes "tree: ") tree

-- `cuts: C, orders: O`
abbrev pub count_line : ℕ → ℕ → List ℕ
count_line cuts orders = codes "cuts: " ++ decimal cuts ++ codes ", orders: " ++ decimal orders ++ codes "\n"

-- ---- a cut set and its orders

-- two blanks and the names
abbrev pub order_line : FaultTree → List ℕ → List ℕ
order_line tree order = codes " " ++ (spaced tree order ++ codes "\n")

-- the lines below a cut set: its failing orders, where it is small enough for them to be listed
abbrev pub order_lines : FaultTree → Option (List (List ℕ)) → List ℕ
order_lines tree None = codes "  (not listed)\n"
order_lines tree (Some []) = codes "  (none)\n"
order_lines tree (Some (order ∷ orders)) = flat_map (order_line tree) (order ∷ orders)

-- `cut K:`, without its names
abbrev pub cut_number : ℕ → List ℕ
cut_number number = codes "cut " ++ decimal number ++ codes ":"

-- `cut K: NAMES`
abbrev pub cut_line : FaultTree → ℕ → List ℕ → List ℕ
cut_line tree number set = cut_number number ++ (spaced tree set ++ codes "\n")

-- the line of a cut set, and those of its orders
abbrev pub cut_block : FaultTree → ℕ → List ℕ → Option (List (List ℕ)) → List ℕ
cut_block tree number set orders = cut_line tree number set ++ order_lines tree orders

-- ---- all of them

-- a cut set, with its orders if they are listed
abbrev pub Listed : Type 0
Listed = List ℕ × Option (List (List ℕ))

-- the cut sets from this number on, each with its orders
abbrev pub cut_blocks : FaultTree → ℕ → List Listed → List ℕ
cut_blocks tree number [] = []
cut_blocks tree number (listed ∷ more) = cut_block tree number listed.0 listed.1 ++ cut_blocks tree (number + 1) more

-- the orders of each
abbrev pub orders_in : List Listed → List (Option (List (List ℕ)))
orders_in cuts = map (λ (listed : Listed). listed.1) cuts

-- the whole text: the tree, how many cut sets and listed orders there are, and each cut set, from 1 on, with its orders
abbrev pub cuts_text : FaultTree → List Listed → List ℕ
cuts_text tree cuts = tree_line tree ++ (count_line (length cuts) (order_total (orders_in cuts))
    ++ cut_blocks tree 1 cuts)

-- cut sets with their orders, which stand in a list of their own at the same places
abbrev pub listed_with : List (List ℕ) → List (Option (List (List ℕ))) → List Listed
listed_with [] lists = []
listed_with (set ∷ cuts) [] = []
listed_with (set ∷ cuts) (orders ∷ lists) = (set, orders) ∷ listed_with cuts lists
