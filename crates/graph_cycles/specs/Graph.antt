-- A directed graph is the list of its nodes' successors: node 0 has the first row, node 1 the second, and so on.
use Rattle.std.specs.Prelude.{ℕ, suc, max, ◌<◌, ◌==◌, Bool, List, [], ◌∷◌, length, take, All, Contains, IsTrue}
use Rattle.std.specs.Prelude.{slice_index, slice_index_or}
use Rattle.std.specs.List.{list_any}

-- the nodes to which an edge goes from x; a number of no node has none
abbrev pub successors : List (List ℕ) → ℕ → List ℕ
successors graph x = slice_index_or graph x []

-- whether a list of nodes has this one
abbrev pub has : List ℕ → ℕ → Bool
has nodes x = list_any (λ node. node == x) nodes

-- there is an edge from x to y
abbrev pub Goes : List (List ℕ) → ℕ → ℕ → Type 0
Goes graph x y = IsTrue (has (successors graph x) y)

-- y is reached from x over one or more edges
pub data Leads (graph : List (List ℕ)) : ℕ → ℕ → Type 0 where
  edge : {x y : ℕ} → Goes graph x y → Leads graph x y
  way : {x y z : ℕ} → Goes graph x y → Leads graph y z → Leads graph x z

-- every successor is a node
abbrev pub IsGraph : List (List ℕ) → Type 0
IsGraph graph = (x y : ℕ) → Goes graph x y → y < length graph

-- one more than the greatest rank of these nodes, or 0 of none
abbrev pub rank_over : List ℕ → List ℕ → ℕ
rank_over ranks [] = 0
rank_over ranks (node ∷ nodes) = max (suc (slice_index ranks node)) (rank_over ranks nodes)

-- each node of the list that lies on no cycle stands in it after all its successors
abbrev pub AreAfterSuccessors : List (List ℕ) → List ℕ → Type 0
AreAfterSuccessors graph order =
    (k : ℕ) → k < length order → ¬ Leads graph (slice_index order k) (slice_index order k)
    → All (Contains (take k order)) (successors graph (slice_index order k))

-- every node, each that lies on no cycle after all its successors: without cycles, a reverse topological order
pub record IsReverseTopological (graph : List (List ℕ)) (order : List ℕ) : Type 0 where
  pub nodes : All (λ x. x < length graph) order
  pub all : (x : ℕ) → x < length graph → Contains order x
  pub after_successors : AreAfterSuccessors graph order
