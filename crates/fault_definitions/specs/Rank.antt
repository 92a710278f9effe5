-- The rank of a node, and what is worked out of each node from what lies below it.
use Rattle.std.specs.Prelude.{◌≡◌, ℕ, zero, suc, max, List, [], ◌∷◌}
use Rattle.fault_definitions.specs.Tree.{FaultTree, rank_of, IsNodeOf}
use Rattle.fault_definitions.specs.Trigger.{below}

-- one more than the greatest rank of the nodes, or 0 of none
abbrev pub rank_over : FaultTree → List ℕ → ℕ
rank_over tree [] = 0
rank_over tree (node ∷ nodes) = max (suc (rank_of tree node)) (rank_over tree nodes)

-- no node reaches itself: each stands one above the highest that it reads
abbrev pub IsRanked : FaultTree → Type 0
IsRanked tree = (node : ℕ) → IsNodeOf tree node → rank_of tree node ≡ rank_over tree (below tree node)

-- a value of each node by a rule that asks for the values of what the node reads, so many ranks down
abbrev pub within : {V : Type 0} → V → ((ℕ → V) → ℕ → V) → ℕ → ℕ → V
within lowest rule zero node = lowest
within lowest rule (suc depth) node = rule (within lowest rule depth) node

-- the same down the whole rank of the node, below which nothing is read
unfoldable pub by_rank : {V : Type 0} → FaultTree → V → ((ℕ → V) → ℕ → V) → ℕ → V
by_rank tree lowest rule node = within lowest rule (suc (rank_of tree node)) node
