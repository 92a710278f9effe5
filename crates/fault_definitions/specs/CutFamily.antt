-- The cut family of a node: its minimal cuts as a family of sets, after Minato.
use Rattle.std.specs.Prelude.{ℕ, List, All, Contains}
use Rattle.std.specs.{Cmp.Lexicographic.slice_cmp, List.Sorted.IsStrictlySortedBy, Ordering.nat_cmp}
use Rattle.fault_definitions.specs.{Cut.IsMinimalFor, Tree.FaultTree}

-- exactly the sets that fail the node and no longer do without any one of their members, each once, in lexicographic
-- order
pub record IsCutFamily (tree : FaultTree) (node : ℕ) (family : List (List ℕ)) : Type 0 where
  pub sound : All (IsMinimalFor tree node) family
  pub complete : (set : List ℕ) → IsMinimalFor tree node set → Contains family set
  pub ordered : IsStrictlySortedBy (slice_cmp nat_cmp) family
