-- The room that the nodes of a tree need.
use Rattle.std.specs.Prelude.{ℕ, ◌≤◌, length}
use Rattle.fault_definitions.specs.{Tree.FaultTree, Tree.IsNodeOf, Trigger.below}
use Rattle.zdd_nodes.specs.declared.rooms.Rooms.{Rooms}

-- there is room for a reference of each node that any node of the tree reads, twice
pub record HaveRoomFor (tree : FaultTree) (rooms : Rooms) : Type 0 where
  pub list : (node : ℕ) → IsNodeOf tree node → length (below tree node) ≤ length rooms.list.items
  pub votes : (node : ℕ) → IsNodeOf tree node → length (below tree node) ≤ length rooms.votes.items
