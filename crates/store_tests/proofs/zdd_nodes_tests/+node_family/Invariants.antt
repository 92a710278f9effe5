use Rattle.std.proofs.Common.{◌≡◌, length}
use Rattle.fault_definitions.specs.{Tree.node_count, Trigger.below}
use Rattle.zdd_families.specs.Map.{Grown}
use Rattle.zdd_shared_table.specs.Seats.{IsSoundSeat, map_of}
use Rattle.zdd_nodes.specs.Room.{HaveRoomFor}
use Rattle.store_tests.proofs.Reading.{AreRead}
use Rattle.store_tests.proofs.zdd_nodes_tests.+node_family.Given as goal

abbrev pub decreases-node_family : goal.decreases-node_family
decreases-node_family l = l.depth

abbrev pub invariant-loop-i : goal.invariant-loop-i
invariant-loop-i l = record {
  keeps : Grown (map_of l.initial.ops) (map_of l.ops);
  sound : IsSoundSeat l.ops;
  room : HaveRoomFor l.tree l.rooms;
  count : length l.list.items ≡ node_count l.tree;
  read : AreRead l.ops l.tree (below l.tree l.fn.node) l.list.items l.i;
}
