use Rattle.std.proofs.Common.{◌≡◌, length}
use Rattle.zdd_shared_table.specs.Seats.{map_of}
use Rattle.zdd_product.specs.Seats.{WentOn}
use Rattle.zdd_nodes.specs.Room.{HaveRoomFor}
use Rattle.path_sets.specs.Due.{IsDueToPaths}
use Rattle.path_sets.proofs.RootLemmas.{HasPathsTo}
use Rattle.path_sets.proofs.root.make_all.Given as goal

abbrev pub invariant-loop-node : goal.invariant-loop-node
invariant-loop-node l = record {
  on : WentOn (IsDueToPaths l.tree) l.initial.ops l.ops;
  paths : HasPathsTo (map_of l.ops) l.tree l.references l.node-items l.node-index;
  size : length l.references ≡ length l.initial.references;
  room : HaveRoomFor l.tree l.rooms;
}
