use Rattle.std.proofs.Common.{All, ◌≤◌, length}
use Rattle.zdd_families.specs.{Due.IsDueToVotes, Map.Knows}
use Rattle.zdd_shared_table.specs.Seats.{map_of}
use Rattle.zdd_product.specs.{Seats.WentOn, Voting.families, Voting.HoldsVotes}
use Rattle.zdd_product.proofs.ops.Ops.vote_all.Given as goal

abbrev pub invariant-loop-i : goal.invariant-loop-i
invariant-loop-i l = record {
  on : WentOn (IsDueToVotes l.k (families (map_of l.initial.self) l.list)) l.initial.self l.self;
  knows : All (Knows (map_of l.self)) l.list;
  space : l.k ≤ length l.room;
  held : HoldsVotes (map_of l.self) l.list l.i 0 l.k l.room;
}
