use Rattle.std.proofs.Common.{All, ◌≤◌, length}
use Rattle.zdd_families.specs.{Due.IsDueToVotes, Map.Knows}
use Rattle.zdd_shared_table.specs.Seats.{map_of}
use Rattle.zdd_product.specs.{Seats.WentOn, Voting.families, Voting.IsVoting}
use Rattle.zdd_product.proofs.ops.Ops.vote.Given as goal

abbrev pub invariant-loop-place : goal.invariant-loop-place
invariant-loop-place l = record {
  on : WentOn (IsDueToVotes l.k (families (map_of l.initial.self) l.list)) l.initial.self l.self;
  knows : All (Knows (map_of l.self)) l.list;
  space : l.k ≤ length l.room;
  below : l.place ≤ l.k;
  held : IsVoting (map_of l.self) l.list l.k l.i l.place l.room;
}

abbrev pub decreases-loop-place : goal.decreases-loop-place
decreases-loop-place l = l.place
