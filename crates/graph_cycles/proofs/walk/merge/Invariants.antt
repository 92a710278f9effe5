use Rattle.std.proofs.Common.{vec_len}
use Rattle.graph_cycles.proofs.Pieces.{Shortened}
use Rattle.graph_cycles.proofs.walk.merge.Given as goal

abbrev pub invariant-loop-last : goal.invariant-loop-last
invariant-loop-last l = Shortened l.initial.pieces.items l.pieces.items l.at

abbrev pub decreases-loop-last : goal.decreases-loop-last
decreases-loop-last l = vec_len l.pieces
