use Rattle.std.proofs.Common.{◌-◌, length}
use Rattle.edge_io.proofs.WritingLemmas.{Written}
use Rattle.edge_io.proofs.writing.write_all.Given as goal

abbrev pub invariant-loop-done : goal.invariant-loop-done
invariant-loop-done g l = Written g.K.Sink.taken g.K.Sink.faults g.K.Sink.writes l.initial.sink l.sink l.bytes l.done

abbrev pub decreases-loop-done : goal.decreases-loop-done
decreases-loop-done g l = length l.bytes - l.done
