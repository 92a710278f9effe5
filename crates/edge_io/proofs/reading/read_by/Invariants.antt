use Rattle.std.proofs.Common.{◌-◌, ◌<◌, length, vec_len}
use Rattle.edge_io.specs.declared.reading.TheConstants.{INPUT_LIMIT}
use Rattle.edge_io.proofs.ReadingLemmas.{HasRead}
use Rattle.edge_io.proofs.reading.read_by.Given as goal

abbrev pub invariant-reading : goal.invariant-reading
invariant-reading g l =
    (0 < length l.piece) × HasRead g.S.Source.held g.S.Source.faults g.S.Source.reads l.initial.source l.source
    l.bytes.items INPUT_LIMIT

abbrev pub decreases-reading : goal.decreases-reading
decreases-reading g l = INPUT_LIMIT - vec_len l.bytes
