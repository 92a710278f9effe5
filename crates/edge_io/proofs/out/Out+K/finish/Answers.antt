use Rattle.std.proofs.Common.{[], refl}
use Rattle.std.proofs.KnownBytes.{Appends-nil}
use Rattle.edge_io.specs.Out.{sink_of, waiting}
use Rattle.edge_io.proofs.out.Out+K.finish.Goals as goal

pub returns-then-has_failed-clause-front : goal.returns-then-has_failed-clause-front
returns-then-has_failed-clause-front g c = (
  waiting c.args.self,
  record {
    front = [];
    split = refl;
    added =
        Appends-nil (g.K.Sink.taken (sink_of c.args.self));
  },
)
