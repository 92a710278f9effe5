use Rattle.std.proofs.{Common.subst, lemmas.List.take_all}
use Rattle.std.specs.List.{flat_map}
use Rattle.edge_io.specs.Out.{Puts}
use Rattle.edge_io.proofs.OutLemmas.{Puts-none, Puts-trans}
use Rattle.text_pieces.specs.Shown.{named}
use Rattle.board_report.proofs.Pieces.{one_more_put}
use Rattle.board_report.proofs.log.put_take.Goals as goal

pub loop-name-init : goal.loop-name-init
loop-name-init g c = Puts-none

pub loop-name-preserved : goal.loop-name-preserved
loop-name-preserved g c =
    one_more_put named c.args.names.now c.loop-name.name-index c.loop-name-test.true c.name-item.is
    c.loop-name.invariant c.put_named.ensures.puts

pub returns : goal.returns
returns g c =
    Puts-trans c.put.ensures.puts
    (subst (λ names. Puts g.K.Sink.taken g.K.Sink.faults c.put.new.self c.loop-name.out (flat_map named names))
    (take_all c.loop-name.name-index c.args.names.now c.loop-name-test.false) c.loop-name.invariant)
