use Rattle.std.proofs.Common.{sym, subst, append-nil, codes, ◌++◌}
use Rattle.std.specs.Fmt.{decimal}
use Rattle.edge_io.specs.Out.{Puts}
use Rattle.edge_io.proofs.OutLemmas.{Puts-trans}
use Rattle.board_report.specs.LogText.{ask_text}
use Rattle.board_report.proofs.log.put_ask.Goals as goal

pub returns-in-Return : goal.returns-in-Return
returns-in-Return g c =
    subst (λ ask. Puts g.K.Sink.taken g.K.Sink.faults c.args.out.now c.put_named.new.out (ask_text ask))
    (sym c.in-Return.is) (Puts-trans c.put.ensures.puts c.put_named.ensures.puts)

pub returns-in-Margin : goal.returns-in-Margin
returns-in-Margin g c =
    subst (λ ask. Puts g.K.Sink.taken g.K.Sink.faults c.args.out.now c.put_counted.new.out (ask_text ask))
    (sym c.in-Margin.is)
    (subst (λ l. Puts g.K.Sink.taken g.K.Sink.faults c.args.out.now c.put_counted.new.out (codes " margin " ++ l))
    (append-nil (decimal c.in-Margin.number)) c.put_counted.ensures.puts)
