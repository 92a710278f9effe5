use Rattle.std.proofs.Common.{◌∙◌, ap, subst, ◌++◌, append-nil}
use Rattle.edge_io.specs.Out.{Puts}
use Rattle.board_report.proofs.counted.put_counted.Goals as goal

pub returns-clause-puts : goal.returns-clause-puts
returns-clause-puts g c =
    subst (λ l. Puts g.K.Sink.taken g.K.Sink.faults c.args.out.now c.put_all.new.out (c.args.front.now ++ l))
    (ap (λ l. c.as_bytes.result.now ++ l) (append-nil c.args.back.now)
    ∙ ap (λ n. n ++ c.args.back.now) (c.as_bytes.ensures.value ∙ c.format.ensures.text))
    c.put_all.ensures.puts
