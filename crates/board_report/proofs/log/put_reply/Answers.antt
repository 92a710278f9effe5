use Rattle.std.proofs.Common.{sym, subst, append-nil, codes, ◌++◌}
use Rattle.std.specs.Fmt.{decimal}
use Rattle.edge_io.specs.Out.{Puts}
use Rattle.board_report.specs.LogText.{reply_text}
use Rattle.board_report.proofs.log.put_reply.Goals as goal

pub returns-in-NotSupervisor : goal.returns-in-NotSupervisor
returns-in-NotSupervisor g c =
    subst (λ reply. Puts g.K.Sink.taken g.K.Sink.faults c.args.out.now c.put-in-NotSupervisor.new.self
    (reply_text c.args.dockets.now reply)) (sym c.in-NotSupervisor.is)
    c.put-in-NotSupervisor.ensures.puts

pub returns-in-Denied : goal.returns-in-Denied
returns-in-Denied g c =
    subst (λ reply. Puts g.K.Sink.taken g.K.Sink.faults c.args.out.now c.put_counted.new.out
    (reply_text c.args.dockets.now reply)) (sym c.in-Denied.is)
    (subst (λ l. Puts g.K.Sink.taken g.K.Sink.faults c.args.out.now c.put_counted.new.out (codes "denied, cut " ++ l))
    (append-nil (decimal c.in-Denied.number)) c.put_counted.ensures.puts)
