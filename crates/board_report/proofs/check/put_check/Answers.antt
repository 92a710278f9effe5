use Rattle.std.proofs.Common.{sym, subst, append-nil, codes, List, None, Some, MatchOption, Option, Bor}
use Rattle.edge_io.specs.Out.{Puts}
use Rattle.crew_script.specs.declared.dockets.Crew.{Crew}
use Rattle.cut_texts.specs.CutsText.{titled_line}
use Rattle.board_report.specs.CheckText.{check_text}
use Rattle.board_report.proofs.check.put_check.Goals as goal

pub returns-in-None-clause-puts : goal.returns-in-None-clause-puts
returns-in-None-clause-puts g c =
    subst
    (λ (dockets : Option (Bor (List Crew))). MatchOption dockets
    (Puts g.K.Sink.taken g.K.Sink.faults c.args.out.now c.put_titled_line.new.out (check_text c.args.tree.now None))
    (λ (crews : Bor (List Crew)). Puts g.K.Sink.taken g.K.Sink.faults c.args.out.now c.put_titled_line.new.out
    (check_text c.args.tree.now (Some crews.now))))
    (sym c.in-None.is)
    (subst (Puts g.K.Sink.taken g.K.Sink.faults c.args.out.now c.put_titled_line.new.out)
    (sym (append-nil (titled_line (codes "well formed: ") c.args.tree.now)))
    c.put_titled_line.ensures.puts)
