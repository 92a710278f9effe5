use Rattle.std.proofs.Common.{sym, ◌∙◌, ap, subst, is_err}
use Rattle.edge_io.specs.Out.{Puts}
use Rattle.edge_io.proofs.OutLemmas.{Puts-trans}
use Rattle.std.specs.List.{flat_map}
use Rattle.margin_policy.specs.Held.{units_out}
use Rattle.board_report.specs.BoardText.{out_head, out_line}
use Rattle.text_pieces.proofs.Putting.{first_short}
use Rattle.board_report.proofs.holders.put_out.Goals as goal

pub returns-in_err-put_out_head-clause-puts : goal.returns-in_err-put_out_head-clause-puts
returns-in_err-put_out_head-clause-puts g c =
    first_short g.K.Sink.taken g.K.Sink.faults
    (flat_map (out_line c.args.end.now.tree.now c.args.end.now.dockets.now c.args.end.now.standing.now.held)
    (units_out c.args.end.now.standing.now.held)) (subst (λ n.
    Puts g.K.Sink.taken g.K.Sink.faults c.args.out.now c.put_out_head.new.out (out_head n)) c.count_out.ensures
    c.put_out_head.ensures.puts) (sym c.put_out_head.ensures.answer ∙ ap is_err c.in_err-put_out_head.was)

pub returns-clause-puts : goal.returns-clause-puts
returns-clause-puts g c =
    Puts-trans (subst (λ n. Puts g.K.Sink.taken g.K.Sink.faults c.args.out.now c.put_out_head.new.out (out_head n))
    c.count_out.ensures c.put_out_head.ensures.puts)
    c.put_out_lines.ensures.puts
