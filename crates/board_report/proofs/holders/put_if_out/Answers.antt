use Rattle.std.proofs.Common.{sym, ◌∙◌, subst, length}
use Rattle.edge_io.specs.Out.{Puts}
use Rattle.margin_policy.specs.Holders.{HolderBelow}
use Rattle.text_pieces.specs.Shown.{show}
use Rattle.text_pieces.proofs.Putting.{all_three}
use Rattle.board_report.proofs.BoardLemmas.{out_line_is}
use Rattle.board_report.proofs.holders.put_if_out.Goals as goal

pub put_with_crew-requires : goal.put_with_crew-requires
put_with_crew-requires g c =
    subst (HolderBelow (length c.args.end.now.dockets.now)) (sym c.holder_at.ensures ∙ c.in-Some.is)
    (c.requires.end.holders c.args.number)

pub returns-in-Some-clause-puts : goal.returns-in-Some-clause-puts
returns-in-Some-clause-puts g c =
    let end = c.args.end.now in
    subst (Puts g.K.Sink.taken g.K.Sink.faults c.args.out.now c.put.new.self)
    (sym (out_line_is end.tree.now end.dockets.now end.standing.now.held c.args.number _
    (sym c.holder_at.ensures ∙ c.in-Some.is))) (all_three g.K.Sink.taken g.K.Sink.faults c.put_with_crew.new.out
    (subst (λ name. Puts g.K.Sink.taken g.K.Sink.faults c.args.out.now c.put_shown.new.out (show name)) c.name.ensures
    c.put_shown.ensures.puts)
    c.put_with_crew.ensures c.put.ensures.puts)
