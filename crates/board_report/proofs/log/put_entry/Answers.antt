use Rattle.std.proofs.Common.{◌∙◌, subst}
use Rattle.edge_io.specs.Out.{Puts}
use Rattle.edge_io.proofs.OutLemmas.{Puts-trans}
use Rattle.text_pieces.specs.Shown.{named}
use Rattle.text_pieces.proofs.Putting.{all_three}
use Rattle.board_report.specs.LogText.{ask_text}
use Rattle.board_report.proofs.log.put_entry.Goals as goal

pub returns-clause-puts : goal.returns-clause-puts
returns-clause-puts g c =
    let crews = c.args.dockets.now in
    let entry = c.args.entry.now in
    let head =
    Puts-trans (subst (Puts g.K.Sink.taken g.K.Sink.faults c.args.out.now c.put.new.self)
    (c.as_bytes.ensures.value ∙ c.format.ensures.text) c.put.ensures.puts)
    (subst (λ name. Puts g.K.Sink.taken g.K.Sink.faults c.put.new.self c.put_named.new.out (named name))
    c.crew_name.ensures c.put_named.ensures.puts) in
    let asked =
    subst (λ ask. Puts g.K.Sink.taken g.K.Sink.faults c.put_named.new.out c.put_ask.new.out (ask_text ask))
    c.ask.ensures.ask c.put_ask.ensures in
    let end =
    all_three g.K.Sink.taken g.K.Sink.faults c.put_reply.new.out
    c.put-2.ensures.puts c.put_reply.ensures c.put-3.ensures.puts in
    all_three g.K.Sink.taken g.K.Sink.faults c.put_ask.new.out head asked end
