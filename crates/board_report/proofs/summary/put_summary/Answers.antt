use Rattle.std.proofs.Common.{◌∙◌, subst}
use Rattle.edge_io.specs.Out.{Puts}
use Rattle.cut_sequences.specs.Orders.{order_total}
use Rattle.fault_definitions.specs.Tree.{gate_count}
use Rattle.margin_policy.specs.Held.{units_out}
use Rattle.board_report.specs.BoardText.{out_head}
use Rattle.cut_texts.specs.CutsText.{count_line}
use Rattle.board_report.specs.SummaryText.{decided_line, made_line}
use Rattle.text_pieces.proofs.Putting.{all_four}
use Rattle.board_report.proofs.summary.put_summary.Goals as goal

pub returns-clause-puts : goal.returns-clause-puts
returns-clause-puts g c =
    let tree = c.args.tree.now in
    let board = c.args.state.now in
    all_four g.K.Sink.taken g.K.Sink.faults c.put_count_line.new.out
    (subst (λ u. Puts g.K.Sink.taken g.K.Sink.faults c.args.out.now c.put_made_line.new.out (made_line c.args.number
    u (gate_count tree))) c.units.ensures.count
    (subst (λ n. Puts g.K.Sink.taken g.K.Sink.faults c.args.out.now c.put_made_line.new.out (made_line c.args.number
    c.units.result n)) c.gates.ensures.count c.put_made_line.ensures))
    (subst (λ s. Puts g.K.Sink.taken g.K.Sink.faults c.put_made_line.new.out c.put_count_line.new.out (count_line s
    (order_total c.args.orders.now))) (c.sets.ensures ∙ c.requires.made.each)
    (subst (λ t. Puts g.K.Sink.taken g.K.Sink.faults c.put_made_line.new.out c.put_count_line.new.out (count_line
    c.sets.result t)) c.total.ensures c.put_count_line.ensures.puts))
    (subst (λ h. Puts g.K.Sink.taken g.K.Sink.faults c.put_count_line.new.out c.put_decided.new.out (decided_line h))
    c.entries.ensures.entries c.put_decided.ensures)
    (subst (λ n. Puts g.K.Sink.taken g.K.Sink.faults c.put_decided.new.out c.put_out_head.new.out (out_head n))
    c.units_out.ensures c.put_out_head.ensures.puts)
