use Rattle.std.proofs.Common.{sym, ◌∙◌, ap, subst, is_err}
use Rattle.edge_io.specs.Out.{Puts}
use Rattle.edge_io.proofs.OutLemmas.{Puts-trans}
use Rattle.margin_policy.specs.{Held.units_out, Standing.StandingView}
use Rattle.outage_board.specs.Boards.{standing_of}
use Rattle.board_report.specs.LogText.{log_text}
use Rattle.board_report.specs.BoardText.{left_lines, margin_line, margin_now, out_text}
use Rattle.board_report.proofs.{BoardLemmas.units_at_end, board.put_board.Goals.After-put_out}
use Rattle.text_pieces.proofs.Putting.{all_four, first_short}
use Rattle.board_report.proofs.board.put_board.Goals as goal

-- the pieces by the board

margin_put : (g : _) (c : After-put_out g)
    → Puts g.K.Sink.taken g.K.Sink.faults c.args.out.now c.put_counted.new.out
    (margin_line c.args.state.now.deck.opening.margin)
margin_put g c =
    subst (λ m. Puts g.K.Sink.taken g.K.Sink.faults c.args.out.now c.put_counted.new.out (margin_line m))
    c.opening_margin.ensures c.put_counted.ensures.puts

log_put : (g : _) (c : After-put_out g)
    → Puts g.K.Sink.taken g.K.Sink.faults c.put_counted.new.out c.put_log.new.out
    (log_text c.args.state.now.deck.crews c.args.state.now.history)
log_put g c =
    subst (λ d. Puts g.K.Sink.taken g.K.Sink.faults c.put_counted.new.out c.put_log.new.out
    (log_text d c.args.state.now.history)) c.dockets-dockets.ensures
    (subst (λ h. Puts g.K.Sink.taken g.K.Sink.faults c.put_counted.new.out c.put_log.new.out
    (log_text c.dockets-dockets.result.now h)) c.entries-history.ensures.entries c.put_log.ensures.puts)

now_put : (g : _) (c : After-put_out g)
    → Puts g.K.Sink.taken g.K.Sink.faults c.put_log.new.out c.put_margin_now.new.out
    (margin_now c.args.state.now.history (standing_of c.args.state.now).margin)
now_put g c =
    subst (λ m. Puts g.K.Sink.taken g.K.Sink.faults c.put_log.new.out c.put_margin_now.new.out
    (margin_now c.args.state.now.history m))
    (c.margin.ensures.value ∙ ap (λ (standing : StandingView). standing.margin) c.standing-standing.ensures)
    (subst (λ h. Puts g.K.Sink.taken g.K.Sink.faults c.put_log.new.out c.put_margin_now.new.out
    (margin_now h c.margin.result)) c.entries-history.ensures.entries c.put_margin_now.ensures)

out_put : (g : _) (c : After-put_out g)
    → Puts g.K.Sink.taken g.K.Sink.faults c.put_margin_now.new.out c.put_out.new.out
    (out_text c.args.tree.now c.args.state.now.deck.crews (standing_of c.args.state.now).held)
out_put g c =
    subst (λ d. Puts g.K.Sink.taken g.K.Sink.faults c.put_margin_now.new.out c.put_out.new.out
    (out_text c.args.tree.now d (standing_of c.args.state.now).held)) c.dockets-dockets.ensures
    (subst (λ (s : StandingView). Puts g.K.Sink.taken g.K.Sink.faults c.put_margin_now.new.out c.put_out.new.out
    (out_text c.args.tree.now c.dockets-dockets.result.now s.held)) c.standing-standing.ensures c.put_out.ensures.puts)

pub returns-in_err-put_out-clause-puts : goal.returns-in_err-put_out-clause-puts
returns-in_err-put_out-clause-puts g c =
    let at = (goal.at.returns-in_err-put_out-clause-puts g c).After-put_out in
    all_four _ _ _ (margin_put g at) (log_put g at) (now_put g at) (first_short _ _
    (left_lines (units_out (standing_of c.args.state.now).held) 1 (standing_of c.args.state.now).cuts) (out_put g at)
    (sym c.put_out.ensures.answer ∙ ap is_err c.in_err-put_out.was))

pub returns-clause-puts : goal.returns-clause-puts
returns-clause-puts g c =
    let at = (goal.at.returns-clause-puts g c).After-put_out in
    all_four _ _ _ (margin_put g at) (log_put g at) (now_put g at) (Puts-trans (out_put g at)
    (subst (λ (s : StandingView). Puts g.K.Sink.taken g.K.Sink.faults c.put_out.new.out c.put_left.new.out
    (left_lines (units_out s.held) 1 s.cuts)) c.standing-standing.ensures
    (subst (λ ledger. Puts g.K.Sink.taken g.K.Sink.faults c.put_out.new.out c.put_left.new.out
    (left_lines ledger.out 1 ledger.cuts)) c.ledger.ensures c.put_left.ensures.puts)))

pub put_out-requires-clause-units : goal.put_out-requires-clause-units
put_out-requires-clause-units g c =
    ap (λ (standing : StandingView). standing.units) c.standing-standing.ensures
    ∙ units_at_end c.args.state.now c.requires.opened
