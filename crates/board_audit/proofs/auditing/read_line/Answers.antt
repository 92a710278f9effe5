use Rattle.std.proofs.Common.{◌+◌, ◌<◌, length, sym, ap, subst, ◌∙◌}
use Rattle.crew_script.specs.Dockets.{IsDockets}
use Rattle.outage_board.specs.Boards.{BoardView}
use Rattle.board_report.specs.{LogText.entry_line, Logged.IsLogged}
use Rattle.board_audit.specs.{Pieces.behind, Reading.Reads}
use Rattle.board_audit.proofs.Judging.{made_logged, named_is, reads_by, shows_no_crew, shows_used_up}
use Rattle.board_audit.proofs.auditing.read_line.Goals as goal

pub returns-in_err-crew-clause-read : goal.returns-in_err-crew-clause-read
returns-in_err-crew-clause-read c =
    let board = c.args.board.now in
    subst (Reads board board c.args.text.now) (sym c.from_residual.ensures)
    (shows_no_crew board c.args.text.now (subst IsDockets c.dockets.ensures c.crew_of_line.ensures.kept)
    (named_is board c.args.text.now c.in_err-crew.ensures.crew c.dockets.ensures
    (ap (λ l. length l + 1) c.entries.ensures.entries)))

pub returns-in_err-entry-clause-read : goal.returns-in_err-entry-clause-read
returns-in_err-entry-clause-read c =
    let board = c.args.board.now in
    subst (Reads board c.serve.new.self c.args.text.now) (sym c.from_residual-in_err-entry.ensures)
    (shows_used_up board c.args.text.now (subst IsDockets c.dockets.ensures c.crew_of_line.ensures.kept)
    (named_is board c.args.text.now c.in_ok-crew.ensures.crew c.dockets.ensures
    (ap (λ l. length l + 1) c.entries.ensures.entries)) (sym c.in_err-entry.ensures.entry))

pub behind_line-requires : goal.behind_line-requires
behind_line-requires c =
    let board = c.args.board.now in
    subst (λ crews. IsLogged crews c.in_ok-entry.entry)
    (sym (c.dockets-2.ensures ∙ ap (λ (b : BoardView). b.deck.crews) c.in_ok-entry.ensures.board))
    (made_logged board c.in_ok-crew.crew c.in_ok-entry.entry c.entries.ensures.kept c.requires.asks
    (subst (λ crews. c.in_ok-crew.crew.0 < length crews) c.dockets.ensures c.in_ok-crew.ensures.low)
    (sym c.in_ok-entry.ensures.entry))

pub returns-clause-read : goal.returns-clause-read
returns-clause-read c =
    let board = c.args.board.now in
    let number = ap (λ l. length l + 1) c.entries.ensures.entries in
    let crews = c.dockets-2.ensures ∙ ap (λ (b : BoardView). b.deck.crews) c.in_ok-entry.ensures.board in
    reads_by board c.args.text.now (subst IsDockets c.dockets.ensures c.crew_of_line.ensures.kept) c.behind_line.result
    (named_is board c.args.text.now c.in_ok-crew.ensures.crew c.dockets.ensures number)
    (sym c.in_ok-entry.ensures.entry) c.in_ok-entry.ensures.board
    (c.behind_line.ensures ∙ (λ i. behind (entry_line (crews i) (number i) c.in_ok-entry.entry) c.args.text.now))
