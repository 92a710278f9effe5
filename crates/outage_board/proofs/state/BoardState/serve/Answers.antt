use Rattle.std.proofs.Common.{sym, ◌∙◌}
use Rattle.outage_board.proofs.BoardLemmas.{no_next}
use Rattle.outage_board.proofs.state.BoardState.serve.Goals as goal

pub returns-in_err-entry-clause-used_up : goal.returns-in_err-entry-clause-used_up
returns-in_err-entry-clause-used_up c =
    no_next c.args.self.now c.args.crew c.next_entry.ensures.kept
    (c.from_residual.ensures ∙ sym c.in_err-entry.was ∙ c.next_entry.ensures.entry)

pub returns-clause-used_up : goal.returns-clause-used_up
returns-clause-used_up c =
    no_next c.args.self.now c.args.crew c.next_entry.ensures.kept (sym c.in_ok-entry.was ∙ c.next_entry.ensures.entry)
