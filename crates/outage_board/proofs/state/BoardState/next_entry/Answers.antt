use Rattle.std.proofs.{Common.arith, lemmas.Grind.common_steps}
use Rattle.outage_board.proofs.state.BoardState.next_entry.Goals as goal

pub returns-clause-kept : goal.returns-clause-kept
returns-clause-kept c = grind (arith, common_steps)
