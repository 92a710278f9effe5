use Rattle.outage_engine.proofs.Summing.{next_told, same_deck}
use Rattle.outage_engine.proofs.summary.serve_next.Goals as goal

pub returns-clause-deck : goal.returns-clause-deck
returns-clause-deck c = same_deck c.args.board.now c.serve.result c.serve.ensures.board

pub returns-clause-left : goal.returns-clause-left
returns-clause-left c =
    next_told c.args.board.now _ c.is_some.result c.is_some.ensures
    c.serve.ensures.entry c.serve.ensures.board c.serve.ensures.used_up
