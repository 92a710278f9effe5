use Rattle.crew_workers.proofs.ServedLemmas.{next_made, next_left}
use Rattle.crew_workers.proofs.serving.serve_next.Goals as goal

pub returns-clause-made : goal.returns-clause-made
returns-clause-made g c =
    rw c.is_some.ensures (next_made c.args.board.now c.args.pass.now c.serve-entry.new.pass c.requires
    c.serve-entry.result c.serve-entry.ensures.none c.serve-entry.ensures.unchanged c.serve-entry.ensures.made)

pub returns-clause-left : goal.returns-clause-left
returns-clause-left g c =
    rw c.is_some.ensures (next_left c.args.board.now c.args.pass.now c.serve-entry.new.pass c.requires
    c.serve-entry.result c.serve-entry.ensures.unchanged c.serve-entry.ensures.place c.serve-entry.ensures.request)
