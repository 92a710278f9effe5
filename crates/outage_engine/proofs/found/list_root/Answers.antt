use Rattle.outage_engine.proofs.ByDiagram.{heavy_list, list_of_root, no_empty_cut}
use Rattle.outage_engine.proofs.found.list_root.Goals as goal

pub list-requires-clause-filled : goal.list-requires-clause-filled
list-requires-clause-filled c =
    no_empty_cut c.args.tree.now c.args.seat.now c.args.root c.requires.root c.units.ensures.kept

pub returns-in-Ok-clause-cuts : goal.returns-in-Ok-clause-cuts
returns-in-Ok-clause-cuts c =
    list_of_root c.args.tree.now c.args.seat.now c.args.root c.requires.root c.in-Ok.cuts c.in-Ok.ensures.sets
    c.len.ensures.ordered.ordered

pub returns-in-Err-clause-limit : goal.returns-in-Err-clause-limit
returns-in-Err-clause-limit c =
    λ refused. heavy_list c.args.tree.now c.args.seat.now c.args.root c.requires.root (c.in-Err.ensures.limit refused)
