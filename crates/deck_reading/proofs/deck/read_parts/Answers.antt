use Rattle.std.proofs.lemmas.Result.{err_from_is_err_and}
use Rattle.deck_reading.specs.{Deck.crews_behind, Faults.crews_said}
use Rattle.deck_reading.proofs.Parts.{crews_end, tree_end}
use Rattle.deck_reading.proofs.deck.read_parts.Goals as goal

pub returns-in_err-tree-clause-end : goal.returns-in_err-tree-clause-end
returns-in_err-tree-clause-end c =
    let p = err_from_is_err_and c.from_residual.result c.from_residual.ensures.1 in
    rw (p.1, p.2) (tree_end c.args.bytes.now (crews_said (crews_behind c.args.bytes.now c.args.at)) _
    c.in_err-tree.ensures.end)

pub returns-in-Err-clause-end : goal.returns-in-Err-clause-end
returns-in-Err-clause-end c =
    crews_end (crews_said (crews_behind c.args.bytes.now c.args.at)) _ c.in_ok-tree.ensures.tree c.in-Err.ensures.end
