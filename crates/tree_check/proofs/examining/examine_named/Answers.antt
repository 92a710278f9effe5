use Rattle.std.proofs.{Common.refl, lemmas.Result.err_from_is_err_and}
use Rattle.tree_check.proofs.Refusals.{are_parts, use_refused}
use Rattle.tree_check.proofs.examining.examine_named.Goals as goal

pub returns-in_err-deck-clause-fault : goal.returns-in_err-deck-clause-fault
returns-in_err-deck-clause-fault c =
    let p = err_from_is_err_and c.from_residual.result c.from_residual.ensures.1 in
    rw (p.1, p.2)
    (use_refused c.args.raw.now c.requires.none c.requires.once c.in_err-deck.field-0.0 c.requires.names
    c.statements-statements.ensures.statements
    c.in_err-deck.ensures.fault)

pub examine_parts-requires-clause-parts : goal.examine_parts-requires-clause-parts
examine_parts-requires-clause-parts c =
    are_parts c.args.raw.now c.requires.none c.requires.once c.in_ok-deck.deck c.requires.names
    c.statements-statements.ensures.statements c.end.ensures
    c.in_ok-deck.ensures.deck c.in_ok-deck.ensures.known c.in_ok-deck.ensures.few refl c.deref.ensures.value
    c.as_slice.ensures.items
