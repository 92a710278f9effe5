use Rattle.std.proofs.Common.{subst, length, ◌≤◌}
use Rattle.std.specs.{Result.IfOk, Result.OnOk, Io.KnownBytes.Consumes, Io.KnownBytes.IsAtEnd}
use Rattle.std.proofs.lemmas.Result.{err_from_is_err_and}
use Rattle.event_counts.specs.Count.{Rose}
use Rattle.edge_io.specs.declared.reading.TheConstants.{INPUT_LIMIT}
use Rattle.deck_reading.specs.Deck.{StandsFor}
use Rattle.picture_engine.proofs.Causes.{of_whole, read_refused}
use Rattle.picture_engine.proofs.finding.read_tree.Goals as goal

pub returns-in_err-read_deck-in-Ok-clause-refused : goal.returns-in_err-read_deck-in-Ok-clause-refused
returns-in_err-read_deck-in-Ok-clause-refused g c =
    let p = err_from_is_err_and c.from_residual.result c.from_residual.ensures.1 in
    rw (p.1, p.2)
    (read_refused (g.S.Source.held c.args.source.now) (g.S.Source.held c.read_all.new.source)
    (Rose (g.S.Source.faults c.args.source.now) (g.S.Source.faults c.read_all.new.source)) _ c.as_slice.ensures.value
    (subst (λ r. IfOk r (λ bytes. Consumes (g.S.Source.held c.args.source.now) (g.S.Source.held c.read_all.new.source)
    bytes)) c.in-Ok.is c.read_all.ensures.whole)
    (subst (λ r. OnOk r (IsAtEnd (g.S.Source.held c.read_all.new.source))) c.in-Ok.is c.read_all.ensures.at_end)
    (subst (λ r. IfOk r (λ bytes. length bytes ≤ INPUT_LIMIT)) c.in-Ok.is c.read_all.ensures.within)
    c.in_err-read_deck-in-Ok.ensures.end)

pub returns-in_ok-read_deck-in-Ok-clause-tree : goal.returns-in_ok-read_deck-in-Ok-clause-tree
returns-in_ok-read_deck-in-Ok-clause-tree g c =
    of_whole (g.S.Source.held c.args.source.now) (g.S.Source.held c.read_all.new.source)
    (λ bytes. StandsFor bytes c.in_ok-read_deck-in-Ok.field-0.tree)
    c.as_slice.ensures.value
    (subst (λ r. IfOk r (λ bytes. Consumes (g.S.Source.held c.args.source.now) (g.S.Source.held c.read_all.new.source)
    bytes)) c.in-Ok.is c.read_all.ensures.whole)
    (subst (λ r. OnOk r (IsAtEnd (g.S.Source.held c.read_all.new.source))) c.in-Ok.is c.read_all.ensures.at_end)
    (subst (λ r. IfOk r (λ bytes. length bytes ≤ INPUT_LIMIT)) c.in-Ok.is c.read_all.ensures.within)
    c.in_ok-read_deck-in-Ok.ensures.deck.stands
