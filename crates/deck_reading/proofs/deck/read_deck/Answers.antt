use Rattle.std.specs.Prelude.{Some, None}
use Rattle.std.proofs.Common.{sym, ap, ◌∙◌}
use Rattle.crew_script.specs.declared.deck.Split.{Split}
use Rattle.deck_reading.proofs.Parts.{at_any, at_needed, at_unread, deck_of_parts, end_of_parts}
use Rattle.deck_reading.proofs.deck.read_deck.Goals as goal

pub returns-in-Unread-clause-deck : goal.returns-in-Unread-clause-deck
returns-in-Unread-clause-deck c =
    deck_of_parts c.args.part c.args.bytes.now None (at_unread c.args.part c.args.bytes.now c.in-Unread.is)
    c.read_parts.result c.read_parts.ensures.tree c.read_parts.ensures.crews

pub returns-in-Unread-clause-end : goal.returns-in-Unread-clause-end
returns-in-Unread-clause-end c =
    end_of_parts c.args.part c.args.bytes.now None (at_unread c.args.part c.args.bytes.now c.in-Unread.is)
    c.read_parts.result c.read_parts.ensures.end

pub returns-in-IfAny-clause-deck : goal.returns-in-IfAny-clause-deck
returns-in-IfAny-clause-deck c =
    deck_of_parts c.args.part c.args.bytes.now c.split_deck-split.result.crews
    (at_any c.args.part c.args.bytes.now c.in-IfAny.is
    (ap (λ (s : Split). s.crews) (sym c.split_deck-split.ensures.split)))
    c.read_parts-in-IfAny.result c.read_parts-in-IfAny.ensures.tree c.read_parts-in-IfAny.ensures.crews

pub returns-in-IfAny-clause-end : goal.returns-in-IfAny-clause-end
returns-in-IfAny-clause-end c =
    end_of_parts c.args.part c.args.bytes.now c.split_deck-split.result.crews
    (at_any c.args.part c.args.bytes.now c.in-IfAny.is
    (ap (λ (s : Split). s.crews) (sym c.split_deck-split.ensures.split)))
    c.read_parts-in-IfAny.result c.read_parts-in-IfAny.ensures.end

pub returns-in-Some-clause-end : goal.returns-in-Some-clause-end
returns-in-Some-clause-end c =
    end_of_parts c.args.part c.args.bytes.now (Some c.in-Some.at)
    (at_needed c.args.part c.args.bytes.now c.in-Needed.is c.in-Some.at
    (ap (λ (s : Split). s.crews) (sym c.split_deck-split.ensures.split) ∙ c.in-Some.is))
    c.read_parts-in-Needed.result c.read_parts-in-Needed.ensures.end
