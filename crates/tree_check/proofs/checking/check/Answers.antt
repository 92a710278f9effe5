use Rattle.std.proofs.Common.{sym, subst, ap, ◌∙◌}
use Rattle.std.specs.Prelude.{All}
use Rattle.fault_definitions.specs.WellFormed.{IsTree}
use Rattle.galileo_tree.specs.ReadTree.{KeepsForm}
use Rattle.tree_check.specs.TreeOf.{tree_of}
use Rattle.tree_check.proofs.DeckParts.{deck_within, deck_top, deck_few_units, deck_few_gates}
use Rattle.tree_check.proofs.Faultless.{IsTree-faultless}
use Rattle.tree_check.proofs.checking.check.Goals as goal

pub assemble-parts-requires-clause-deck : goal.assemble-parts-requires-clause-deck
assemble-parts-requires-clause-deck c = rw c.into_statements.ensures.statements c.in_ok-deck.ensures.examined.numbered

pub assemble-parts-requires-clause-inputs : goal.assemble-parts-requires-clause-inputs
assemble-parts-requires-clause-inputs c = deck_within c.in_ok-deck.ensures.examined.numbered

pub assemble-parts-requires-clause-top : goal.assemble-parts-requires-clause-top
assemble-parts-requires-clause-top c =
    deck_top c.in_ok-deck.ensures.examined.numbered c.in_ok-deck.ensures.examined.faultless.before.1.1.1.0

pub assemble-parts-requires-clause-few_units : goal.assemble-parts-requires-clause-few_units
assemble-parts-requires-clause-few_units c =
    deck_few_units c.in_ok-deck.ensures.examined.numbered c.in_ok-deck.ensures.examined.faultless.after.0

pub assemble-parts-requires-clause-few_gates : goal.assemble-parts-requires-clause-few_gates
assemble-parts-requires-clause-few_gates c =
    deck_few_gates c.in_ok-deck.ensures.examined.numbered c.in_ok-deck.ensures.examined.faultless.after.1.0

pub new-requires : goal.new-requires
new-requires c =
    let form : All KeepsForm c.args.raw.statements =
    subst (λ r. All KeepsForm r.statements) c.raw.view_is c.raw.invariant in
    let examined = c.in_ok-deck.ensures.examined in (
      examined.ranks.ranks,
      subst IsTree (sym (c.in_ok-parts.ensures examined.ranks.ranks
          ∙ ap (λ s. tree_of s examined.ranks.ranks) c.into_statements.ensures.statements))
          (IsTree-faultless c.args.raw examined.ranks.ranks form examined.once examined.faultless.before
          examined.faultless.after examined.ranks.are.all examined.ranks.are.ranked),
    )

pub returns-clause-tree : goal.returns-clause-tree
returns-clause-tree c = record {
  faultless = c.in_ok-deck.ensures.examined.faultless;
  is =
      c.in_ok-tree.ensures ∙ (c.in_ok-parts.ensures c.in_ok-tree.tree.ranks
      ∙ ap (λ s. tree_of s c.in_ok-tree.tree.ranks) c.into_statements.ensures.statements);
}
