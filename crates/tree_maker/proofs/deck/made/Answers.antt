use Rattle.std.proofs.Common.{◌≡◌, ◌++◌, ◌∙◌, ap, subst, sym}
use Rattle.std.specs.Prelude.{codes}
use Rattle.fault_definitions.specs.Tree.{FaultTree}
use Rattle.deck_reading.specs.Written.{written}
use Rattle.tree_maker.specs.MadeDeck.{crew_lines, made_deck, made_statements}
use Rattle.tree_maker.specs.WellMade.{IsWellMade}
use Rattle.tree_maker.proofs.deck.made.Goals as goal

pub returns-clause-well_formed : goal.returns-clause-well_formed
returns-clause-well_formed c =
    let is : c.from_vec.result ≡ made_deck c.args.number =
    c.from_vec.ensures.same
    ∙ c.in_ok-add_crew.ensures
    ∙ ap (λ l. l ++ (codes "@crews\n" ++ crew_lines c.args.number)) (c.in_ok-add_tree.ensures
    ∙ ap (λ l. l ++ written (made_statements c.args.number)) c.new-text.ensures.items) in
    subst (λ bytes. (tree : FaultTree) × IsWellMade c.args.number bytes tree) (sym is)
    (c.made_decks_are_well_made.ensures c.args.number)
