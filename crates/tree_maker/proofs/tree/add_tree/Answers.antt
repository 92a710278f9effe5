use Rattle.std.proofs.lemmas.Result.{on_ok_weaker}
use Rattle.tree_maker.proofs.Texts.{tree_put}
use Rattle.tree_maker.proofs.tree.add_tree.Goals as goal

pub returns : goal.returns
returns c =
    on_ok_weaker c.add_triggers.result
    (λ last.
    tree_put c.args.number _ c.requires.count c.in_ok-add.ensures c.in_ok-add_inputs.ensures
    c.in_ok-add-2.ensures c.in_ok-add_groups.ensures c.in_ok-add_fdeps.ensures c.in_ok-add_units.ensures last)
    c.add_triggers.ensures
