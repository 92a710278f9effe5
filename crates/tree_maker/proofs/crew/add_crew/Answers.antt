use Rattle.std.proofs.lemmas.Result.{on_ok_weaker}
use Rattle.tree_maker.proofs.Texts.{crew_put}
use Rattle.tree_maker.proofs.crew.add_crew.Goals as goal

pub returns : goal.returns
returns c =
    on_ok_weaker c.add_returns.result
    (λ last. crew_put c.args.number _ c.requires c.in_ok-add.ensures c.in_ok-add_takes.ensures last)
    c.add_returns.ensures
