use Rattle.std.proofs.Common.{◌≡◌, get_or, arith}
use Rattle.std.proofs.{lemmas.List.get_or_read, lemmas.Result.err_from_is_err_and}
use Rattle.zdd_families.specs.{Due.IsDueToUnion, Union.IsUnion}
use Rattle.tree_families.specs.{Due.IsDueToUnions, Recipe.IsUnionOfAll}
use Rattle.tree_families.proofs.DueSteps.{unions-more, due-to_next_union}
use Rattle.zdd_nodes.proofs.{Folding.step_on, Folding.step_full, recipes.unite_all.Goals.After-index-others-i}
use Rattle.zdd_nodes.proofs.recipes.unite_all.Goals as goal

-- the other that is next
read : (c : After-index-others-i) → c.index-others-i.result ≡ get_or c.args.others.now c.loop-i.i 0
read c = get_or_read c.args.others.now c.loop-i.i c.index-others-i.result (omega arith) c.index-others-i.is 0

pub returns-in_err-made : goal.returns-in_err-made
returns-in_err-made c =
    let at = read (goal.at.returns-in_err-made c).After-index-others-i in
    let p = err_from_is_err_and c.from_residual.result c.from_residual.ensures.1 in
    rw p.1 (step_full IsUnion IsDueToUnion IsUnionOfAll IsDueToUnions unions-more due-to_next_union c.args.others.now
    c.is_sound.ensures.sound c.requires.others c.loop-i.i (omega arith) at c.loop-i.invariant.so_far
    c.in_err-made.ensures.full)

pub loop-i-preserved : goal.loop-i-preserved
loop-i-preserved c =
    let at = read (goal.at.loop-i-preserved c).After-index-others-i in
    record {
      so_far =
          step_on IsUnion IsDueToUnion IsUnionOfAll IsDueToUnions unions-more due-to_next_union c.args.others.now
          c.is_sound.ensures.sound c.requires.others c.loop-i.i (omega arith) at c.loop-i.invariant.so_far
          c.in_ok-made.ensures.gives;
    }
