use Rattle.std.proofs.Common.{◌∙◌, [], subst}
use Rattle.std.proofs.lemmas.Result.{on_ok_weaker}
use Rattle.cutset_lists.specs.Sets.{AddsProduct}
use Rattle.cutset_lists.proofs.product.multiply.Goals as goal

pub returns : goal.returns
returns c =
    on_ok_weaker c.add_reduced.result (λ adds.
    subst (λ l. AddsProduct l c.args.list.now [] c.add_reduced.new.sets) c.replace-left.ensures.value
    (subst (λ l. AddsProduct c.replace-left.result c.args.list.now l c.add_reduced.new.sets)
    (c.replace-left.ensures.after ∙ c.no_sets.ensures) adds)) c.add_reduced.ensures
