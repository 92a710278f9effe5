use Rattle.std.proofs.lemmas.Result.{on_ok_weaker}
use Rattle.cutset_lists.proofs.SetLemmas.{AddsProduct-reduced}
use Rattle.cutset_lists.proofs.product.add_reduced.Goals as goal

pub returns : goal.returns
returns c =
    on_ok_weaker c.reduce.result (AddsProduct-reduced c.reduce.new.sets c.in_ok-add_product.ensures) c.reduce.ensures
