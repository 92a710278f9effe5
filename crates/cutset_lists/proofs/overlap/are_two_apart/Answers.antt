use Rattle.std.proofs.Common.{sym, ◌∙◌, ap, not}
use Rattle.std.proofs.lemmas.Bool.{not-true}
use Rattle.cutset_lists.proofs.OverlapLemmas.{none_meets, two_apart}
use Rattle.cutset_lists.proofs.overlap.are_two_apart.Goals as goal

pub returns : goal.returns
returns c = (
  λ apart. two_apart c.args.left.now c.args.right.now c.mark.new.marked c.in_ok-seen.ensures c.items.ensures
      c.items-2.ensures c.mark.ensures
      (sym c.some_marked.ensures ∙ not-true _ apart),
  λ apart. ap not (c.some_marked.ensures ∙ none_meets c.args.left.now c.args.right.now
      c.mark.new.marked c.in_ok-seen.ensures c.items.ensures c.items-2.ensures c.mark.ensures apart),
)
