use Rattle.cutset_lists.specs.Plan.{IsBuiltTo}
use Rattle.cutset_lists.proofs.bottom_up.top_list.Given as goal

abbrev pub invariant-loop-place : goal.invariant-loop-place
invariant-loop-place l = IsBuiltTo l.tree l.order l.until.items l.place l.lists.items
