use Rattle.std.proofs.Common.{◌≡◌, subst, sym}
use Rattle.std.proofs.lemmas.Result.{IfOk-weaker}
use Rattle.fault_definitions.specs.Cut.{IsCutList}
use Rattle.cutset_lists.proofs.CutLemmas.{all_filled, all_rising, IsCutList-minimal}
use Rattle.cutset_lists.proofs.cut_list.mcs_within.Goals as goal

pub cut_list-requires-clause-filled : goal.cut_list-requires-clause-filled
cut_list-requires-clause-filled c =
    all_filled c.top_list.ensures.kept c.in_ok-sets.ensures.list c.in_ok-minimize.ensures

pub cut_list-requires-clause-rising : goal.cut_list-requires-clause-rising
cut_list-requires-clause-rising c =
    all_rising c.top_list.ensures.kept c.in_ok-sets.ensures.list c.in_ok-minimize.ensures

pub returns-clause-cut_list : goal.returns-clause-cut_list
returns-clause-cut_list c =
    IfOk-weaker c.cut_list.result (λ cuts. cuts ≡ c.minimize.new.sets) (IsCutList c.args.tree.now)
    (λ cuts same. subst (IsCutList c.args.tree.now) (sym same) (IsCutList-minimal c.top_list.ensures.kept
    c.in_ok-sets.ensures.list c.in_ok-minimize.ensures)) c.cut_list.ensures.cuts

pub returns-clause-limit : goal.returns-clause-limit
returns-clause-limit c =
    λ refused. (
      c.minimize.new.sets,
      IsCutList-minimal c.top_list.ensures.kept c.in_ok-sets.ensures.list c.in_ok-minimize.ensures,
      c.cut_list.ensures.limit refused,
    )
