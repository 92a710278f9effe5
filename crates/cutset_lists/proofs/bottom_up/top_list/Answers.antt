use Rattle.std.proofs.Common.{arith, ap, subst, sym, ◌∙◌, ◌≡◌, ◌+◌, ℕ, List, set, get_or}
use Rattle.fault_definitions.specs.Tree.{IsNodeOf}
use Rattle.cutset_lists.specs.Plan.{IsBuiltTo, until_of}
use Rattle.cutset_lists.proofs.GateLemmas.{node_read, list_read}
use Rattle.cutset_lists.proofs.PlanLemmas.{IsBuiltTo-step, IsBuiltTo-skips, Generates-top, end_read}
use Rattle.cutset_lists.proofs.bottom_up.top_list.Goals as goal
use Rattle.cutset_lists.proofs.bottom_up.top_list.Goals.{then-index-place+in_ok-node_list, else-index-place}

pub loop-place-preserved : goal.loop-place-preserved
loop-place-preserved c =
    let order : List ℕ = c.bottom_up-order.result.now in
    let until : List ℕ = c.in_ok-until.until.items in
    let node : ℕ = c.index-order-place.result in
    let is : node ≡ get_or order c.loop-place.place 0 =
    node_read order c.loop-place.place (omega arith) c.index-order-place.is in
    let end : c.index-in-loop-place.result.now ≡ until_of until node =
    end_read c.loop-place.place c.bottom_up-order.ensures.order c.in_ok-until.ensures (omega arith) is c.index.ensures
    c.index-in-loop-place.ensures in
    elim c.if-index-place.branch [
      | then-index-place+in_ok-node_list w ↦
          subst (IsBuiltTo c.args.tree.now order until (c.loop-place.place + 1)) (ap (λ v. v.items) (sym w.lists-is))
          (IsBuiltTo-step c.bottom_up-order.ensures.kept c.bottom_up-order.ensures.order
          c.in_ok-until.ensures (omega arith) is c.loop-place.invariant
          (let low = w.if-index-place.true in omega arith) w.deref.ensures.value w.deref-then-index-place.ensures.value
          (ap (λ k. set c.loop-place.lists.items k w.node_list.new.sets) w.index-then-index-place.ensures)
          w.in_ok-node_list.ensures w.release.ensures)
      | else-index-place w ↦
          subst (IsBuiltTo c.args.tree.now order until (c.loop-place.place + 1)) (ap (λ v. v.items) (sym w.lists-is))
          (IsBuiltTo-skips c.bottom_up-order.ensures.kept c.bottom_up-order.ensures.order
          c.in_ok-until.ensures (omega arith) is c.loop-place.invariant
          (let high = w.if-index-place.false in omega arith))
    ]

pub returns-clause-list : goal.returns-clause-list
returns-clause-list c =
    let top_is : IsNodeOf c.args.tree.now c.args.tree.now.top =
    subst (IsNodeOf c.args.tree.now) c.top.ensures.top c.top.ensures.node in
    let all = c.loop-place.invariant.all in
    Generates-top c.bottom_up-order.ensures.order c.in_ok-until.ensures top_is (omega arith) (omega arith)
    (c.replace.ensures.value ∙ list_read c.loop-place.lists.items c.args.tree.now.top
    {place = c.index-2.result} (top_is.0, let high = top_is.1 in omega arith)
    (let t = c.top.ensures.top in let e = c.index-2.ensures in omega arith) c.index_mut-2.ensures.value)
    c.loop-place.invariant
