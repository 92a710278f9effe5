use Rattle.std.proofs.Common.{arith, refl, sym, ◌∙◌, ap, subst, ℕ, List, [], ◌+◌, ◌-◌, max, take, length}
use Rattle.std.proofs.lemmas.List.{get_or_default}
use Rattle.cutset_lists.specs.Counts.{IsCounting}
use Rattle.cutset_lists.proofs.CountLemmas.{IsCounting-none, counts-step, counts-stay, IsCounting-end}
use Rattle.cutset_lists.proofs.votes.at_least_in_turn.Goals as goal
use Rattle.cutset_lists.proofs.votes.at_least_in_turn.Goals.{then-lowest-least+in_ok-count_list, else-lowest-least}

pub loop-i-init : goal.loop-i-init
loop-i-init c =
    IsCounting-none c.args.nodes.now c.in_ok-counts.ensures c.index_mut.ensures.value c.in_ok-push.ensures.ok refl

pub loop-i-preserved : goal.loop-i-preserved
loop-i-preserved c =
    elim c.if-lowest-least.branch [
      | then-lowest-least+in_ok-count_list w ↦
          subst (λ (v : List (List (List ℕ))). IsCounting c.args.lists.now (take (c.loop-i.i + 1) c.args.nodes.now)
          c.args.least (c.args.least - (length c.args.nodes.now - (c.loop-i.i + 1))) v)
          (ap (λ v. v.items) (sym w.counts-is)) (counts-step c.args.nodes.now c.loop-i.i
          (length c.args.nodes.now - c.loop-i.i - 1) w.index-nodes-i.result w.index.result
          w.index-lists-index.result w.count_list.new.counts.items
          (omega arith) refl (c.max-lowest.ensures ∙ ap (λ v. max v 1) c.saturating_sub.ensures) c.requires.have
          c.loop-i.invariant w.index-nodes-i.is w.index.ensures w.index-lists-index.is (omega arith)
          w.in_ok-count_list.ensures)
      | else-lowest-least w ↦
          subst (λ (v : List (List (List ℕ))). IsCounting c.args.lists.now (take (c.loop-i.i + 1) c.args.nodes.now)
          c.args.least (c.args.least - (length c.args.nodes.now - (c.loop-i.i + 1))) v)
          (ap (λ v. v.items) (sym w.counts-is)) (counts-stay c.args.nodes.now c.loop-i.i
          (length c.args.nodes.now - c.loop-i.i - 1) 0 0 [] []
          (omega arith) refl (c.max-lowest.ensures ∙ ap (λ v. max v 1) c.saturating_sub.ensures) c.requires.have
          c.loop-i.invariant (omega arith))
    ]

pub returns : goal.returns
returns c =
    let all = c.loop-i.invariant.all in
    IsCounting-end c.args.nodes.now c.loop-i.i (omega arith) (omega arith)
    (c.swap.ensures.x_after ∙ c.index_mut-2.ensures.value
    ∙ get_or_default c.loop-i.counts.items c.args.least c.index_mut-2.result.now [] (omega arith))
    c.loop-i.invariant
