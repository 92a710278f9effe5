use Rattle.std.proofs.Common.{◌≡◌, ◌∙◌, ap, arith}
use Rattle.std.specs.List.{sum_by}
use Rattle.cut_sequences.specs.{Dealing.gathered, Orders.order_total}
use Rattle.cut_sequences.proofs.DealLemmas.{total_of_shares}
use Rattle.cut_sequences.proofs.lists.gather.Goals as goal

pub returns-then-total-gt-ORDER_LIMIT-clause-limit : goal.returns-then-total-gt-ORDER_LIMIT-clause-limit
returns-then-total-gt-ORDER_LIMIT-clause-limit c =
    let total : c.total_of-total.result ≡ order_total (gathered c.args.sets c.args.shares.items) =
    c.total_of-total.ensures ∙ ap (sum_by order_total) c.as_slice.ensures.value
    ∙ total_of_shares c.requires.shares in
    λ limit. omega (arith, total)

pub invariant_of-result : goal.invariant_of-result
invariant_of-result c = (
  c.requires.shares,
  c.total_of-total.ensures ∙ ap (sum_by order_total) c.as_slice.ensures.value
      ∙ total_of_shares c.requires.shares,
)

pub returns-clause-within : goal.returns-clause-within
returns-clause-within c =
    let total : c.total_of-total.result ≡ order_total (gathered c.args.sets c.args.shares.items) =
    c.total_of-total.ensures ∙ ap (sum_by order_total) c.as_slice.ensures.value
    ∙ total_of_shares c.requires.shares in
    omega (arith, total)
