use Rattle.std.proofs.Common.{ℕ, List, [], ◌∷◌, ◌++◌, ◌-◌, subst, sym, ◌∙◌, arith}
use Rattle.unit_sets.specs.CutOrder.{IsInCutOrder}
use Rattle.margin_policy.proofs.TestLemmas.{first_set, next_set, is_less, is_empty}
use Rattle.board_tests.proofs.margin_policy_tests.is_next.Goals as goal

pub returns-then-sets-eq0 : goal.returns-then-sets-eq0
returns-then-sets-eq0 c =
    λ _. subst (λ (cuts : List (List ℕ)). IsInCutOrder (cuts ++ c.args.set.now ∷ []))
    (sym (is_empty c.args.cuts.now (omega (arith, c.len-sets.ensures.value)))) (first_set c.args.set.now)

pub returns-else-sets-eq0 : goal.returns-else-sets-eq0
returns-else-sets-eq0 c = λ less.
    next_set c.args.cuts.now c.members.result.now c.args.set.now (c.len-sets.result - 1)
    (omega (arith, c.len-sets.ensures.value)) c.members.ensures.value c.members.ensures.ordered.ordered
    (sym c.compare_cuts.ensures ∙ is_less c.compare_cuts.result (sym c.is_lt.ensures ∙ less))
