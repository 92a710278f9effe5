use Rattle.std.proofs.Common.{◌≡◌, [], ◌∷◌, ◌++◌, sym, ◌∙◌, ap, subst}
use Rattle.unit_sets.specs.CutOrder.{IsInCutOrder}
use Rattle.model_tests.proofs.ShortLists.{one_rises, two_rise, first_in_order, one_before_two}
use Rattle.model_tests.proofs.unit_sets_tests.push_two.Goals as goal

pub push-requires-clause-rising : goal.push-requires-clause-rising
push-requires-clause-rising c = one_rises c.args.a

pub push-requires-clause-after_last : goal.push-requires-clause-after_last
push-requires-clause-after_last c =
    subst (λ cuts. IsInCutOrder (cuts ++ (c.args.a ∷ []) ∷ [])) (sym c.requires.none) (first_in_order (c.args.a ∷ []))

pub push-requires-2-clause-rising : goal.push-requires-2-clause-rising
push-requires-2-clause-rising c = two_rise c.args.a c.args.b c.requires.rising

pub push-requires-2-clause-after_last : goal.push-requires-2-clause-after_last
push-requires-2-clause-after_last c =
    let one : c.push.new.self ≡ (c.args.a ∷ []) ∷ [] =
    c.in_ok-push.ensures.added ∙ ap (λ cuts. cuts ++ (c.args.a ∷ []) ∷ []) c.requires.none in
    subst (λ cuts. IsInCutOrder (cuts ++ (c.args.a ∷ c.args.b ∷ []) ∷ [])) (sym one)
    (one_before_two c.args.a c.args.b)
