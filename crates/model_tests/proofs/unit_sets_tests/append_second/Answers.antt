use Rattle.std.proofs.Common.{◌≡◌, ℕ, List, [], ◌∷◌, ◌++◌, sym, ◌∙◌, ap, subst, All}
use Rattle.std.proofs.lemmas.List.Elements.{All-from_recursion}
use Rattle.unit_sets.specs.{CutOrder.IsInCutOrder, UnitList.IsRising}
use Rattle.model_tests.proofs.ShortLists.{one_rises, two_rise, first_in_order, one_before_two}
use Rattle.model_tests.proofs.unit_sets_tests.append_second.Goals as goal

-- one set behind none
alone : {rows none : List (List ℕ)} {set : List ℕ} → rows ≡ none ++ set ∷ [] → none ≡ [] → rows ≡ set ∷ []
alone {set} pushed empty = pushed ∙ ap (λ (sets : List (List ℕ)). sets ++ set ∷ []) empty

pub push-requires-2-clause-rising : goal.push-requires-2-clause-rising
push-requires-2-clause-rising c = one_rises c.args.a

pub push-requires-2-clause-after_last : goal.push-requires-2-clause-after_last
push-requires-2-clause-after_last c =
    subst (λ cuts. IsInCutOrder (cuts ++ (c.args.a ∷ []) ∷ [])) (sym c.requires.none) (first_in_order (c.args.a ∷ []))

pub append-requires-clause-rising : goal.append-requires-clause-rising
append-requires-clause-rising c =
    let pair : c.push.new.self ≡ (c.args.a ∷ c.args.b ∷ []) ∷ [] = alone c.in_ok-push.ensures.ok c.requires.empty in
    subst (All IsRising) (sym pair) (All-from_recursion IsRising ((c.args.a ∷ c.args.b ∷ []) ∷ [])
    (two_rise c.args.a c.args.b c.requires.rising, tt))

pub append-requires-clause-after_last : goal.append-requires-clause-after_last
append-requires-clause-after_last c =
    let pair : c.push.new.self ≡ (c.args.a ∷ c.args.b ∷ []) ∷ [] = alone c.in_ok-push.ensures.ok c.requires.empty in
    let one : c.push-2.new.self ≡ (c.args.a ∷ []) ∷ [] =
    c.in_ok-push-2.ensures.added ∙ ap (λ cuts. cuts ++ (c.args.a ∷ []) ∷ []) c.requires.none in
    subst (λ sets. IsInCutOrder (c.push-2.new.self ++ sets)) (sym pair)
    (subst (λ cuts. IsInCutOrder (cuts ++ (c.args.a ∷ c.args.b ∷ []) ∷ [])) (sym one)
    (one_before_two c.args.a c.args.b))
