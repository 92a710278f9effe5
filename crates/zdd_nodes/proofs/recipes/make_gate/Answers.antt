use Rattle.std.proofs.Common.{◌≡◌, ◌-◌, true, [], ◌∷◌, get_or, drop, take, length, sym, ◌∙◌, ap, subst, inl, arith}
use Rattle.std.proofs.{lemmas.List.get_or_read, lemmas.Result.MatchResult-from_both}
use Rattle.zdd_families.specs.{Due.IsDueToVotes, Votes.IsVotes, Map.family}
use Rattle.tree_families.specs.Due.{IsDueToProducts, IsDueToRecipe, IsDueToUnions, due_to_products, due_to_unions}
use Rattle.tree_families.specs.Due.{due_to_votes}
use Rattle.tree_families.proofs.NodeSteps.{needs_all_recipe}
use Rattle.tree_families.specs.Recipe.{IsMadeBy, IsProductOfAll, IsUnionOfAll, Recipe, all_multiplied, all_united}
use Rattle.tree_families.specs.Recipe.{gate_recipe, needs_all, products, unions, votes}
use Rattle.zdd_families.proofs.MapLemmas.{family-empty}
use Rattle.zdd_shared_table.specs.Seats.{map_of}
use Rattle.zdd_product.specs.{Seats.Gave, Seats.WasFull, Voting.families}
use Rattle.zdd_product.proofs.After.{Gave-known}
use Rattle.zdd_nodes.proofs.{Answers.answer_as, NodeAnswers.at_recipe, NodeParts.first_and_others, NodeParts.needs_from}
use Rattle.zdd_nodes.proofs.recipes.make_gate.Goals as goal

pub returns-in-Or : goal.returns-in-Or
returns-in-Or c =
    let known = map_of c.args.ops.now in
    let inputs = c.args.inputs.now in
    let all = families known inputs in
    let r = c.index-inputs-0.result in
    let first : r ≡ get_or inputs 0 0 = get_or_read inputs 0 r c.requires.some c.index-inputs-0.is 0 in
    let f = family known r in
    let fs = families known (take (length inputs - 1) (drop 1 inputs)) in
    let parts : all ≡ f ∷ fs =
    first_and_others known inputs c.requires.some ∙ ap (λ q. family known q ∷ fs) (sym first) in
    at_recipe (ap (λ k. gate_recipe k all) c.in-Or.is ∙ ap all_united parts)
    c.args.ops.now c.unite_all.new.ops c.unite_all.result
    (answer_as (IsUnionOfAll f fs) (IsDueToUnions f fs) (IsMadeBy (unions f fs)) (IsDueToRecipe (unions f fs))
    (λ h is. is) (λ h due. due_to_unions due) c.args.ops.now c.unite_all.new.ops c.unite_all.result
    c.unite_all.ensures)

pub returns-in-Fdep : goal.returns-in-Fdep
returns-in-Fdep c =
    let known = map_of c.args.ops.now in
    let all = families known c.args.inputs.now in
    subst (λ (q : Recipe). Gave (IsMadeBy q) (IsDueToRecipe q) c.args.ops.now c.args.ops.now 0)
    (sym (ap (λ k. gate_recipe k all) c.in-Fdep.is))
    (Gave-known (IsDueToRecipe (unions [] [])) c.args.ops.now c.is_sound.ensures.sound {is = IsMadeBy (unions [] [])}
    {r = 0}
    (inl (omega arith), family-empty known))

pub returns-in-Votes : goal.returns-in-Votes
returns-in-Votes c =
    let all = families (map_of c.args.ops.now) c.args.inputs.now in
    let k = c.in-Votes.least in
    at_recipe (ap (λ kind. gate_recipe kind all) c.in-Votes.is) c.args.ops.now c.votes.new.self c.votes.result
    (answer_as (IsVotes k all) (IsDueToVotes k all) (IsMadeBy (votes k all)) (IsDueToRecipe (votes k all)) (λ h is. is)
    (λ h due. due_to_votes due) c.args.ops.now c.votes.new.self c.votes.result
    (MatchResult-from_both c.votes.result (Gave (IsVotes k all) (IsDueToVotes k all) c.args.ops.now
    c.votes.new.self) (λ _. WasFull (IsDueToVotes k all) c.args.ops.now c.votes.new.self) c.votes.ensures.gives
    c.votes.ensures.full))

pub returns-in-And : goal.returns-in-And
returns-in-And c =
    let known = map_of c.args.ops.now in
    let inputs = c.args.inputs.now in
    let all = families known inputs in
    let r = c.index-inputs-0-in-And.result in
    let first : r ≡ get_or inputs 0 0 = get_or_read inputs 0 r c.requires.some c.index-inputs-0-in-And.is 0 in
    let f = family known r in
    let fs = families known (take (length inputs - 1) (drop 1 inputs)) in
    let parts : all ≡ f ∷ fs =
    first_and_others known inputs c.requires.some ∙ ap (λ q. family known q ∷ fs) (sym first) in
    let needs : needs_all c.args.kind ≡ true = needs_from c.in-And.is in
    at_recipe (needs_all_recipe c.args.kind all needs ∙ ap all_multiplied parts) c.args.ops.now c.multiply_all.new.ops
    c.multiply_all.result
    (answer_as (IsProductOfAll f fs) (IsDueToProducts f fs) (IsMadeBy (products f fs)) (IsDueToRecipe (products f fs))
    (λ h is. is) (λ h due. due_to_products due) c.args.ops.now c.multiply_all.new.ops c.multiply_all.result
    c.multiply_all.ensures)
