-- The answers of recipes as answers of a node.
use Rattle.std.proofs.Common.{MatchResult, Result, ◌≡◌, ◌⊎◌, ℕ, false, List, All, sym, subst, inl, inr}
use Rattle.fault_definitions.specs.{CutFamily.IsCutFamily, Trigger.below, WellFormed.IsTree}
use Rattle.fault_definitions.specs.Tree.{FaultTree, IsNodeOf, IsUnitOf, is_fdep}
use Rattle.zdd_families.specs.{Due.IsDueToMinimal, Minimal.IsMinimal, Map.Knows, Map.family}
use Rattle.tree_families.proofs.Building.{recipe-cut_family, unit_recipe_is}
use Rattle.tree_families.specs.Due.{IsDueToRecipe, IsDueToTree, due_to_unions, due_to_end, one_unit}
use Rattle.tree_families.specs.Recipe.{IsMadeBy, IsUnionOfAll, Recipe, StandFor, alone, node_recipe}
use Rattle.zdd_shared_table.specs.Seats.{Seated, IsSoundSeat, map_of}
use Rattle.zdd_product.specs.{Seats.Gave, Seats.WasFull, Voting.families}
use Rattle.zdd_product.proofs.After.{WentOn-as}
use Rattle.zdd_nodes.specs.Steps.{IsDueToUnit}
use Rattle.zdd_nodes.proofs.{Answers.answer_as, Answers.answer_then, NodeParts.node_due, Staying.families_stay}

-- an answer, by what was made and what is due
abbrev pub Answer : {E : Type 0} → (List (List ℕ) → Type 0) → (List (List ℕ) → Type 0) → Seated → Seated → Result ℕ E
    → Type 0
Answer is due before after result = MatchResult result (Gave is due before after) (λ _. WasFull due before after)

abbrev pub FollowsRecipe : {E : Type 0} → Recipe → Seated → Seated → Result ℕ E → Type 0
FollowsRecipe recipe before after result = Answer (IsMadeBy recipe) (IsDueToRecipe recipe) before after result

-- an equal recipe
pub at_recipe : {E : Type 0} {recipe recipe' : Recipe} → recipe ≡ recipe'
    → (before after : Seated) (result : Result ℕ E) → FollowsRecipe recipe' before after result
    → FollowsRecipe recipe before after result
at_recipe same before after result m = subst (λ (q : Recipe). FollowsRecipe q before after result) (sym same) m

-- the family of a unit alone, and then others taken in one by one
pub unit_made : {E : Type 0} (IsAll DueAll : List (List ℕ) → List (List (List ℕ)) → List (List ℕ) → Type 0)
    {start mid : Seated} (after : Seated) (unit : ℕ) {own : ℕ} (triggers : List ℕ)
    → IsSoundSeat start
    → All (Knows (map_of start)) triggers
    → Gave (λ h. h ≡ alone unit) (λ h. h ≡ alone unit) start mid own
    → (result : Result ℕ E) → Answer (IsAll (family (map_of mid) own) (families (map_of mid) triggers))
    (DueAll (family (map_of mid) own) (families (map_of mid) triggers)) mid after result
    → Answer (IsAll (alone unit) (families (map_of start) triggers))
    (λ h. (h ≡ alone unit) ⊎ DueAll (alone unit) (families (map_of start) triggers) h) start after result
unit_made IsAll DueAll {start} {mid} after unit triggers sound knows gave result m =
    let fs = families (map_of start) triggers in
    let due : List (List ℕ) → Type 0 = λ h. (h ≡ alone unit) ⊎ DueAll (alone unit) fs h in
    let stay : families (map_of mid) triggers ≡ fs =
    families_stay start mid sound gave.on.went.sound gave.on.went.keeps triggers knows in
    let m' : Answer (IsAll (alone unit) fs) (DueAll (alone unit) fs) mid after result =
    subst (λ (q : List (List (List ℕ))). Answer (IsAll (alone unit) q) (DueAll (alone unit) q) mid after
    result) stay
    (subst (λ (q : List (List ℕ)). Answer (IsAll q (families (map_of mid) triggers))
    (DueAll q (families (map_of mid) triggers)) mid after result) gave.known.1 m) in
    answer_then (IsAll (alone unit) fs) after
    (WentOn-as (λ h. h ≡ alone unit) due (λ h same. inl same) start mid gave.on) result
    (answer_as (IsAll (alone unit) fs) (DueAll (alone unit) fs) (IsAll (alone unit) fs)
    due (λ h is. is) (λ h later. inr later) mid after result m')

module _ (tree : FaultTree) (node : ℕ) (is_node : IsNodeOf tree node) (read : is_fdep tree node ≡ false)
    (fs : List (List (List ℕ))) (stand : StandFor (IsCutFamily tree) (below tree node) fs) where
  -- what the recipe of a node makes
  pub node_made : {E : Type 0} {recipe : Recipe} → node_recipe tree node fs ≡ recipe
      → (before after : Seated) (result : Result ℕ E) → FollowsRecipe recipe before after result
      → Answer (IsMadeBy (node_recipe tree node fs)) (IsDueToTree tree) before after result
  node_made same before after result m =
      answer_as (IsMadeBy (node_recipe tree node fs)) (IsDueToRecipe (node_recipe tree node fs))
      (IsMadeBy (node_recipe tree node fs)) (IsDueToTree tree) (λ h is. is)
      (λ h due. node_due node is_node read fs stand due) before after result (at_recipe same before after result m)

  unit_due : IsUnitOf tree node → (h : List (List ℕ)) → IsDueToUnit node fs h → IsDueToTree tree h
  unit_due is_unit h (inl same) = subst (IsDueToTree tree) (sym same) (one_unit is_unit)
  unit_due is_unit h (inr due) =
      node_due node is_node read fs stand (subst (λ (q : Recipe). IsDueToRecipe q h)
      (sym (unit_recipe_is tree node fs is_unit)) (due_to_unions due))

  -- and of a unit
  pub unit_node_made : {E : Type 0} → IsUnitOf tree node → (before after : Seated) (result : Result ℕ E)
      → Answer (IsUnionOfAll (alone node) fs) (IsDueToUnit node fs) before after result
      → Answer (IsMadeBy (node_recipe tree node fs)) (IsDueToTree tree) before after result
  unit_node_made is_unit before after result m =
      answer_as (IsUnionOfAll (alone node) fs) (IsDueToUnit node fs) (IsMadeBy (node_recipe tree node fs))
      (IsDueToTree tree)
      (λ h is. subst (λ (q : Recipe). IsMadeBy q h) (sym (unit_recipe_is tree node fs is_unit)) is)
      (unit_due is_unit) before after result m

  -- its minimal sets are the cut family of the node
  pub node_ends : {E : Type 0} → IsTree tree → {start mid : Seated} (after : Seated) {made : ℕ}
      → Gave (IsMadeBy (node_recipe tree node fs)) (IsDueToTree tree) start mid made → (result : Result ℕ E)
      → Answer (IsMinimal (family (map_of mid) made)) (IsDueToMinimal (family (map_of mid) made)) mid after result
      → Answer (IsCutFamily tree node) (IsDueToTree tree) start after result
  node_ends kept {mid} after {made} gave result m =
      let had = family (map_of mid) made in
      answer_then (IsCutFamily tree node) after gave.on result
      (answer_as (IsMinimal had) (IsDueToMinimal had) (IsCutFamily tree node) (IsDueToTree tree)
      (λ h least. recipe-cut_family kept is_node fs stand gave.known.1 least)
      (λ h due. node_due node is_node read fs stand (due_to_end gave.known.1 due)) mid after result m)
