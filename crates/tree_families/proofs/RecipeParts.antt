-- A recipe makes a family, and each part of that family's minimal sets is due to the recipe or a part of
-- one of the families that it is given.
use Rattle.std.specs.Prelude.{◌⊎◌, ℕ, List, [], ◌∷◌}
use Rattle.std.proofs.Common.{refl, subst, inl, inr}
use Rattle.unit_sets.proofs.Sorted.{Contains-cons_first, Contains-cons_other}
use Rattle.zdd_families.specs.{Minimal.IsMinimal, Nodes.IsReached, Spans.Spans}
use Rattle.zdd_families.specs.{VotesParts.SpanEach, VotesParts.PartOfOne}
use Rattle.tree_families.specs.Recipe.{Recipe, unions, products, votes, IsUnionOfAll, IsProductOfAll, IsMadeBy}
use Rattle.tree_families.specs.Due.{IsDueToUnions, next_union, later_union, IsDueToProducts, next_product, next_minimal}
use Rattle.tree_families.specs.Due.{later_product, IsDueToRecipe, due_to_unions, due_to_products, due_to_votes}
use Rattle.tree_families.specs.Due.{due_to_end}
use Rattle.zdd_families.proofs.Parts.{Origin, is_due, of_first, of_second}
use Rattle.zdd_families.proofs.UnionParts.{HasUnion, Spans-union, union-exists, union-parts}
use Rattle.zdd_families.proofs.ProductParts.{HasProduct, Spans-product, product-exists, product-parts}
use Rattle.zdd_families.proofs.MinimalParts.{HasLeast, Spans-minimal, minimal-exists, minimal-parts}
use Rattle.zdd_families.proofs.VotesPartsLemmas.{HasVotes, votes-exist, votes-parts}

-- the families that the recipe is given
abbrev pub given : Recipe → List (List (List ℕ))
given (unions first others) = first ∷ others
given (products first others) = first ∷ others
given (votes least families) = families

-- ---- a recipe makes a family

pub record HasMade (low size : ℕ) (recipe : Recipe) : Type 0 where
  pub made : List (List ℕ)
  pub is : IsMadeBy recipe made
  pub spans : Spans low size made

module _ (low size : ℕ) where
  all_united : {first : List (List ℕ)} (others : List (List (List ℕ))) → Spans low size first → SpanEach low size others
      → HasMade low size (unions first others)
  all_united {first} [] s each = record { made = first; is = refl; spans = s }
  all_united {first} (family ∷ others) s each =
      let next : HasUnion low size first family = union-exists size s each.0 in
      let rest : HasMade low size (unions next.union others) = all_united {first = next.union} others next.spans
      each.1 in
      record { made = rest.made; is = (next.union, next.is, rest.is); spans = rest.spans }

  all_multiplied : {first : List (List ℕ)} (others : List (List (List ℕ))) → Spans low size first
      → SpanEach low size others → HasMade low size (products first others)
  all_multiplied {first} [] s each = record { made = first; is = refl; spans = s }
  all_multiplied {first} (family ∷ others) s each =
      let next : HasProduct low size first family = product-exists size s each.0 in
      let least : HasLeast low size next.product = minimal-exists size next.spans in
      let rest : HasMade low size (products least.least others) =
      all_multiplied {first = least.least} others least.spans each.1 in
      record { made = rest.made; is = (next.product, least.least, next.is, least.is, rest.is); spans = rest.spans }

  pub recipe-makes : (recipe : Recipe) → SpanEach low size (given recipe) → HasMade low size recipe
  recipe-makes (unions first others) each = all_united others each.0 each.1
  recipe-makes (products first others) each = all_multiplied others each.0 each.1
  recipe-makes (votes least families) each =
      let found : HasVotes low size least families = votes-exist low size families each least in
      record { made = found.votes; is = found.is; spans = found.spans }

-- ---- its parts

module _ (low size : ℕ) (part : List (List ℕ)) where
  later : (first : List (List ℕ)) {others : List (List (List ℕ))} → PartOfOne others part
      → PartOfOne (first ∷ others) part
  later first {others} found =
      record {
        family = found.family;
        has = Contains-cons_other _ _ _ found.has;
        reached =
            found.reached;
      }

  at_first : {first : List (List ℕ)} (others : List (List (List ℕ))) → IsReached first part
      → PartOfOne (first ∷ others) part
  at_first {first} others reached = record { family = first; has = Contains-cons_first _ _; reached = reached }

  -- of the first family or of a later one
  abbrev Comes : Type 0 → List (List ℕ) → List (List (List ℕ)) → Type 0
  Comes Due first others = Due ⊎ (IsReached first part ⊎ PartOfOne others part)

  joined_comes : {Due G : Type 0} {first : List (List ℕ)} {others : List (List (List ℕ))} → Comes Due first others
      → (Due → G) → G ⊎ PartOfOne (first ∷ others) part
  joined_comes (inl due) to = inl (to due)
  joined_comes {others} (inr (inl reached)) to = inr (at_first others reached)
  joined_comes {first} (inr (inr found)) to = inr (later first found)

  of_next : {Due Next : Type 0} {first family : List (List ℕ)} (others : List (List (List ℕ)))
      → Origin Due first family part → (Due → Next) → Comes Next first (family ∷ others)
  of_next others (is_due due) to = inl (to due)
  of_next others (of_first reached) to = inr (inl reached)
  of_next others (of_second reached) to = inr (inr (at_first others reached))

  unions_parts : {first : List (List ℕ)} (others : List (List (List ℕ))) {made : List (List ℕ)} → Spans low size first
      → SpanEach low size others → IsUnionOfAll first others made → IsReached made part
      → Comes (IsDueToUnions first others part) first others
  unions_parts [] s each same reached = inr (inl (subst (λ q. IsReached q part) same reached))
  unions_parts (family ∷ others) s each (union, is, rest) reached =
      elim (unions_parts others (Spans-union s each.0 is) each.1 rest reached) [
        | inl due ↦ inl (later_union is due)
        | inr (inl of_union) ↦ of_next others (union-parts size s each.0 is of_union) (λ due. next_union due)
        | inr (inr found) ↦ inr (inr (later family found))
      ]

  products_parts : {first : List (List ℕ)} (others : List (List (List ℕ))) {made : List (List ℕ)} → Spans low size first
      → SpanEach low size others → IsProductOfAll first others made → IsReached made part
      → Comes (IsDueToProducts first others part) first others
  products_parts [] s each same reached = inr (inl (subst (λ q. IsReached q part) same reached))
  products_parts (family ∷ others) s each (product, least, is, minimal, rest) reached =
      let s' : Spans low size product = Spans-product s each.0 is in
      elim (products_parts others (Spans-minimal s' minimal) each.1 rest reached) [
        | inl due ↦ inl (later_product is minimal due)
        | inr (inl of_least) ↦ elim (minimal-parts size s' minimal of_least) [
          | inl due ↦ inl (next_minimal is due)
          | inr of_product ↦ of_next others (product-parts size s each.0 is of_product)
              (λ due. next_product due)
        ]
        | inr (inr found) ↦ inr (inr (later family found))
      ]

  pub made_parts : (recipe : Recipe) {made : List (List ℕ)} → SpanEach low size (given recipe) → IsMadeBy recipe made
      → IsReached made part → IsDueToRecipe recipe part ⊎ PartOfOne (given recipe) part
  made_parts (unions first others) each is reached =
      joined_comes (unions_parts others each.0 each.1 is reached) (λ due. due_to_unions due)
  made_parts (products first others) each is reached =
      joined_comes (products_parts others each.0 each.1 is reached) (λ due. due_to_products due)
  made_parts (votes least families) each is reached =
      elim (votes-parts low size least families part each is reached) [
        | inl due ↦ inl (due_to_votes due)
        | inr found ↦ inr found
      ]

  pub recipe-parts : (recipe : Recipe) {made least : List (List ℕ)} → SpanEach low size (given recipe)
      → Spans low size made → IsMadeBy recipe made → IsMinimal made least → IsReached least part
      → IsDueToRecipe recipe part ⊎ PartOfOne (given recipe) part
  recipe-parts recipe each s is minimal reached =
      elim (minimal-parts size s minimal reached) [
        | inl due ↦ inl (due_to_end is due)
        | inr of_made ↦ made_parts recipe each is of_made
      ]
