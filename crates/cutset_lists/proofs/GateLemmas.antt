-- The lists of gates and units, one node after another.
use Rattle.std.specs.Prelude.{◌≡◌, ℕ, ◌+◌, ◌-◌, ◌<◌, ◌≤◌, Bool, ◌&&◌, ◌||◌, List, [], ◌∷◌, ◌++◌, length}
use Rattle.std.specs.Prelude.{take, All, Contains, get_or}
use Rattle.std.specs.{List.list_any, List.list_all, List.Sorted.IsStrictlySortedBy}
use Rattle.std.proofs.Common.{refl, sym, ◌∙◌, ap, subst, arith}
use Rattle.std.proofs.Math.Bool.{or-false, or_assoc}
use Rattle.std.proofs.lemmas.List.{take_all, get_or_default}
use Rattle.std.proofs.lemmas.List.Folds.{list_any_more, list_all_more}
use Rattle.std.proofs.lemmas.List.Elements.{All-append, All-nil, All-cons, All-get_or, All-weaker, All-contains}
use Rattle.unit_sets.specs.UnitList.{IsRising, some_within}
use Rattle.fault_words.specs.declared.kind.GateKind.TheVariants.{Or, Por}
use Rattle.fault_definitions.specs.Reading.{first_reads}
use Rattle.cutset_lists.specs.Sets.{IsSetOf, AreSetsOf, AddsProduct, IsMinimalFrom, IsReducedFrom}
use Rattle.cutset_lists.specs.Generation.{list_at, HasList, reading_of, Follows, AddsSome, each_rule, gate_rule}
use Rattle.cutset_lists.proofs.SetLemmas.{some_within-append}

-- ---- fewer sets

pub IsReducedFrom-minimal : (sets minimal : List (List ℕ)) → IsMinimalFrom sets minimal → IsReducedFrom sets minimal
IsReducedFrom-minimal sets minimal is = record {
  some_within = is.some_within;
  sets =
      λ passes of. All-weaker (λ s. Contains sets s) (IsSetOf passes)
      (λ s here. All-contains (IsSetOf passes) sets s of here) minimal is.members;
}

-- ---- some of the nodes

any-more : (reading : ℕ → Bool) (nodes : List ℕ) (i : ℕ) {node : ℕ} → i < length nodes → node ≡ get_or nodes i 0
    → list_any reading (take (i + 1) nodes) ≡ (list_any reading (take i nodes) || reading node)
any-more reading nodes i short is =
    list_any_more reading nodes i 0 short ∙ ap (λ n. list_any reading (take i nodes) || reading n) (sym is)

all-more : (reading : ℕ → Bool) (nodes : List ℕ) (i : ℕ) {node : ℕ} → i < length nodes → node ≡ get_or nodes i 0
    → list_all reading (take (i + 1) nodes) ≡ (list_all reading (take i nodes) && reading node)
all-more reading nodes i short is =
    list_all_more reading nodes i 0 short ∙ ap (λ n. list_all reading (take i nodes) && reading n) (sym is)

module _ (lists : List (List (List ℕ))) (nodes : List ℕ) (i : ℕ) {node : ℕ} (short : i < length nodes)
    (is : node ≡ get_or nodes i 0) (has : HasList lists node) where
  sets_at : (passes : ℕ → Bool) → All (AreSetsOf passes) lists → AreSetsOf passes (list_at lists node)
  sets_at passes each =
      All-get_or (AreSetsOf passes) lists (node - 1) [] (let p = has.0 in let q = has.1 in omega arith) each

  pub AddsSome-more : {old sets new list : List (List ℕ)} → list ≡ list_at lists node → new ≡ sets ++ list
      → AddsSome lists (take i nodes) old sets → AddsSome lists (take (i + 1) nodes) old new
  AddsSome-more {old} {sets} at new_is adds = record {
    some_within = λ within.
        ap (λ s. some_within s within) (new_is ∙ ap (λ l. sets ++ l) at)
        ∙ some_within-append sets (list_at lists node) within
        ∙ ap (λ b. b || reading_of lists within node) (adds.some_within within)
        ∙ or_assoc (some_within old within) (list_any (reading_of lists within) (take i nodes))
        (reading_of lists within node)
        ∙ ap (λ b. some_within old within || b) (sym (any-more (reading_of lists within) nodes i short is));
    sets = λ passes each before.
        subst (AreSetsOf passes) (sym (new_is ∙ ap (λ l. sets ++ l) at))
        (All-append (IsSetOf passes) sets (list_at lists node) (adds.sets passes each before) (sets_at passes each));
  }

  pub each-more : {sets new list : List (List ℕ)} → list ≡ list_at lists node → AddsProduct sets list [] new
      → Follows lists (each_rule (take i nodes)) sets → Follows lists (each_rule (take (i + 1) nodes)) new
  each-more {sets} at both follows = record {
    some_within = λ within.
        both.some_within within
        ∙ ap (λ l. some_within sets within && some_within l within) at
        ∙ ap (λ b. b && reading_of lists within node) (follows.some_within within)
        ∙ sym (all-more (reading_of lists within) nodes i short is);
    sets =
        λ passes each. both.sets passes (follows.sets passes each)
        (subst (AreSetsOf passes) (sym at) (sets_at passes each)) (All-nil (IsSetOf passes));
  }

pub AddsSome-reduced : {lists : List (List (List ℕ))} {nodes : List ℕ} {old sets new : List (List ℕ)} (i : ℕ)
    → length nodes ≤ i → IsReducedFrom sets new → AddsSome lists (take i nodes) old sets → AddsSome lists nodes old new
AddsSome-reduced {lists} {nodes} {old} {sets} i long less adds =
    let adds_all : AddsSome lists nodes old sets =
    subst (λ ns. AddsSome lists ns old sets) (take_all i nodes long) adds in
    record {
      some_within = λ within. less.some_within within ∙ adds_all.some_within within;
      sets = λ passes each before. less.sets passes (adds_all.sets passes each before);
    }

-- ---- each of the nodes

none_rising : IsRising []
unfolding IsStrictlySortedBy
none_rising = tt

pub empty_set_of : (passes : ℕ → Bool) → AreSetsOf passes ([] ∷ [])
empty_set_of passes =
    All-cons (IsSetOf passes) [] [] (record { rising = none_rising; pass = refl }) (All-nil (IsSetOf passes))

pub each-none : {lists : List (List (List ℕ))} (nodes : List ℕ) {none sets : List (List ℕ)} → none ≡ []
    → sets ≡ none ++ [] ∷ [] → Follows lists (each_rule (take 0 nodes)) sets
each-none nodes {sets} empty pushed =
    let is : sets ≡ [] ∷ [] = pushed ∙ ap (λ n. n ++ [] ∷ []) empty in record {
      some_within = λ within. ap (λ s. some_within s within) is;
      sets = λ passes _. subst (AreSetsOf passes) (sym is) (empty_set_of passes);
    }

-- ---- gates

none_of : (passes : ℕ → Bool) {sets : List (List ℕ)} → sets ≡ [] → AreSetsOf passes sets
none_of passes none = subst (AreSetsOf passes) (sym none) (All-nil (IsSetOf passes))

pub or_list : {lists : List (List (List ℕ))} {inputs : List ℕ} {old new : List (List ℕ)} → old ≡ []
    → AddsSome lists inputs old new → Follows lists (gate_rule Or inputs) new
or_list {lists} {inputs} none adds = record {
  some_within = λ within. adds.some_within within
      ∙ ap (λ s. some_within s within || list_any (reading_of lists within) inputs) none;
  sets = λ passes each. adds.sets passes each (none_of passes none);
}

any_of_first : (reading : ℕ → Bool) (inputs : List ℕ) → list_any reading (take 1 inputs) ≡ first_reads reading inputs
any_of_first reading [] = refl
any_of_first reading (input ∷ inputs) = or-false (reading input)

pub por_list : {lists : List (List (List ℕ))} (inputs : List ℕ) {first : List ℕ} {old new : List (List ℕ)} → old ≡ []
    → first ≡ take 1 inputs → AddsSome lists first old new → Follows lists (gate_rule Por inputs) new
por_list {lists} inputs {first} none is adds = record {
  some_within = λ within.
      adds.some_within within
      ∙ ap (λ s. some_within s within || list_any (reading_of lists within) first) none
      ∙ ap (list_any (reading_of lists within)) is
      ∙ any_of_first (reading_of lists within) inputs;
  sets = λ passes each. adds.sets passes each (none_of passes none);
}

-- ---- values as the code reads them

pub node_read : (nodes : List ℕ) (i : ℕ) {node : ℕ} → i < length nodes → node ≡ get_or nodes i node
    → node ≡ get_or nodes i 0
node_read nodes i {node} short is = is ∙ get_or_default nodes i node 0 short

pub has_list : (lists : List (List (List ℕ))) (nodes : List ℕ) (i : ℕ) {node : ℕ} → i < length nodes
    → node ≡ get_or nodes i node → All (HasList lists) nodes → HasList lists node
has_list lists nodes i {node} short is all =
    subst (HasList lists) (sym is) (All-get_or (HasList lists) nodes i node short all)

pub list_read : (lists : List (List (List ℕ))) {list : List (List ℕ)} (node : ℕ) {place : ℕ} → HasList lists node
    → place ≡ node - 1 → list ≡ get_or lists place list → list ≡ list_at lists node
list_read lists {list} node {place} has is read =
    read ∙ get_or_default lists place list [] (let p = has.0 in let q = has.1 in omega arith)
    ∙ ap (λ n. get_or lists n []) is

module _ (lists : List (List (List ℕ))) (nodes : List ℕ) (i node place : ℕ) (list : List (List ℕ))
    (short : i < length nodes) (is : node ≡ get_or nodes i node) (all : All (HasList lists) nodes)
    (place_is : place ≡ node - 1) (read : list ≡ get_or lists place list) where
  has : HasList lists node
  has = has_list lists nodes i short is all

  pub AddsSome-step : {old sets new : List (List ℕ)} → new ≡ sets ++ list → AddsSome lists (take i nodes) old sets
      → AddsSome lists (take (i + 1) nodes) old new
  AddsSome-step new_is adds =
      AddsSome-more lists nodes i short (node_read nodes i short is) has
      (list_read lists node has place_is read) new_is adds

  pub each-step : {sets new : List (List ℕ)} → AddsProduct sets list [] new
      → Follows lists (each_rule (take i nodes)) sets → Follows lists (each_rule (take (i + 1) nodes)) new
  each-step both follows =
      each-more lists nodes i short (node_read nodes i short is) has
      (list_read lists node has place_is read) both follows
