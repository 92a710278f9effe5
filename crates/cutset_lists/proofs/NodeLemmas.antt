-- The list of a node of the tree.
use Rattle.std.specs.Prelude.{◌≡◌, ℕ, ◌<◌, ◌≤◌, Bool, true, false, ◌&&◌, ◌||◌, nat_le, List, [], ◌∷◌}
use Rattle.std.specs.{List.list_any, List.Sorted.IsStrictlySortedBy}
use Rattle.std.proofs.Common.{refl, sym, ◌∙◌, ap, subst}
use Rattle.std.proofs.lemmas.Bool.{cond-true, cond-false, and_from, le-leb, lt-ltb, le-ltb}
use Rattle.std.proofs.lemmas.List.Elements.{All-nil, All-cons}
use Rattle.unit_sets.specs.UnitList.{IsRising, some_within}
use Rattle.fault_words.specs.declared.kind.GateKind.{GateKind}
use Rattle.fault_definitions.specs.Tree.{FaultTree, is_above_units, unit_count, kind_of, inputs_of}
use Rattle.fault_definitions.specs.{Trigger.below, Trigger.triggers_of, Reading.gate_reads}
use Rattle.cutset_lists.specs.Sets.{IsSetOf, AreSetsOf}
use Rattle.cutset_lists.specs.Generation.{reading_of, Follows, AddsSome, gate_rule, is_unit_of, IsNodeList}

module _ (tree : FaultTree) (lists : List (List (List ℕ))) (node : ℕ) {list : List ℕ} (list_is : list ≡ below tree node)
    (made : List (List ℕ)) where
  pub gate_node : {kind : GateKind} → unit_count tree < node → kind ≡ kind_of tree node
      → Follows lists (gate_rule kind list) made → IsNodeList tree lists node made
  gate_node above kind_is follows =
      let over : is_above_units tree node ≡ true = lt-ltb (unit_count tree) node above in
      record {
        some_within = λ within.
            follows.some_within within
            ∙ ap (λ k. gate_reads k (reading_of lists within) list) kind_is
            ∙ ap (gate_reads (kind_of tree node) (reading_of lists within))
            (list_is ∙ cond-true (is_above_units tree node) (inputs_of tree node) (triggers_of tree node) over)
            ∙ sym (cond-true (is_above_units tree node) _ _ over);
        sets = λ each. follows.sets (is_unit_of tree) each;
      }

  unit_step : (u l : Bool) → (((u && true) || false) || l) ≡ (u || l)
  unit_step true l = refl
  unit_step false l = refl

  one_rising : IsRising (node ∷ [])
  unfolding IsStrictlySortedBy
  one_rising = (tt, tt)

  pub unit_node : {old : List (List ℕ)} → 1 ≤ node → node ≤ unit_count tree → old ≡ (node ∷ []) ∷ []
      → AddsSome lists list old made → IsNodeList tree lists node made
  unit_node some low old_is adds =
      let under : is_above_units tree node ≡ false = le-ltb (unit_count tree) node low in
      let passes : is_unit_of tree node ≡ true =
      and_from (nat_le 1 node) (nat_le node (unit_count tree)) (le-leb 1 node some)
      (le-leb node (unit_count tree) low) in
      record {
        some_within = λ within.
            adds.some_within within
            ∙ ap (λ s. some_within s within || list_any (reading_of lists within) list) old_is
            ∙ unit_step (within node) (list_any (reading_of lists within) list)
            ∙ ap (λ l. within node || list_any (reading_of lists within) l)
            (list_is ∙ cond-false (is_above_units tree node) (inputs_of tree node) (triggers_of tree node) under)
            ∙ sym (cond-false (is_above_units tree node) _ _ under);
        sets = λ each.
            adds.sets (is_unit_of tree) each
            (subst (AreSetsOf (is_unit_of tree)) (sym old_is)
            (All-cons (IsSetOf (is_unit_of tree)) (node ∷ []) []
            (record { rising = one_rising; pass = and_from (is_unit_of tree node) true passes refl })
            (All-nil (IsSetOf (is_unit_of tree)))));
      }
