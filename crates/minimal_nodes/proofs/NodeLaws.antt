-- The minimal family that is true where a node fails is the node's cut family, and where that is by the
-- families of what the node reads.
use Rattle.std.specs.Prelude.{◌≡◌, ℕ, ◌+◌, Bool, true, false, ◌&&◌, ◌||◌, nat_le, List, [], ◌∷◌, if◌then◌else◌}
use Rattle.std.specs.List.{list_any, list_all}
use Rattle.std.proofs.Common.{refl, sym, ◌∙◌, ap, subst}
use Rattle.std.proofs.lemmas.Bool.{cond-true, cond-false, lt-ltb, le-ltb}
use Rattle.fault_words.specs.declared.kind.GateKind.{GateKind}
use Rattle.fault_words.specs.declared.kind.GateKind.TheVariants.{And, Or, Votes, Pand, Por, Seq, Fdep, Csp, Wsp, Hsp}
use Rattle.fault_definitions.specs.{CutFamily.IsCutFamily, Trigger.below, Trigger.triggers_of, WellFormed.IsTree}
use Rattle.fault_definitions.specs.Reading.{reads, true_count, first_reads, gate_reads}
use Rattle.fault_definitions.proofs.{ReadingLaws.reads-node, RankLaws.below_are_nodes}
use Rattle.fault_definitions.specs.Tree.{FaultTree, IsGateOf, IsNodeOf, IsUnitOf, inputs_of, is_above_units, kind_of}
use Rattle.fault_definitions.specs.Tree.{unit_count}
use Rattle.zdd_families.specs.{Within.count_within, Least.IsLeastFor}
use Rattle.zdd_families.proofs.LeastLemmas.{IsLeastFor-same, minimal-from_within}
use Rattle.minimal_nodes.specs.Gates.{first_within, gate_within, IsLeastOfGate}
use Rattle.tree_families.proofs.Building.{all_generate, gate_below, unit_below}
use Rattle.tree_families.proofs.{CutFamilies.cut_family-minimal, FailingSets.IsFamilyFor-cut_family}
use Rattle.tree_families.proofs.{TreeParts.has_cut_family}
use Rattle.tree_families.specs.{Generation.IsFamilyFor, Recipe.StandFor, Recipe.alone}
use Rattle.unit_sets.specs.UnitList.{some_within}

pub cut_family-least : {tree : FaultTree} → IsTree tree → {node : ℕ} → IsNodeOf tree node → {least : List (List ℕ)}
    → IsLeastFor (λ within. reads tree within node) least → IsCutFamily tree node least
cut_family-least {tree} kept {node} is_node {least} is =
    let found = has_cut_family tree kept node is_node in
    let generates : IsFamilyFor tree node found.family =
    IsFamilyFor-cut_family tree kept node is_node found.family found.is in
    cut_family-minimal tree node found.family least generates (minimal-from_within least generates.of_tree.is_family
    (IsLeastFor-same is (λ within. sym (generates.some_within within))))

-- ---- the families of what a node reads are true where these fail

module _ (tree : FaultTree) (within : ℕ → Bool) where
  any_fails : (nodes : List ℕ) (families : List (List (List ℕ))) → StandFor (IsFamilyFor tree) nodes families
      → list_any (λ family. some_within family within) families ≡ list_any (reads tree within) nodes
  any_fails [] [] stand = refl
  any_fails [] (family ∷ families) stand = absurd stand
  any_fails (node ∷ nodes) [] stand = absurd stand
  any_fails (node ∷ nodes) (family ∷ families) stand =
      ap (λ b. b || list_any (λ f. some_within f within) families) (stand.0.some_within within)
      ∙ ap (λ b. reads tree within node || b) (any_fails nodes families stand.1)

  all_fail : (nodes : List ℕ) (families : List (List (List ℕ))) → StandFor (IsFamilyFor tree) nodes families
      → list_all (λ family. some_within family within) families ≡ list_all (reads tree within) nodes
  all_fail [] [] stand = refl
  all_fail [] (family ∷ families) stand = absurd stand
  all_fail (node ∷ nodes) [] stand = absurd stand
  all_fail (node ∷ nodes) (family ∷ families) stand =
      ap (λ b. b && list_all (λ f. some_within f within) families) (stand.0.some_within within)
      ∙ ap (λ b. reads tree within node && b) (all_fail nodes families stand.1)

  so_many_fail : (nodes : List ℕ) (families : List (List (List ℕ))) → StandFor (IsFamilyFor tree) nodes families
      → count_within families within ≡ true_count (reads tree within) nodes
  so_many_fail [] [] stand = refl
  so_many_fail [] (family ∷ families) stand = absurd stand
  so_many_fail (node ∷ nodes) [] stand = absurd stand
  so_many_fail (node ∷ nodes) (family ∷ families) stand =
      ap (λ b. (if b then 1 else 0) + count_within families within) (stand.0.some_within within)
      ∙ ap (λ n. (if reads tree within node then 1 else 0) + n) (so_many_fail nodes families stand.1)

  first_fails : (nodes : List ℕ) (families : List (List (List ℕ))) → StandFor (IsFamilyFor tree) nodes families
      → first_within families within ≡ first_reads (reads tree within) nodes
  first_fails [] [] stand = refl
  first_fails [] (family ∷ families) stand = absurd stand
  first_fails (node ∷ nodes) [] stand = absurd stand
  first_fails (node ∷ nodes) (family ∷ families) stand = stand.0.some_within within

  gate_fails : (kind : GateKind) (nodes : List ℕ) (families : List (List (List ℕ)))
      → StandFor (IsFamilyFor tree) nodes families → gate_within kind families within
      ≡ gate_reads kind (reads tree within) nodes
  gate_fails And nodes families stand = all_fail nodes families stand
  gate_fails Or nodes families stand = any_fails nodes families stand
  gate_fails (Votes least of) nodes families stand = ap (nat_le least) (so_many_fail nodes families stand)
  gate_fails Pand nodes families stand = all_fail nodes families stand
  gate_fails Por nodes families stand = first_fails nodes families stand
  gate_fails Seq nodes families stand = all_fail nodes families stand
  gate_fails Fdep nodes families stand = refl
  gate_fails Csp nodes families stand = all_fail nodes families stand
  gate_fails Wsp nodes families stand = all_fail nodes families stand
  gate_fails Hsp nodes families stand = all_fail nodes families stand

one : (b : Bool) → ((b && true) || false) ≡ b
one true = refl
one false = refl

module _ {tree : FaultTree} (kept : IsTree tree) (node : ℕ) (is_node : IsNodeOf tree node)
    (families : List (List (List ℕ))) (stand : StandFor (IsCutFamily tree) (below tree node) families) where
  generate : StandFor (IsFamilyFor tree) (below tree node) families
  generate = all_generate kept (below tree node) families (below_are_nodes kept node) stand

  pub gate_cut_family : IsGateOf tree node → {least : List (List ℕ)} → IsLeastOfGate (kind_of tree node) families least
      → IsCutFamily tree node least
  gate_cut_family is_gate is =
      let inputs : StandFor (IsFamilyFor tree) (inputs_of tree node) families =
      subst (λ nodes. StandFor (IsFamilyFor tree) nodes families) (gate_below tree node is_gate) generate in
      cut_family-least kept is_node (IsLeastFor-same is (λ within.
      gate_fails tree within (kind_of tree node) (inputs_of tree node) families inputs
      ∙ sym (reads-node tree kept within node is_node
      ∙ cond-true (is_above_units tree node) _ _ (lt-ltb (unit_count tree) node is_gate.0))))

  alone_hit : (within : ℕ → Bool) → some_within (alone node) within ≡ within node
  alone_hit within = one (within node)

  pub unit_cut_family : IsUnitOf tree node → {least : List (List ℕ)}
      → IsLeastFor (λ within. some_within (alone node) within
      || list_any (λ family. some_within family within) families) least
      → IsCutFamily tree node least
  unit_cut_family is_unit is =
      let triggers : StandFor (IsFamilyFor tree) (triggers_of tree node) families =
      subst (λ nodes. StandFor (IsFamilyFor tree) nodes families) (unit_below tree node is_unit) generate in
      cut_family-least kept is_node (IsLeastFor-same is (λ within.
      ap (λ b. b || list_any (λ family. some_within family within) families) (alone_hit within)
      ∙ ap (λ b. within node || b) (any_fails tree within (triggers_of tree node) families triggers)
      ∙ sym (reads-node tree kept within node is_node
      ∙ cond-false (is_above_units tree node) _ _ (le-ltb (unit_count tree) node is_unit.1))))
