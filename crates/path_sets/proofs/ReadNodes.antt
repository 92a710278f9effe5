-- What a node reads is no `fdep`.
use Rattle.std.specs.Prelude.{◌≡◌, ℕ, false, List, [], ◌∷◌, Option, Some, None, IfSome, All, filter_map}
use Rattle.std.specs.List.{cons_option}
use Rattle.std.proofs.lemmas.Bool.{cond_both, ltb-true}
use Rattle.std.proofs.lemmas.List.Elements.{All-nil, All-cons, All-head, All-tail}
use Rattle.unit_sets.specs.UnitList.{among}
use Rattle.fault_words.specs.declared.kind.GateKind.{GateKind}
use Rattle.fault_words.specs.declared.kind.GateKind.TheVariants.{Fdep}
use Rattle.fault_definitions.specs.Tree.{FaultTree, IsNodeOf, gates, inputs_of, is_above_units, is_fdep, unit_count}
use Rattle.fault_definitions.specs.Trigger.{below, trigger_by, triggers_of}
use Rattle.fault_definitions.specs.WellFormed.{IsSoundGate, IsTree}
use Rattle.fault_definitions.proofs.RankLaws.{gate_sound}

module _ (tree : FaultTree) where
  -- a node that a gate or a unit may read
  abbrev IsRead : ℕ → Type 0
  IsRead node = is_fdep tree node ≡ false

  trigger_is_read : (unit : ℕ) (gate : GateKind × List ℕ) → All IsRead gate.1 → IfSome (trigger_by unit gate) IsRead
  trigger_is_read unit (Fdep, []) read = tt
  trigger_is_read unit (Fdep, trigger ∷ dependents) read =
      cond_both (among dependents unit) (Some trigger) None (λ found. IfSome found IsRead)
      (λ _. All-head IsRead trigger dependents read) (λ _. tt)
  trigger_is_read unit (_, inputs) read = tt

  with_trigger : (found : Option ℕ) (others : List ℕ) → IfSome found IsRead → All IsRead others
      → All IsRead (cons_option found others)
  with_trigger None others read all = all
  with_trigger (Some trigger) others read all = All-cons IsRead trigger others read all

  triggers_read : (unit : ℕ) (some_gates : List (GateKind × List ℕ)) → All (IsSoundGate tree) some_gates
      → All IsRead (filter_map (trigger_by unit) some_gates)
  triggers_read unit [] sound = All-nil IsRead
  triggers_read unit (gate ∷ others) sound =
      with_trigger (trigger_by unit gate) (filter_map (trigger_by unit) others)
      (trigger_is_read unit gate (All-head (IsSoundGate tree) gate others sound).read)
      (triggers_read unit others (All-tail (IsSoundGate tree) gate others sound))

pub below_are_read : {tree : FaultTree} → IsTree tree → (node : ℕ) → IsNodeOf tree node
    → All (λ n. is_fdep tree n ≡ false) (below tree node)
below_are_read {tree} kept node is_node =
    cond_both (is_above_units tree node) (inputs_of tree node) (triggers_of tree node) (All (IsRead tree))
    (λ above. (gate_sound kept node (ltb-true (unit_count tree) node above, is_node.1)).read)
    (λ _. triggers_read tree node (gates tree) kept.gates_sound)
