-- A tree is made of parts that keep the rules for some ranks: its tables and its own ranks keep them too.
use Rattle.std.proofs.Common.{◌≡◌, ℕ, ◌-◌, List, [], ◌++◌, length, drop, get_or}
use Rattle.std.proofs.Common.{sym, ◌∙◌, ap, inl, inr, arith, length-append}
use Rattle.std.specs.Prelude.{All, zip}
use Rattle.std.proofs.lemmas.Bool.{cases_lt, cond-true, cond-false, lt-ltb, le-ltb}
use Rattle.std.proofs.lemmas.List.{get_or_append_left, get_or-append_right}
use Rattle.std.proofs.lemmas.List.Elements.{All-nil, All-weaker}
use Rattle.fault_words.specs.{declared.kind.GateKind.GateKind, declared.attribute.Attribute.Attribute}
use Rattle.fault_words.specs.declared.kind.GateKind.TheVariants.{And, Or, Votes, Pand, Por, Seq, Fdep, Csp, Wsp, Hsp}
use Rattle.fault_definitions.specs.{declared.parts.TreeParts.TreeParts, Rank.IsRanked}
use lib.Seq.{drop-append_seam}
use Rattle.fault_model.specs.{declared.trigger.TriggerTable.TriggerTable, TriggerTable.IsUnitBelow}
use Rattle.fault_model.specs.{TriggerTable.IsTableOf, Ranking.AreRanks}
use Rattle.fault_definitions.specs.Tree.{FaultTree, ranked, unit_count, node_count, gates, inputs_of, is_above_units}
use Rattle.fault_definitions.specs.Tree.{IsNodeOf}
use Rattle.fault_definitions.specs.Trigger.{below, dependents_in, triggers_of}
use Rattle.fault_definitions.specs.WellFormed.{IsTree, IsSoundGate, IsSoundKind}
use Rattle.fault_model.specs.TreeTables.{HoldsLists, HoldsTables, IsFromBelow, below_in}

-- ---- the dependents of every gate are units

units_triggered : (tree : FaultTree) (gate : GateKind × List ℕ) → IsSoundGate tree gate
    → All (IsUnitBelow (unit_count tree)) (dependents_in gate)
units_triggered tree (Fdep, inputs) sound = sound.kind.units
units_triggered tree _ sound = All-nil (IsUnitBelow (unit_count tree))

pub dependents_below : (parts : TreeParts) (given : List ℕ) {units : ℕ} {attributes : List (List Attribute)}
    {kinds : List GateKind} {inputs : List (List ℕ)} → units ≡ length attributes
    → attributes ≡ parts.attributes → kinds ≡ parts.kinds → inputs ≡ parts.inputs → IsTree (ranked parts given)
    → All (λ gate. All (IsUnitBelow units) (dependents_in gate)) (zip kinds inputs)
dependents_below parts given count a k i kept =
    rw (count, a, k, i)
    (All-weaker (IsSoundGate (ranked parts given)) (λ gate. All (IsUnitBelow (length parts.attributes))
    (dependents_in gate)) (units_triggered (ranked parts given)) (gates (ranked parts given)) kept.gates_sound)

-- ---- the lists of what each node reads

module _ {tree : FaultTree} (kept : IsTree tree) (triggers : List (List ℕ)) {lists : List (List ℕ)}
    (triggers_all : length triggers ≡ unit_count tree)
    (triggers_at : (unit : ℕ) → IsUnitBelow (unit_count tree) unit
    → get_or triggers (unit - 1) [] ≡ triggers_of tree unit) (joined : lists ≡ triggers ++ tree.inputs) where
  lists_all : length lists ≡ node_count tree
  lists_all = ap length joined ∙ (let all = kept.inputs_all in omega (arith, length-append triggers tree.inputs))

  lists_below : (node : ℕ) → IsNodeOf tree node → below_in lists node ≡ below tree node
  lists_below node is_node =
      ap (λ l. get_or l (node - 1) []) joined
      ∙ elim (cases_lt (unit_count tree) node) [
        | inl gate ↦
            get_or-append_right triggers tree.inputs (unit_count tree) (node - 1) [] triggers_all (omega arith)
            ∙ ap (λ i. get_or tree.inputs i []) (let one = is_node.0 in
            let i : node - 1 - unit_count tree ≡ node - unit_count tree - 1 = omega arith in i)
            ∙ sym (cond-true (is_above_units tree node) (inputs_of tree node) (triggers_of tree node)
            (lt-ltb (unit_count tree) node gate))
        | inr unit ↦
            get_or_append_left triggers tree.inputs [] (node - 1) (omega (arith, is_node.0))
            ∙ triggers_at node (is_node.0, unit)
            ∙ sym (cond-false (is_above_units tree node) (inputs_of tree node) (triggers_of tree node)
            (le-ltb (unit_count tree) node unit))
      ]

  pub lists_held : HoldsLists tree lists
  lists_held = record { all = lists_all; each = lists_below }

-- ---- ranks

-- what a tree keeps besides its ranks does not speak of them
module _ (parts : TreeParts) (given made : List ℕ) where
  kind_kept : (kind : GateKind) (inputs : List ℕ) → IsSoundKind (ranked parts given) kind inputs
      → IsSoundKind (ranked parts made) kind inputs
  kind_kept And inputs sound = sound
  kind_kept Or inputs sound = sound
  kind_kept (Votes least of) inputs sound = sound
  kind_kept Pand inputs sound = sound
  kind_kept Por inputs sound = sound
  kind_kept Seq inputs sound = sound
  kind_kept Fdep inputs sound = record { enough = sound.enough; units = sound.units }
  kind_kept Csp inputs sound = record { enough = sound.enough; units = sound.units }
  kind_kept Wsp inputs sound = record { enough = sound.enough; units = sound.units }
  kind_kept Hsp inputs sound = record { enough = sound.enough; units = sound.units }

  gate_kept : (gate : GateKind × List ℕ) → IsSoundGate (ranked parts given) gate → IsSoundGate (ranked parts made) gate
  gate_kept gate sound = record { nodes = sound.nodes; read = sound.read; kind = kind_kept gate.0 gate.1 sound.kind }

  pub tree_kept : IsTree (ranked parts given) → length made ≡ node_count (ranked parts given)
      → IsRanked (ranked parts made) → IsTree (ranked parts made)
  tree_kept kept all rule = record {
    names_all = kept.names_all;
    inputs_all = kept.inputs_all;
    ranks_all = all;
    few_units = kept.few_units;
    few_gates = kept.few_gates;
    names_differ = kept.names_differ;
    top_is_node = kept.top_is_node;
    top_is_read = kept.top_is_read;
    gates_sound =
        All-weaker (IsSoundGate (ranked parts given)) (IsSoundGate (ranked parts made)) gate_kept
        (gates (ranked parts given)) kept.gates_sound;
    spares_differ = kept.spares_differ;
    spares_are_no_primaries = kept.spares_are_no_primaries;
    attributes_sound = kept.attributes_sound;
    ranked = rule;
  }

-- ---- the tree that is made

module _ (parts : TreeParts) (given : List ℕ) (kept : IsTree (ranked parts given)) {table : TriggerTable}
    {lists : List (List ℕ)}
    (has_table : IsTableOf (unit_count (ranked parts given)) (gates (ranked parts given)) table)
    (joined : lists ≡ table.lists.items ++ parts.inputs) where
  pub parts_lists : HoldsLists (ranked parts given) lists
  parts_lists = lists_held kept table.lists.items has_table.all has_table.triggers joined

  pub inputs_kept : drop (length parts.attributes) lists ≡ parts.inputs
  inputs_kept =
      ap (λ l. drop (length parts.attributes) l) joined
      ∙ ap (λ n. drop n (table.lists.items ++ parts.inputs)) (sym has_table.all)
      ∙ drop-append_seam table.lists.items parts.inputs

  abbrev with_inputs : List ℕ → List (List ℕ) → FaultTree
  with_inputs ranks inputs = record {
    names = parts.names;
    kinds = parts.kinds;
    inputs = inputs;
    attributes = parts.attributes;
    top = parts.top;
    ranks = ranks;
  }

  pub made_is : (ranks : List ℕ) → with_inputs ranks (drop (length parts.attributes) lists) ≡ ranked parts ranks
  made_is ranks = ap (with_inputs ranks) inputs_kept

  module _ {ranks order : List ℕ} (are_ranks : AreRanks (ranked parts given) ranks)
      (from_below : IsFromBelow (ranked parts given) order) where
    pub made_tables : HoldsTables (ranked parts ranks) lists order
    made_tables = record {
      kept = tree_kept parts given ranks kept are_ranks.all are_ranks.ranked;
      holds_lists = record { all = parts_lists.all; each = parts_lists.each };
      from_below =
          record { nodes = from_below.nodes; all = from_below.all; after_below = from_below.after_below };
    }

    -- the same of the value that the code keeps
    pub made_holds : {names : List (List ℕ)} → names ≡ parts.names → HoldsTables (record {
      names = names;
      kinds = parts.kinds;
      inputs = drop (length parts.attributes) lists;
      attributes = parts.attributes;
      top = parts.top;
      ranks = ranks;
    }) lists order
    made_holds same_names = rw (same_names, inputs_kept) made_tables

pub table_for : (parts : TreeParts) (given : List ℕ) {units : ℕ} {attributes : List (List Attribute)}
    {kinds : List GateKind} {inputs : List (List ℕ)} {table : TriggerTable} → units ≡ length attributes
    → attributes ≡ parts.attributes → kinds ≡ parts.kinds → inputs ≡ parts.inputs
    → IsTableOf units (zip kinds inputs) table → IsTableOf (unit_count (ranked parts given))
    (gates (ranked parts given)) table
table_for parts given count a k i h =
    rw (← a, ← k, ← i, ← count) h
