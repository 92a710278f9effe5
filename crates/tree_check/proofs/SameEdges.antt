-- The graph leads where the tree leads.
use Rattle.std.proofs.Common.{◌≡◌, ℕ, ◌+◌, ◌-◌, Bool, true, false, List, [], ◌∷◌, map, refl, sym, ap, ◌∙◌, inl, inr}
use Rattle.std.proofs.Common.{arith}
use Rattle.std.specs.Prelude.{zip, filter_map, slice_index_or}
use Rattle.std.specs.List.{cons_option}
use Rattle.std.proofs.lemmas.List.{get_or_append_left, get_or-append_right, length-map}
use Rattle.std.proofs.lemmas.Bool.{cases_lt, cond-true, cond-false, lt-ltb, le-ltb}
use Rattle.unit_sets.specs.UnitList.{among}
use Rattle.fault_words.specs.{declared.kind.GateKind.GateKind, declared.kind.GateKind.TheVariants.And}
use Rattle.fault_definitions.specs.Tree.{FaultTree, is_above_units, inputs_of, unit_count}
use Rattle.fault_definitions.specs.Trigger.{trigger_by, triggers_of, below}
use Rattle.graph_cycles.specs.Graph.{successors, Leads}
use Rattle.graph_cycles.specs.Graph.Leads.{edge as graph_edge, way as graph_way}
use Rattle.galileo_tree.specs.declared.raw.Statement.{Statement}
use Rattle.tree_check.specs.{declared.numbered.Numbered.Numbered, declared.numbered.NumberedGate.NumberedGate}
use Rattle.tree_check.specs.{Said.basics, TreeOf.LeadsTo.edge, TreeOf.LeadsTo.way}
use Rattle.tree_check.specs.Numbered.{kinds, kept_inputs, kept_by, drops_fdeps, is_fdep_in, numbered_gates}
use Rattle.tree_check.specs.Numbered.{unit_total}
use Rattle.tree_check.specs.TreeOf.{numbers, input_lists, tree_of, LeadsTo}
use Rattle.tree_check.specs.Triggers.{row_at, written_gate, IsGraphOf}

-- ---- triggers by the gates as written and as kept

trigger_kept : (unit : ℕ) (is_fdep : ℕ → Bool) (kind : GateKind) (inputs : List Numbered)
    → trigger_by unit (kind, numbers (kept_by (drops_fdeps kind) is_fdep inputs))
    ≡ trigger_by unit (kind, numbers inputs)
trigger_kept unit is_fdep And inputs = refl
trigger_kept unit is_fdep _ inputs = refl

-- the gates of the tree, beside their kept inputs
triggers_kept : (units : ℕ) (all : List GateKind) (unit : ℕ) (gates : List NumberedGate)
    → filter_map (trigger_by unit) (zip (map (λ gate. gate.kind) gates)
    (map (λ gate. numbers (kept_inputs units all gate)) gates))
    ≡ filter_map (trigger_by unit) (map written_gate gates)
triggers_kept units all unit [] = refl
triggers_kept units all unit (gate ∷ gates) =
    let here = trigger_kept unit (is_fdep_in units all) gate.kind gate.inputs in
    let rest = triggers_kept units all unit gates in
    ap (λ t. cons_option t (filter_map (trigger_by unit)
    (zip (map (λ (g : NumberedGate). g.kind) gates)
    (map (λ (g : NumberedGate). numbers (kept_inputs units all g)) gates)))) here
    ∙ ap (λ ts. cons_option (trigger_by unit (written_gate gate)) ts) rest

module _ (statements : List Statement) (ranks : List ℕ) {graph : List (List ℕ)}
    (g : IsGraphOf (unit_total statements) (numbered_gates statements) graph) where
  abbrev tree : FaultTree
  tree = tree_of statements ranks

  units_are : unit_count (tree_of statements ranks) ≡ unit_total statements
  units_are = length-map (basics statements) (λ basic. map (λ raw. raw.attribute) basic.attributes)

  -- an edge of the graph is one of the tree
  pub same_edges : (x y : ℕ) → among (successors graph x) y ≡ among (below (tree_of statements ranks) x) y
  same_edges x y = elim (cases_lt (unit_total statements) x) [
    | inl above ↦
        let is : is_above_units (tree_of statements ranks) x ≡ true =
        lt-ltb (unit_count (tree_of statements ranks)) x (omega (arith, units_are)) in
        let place : x - unit_count (tree_of statements ranks) - 1 ≡ x - (unit_total statements + 1) =
        omega (arith, units_are) in
        let below_is : below (tree_of statements ranks) x ≡ inputs_of (tree_of statements ranks) x =
        cond-true (is_above_units (tree_of statements ranks) x) (inputs_of (tree_of statements ranks) x)
        (triggers_of (tree_of statements ranks) x) is in
        let row : successors graph x ≡ slice_index_or (input_lists (unit_total statements) (numbered_gates statements))
        (x - (unit_total statements + 1)) [] =
        ap (λ gr. slice_index_or gr x []) g.is ∙ get_or-append_right g.rows
        (input_lists (unit_total statements) (numbered_gates statements)) (unit_total statements + 1) x []
        g.triggers.all (omega arith) in
        ap (λ r. among r y) (row ∙ (ap (λ p. slice_index_or
        (input_lists (unit_total statements) (numbered_gates statements)) p []) (sym place) ∙ sym below_is))
    | inr unit ↦
        let is : is_above_units (tree_of statements ranks) x ≡ false =
        le-ltb (unit_count (tree_of statements ranks)) x (omega (arith, units_are)) in
        let below_is : below (tree_of statements ranks) x ≡ triggers_of (tree_of statements ranks) x =
        cond-false (is_above_units (tree_of statements ranks) x) (inputs_of (tree_of statements ranks) x)
        (triggers_of (tree_of statements ranks) x) is in
        let row : successors graph x ≡ row_at g.rows x =
        ap (λ gr. slice_index_or gr x []) g.is ∙ get_or_append_left g.rows
        (input_lists (unit_total statements) (numbered_gates statements)) [] x (omega (arith, g.triggers.all)) in
        ap (λ r. among r y) row ∙ (g.triggers.triggers x y
        ∙ ap (λ ts. among ts y) (sym (triggers_kept (unit_total statements) (kinds (numbered_gates statements)) x
        (numbered_gates statements)) ∙ sym below_is))
  ]

  pub to_graph : {x y : ℕ} → LeadsTo (tree_of statements ranks) x y → Leads graph x y
  to_graph {x} {y} (edge e) = graph_edge (same_edges x y ∙ e)
  to_graph {x} (way {y = y} e w) = graph_way (same_edges x y ∙ e) (to_graph w)

  pub from_graph : {x y : ℕ} → Leads graph x y → LeadsTo (tree_of statements ranks) x y
  from_graph {x} {y} (graph_edge e) = edge (sym (same_edges x y) ∙ e)
  from_graph {x} (graph_way {y = y} e w) = way (sym (same_edges x y) ∙ e) (from_graph w)
