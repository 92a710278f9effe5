-- The steps of a tree are the one solution of the rule that each node's step is by those of what it reads.
use Rattle.std.proofs.Common.{◌≡◌, ◌≢◌, ℕ, zero, suc, ◌<◌, Bool, true, false, List, [], ◌∷◌, length, get_or}
use Rattle.std.proofs.Common.{is_some, if◌then◌else◌, arith, ap, sym, ◌∙◌}
use Rattle.std.proofs.lemmas.Bool.{or_left, or_right, cond-false}
use Rattle.unit_sets.specs.UnitList.{among}
use Rattle.unit_sets.proofs.UnitListLemmas.{among-from_Contains}
use Rattle.fault_definitions.specs.Tree.{FaultTree, IsNodeOf, kind_of, inputs_of, is_above_units, rank_of}
use Rattle.fault_definitions.specs.{Trigger.below, Trigger.triggers_of, Rank.within, Rank.by_rank, WellFormed.IsTree}
use Rattle.fault_definitions.proofs.RankLaws.{below_are_nodes, below_ranks}
use Rattle.fault_definitions.specs.Step.{Step, never, earlier, earliest, gate_step, place, node_step, step}
use Rattle.fault_definitions.proofs.StepLaws.{node_step-agree, step-node}
use Rattle.replay_semantics.specs.{Failing.node_fails, Table.step_in, Table.HoldsSteps}
use Rattle.replay_semantics.proofs.FailingLemmas.{earlier-some}

module _ {tree : FaultTree} (kept : IsTree tree) (order : List ℕ) (f : ℕ → Step)
    (fixed : (node : ℕ) → IsNodeOf tree node → f node ≡ node_step tree order f node) where
  fixed-within : (depth node : ℕ) → IsNodeOf tree node → rank_of tree node < depth
      → f node ≡ within never (node_step tree order) depth node
  fixed-within zero node is_node deep = absurd (omega arith)
  fixed-within (suc depth) node is_node deep =
      fixed node is_node
      ∙ node_step-agree tree order f (within never (node_step tree order) depth) node
      (λ k d short. fixed-within depth (get_or (below tree node) k d) (below_are_nodes kept node k d short)
      (let lower = below_ranks kept node is_node k d short in omega arith))

  pub fixed-step : (node : ℕ) → IsNodeOf tree node → f node ≡ step tree order node
  unfolding step by_rank
  fixed-step node is_node = fixed-within (suc (rank_of tree node)) node is_node (omega arith)

-- a table that holds the steps has for each node what its rule gives
pub settled_table : {tree : FaultTree} → IsTree tree → (order : List ℕ) (steps : List Step)
    → HoldsSteps tree order steps → (node : ℕ) → IsNodeOf tree node
    → step_in steps node ≡ node_step tree order (step_in steps) node
settled_table {tree} kept order steps holds node is_node =
    holds node is_node ∙ step-node tree kept order node is_node
    ∙ sym (node_step-agree tree order (step_in steps) (step tree order) node
    (λ k d short. holds (get_or (below tree node) k d) (below_are_nodes kept node k d short)))

-- ---- a node's rule

module _ (tree : FaultTree) (f : ℕ → Step) (node : ℕ) where
  -- a node goes by its own place alone
  pub node_step-place : (order other : List ℕ) → place order node ≡ place other node
      → node_step tree order f node ≡ node_step tree other f node
  node_step-place order other same =
      ap (λ (at : Step). if is_above_units tree node then gate_step (kind_of tree node) f (inputs_of tree node)
      else earlier at (earliest f (triggers_of tree node))) same

  choice_some : (above : Bool) (gate own triggered : Step) → (if above then is_some gate else is_some triggered) ≡ true
      → is_some (if above then gate else earlier own triggered) ≡ true
  choice_some true gate own triggered h = h
  choice_some false gate own triggered h = earlier-some own triggered ∙ or_right (is_some own) (is_some triggered) h

  pub node_step-some : (order : List ℕ) → node_fails tree f node ≡ true → is_some (node_step tree order f node) ≡ true
  node_step-some order h =
      choice_some (is_above_units tree node) (gate_step (kind_of tree node) f (inputs_of tree node)) (place order node)
      (earliest f (triggers_of tree node)) h

  -- a unit that has a place has a step
  pub node_step-placed : (order : List ℕ) → is_above_units tree node ≡ false → is_some (place order node) ≡ true
      → is_some (node_step tree order f node) ≡ true
  node_step-placed order unit placed =
      ap is_some (cond-false (is_above_units tree node) (gate_step (kind_of tree node) f (inputs_of tree node))
      (earlier (place order node) (earliest f (triggers_of tree node))) unit)
      ∙ earlier-some (place order node) (earliest f (triggers_of tree node))
      ∙ or_left (is_some (place order node)) _ placed

-- a node that does not read another goes by the others alone
pub node_step-others : (tree : FaultTree) (order : List ℕ) (f g : ℕ → Step) (node other : ℕ)
    → ((n : ℕ) → n ≢ other → f n ≡ g n) → among (below tree node) other ≡ false
    → node_step tree order f node ≡ node_step tree order g node
node_step-others tree order f g node other same lacks =
    node_step-agree tree order f g node
    (λ k d short. same (get_or (below tree node) k d)
    (λ e. let has : among (below tree node) other ≡ true =
    among-from_Contains (below tree node) other (k, short, at (below tree node) k d other short e) in absurd cc))
  where
    at : (xs : List ℕ) (k d x : ℕ) → k < length xs → get_or xs k d ≡ x → get_or xs k x ≡ x
    at [] k d x short e = absurd (omega arith)
    at (y ∷ ys) zero d x short e = e
    at (y ∷ ys) (suc k) d x short e = at ys k d x (omega arith) e
