-- How the steps of a tree change as the order grows: what has failed stays failed, and what fails now fails at the last
-- place.
use Rattle.std.specs.Prelude.{◌≡◌, ℕ, zero, suc, ◌+◌, ◌≤◌, Bool, true, false, ◌==◌, List, [], ◌∷◌, ◌++◌, length, Some}
use Rattle.std.specs.Prelude.{None, if◌then◌else◌}
use Rattle.std.proofs.Common.{arith}
use Rattle.fault_definitions.specs.Tree.{FaultTree, kind_of, inputs_of, is_above_units}
use Rattle.fault_definitions.specs.{Trigger.triggers_of, Rank.within, Rank.by_rank}
use Rattle.fault_definitions.specs.Step.{Step, never, earlier, earliest, gate_step, place_from, place, node_step, step}
use Rattle.replay_semantics.specs.Growth.{Grows, AllGrow}
use Rattle.replay_semantics.proofs.GrowthLemmas.{grows-choice, grows-same, grows-at_most, earlier-grows}
use Rattle.replay_semantics.proofs.GrowthLemmas.{earliest-grows}
use Rattle.replay_semantics.proofs.GateGrowth.{gate_step-grows}

-- ---- places

place_from-grows : (first last : ℕ) (order : List ℕ) (unit : ℕ) → last ≡ first + length order → (node : ℕ)
    → Grows last (place_from first order node) (place_from first (order ++ unit ∷ []) node)
place_from-grows first last [] unit is node = at_end (unit == node)
  where
    at_end : (test : Bool) → Grows last None (if test then Some first else never)
    at_end true = omega (arith, is)
    at_end false = tt
place_from-grows first last (failed ∷ order) unit is node =
    grows-choice last (failed == node) (Some first) (place_from (suc first) order node) (Some first)
    (place_from (suc first) (order ++ unit ∷ []) node)
    (grows-same last first (omega (arith, is)))
    (place_from-grows (suc first) last order unit (omega (arith, is)) node)

pub place-grows : (order : List ℕ) (unit : ℕ) → AllGrow (suc (length order)) (place order) (place (order ++ unit ∷ []))
place-grows order unit = record { each = place_from-grows 1 (suc (length order)) order unit (omega arith) }

place_from-stays : (first last : ℕ) (order : List ℕ) → first + length order ≤ suc last → (node : ℕ)
    → Grows last (place_from first order node) (place_from first order node)
place_from-stays first last [] is node = tt
place_from-stays first last (failed ∷ order) is node =
    grows-choice last (failed == node) (Some first) (place_from (suc first) order node) (Some first)
    (place_from (suc first) order node)
    (grows-same last first (omega (arith, is)))
    (place_from-stays (suc first) last order (omega (arith, is)) node)

-- every place of an order is within its length
pub place-stays : (order : List ℕ) (last : ℕ) → length order ≤ last → AllGrow last (place order) (place order)
place-stays order last long = record { each = place_from-stays 1 last order (omega arith) }

-- ---- steps

module _ (tree : FaultTree) {last : ℕ} (order order' : List ℕ)
    (places : AllGrow last (place order) (place order')) where
  pub node_step-grows : {f g : ℕ → Step} → AllGrow last f g → (node : ℕ)
      → Grows last (node_step tree order f node) (node_step tree order' g node)
  node_step-grows {f} {g} grow node =
      grows-choice last (is_above_units tree node) (gate_step (kind_of tree node) f (inputs_of tree node))
      (earlier (place order node) (earliest f (triggers_of tree node)))
      (gate_step (kind_of tree node) g (inputs_of tree node))
      (earlier (place order' node) (earliest g (triggers_of tree node)))
      (gate_step-grows grow (kind_of tree node) (inputs_of tree node))
      (earlier-grows last (place order node) (place order' node) (earliest f (triggers_of tree node))
      (earliest g (triggers_of tree node)) (places.each node) (earliest-grows grow (triggers_of tree node)))

  within-grows : (depth : ℕ) → AllGrow last (within never (node_step tree order) depth)
      (within never (node_step tree order') depth)
  within-grows zero = record { each = λ node. tt }
  within-grows (suc depth) = record { each = node_step-grows (within-grows depth) }

  steps_grow : AllGrow last (step tree order) (step tree order')
  unfolding step by_rank
  steps_grow = record { each = λ node. (within-grows (suc _)).each node }

-- One unit more at the end of an order: each step stays, or the node fails now.
pub step-grows : (tree : FaultTree) (order : List ℕ) (unit : ℕ)
    → AllGrow (suc (length order)) (step tree order) (step tree (order ++ unit ∷ []))
step-grows tree order unit = steps_grow tree order (order ++ unit ∷ []) (place-grows order unit)

-- no step is beyond the order's last place
pub step-at_most : (tree : FaultTree) (order : List ℕ) (node number : ℕ) → step tree order node ≡ Some number
    → number ≤ length order
step-at_most tree order node number is =
    grows-at_most (length order) number (step tree order node) (step tree order node)
    ((steps_grow tree order order (place-stays order (length order) (omega arith))).each node) is
