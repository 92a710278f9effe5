-- Lemmas on lists of nodes, and on what a pass over them computes.
use Rattle.std.proofs.Common.{◌≡◌, ℕ, zero, suc, ◌≤◌, false, List, [], ◌∷◌, length, drop, get_or, is_some, refl, arith}
use Rattle.std.proofs.Common.{ap, sym, ◌∙◌}
use Rattle.std.specs.List.{list_any}
use Rattle.std.proofs.lemmas.Bool.{cond-false}
use Rattle.fault_definitions.specs.Tree.{FaultTree, kind_of, inputs_of, is_above_units}
use Rattle.fault_definitions.specs.Trigger.{below, triggers_of}
use Rattle.fault_definitions.specs.Step.{Step, last_step, never_falls, earliest}
use Rattle.replay_semantics.specs.Failing.{falls_not_after, gate_fails, node_fails}
use Rattle.replay_semantics.proofs.FailingLemmas.{never_falls-after, earliest-some}
use Rattle.replay_semantics.specs.Table.{step_in, has_step}

-- the last step is that of the last node
pub last_step-at : (f : ℕ → Step) (nodes : List ℕ) (last d : ℕ) → length nodes ≡ suc last
    → last_step f nodes ≡ f (get_or nodes last d)
last_step-at f [] last d is = absurd (omega arith)
last_step-at f (node ∷ []) zero d is = refl
last_step-at f (node ∷ []) (suc last) d is = absurd (omega arith)
last_step-at f (node ∷ next ∷ nodes) zero d is = absurd (omega arith)
last_step-at f (node ∷ next ∷ nodes) (suc last) d is = last_step-at f (next ∷ nodes) last d (omega arith)

-- the steps of some nodes, from the first one on
pub never_falls-first : (f : ℕ → Step) (nodes : List ℕ) {first : ℕ} → 1 ≤ length nodes → first ≡ get_or nodes 0 first
    → never_falls f nodes ≡ falls_not_after f (f first) (drop 1 nodes)
never_falls-first f [] some is = absurd (omega arith)
never_falls-first f (node ∷ nodes) some is =
    never_falls-after f node nodes ∙ ap (λ n. falls_not_after f (f n) nodes) (sym is)

-- a unit fails by its triggers
pub unit_fails : (tree : FaultTree) (steps : List Step) (node : ℕ) → is_above_units tree node ≡ false
    → list_any (has_step steps) (below tree node) ≡ node_fails tree (step_in steps) node
unit_fails tree steps node unit =
    ap (list_any (has_step steps)) (cond-false (is_above_units tree node) (inputs_of tree node) (triggers_of tree node)
    unit)
    ∙ sym (earliest-some (step_in steps) (triggers_of tree node))
    ∙ sym (cond-false (is_above_units tree node) (gate_fails (kind_of tree node) (step_in steps) (inputs_of tree node))
    (is_some (earliest (step_in steps) (triggers_of tree node))) unit)
