-- Lemmas on the table of steps and on the nodes that have failed.
use Rattle.std.proofs.Common.{◌≡◌, ◌≢◌, ◌⊎◌, ℕ, suc, ◌<◌, ◌≤◌, true, false, List, [], ◌∷◌, ◌++◌, length, set, All, eqb}
use Rattle.std.proofs.Common.{Some, is_some, arith, ap, ◌∙◌, inl, inr, get_or-set_same, get_or-set_other, length-set}
use Rattle.std.proofs.Common.{length-append}
use Rattle.std.specs.List.{list_any}
use Rattle.std.proofs.lemmas.Bool.{or_cases, eqb-true, cases_eq, cases_lt}
use Rattle.std.proofs.{lemmas.Bool.Decides.Decides-eqb, lemmas.List.get_or_past, lemmas.List.Kept.AllPairs-cons}
use Rattle.std.proofs.{lemmas.List.Quantifiers.all_pairs_push, lemmas.Map.Made.IsDistinct-from_AllPairs}
use Rattle.std.proofs.{lemmas.Map.Steps.length-le_from_distinct_below}
use Rattle.std.proofs.lemmas.List.Elements.{All-head, All-tail, All-cons, All-push, All-weaker}
use Rattle.fault_model.specs.Order.{AreDistinct}
use Rattle.fault_definitions.specs.Tree.{FaultTree, IsNodeOf, node_count}
use Rattle.fault_definitions.specs.Step.{Step, never}
use Rattle.replay_semantics.specs.Table.{step_in, has_step, IsTableFor}
use Rattle.replay_semantics.specs.Spread.{AreFailed}

-- ---- numbers from 1 to n, each once, are at most n

below_each : (n : ℕ) (xs : List ℕ) → All (λ x. x < n) xs → (q : ℕ) → list_any (eqb q) xs ≡ true → q < n
below_each n [] below q h = absurd cc
below_each n (x ∷ xs) below q h =
    elim (or_cases (eqb q x) (list_any (eqb q) xs) h) [
      | inl here ↦ let e : q ≡ x =
          eqb-true q x here in let low : x < n = All-head (λ y. y < n) x xs below in omega arith
      | inr later ↦ below_each n xs (All-tail (λ y. y < n) x xs below) q later
    ]

pub few_distinct : (n : ℕ) (xs : List ℕ) → AreDistinct xs → All (λ x. (1 ≤ x) × (x ≤ n)) xs → length xs ≤ n
few_distinct n xs distinct within =
    let differ : AreDistinct (0 ∷ xs) =
    AllPairs-cons (λ a b. a ≢ b) 0 xs (All-weaker (λ x. (1 ≤ x) × (x ≤ n)) (λ x. 0 ≢ x)
    (λ x h e. absurd (omega (arith, h.0, e))) xs within) distinct in
    let low : All (λ x. x < suc n) (0 ∷ xs) =
    All-cons (λ x. x < suc n) 0 xs (omega arith) (All-weaker (λ x. (1 ≤ x) × (x ≤ n)) (λ x. x < suc n)
    (λ x h. omega (arith, h.1)) xs within) in
    omega (
      arith,
      length-le_from_distinct_below (0 ∷ xs) (suc n) (IsDistinct-from_AllPairs Decides-eqb (0 ∷ xs) differ)
          (below_each (suc n) (0 ∷ xs) low),
    )

-- ---- one node is given a step

pub step_in-set_same : (steps : List Step) (node : ℕ) (at : Step) → node < length steps
    → step_in (set steps node at) node ≡ at
step_in-set_same steps node at short = get_or-set_same steps node at never short

pub step_in-set_other : (steps : List Step) {node other : ℕ} (at : Step) → other ≢ node
    → step_in (set steps node at) other ≡ step_in steps other
step_in-set_other steps {node} {other} at apart = get_or-set_other steps node other at never apart

-- a number is a node's, or it has no step
pub node_or_never : (tree : FaultTree) (steps : List Step) → IsTableFor tree steps → step_in steps 0 ≡ never
    → (node : ℕ) → IsNodeOf tree node ⊎ (step_in steps node ≡ never)
node_or_never tree steps table spare node =
    elim (cases_eq node 0) [
      | inl zero ↦ inr (ap (step_in steps) zero ∙ spare)
      | inr above ↦ elim (cases_lt (node_count tree) node) [
        | inl past ↦ inr (get_or_past steps node never (omega (arith, table)))
        | inr within ↦ inl (omega arith, within)
      ]
    ]

module _ {tree : FaultTree} {steps : List Step} {log : List ℕ} (kept : AreFailed tree steps log) (node : ℕ)
    (is_node : IsNodeOf tree node) (fresh : has_step steps node ≡ false) where
  -- a node without a step is none of the failed ones
  pub apart_from_failed : All (λ failed. failed ≢ node) log
  apart_from_failed =
      All-weaker (λ failed. has_step steps failed ≡ true) (λ failed. failed ≢ node)
      (λ failed has same. let e : has_step steps failed ≡ has_step steps node = ap (has_step steps) same in
      absurd cc) log kept.failed

  pub distinct_more : AreDistinct (log ++ node ∷ [])
  distinct_more = all_pairs_push (λ a b. a ≢ b) log node kept.distinct (λ k d short. apart_from_failed k d short)

  -- there is room for one more
  pub room_for_more : length log < node_count tree
  room_for_more =
      let few =
      few_distinct (node_count tree) (log ++ node ∷ []) distinct_more
      (All-push (IsNodeOf tree) log node kept.nodes is_node) in
      omega (arith, few, length-append log (node ∷ []))

  still_failed : (number failed : ℕ) → has_step steps failed ≡ true
      → has_step (set steps node (Some number)) failed ≡ true
  still_failed number failed has =
      elim (cases_eq failed node) [
        | inl same ↦ let e : has_step steps failed ≡ has_step steps node = ap (has_step steps) same in absurd cc
        | inr apart ↦ ap is_some (step_in-set_other steps (Some number) apart) ∙ has
      ]

  pub failed_more : (number : ℕ) → AreFailed tree (set steps node (Some number)) (log ++ node ∷ [])
  failed_more number =
      let reach : node < length steps = omega (arith, kept.table, is_node.1) in
      let zero_apart : 0 ≢ node = λ e. absurd (omega (arith, e, is_node.0)) in
      record {
        table = length-set steps node (Some number) ∙ kept.table;
        spare = step_in-set_other steps (Some number) zero_apart ∙ kept.spare;
        nodes = All-push (IsNodeOf tree) log node kept.nodes is_node;
        distinct = distinct_more;
        failed = All-push (λ failed. has_step (set steps node (Some number)) failed ≡ true) log node
            (All-weaker (λ failed. has_step steps failed ≡ true)
            (λ failed. has_step (set steps node (Some number)) failed ≡ true) (still_failed number) log kept.failed)
            (ap is_some (step_in-set_same steps node (Some number) reach));
      }
