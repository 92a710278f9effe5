-- Successors that are nodes.
use Rattle.std.proofs.Common.{◌≡◌, ℕ, ◌+◌, ◌<◌, true, false, List, [], ◌∷◌, length, IsTrue, refl, subst, inl, inr}
use Rattle.std.proofs.Common.{arith}
use Rattle.std.specs.Prelude.{nat_lt, ◌==◌}
use Rattle.std.specs.List.{list_all}
use Rattle.std.proofs.lemmas.Bool.{cases_lt, or_cases, or_left, or_right, and_parts, eq-eqb, eqb-true, ltb-true, lt-ltb}
use Rattle.graph_cycles.specs.Graph.{has, successors}

pub below_all : (row : List ℕ) (n : ℕ) → list_all (λ node. nat_lt node n) row ≡ true → (y : ℕ) → IsTrue (has row y)
    → y < n
below_all [] n h y found = absurd (let never : false ≡ true = found in cc)
below_all (node ∷ row) n h y found =
    let parts : (nat_lt node n ≡ true) × (list_all (λ k. nat_lt k n) row ≡ true) =
    and_parts (nat_lt node n) (list_all (λ k. nat_lt k n) row) h in
    elim (or_cases (node == y) (has row y) found) [
      | inl here ↦ let same : node ≡ y = eqb-true node y here in omega (arith, ltb-true node n parts.0)
      | inr later ↦ below_all row n parts.1 y later
    ]

pub all_below : (row : List ℕ) (n : ℕ) → ((y : ℕ) → IsTrue (has row y) → y < n)
    → list_all (λ node. nat_lt node n) row ≡ true
all_below [] n h = refl
all_below (node ∷ row) n h =
    let first : nat_lt node n ≡ true =
    lt-ltb node n (h node (or_left (node == node) (has row node) (eq-eqb node node refl))) in
    let rest : list_all (λ k. nat_lt k n) row ≡ true =
    all_below row n (λ y found. h y (or_right (node == y) (has row y) found)) in
    cc

-- the successors of the nodes before one are nodes
abbrev pub AreNodesBefore : List (List ℕ) → ℕ → Type 0
AreNodesBefore graph n = (x y : ℕ) → x < n → IsTrue (has (successors graph x) y) → y < length graph

pub AreNodesBefore-more : (graph : List (List ℕ)) (n : ℕ) → AreNodesBefore graph n
    → list_all (λ node. nat_lt node (length graph)) (successors graph n) ≡ true → AreNodesBefore graph (n + 1)
AreNodesBefore-more graph n before h x y l found = elim (cases_lt x n) [
  | inl earlier ↦ before x y earlier found
  | inr last ↦
      let same : x ≡ n = omega arith in
      below_all (successors graph n) (length graph) h y (subst (λ k. IsTrue (has (successors graph k) y)) same found)
]
