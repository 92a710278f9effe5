-- Ways through a graph, and where a position stands among others.
use Rattle.std.proofs.Common.{◌≡◌, ℕ, zero, suc, ◌-◌, ◌<◌, ◌≤◌, ◌⊎◌, List, [], ◌∷◌, length, get_or, sym, ap, subst, inl}
use Rattle.std.proofs.Common.{inr, arith}
use Rattle.std.proofs.lemmas.Bool.{cases_lt}
use Rattle.graph_cycles.specs.{Graph.Goes, Graph.Leads, Graph.Leads.edge}
use Rattle.graph_cycles.proofs.Surveys.{Leads_then}
use Rattle.graph_cycles.specs.Walk.{Reaches, Rises, IsOn}

pub Reaches_then : {graph : List (List ℕ)} {x y z : ℕ} → Reaches graph x y → Reaches graph y z → Reaches graph x z
Reaches_then {graph} {x} {z} a b = elim a [
  | inl same ↦ subst (λ w. Reaches graph w z) (sym same) b
  | inr v ↦ elim b [ inl same ↦ subst (λ w. Reaches graph x w) same (inr v) | inr w ↦ inr (Leads_then v w) ]
]

pub Reaches-edge : {graph : List (List ℕ)} {x y : ℕ} (z : ℕ) → Reaches graph x y → Goes graph y z → Leads graph x z
Reaches-edge {graph} z a e = elim a [
  | inl same ↦ subst (λ w. Leads graph w z) (sym same) (edge e)
  | inr v ↦ Leads_then v (edge e)
]

-- a number is found among some, or none of them is it
pub some_above_or_none : (xs : List ℕ) (j : ℕ)
    → ((c : ℕ) × (c < length xs) × (j < get_or xs c 0)) ⊎ ((c : ℕ) → c < length xs → get_or xs c 0 ≤ j)
some_above_or_none [] j = inr (λ c l. absurd (omega arith))
some_above_or_none (x ∷ xs) j =
    elim (cases_lt j x) [
      | inl above ↦ inl (0, omega arith, above)
      | inr not_above ↦ elim (some_above_or_none xs j) [
        | inl found ↦ inl (suc found.0, omega arith, found.2)
        | inr none ↦ inr (λ c l. at_front x xs j not_above none c l)
      ]
    ]
  where
    at_front : (x : ℕ) (xs : List ℕ) (j : ℕ) → x ≤ j → ((c : ℕ) → c < length xs → get_or xs c 0 ≤ j) → (c : ℕ)
        → c < suc (length xs) → get_or (x ∷ xs) c 0 ≤ j
    at_front x xs j h none zero l = h
    at_front x xs j h none (suc c) l = none c (omega arith)

-- every place that rises with the path is at most the one at its end
pub top_most : (path : List ℕ) {t i : ℕ} → Rises path → 0 < length path → get_or path (length path - 1) 0 ≡ t
    → IsOn path i → i ≤ t
top_most path rises some top (p, below, is) =
    elim (cases_lt p (length path - 1)) [
      | inl before ↦ omega (arith, rises p (length path - 1) before (omega arith))
      | inr last ↦
          let same : p ≡ length path - 1 = omega arith in
          omega (arith, ap (λ q. get_or path q 0) same)
    ]
