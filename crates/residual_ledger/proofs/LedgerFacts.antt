-- What follows from the definitions of `specs/Ledger`.
use Rattle.std.specs.Prelude.{ℕ, ◌+◌, ◌≤◌, List, [], ◌∷◌, length}
use Rattle.std.proofs.{Common.arith, lemmas.List.Sums.sum_by-cons}
use Rattle.unit_sets.specs.CutOrder.{weight}

-- there are no more cut sets than the list may weigh
pub few_cuts : (cuts : List (List ℕ)) → length cuts ≤ weight cuts
few_cuts [] = omega arith
few_cuts (cut ∷ cuts) = omega (arith, few_cuts cuts, sum_by-cons (λ (c : List ℕ). 1 + length c) cut cuts)
