-- The cut set at a place, and the residuals of the first cut sets.
use Rattle.std.proofs.Common.{◌≡◌, ℕ, ◌+◌, ◌<◌, ◌≤◌, ◌^◌, List, [], ◌∷◌, ◌++◌, length, take, get_or}
use Rattle.std.proofs.Common.{slice_get, Some, ◌∙◌, ap, arith}
use Rattle.std.proofs.{lemmas.List.map_more, lemmas.List.Sums.get_or-le-sum_by, lemmas.Option.get_or_from_slice_get}
use Rattle.unit_sets.specs.CutOrder.{IsOrderedCuts, weight}
use Rattle.residual_ledger.specs.{Residual.residual, Residual.cut_at, Kept.residuals}
use Rattle.residual_ledger.proofs.ResidualLemmas.{residual-nobody}

pub cut_at-is : (cuts : List (List ℕ)) (place : ℕ) (cut : List ℕ) → slice_get cuts place ≡ Some cut
    → cut_at cuts place ≡ cut
cut_at-is cuts place cut at = get_or_from_slice_get cuts place cut [] at

-- a cut set of a list has no more members than the list weighs
pub cut_fits : (cuts : List (List ℕ)) (place : ℕ) (cut : List ℕ) → IsOrderedCuts cuts → place < length cuts
    → slice_get cuts place ≡ Some cut → length cut < 2 ^ 31
cut_fits cuts place cut ordered short at =
    let member : 1 + length (get_or cuts place []) ≤ weight cuts =
    get_or-le-sum_by (λ (c : List ℕ). 1 + length c) cuts place [] short in
    let same : length (get_or cuts place []) ≡ length cut = ap length (cut_at-is cuts place cut at) in
    omega (arith, ordered.within)

-- one cut set more, while no unit is out
pub residuals-more : (cuts : List (List ℕ)) (place : ℕ) (cut : List ℕ) → place < length cuts
    → slice_get cuts place ≡ Some cut → residuals [] (take (place + 1) cuts)
    ≡ residuals [] (take place cuts) ++ length cut ∷ []
residuals-more cuts place cut short at =
    map_more (residual []) cuts place [] short
    ∙ ap (λ (n : ℕ). residuals [] (take place cuts) ++ n ∷ [])
    (residual-nobody (get_or cuts place []) ∙ ap length (cut_at-is cuts place cut at))
