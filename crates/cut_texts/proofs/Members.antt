-- The members of cut sets.
use Rattle.std.specs.Prelude.{◌≡◌, ℕ, ◌+◌, List, [], ◌∷◌, length}
use Rattle.std.proofs.{Common.refl, Common.arith, lemmas.List.Sums.sum_by-cons}
use Rattle.unit_sets.specs.CutOrder.{weight}
use Rattle.cut_texts.specs.DiagramText.{member_count}

-- 1 for each set and 1 for each member
pub weight_parts : (cuts : List (List ℕ)) → weight cuts ≡ length cuts + member_count cuts
weight_parts [] = refl
weight_parts (cut ∷ cuts) =
    let more = weight_parts cuts in
    omega (
      arith,
      more,
      sum_by-cons (λ (c : List ℕ). 1 + length c) cut cuts,
      sum_by-cons
          (λ (c : List ℕ). length c) cut cuts,
    )
