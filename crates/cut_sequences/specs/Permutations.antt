-- The orders of some units, in lexicographic order where the units rise.
use Rattle.std.specs.Prelude.{◌≡◌, ℕ, suc, zero, List, [], ◌∷◌, length, map}
use Rattle.std.specs.List.{flat_map}
use Rattle.unit_sets.specs.UnitList.{among}
use Rattle.fault_model.specs.Order.{AreDistinct}

-- each member of a list, with the others as they stand
abbrev pub picks : List ℕ → List (ℕ × List ℕ)
picks [] = []
picks (unit ∷ units) = (unit, units) ∷ map (λ (pick : ℕ × List ℕ). (pick.0, unit ∷ pick.1)) (picks units)

-- each member in turn in front of the orders of the others, which are fewer by one
abbrev pub arrangements : ℕ → List ℕ → List (List ℕ)
arrangements zero units = [] ∷ []
arrangements (suc others) units =
    flat_map (λ (pick : ℕ × List ℕ). map (λ (order : List ℕ). pick.0 ∷ order) (arrangements others pick.1))
    (picks units)

-- all orders of some units
abbrev pub permutations : List ℕ → List (List ℕ)
permutations units = arrangements (length units) units

-- an order of the units of a set: it has those units, each once
pub record IsOrderOf (set order : List ℕ) : Type 0 where
  pub distinct : AreDistinct order
  pub members : (unit : ℕ) → among order unit ≡ among set unit
