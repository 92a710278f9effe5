-- Two small trees, and the cut families of their gates.
use Rattle.std.specs.Prelude.{[], ◌∷◌}
use Rattle.fault_words.specs.declared.kind.GateKind.TheVariants.{And, Or, Votes}
use Rattle.fault_definitions.specs.Tree.{FaultTree}

-- the units 1 to 3, and a gate that fails with two of them
abbrev pub two_of_three : FaultTree
two_of_three = record {
  names = (65 ∷ []) ∷ (66 ∷ []) ∷ (67 ∷ []) ∷ (84 ∷ []) ∷ [];
  kinds = Votes 2 3 ∷ [];
  inputs = (1 ∷ 2 ∷ 3 ∷ []) ∷ [];
  attributes = [] ∷ [] ∷ [] ∷ [];
  top = 4;
  ranks = 0 ∷ 0 ∷ 0 ∷ 1 ∷ [];
}

-- the units 1 and 2, the top event 3, which fails with 1 or 4, and the gate 4, which fails with 1 and 2
abbrev pub superset_absorbed : FaultTree
superset_absorbed = record {
  names = (65 ∷ []) ∷ (66 ∷ []) ∷ (84 ∷ []) ∷ (71 ∷ []) ∷ [];
  kinds = Or ∷ And ∷ [];
  inputs = (1 ∷ 4 ∷ []) ∷ (1 ∷ 2 ∷ []) ∷ [];
  attributes = [] ∷ [] ∷ [];
  top = 3;
  ranks = 0 ∷ 0 ∷ 2 ∷ 1 ∷ [];
}
