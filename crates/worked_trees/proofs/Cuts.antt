-- The members of a cut list's sets are units of the tree.
use Rattle.std.proofs.Common.{ℕ, ◌+◌, ◌<◌, List, All, arith}
use Rattle.std.proofs.lemmas.List.Elements.{All-weaker}
use Rattle.fault_definitions.specs.Cut.{IsMinimalCut, IsCutList}
use Rattle.fault_definitions.specs.Tree.{FaultTree, IsUnitOf, unit_count}

pub are_of_units : {tree : FaultTree} (cuts : List (List ℕ)) → IsCutList tree cuts → All (All (IsUnitOf tree)) cuts
are_of_units {tree} cuts list =
    All-weaker (IsMinimalCut tree) (All (IsUnitOf tree)) (λ set minimal. minimal.units) cuts list.sound

pub are_known : (tree : FaultTree) (cuts : List (List ℕ)) → IsCutList tree cuts
    → All (All (λ (unit : ℕ). unit < unit_count tree + 1)) cuts
are_known tree cuts list =
    All-weaker (All (IsUnitOf tree)) (All (λ (unit : ℕ). unit < unit_count tree + 1))
    (λ set units. All-weaker (IsUnitOf tree) (λ (unit : ℕ). unit < unit_count tree + 1)
    (λ unit known. let reach = known.1 in omega arith) set units) cuts (are_of_units cuts list)
