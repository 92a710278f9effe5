-- Cuts, minimal cuts and the cut list, after IEC 61025.
use Rattle.std.specs.Prelude.{◌≡◌, ℕ, Bool, true, false, List, All, Contains}
use Rattle.unit_sets.specs.UnitList.{among, without_unit, IsRising}
use Rattle.unit_sets.specs.CutOrder.{IsInCutOrder}
use Rattle.fault_definitions.specs.{Tree.FaultTree, Tree.IsUnitOf, Reading.reads}

-- the set fails the node, and no longer does without any one of its members
pub record IsMinimalFor (tree : FaultTree) (node : ℕ) (set : List ℕ) : Type 0 where
  pub rising : IsRising set
  pub units : All (IsUnitOf tree) set
  pub fails : reads tree (among set) node ≡ true
  pub needed : All (λ member. reads tree (among (without_unit member set)) node ≡ false) set

-- a cut fails the top event
abbrev pub is_cut : FaultTree → List ℕ → Bool
is_cut tree set = reads tree (among set) tree.top

-- a minimal cut set: it fails the top event, and no longer does without any one of its members
abbrev pub IsMinimalCut : FaultTree → List ℕ → Type 0
IsMinimalCut tree set = IsMinimalFor tree tree.top set

-- the cut list: exactly the minimal cuts, each once, by size and then lexicographically by unit numbers
pub record IsCutList (tree : FaultTree) (cuts : List (List ℕ)) : Type 0 where
  pub sound : All (IsMinimalCut tree) cuts
  pub complete : (set : List ℕ) → IsMinimalCut tree set → Contains cuts set
  pub ordered : IsInCutOrder cuts
