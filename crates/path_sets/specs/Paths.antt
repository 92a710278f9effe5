-- Path sets: units that keep the top event from failing whatever else fails. They are dual to cuts.
use Rattle.std.specs.Prelude.{ℕ, ◌<◌, Bool, not, List, All, Contains}
use Rattle.std.specs.List.{list_any}
use Rattle.unit_sets.specs.UnitList.{among}
use Rattle.unit_sets.specs.CutOrder.{IsInCutOrder, weight, weight_limit}
use Rattle.fault_definitions.specs.{Reading.reads, Tree.FaultTree}
use Rattle.tree_families.specs.Least.{IsLeastSet, IsLeastFamily}

-- whether a node stays in service where these units do, and all others have failed
abbrev pub serves : FaultTree → (ℕ → Bool) → ℕ → Bool
serves tree units node = not (reads tree (λ unit. not (units unit)) node)

-- a path set: the top event does not fail where all other units have failed
abbrev pub is_path : FaultTree → List ℕ → Bool
is_path tree set = serves tree (among set) tree.top

-- the set keeps the node in service, and no longer does without any one of its members
abbrev pub IsMinimalPathFor : FaultTree → ℕ → List ℕ → Type 0
IsMinimalPathFor tree node set = IsLeastSet tree (λ units. serves tree units node) set

-- a minimal path set: it is a path set, and no longer one without any one of its members
abbrev pub IsMinimalPath : FaultTree → List ℕ → Type 0
IsMinimalPath tree set = IsMinimalPathFor tree tree.top set

-- the path list: exactly the minimal path sets, each once, in the order of cut lists
pub record IsPathList (tree : FaultTree) (paths : List (List ℕ)) : Type 0 where
  pub sound : All (IsMinimalPath tree) paths
  pub complete : (set : List ℕ) → IsMinimalPath tree set → Contains paths set
  pub ordered : IsInCutOrder paths

-- the path family of a node: exactly the minimal sets that keep it in service, each once, in lexicographic order
abbrev pub IsPathFamily : FaultTree → ℕ → List (List ℕ) → Type 0
IsPathFamily tree node family = IsLeastFamily tree (λ units. serves tree units node) family

-- the tree has a path list, and it weighs more than a list may
abbrev pub HasHeavyPathList : FaultTree → Type 0
HasHeavyPathList tree = (paths : List (List ℕ)) × IsPathList tree paths × (weight_limit < weight paths)

-- some unit is a member of both
abbrev pub meets : List ℕ → List ℕ → Bool
meets out path = list_any (among out) path

-- no member of the path is out
abbrev pub is_whole : List ℕ → List ℕ → Bool
is_whole out path = not (meets out path)
