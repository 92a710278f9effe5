-- Cut families: a node has one, it is the minimal sets of any family that generates the node, and that
-- of the top event has the sets of the cut list.
use Rattle.std.specs.Prelude.{◌≡◌, ◌↔◌, ℕ, Bool, List, [], Contains}
use Rattle.std.proofs.Common.{refl, sym, ◌∙◌}
use Rattle.std.proofs.lemmas.Bool.{false≢true}
use Rattle.std.proofs.lemmas.List.Elements.{All-contains, All-weaker, All-contains_itself}
use Rattle.unit_sets.specs.{CutOrder.IsInCutOrder, UnitList.among}
use Rattle.fault_definitions.specs.Cut.{IsMinimalFor, IsMinimalCut, IsCutList}
use Rattle.fault_definitions.specs.{CutFamily.IsCutFamily, Reading.reads, Tree.FaultTree, WellFormed.IsTree}
use Rattle.fault_definitions.proofs.ReadingLaws.{reads-empty}
use Rattle.zdd_families.specs.Minimal.{IsMinimal}
use Rattle.tree_families.specs.{Generation.IsFamilyFor, Least.IsLeastSet, Least.IsLeastFamily}
use Rattle.tree_families.proofs.LeastFamilies.{least_family-one, least_family-minimal, IsTrueWhere-minimal}

-- ---- the minimal cuts of a node are the least sets that fail it

module _ (tree : FaultTree) (node : ℕ) where
  -- whether a set fails the node
  abbrev fails_node : (ℕ → Bool) → Bool
  fails_node within = reads tree within node

  least_set-from_cut : (set : List ℕ) → IsMinimalFor tree node set → IsLeastSet tree fails_node set
  least_set-from_cut set minimal =
      record { rising = minimal.rising; units = minimal.units; passes = minimal.fails; needed = minimal.needed }

  cut-from_least_set : (set : List ℕ) → IsLeastSet tree fails_node set → IsMinimalFor tree node set
  cut-from_least_set set least =
      record { rising = least.rising; units = least.units; fails = least.passes; needed = least.needed }

  least_family-from_cuts : (family : List (List ℕ)) → IsCutFamily tree node family
      → IsLeastFamily tree fails_node family
  least_family-from_cuts family is = record {
    sound =
        All-weaker (IsMinimalFor tree node) (IsLeastSet tree fails_node) least_set-from_cut family is.sound;
    complete = λ set least. is.complete set (cut-from_least_set set least);
    ordered = is.ordered;
  }

  cut_family-from_least : (family : List (List ℕ)) → IsLeastFamily tree fails_node family
      → IsCutFamily tree node family
  cut_family-from_least family is = record {
    sound =
        All-weaker (IsLeastSet tree fails_node) (IsMinimalFor tree node) cut-from_least_set family is.sound;
    complete = λ set minimal. is.complete set (least_set-from_cut set minimal);
    ordered = is.ordered;
  }

  -- a node has one cut family
  pub cut_family-one : (f g : List (List ℕ)) → IsCutFamily tree node f → IsCutFamily tree node g → f ≡ g
  cut_family-one f g is is' =
      least_family-one tree fails_node f g (least_family-from_cuts f is) (least_family-from_cuts g is')

  -- ---- the minimal sets of a family that generates a node

  -- they generate the node too
  pub IsFamilyFor-minimal : (f least : List (List ℕ)) → IsFamilyFor tree node f → IsMinimal f least
      → IsFamilyFor tree node least
  IsFamilyFor-minimal f least generates is = IsTrueWhere-minimal tree fails_node f least generates is

  -- they are the node's cut family
  pub cut_family-minimal : (f least : List (List ℕ)) → IsFamilyFor tree node f → IsMinimal f least
      → IsCutFamily tree node least
  cut_family-minimal f least generates is =
      cut_family-from_least least (least_family-minimal tree fails_node f least generates is)

-- ---- the cut family of the top event

pub cut_family-top : (tree : FaultTree) (family : List (List ℕ)) → IsCutFamily tree tree.top family → (set : List ℕ)
    → Contains family set ↔ IsMinimalCut tree set
cut_family-top tree family is set =
    (λ has. All-contains (IsMinimalFor tree tree.top) family set is.sound has, λ minimal. is.complete set minimal)

-- its sets in the order of cut lists are the cut list
pub cut_list-from_family : (tree : FaultTree) (family cuts : List (List ℕ)) → IsCutFamily tree tree.top family
    → IsInCutOrder cuts → ((set : List ℕ) → Contains cuts set ↔ Contains family set) → IsCutList tree cuts
cut_list-from_family tree family cuts is ordered same = record {
  sound =
      All-weaker (Contains cuts) (IsMinimalCut tree)
      (λ set has. (cut_family-top tree family is set).0 ((same set).0 has)) cuts (All-contains_itself cuts);
  complete = λ set minimal. (same set).1 (is.complete set minimal);
  ordered = ordered;
}

-- the empty set is in no cut family
pub no_empty_set : (tree : FaultTree) (node : ℕ) (family : List (List ℕ)) → IsTree tree → IsCutFamily tree node family
    → Contains family [] → ⊥
no_empty_set tree node family kept is has =
    false≢true (sym (reads-empty kept (among []) (λ _. refl) node)
    ∙ (All-contains (IsMinimalFor tree node) family [] is.sound has).fails)
