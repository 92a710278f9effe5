-- Each set of units that fails a node includes a minimal one, so the cut family of a node generates it.
use Rattle.std.specs.Prelude.{◌≡◌, ℕ, Bool, true, List, Contains}
use Rattle.std.proofs.lemmas.List.Elements.{All-contains}
use Rattle.unit_sets.specs.UnitList.{among, some_within}
use Rattle.unit_sets.proofs.UnitListLemmas.{Contains-from_among}
use Rattle.fault_definitions.specs.{Cut.IsMinimalFor, CutFamily.IsCutFamily, Reading.reads, WellFormed.IsTree}
use Rattle.fault_definitions.proofs.{MinimalCuts.part_of_failing, ReadingLaws.reads-rises}
use Rattle.fault_definitions.specs.Tree.{FaultTree, IsNodeOf, IsUnitOf}
use Rattle.zdd_families.proofs.{CutsLemmas.each-from_contains, InclusionLemmas.same_Bool}
use Rattle.zdd_families.proofs.WithinLemmas.{HasWithin, HasWithin-from_test, some_within-from_set, passes_at}
use Rattle.zdd_families.proofs.WithinLemmas.{passes_from}
use Rattle.tree_families.specs.Generation.{IsFamilyFor}

module _ (tree : FaultTree) (kept : IsTree tree) (node : ℕ) (is_node : IsNodeOf tree node) (family : List (List ℕ))
    (is : IsCutFamily tree node family) where
  minimal_at : (set : List ℕ) → Contains family set → IsMinimalFor tree node set
  minimal_at set has = All-contains (IsMinimalFor tree node) family set is.sound has

  hit_to : (within : ℕ → Bool) → some_within family within ≡ true → reads tree within node ≡ true
  hit_to within hit =
      let found : HasWithin family within = HasWithin-from_test family hit in
      reads-rises tree (among found.set) within (record {
        kept =
            λ n has. passes_at within found.set n found.passes has;
      }) node (minimal_at found.set found.has).fails

  hit_from : (within : ℕ → Bool) → reads tree within node ≡ true → some_within family within ≡ true
  hit_from within fails =
      let found = part_of_failing kept node is_node within fails in
      some_within-from_set _ _ _ (is.complete found.0.part found.0.minimal)
      (passes_from within found.0.part found.1)

  pub IsFamilyFor-cut_family : IsFamilyFor tree node family
  IsFamilyFor-cut_family = record {
    of_tree = record {
      is_family =
          record {
            ordered = is.ordered;
            rising = each-from_contains _ _ (λ set has. (minimal_at set has).rising);
          };
      units =
          λ set has unit member. All-contains (IsUnitOf tree) set unit (minimal_at set has).units
          (Contains-from_among set unit member);
    };
    some_within =
        λ within. same_Bool (some_within family within) (reads tree within node) (hit_to within) (hit_from within);
  }
