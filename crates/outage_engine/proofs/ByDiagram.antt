-- The cut list of a tree from the family of its minimal cuts, and by which method it was found.
use Rattle.std.specs.Prelude.{◌≡◌, ℕ, ◌-◌, ◌<◌, ◌≤◌, List, length, Option, Some, None, IfSome, Err, IsErrOf}
use Rattle.std.proofs.Common.{refl, arith}
use Rattle.std.proofs.lemmas.List.Elements.{All-weaker, recursion_from_All}
use Rattle.unit_sets.specs.CutOrder.{IsInCutOrder, weight, weight_limit}
use Rattle.unit_sets.specs.declared.refusal.ListEnd.{ListEnd}
use Rattle.unit_sets.specs.declared.refusal.ListEnd.TheVariants.{ListLimit, NoMemory}
use Rattle.unit_sets.specs.UnitList.{IsRising}
use Rattle.fault_definitions.specs.{Cut.IsCutList, Cut.IsMinimalFor, Tree.FaultTree, WellFormed.IsTree}
use Rattle.cutset_lists.specs.Generation.{HasHeavyCutList}
use Rattle.tree_families.proofs.CutFamilies.{cut_list-from_family, no_empty_set}
use Rattle.zdd_families.specs.{Family.IsFamily, Map.family, Nodes.IsNodeCount}
use Rattle.zdd_shared_table.specs.Seats.{Seated, map_of}
use Rattle.cutset_listing.specs.Listing.{HasHeavyList, HasSetsOf, LacksEmptySet}
use Rattle.cutset_listing.proofs.HeavyLists.{in_a_list, heavy_list as heavy_list_of}
use Rattle.cut_texts.proofs.Members.{weight_parts}
use Rattle.outage_engine.specs.declared.refusal.Refusal.{Refusal}
use Rattle.outage_engine.specs.declared.refusal.Refusal.TheVariants as refusal
use Rattle.outage_engine.specs.Answers.{AreCountsOf, IfRefused, end_without}
use Rattle.outage_engine.specs.Store.{IsDiagramOf, IsFoundBy, IsRootOf, method_by}

module _ (tree : FaultTree) (seat : Seated) (root : ℕ) (is : IsRootOf seat tree root) where
  pub no_empty_cut : IsTree tree → LacksEmptySet (family (map_of seat) root)
  no_empty_cut kept = no_empty_set tree tree.top (family (map_of seat) root) kept is.1

  pub list_of_root : (cuts : List (List ℕ)) → HasSetsOf (family (map_of seat) root) cuts → IsInCutOrder cuts
      → IsCutList tree cuts
  list_of_root cuts sets ordered = cut_list-from_family tree (family (map_of seat) root) cuts is.1 ordered sets

  pub heavy_list : HasHeavyList (family (map_of seat) root) → HasHeavyCutList tree
  heavy_list heavy = (heavy.list, list_of_root heavy.list heavy.sets heavy.ordered, heavy.heavy)

  is_family : IsFamily (family (map_of seat) root)
  is_family = record {
    ordered = is.1.ordered;
    rising =
        recursion_from_All IsRising (family (map_of seat) root) (All-weaker (IsMinimalFor tree tree.top) IsRising
        (λ set minimal. minimal.rising) (family (map_of seat) root) is.1.sound);
  }

  -- the sets of the family are as many as those of the cut list, and weigh as much
  pub counts_of_root : {sets weighs nodes : ℕ} → sets ≡ length (family (map_of seat) root)
      → weighs ≡ weight (family (map_of seat) root) → weight (family (map_of seat) root) ≤ weight_limit
      → IsNodeCount (family (map_of seat) root) nodes
      → AreCountsOf tree (record { cuts = sets; members = weighs - sets; nodes = Some nodes })
  counts_of_root {nodes} count total light counted =
      let has = in_a_list (family (map_of seat) root) is_family in
      let many = has.as_many in
      let heavy = has.as_heavy in
      let parts = weight_parts has.list in
      record {
        list = has.list;
        within = record { all = list_of_root has.list has.sets has.ordered; light = omega (arith, heavy, light) };
        counted = omega (arith, many, count);
        summed = omega (arith, many, heavy, parts, count, total);
        nodes = (family (map_of seat) root, is.1, counted);
      }

  pub few_counted : {sets weighs : ℕ} → sets ≡ length (family (map_of seat) root)
      → weighs ≡ weight (family (map_of seat) root) → sets ≤ weighs
  few_counted count total =
      let has = in_a_list (family (map_of seat) root) is_family in
      let many = has.as_many in
      let heavy = has.as_heavy in
      let parts = weight_parts has.list in
      omega (arith, many, heavy, parts, count, total)

  pub too_heavy : weight_limit < weight (family (map_of seat) root) → HasHeavyCutList tree
  too_heavy heavy = heavy_list (heavy_list_of (family (map_of seat) root) is_family heavy)

-- a run that ends for want of a cut list, ends by the limit only where the list is too heavy
pub limit_without : {A : Type 0} (P : Refusal → Type 0) (end : ListEnd)
    → (IsErrOf {T = A} (Err end) ListLimit → P refusal.ListLimit) → IfRefused P (end_without end)
limit_without P ListLimit heavy = heavy refl
limit_without P NoMemory heavy = tt

pub found_by : (before after : Seated) (tree : FaultTree) (root : Option ℕ) → IfSome root (IsDiagramOf after tree)
    → (root ≡ None → before.fulls < after.fulls)
    → IsFoundBy before after tree (method_by root)
found_by before after tree (Some root) diagram full = (root, diagram)
found_by before after tree None diagram full = full refl
