-- The sets of a worker, one after another.
use Rattle.std.proofs.Common.{◌≡◌, ℕ, zero, suc, ◌+◌, ◌-◌, ◌<◌, ◌≤◌, List, [], ◌∷◌, ◌++◌, length, get_or, drop}
use Rattle.std.proofs.Common.{All, Option, None, Some, slice_get, ap, sym, ◌∙◌, arith, append_assoc}
use Rattle.std.proofs.{lemmas.List.get_or-map, lemmas.List.length-map, lemmas.List.Elements.All-cons}
use Rattle.std.proofs.{lemmas.List.Sums.sum_by-cons, lemmas.Bool.Decides.nat_tests}
use Rattle.unit_sets.specs.CutOrder.{IsOrderedCuts, weight, weight_limit}
use Rattle.unit_sets.proofs.{CutOrderLemmas.cut_at, Sorted.All-slice_get}
use Rattle.fault_definitions.specs.{Tree.FaultTree, Tree.IsUnitOf, WellFormed.IsTree}
use Rattle.cut_sequences.specs.{declared.share.GrowingShare.GrowingShare, declared.share.Sets.Sets}
use Rattle.cut_sequences.specs.{declared.refusal.OrderEnd.OrderEnd, Going.CanGoOn, Dealing.dealt, Dealing.Share}
use Rattle.cut_sequences.specs.{Holding.lists_of}
use Rattle.cut_sequences.specs.Orders.{orders_of, order_lists, order_count, order_total, IsOver}
use Rattle.cut_sequences.specs.Working.{whole, work_of, lists_due, share_of, CanGrow}
use Rattle.cut_sequences.proofs.{DealLemmas.dealt-next, GoingLemmas.can_start, ListLemmas.IsOver-more}
use Rattle.cut_sequences.proofs.{ListLemmas.order_total-append}

length-weight : (cuts : List (List ℕ)) → length cuts ≤ weight cuts
length-weight [] = omega arith
length-weight (cut ∷ cuts) = omega (arith, length-weight cuts, sum_by-cons (λ (c : List ℕ). 1 + length c) cut cuts)

pub few_sets : (cuts : List (List ℕ)) → IsOrderedCuts cuts → length cuts ≤ weight_limit
few_sets cuts ordered = omega (arith, length-weight cuts, ordered.within)

pub can_start_cut : {tree : FaultTree} (cuts : List (List ℕ)) (i : ℕ) {cut : List ℕ} → IsTree tree → IsOrderedCuts cuts
    → All (λ (c : List ℕ). All (IsUnitOf tree) c) cuts → slice_get cuts i ≡ Some cut → CanGoOn tree [] cut
can_start_cut {tree} cuts i {cut} kept ordered units at =
    can_start kept (cut_at cuts i cut ordered at).rising
    (All-slice_get (λ (c : List ℕ). All (IsUnitOf tree) c) cuts i cut units at)

pub get_or_from_get : (cuts : List (List ℕ)) (i : ℕ) (cut : List ℕ) → slice_get cuts i ≡ Some cut
    → get_or cuts i [] ≡ cut
get_or_from_get [] i cut at = absurd cc
get_or_from_get (first ∷ cuts) zero cut at = cc
get_or_from_get (first ∷ cuts) (suc i) cut at = get_or_from_get cuts i cut at

-- a set that is too large is not listed
larger_none : (tree : FaultTree) (most : ℕ) (cut : List ℕ) → most < length cut → orders_of tree most cut ≡ None
larger_none tree most cut larger = grind (arith, nat_tests)

pub none_listed : (tree : FaultTree) (most end : ℕ) (cuts : List (List ℕ))
    → All (λ (cut : List ℕ). most < length cut) (drop end cuts)
    → All (λ list. list ≡ None) (drop end (order_lists tree cuts most))
none_listed tree most zero [] larger = λ k d short. absurd (omega arith)
none_listed tree most (suc end) [] larger = λ k d short. absurd (omega arith)
none_listed tree most zero (cut ∷ cuts) larger =
    All-cons (λ list. list ≡ None) (orders_of tree most cut) (order_lists tree cuts most)
    (larger_none tree most cut (larger 0 cut (omega arith)))
    (none_listed tree most zero cuts (λ k d short. larger (suc k) d (omega arith)))
none_listed tree most (suc end) (cut ∷ cuts) larger = none_listed tree most end cuts larger

-- what is still to be listed begins with the list of the next set
pub next_list : (tree : FaultTree) (most : ℕ) (cuts : List (List ℕ)) (next workers : ℕ) (cut : List ℕ) → 0 < workers
    → next < length cuts → slice_get cuts next ≡ Some cut
    → dealt 0 (workers - 1) (drop next (order_lists tree cuts most))
    ≡ orders_of tree most cut ∷ dealt 0 (workers - 1) (drop (next + workers) (order_lists tree cuts most))
next_list tree most cuts next workers cut some short at =
    let all : Share = order_lists tree cuts most in
    let within : next < length all = omega (arith, length-map cuts (orders_of tree most)) in
    let here : get_or all next None ≡ orders_of tree most cut =
    get_or-map (orders_of tree most) cuts next [] None short
    ∙ ap (orders_of tree most) (get_or_from_get cuts next cut at) in
    let step : next + suc (workers - 1) ≡ next + workers = omega arith in
    dealt-next next (workers - 1) all None within
    ∙ ap (λ (o : Option (List (List ℕ))). o ∷ dealt 0 (workers - 1) (drop (next + suc (workers - 1)) all)) here
    ∙ ap (λ n. orders_of tree most cut ∷ dealt 0 (workers - 1) (drop n all)) step

-- what has been listed and the list of one set more are no more than all that is due
part-le : (listed rest : Share) {due : Share} (list : Option (List (List ℕ))) → listed ++ list ∷ rest ≡ due
    → order_total listed + order_count list ≤ order_total due
part-le listed rest list is = omega (arith, sym (ap order_total is), order_total-append listed (list ∷ rest))

-- a worker goes on with the set of its next place
module _ (sets : Sets) (workers next : ℕ) (cut : List ℕ) (growing : GrowingShare) (all : Share) (some : 0 < workers)
    (short : next < length sets.cuts.now) (at : slice_get sets.cuts.now next ≡ Some cut)
    (so_far : whole (lists_due sets) workers (work_of growing next) ≡ all) where
  abbrev rest : Share
  rest = dealt 0 (workers - 1) (drop (next + workers) (lists_due sets))

  parts : lists_of (share_of growing) ++ orders_of sets.tree.now sets.most cut ∷ rest ≡ all
  parts =
      ap (λ (l : Share). lists_of (share_of growing) ++ l)
      (sym (next_list sets.tree.now sets.most sets.cuts.now next workers cut some short at)) ∙ so_far

  pub share_more : (after : GrowingShare)
      → lists_of (share_of after) ≡ lists_of (share_of growing) ++ orders_of sets.tree.now sets.most cut ∷ []
      → whole (lists_due sets) workers (work_of after (next + workers)) ≡ all
  share_more after more =
      ap (λ (l : Share). l ++ rest) more
      ∙ append_assoc (lists_of (share_of growing)) (orders_of sets.tree.now sets.most cut ∷ []) rest ∙ parts

  pub share_over : (end : OrderEnd) → CanGrow sets growing
      → IsOver (length growing.search.orders + order_count (orders_of sets.tree.now sets.most cut)) end
      → IsOver (order_total all) end
  share_over end grows over =
      IsOver-more (length growing.search.orders + order_count (orders_of sets.tree.now sets.most cut))
      (order_total all) end (omega (
        arith,
        grows.held.total,
        part-le (lists_of (share_of growing)) rest (orders_of sets.tree.now sets.most cut) parts,
      )) over
