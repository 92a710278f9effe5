use Rattle.std.proofs.Common.{arith, ◌≡◌, ◌∙◌, sym, subst, map, List}
use Rattle.std.specs.{List.dedup, Ordering.on, Ordering.eq_by_cmp}
use Rattle.std.proofs.{lemmas.List.take_all, lemmas.List.Filters.dedup_is}
use Rattle.unit_sets.specs.CutOrder.{cut_cmp}
use Rattle.cutset_lists.specs.{declared.sort.Cut.Cut, Cuts.units_of, Sets.IsSortedFrom}
use Rattle.cutset_lists.proofs.SortLemmas.{IsSortedFrom-dedup}
use Rattle.cutset_lists.proofs.minimal.sorted.Goals as goal

pub returns : goal.returns
returns c =
    let all : map units_of c.loop-i.cuts.items ≡ c.args.sets.now =
    c.loop-i.invariant ∙ take_all c.loop-i.i c.args.sets.now (omega arith) in
    let left : c.dedup.new.self.items ≡ dedup (eq_by_cmp (on units_of cut_cmp)) c.sort.new.self.items =
    dedup_is (eq_by_cmp (on units_of cut_cmp)) c.sort.new.self.items c.dedup.new.self.items
    c.dedup.ensures.filtered in
    subst (λ (l : List Cut). IsSortedFrom c.args.sets.now (map units_of l)) (sym left) (IsSortedFrom-dedup units_of all
    c.in_ok-sort.ensures.permutation c.in_ok-sort.ensures.sorted)
