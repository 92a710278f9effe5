use Rattle.std.proofs.Common.{◌≡◌, ◌<◌, ◌^◌, ◌-◌, ℕ, List, length, filter, slice_get, Some, ap, subst, sym, ◌∙◌, arith}
use Rattle.unit_sets.specs.{CutOrder.IsOrderedCuts, UnitList.among}
use Rattle.residual_ledger.specs.{Residual.cut_at, Kept.residuals}
use Rattle.residual_ledger.proofs.{CutLemmas.cut_at-is, CutLemmas.cut_fits, LedgerLemmas.cut_rises}
use Rattle.residual_ledger.proofs.{ledger.Ledger.would_be_tight.Goals.After-index-left}
use Rattle.residual_ledger.proofs.SearchLemmas.{IsLookedAt, left_is, asked-le, tight-counted, not_tight-counted}
use Rattle.std.proofs.lemmas.Bool.{lt-leb}
use Rattle.residual_ledger.proofs.ledger.Ledger.would_be_tight.Goals as goal

pub count_asked-requires : goal.count_asked-requires
count_asked-requires c =
    let inside : c.args.place < length c.self.inside.cuts =
    omega (arith, ap (λ v. length v.cuts) c.self.view_is, c.requires.there) in
    let short : length c.members.result.now < 2 ^ 31 =
    cut_fits c.self.inside.cuts c.args.place c.members.result.now c.members.ensures.ordered inside
    c.members.ensures.value in
    record { few = omega arith }

-- the cut set at the place, with its count of units in service
looked_at : (c : After-index-left) → IsLookedAt c.args.self.now.out c.args.asked.now
    (cut_at c.args.self.now.cuts c.args.place) c.index-left.result.now
looked_at c =
    let cuts = c.args.self.now.cuts in
    let out = c.args.self.now.out in
    let ordered : IsOrderedCuts cuts =
    subst IsOrderedCuts (ap (λ v. v.cuts) c.self.view_is) c.self.invariant.whole.ordered in
    record {
      counted = left_is out cuts c.args.place
          (c.self.invariant.counted ∙ ap (λ v. residuals v.out v.cuts) c.self.view_is) c.requires.there
          c.index-left.ensures;
      rising = cut_rises cuts c.args.place ordered c.requires.there;
      free = c.requires.in_service;
    }

count_is : (c : goal.After-count_asked)
    → c.count_asked.result ≡ length (filter (among c.args.asked.now) (cut_at c.args.self.now.cuts c.args.place))
count_is c =
    c.count_asked.ensures ∙ ap (λ xs. length (filter (among c.args.asked.now) xs))
    (sym (cut_at-is c.args.self.now.cuts c.args.place c.members.result.now
    (subst (λ (list : List (List ℕ)). slice_get list c.args.place ≡ Some c.members.result.now)
    (ap (λ v. v.cuts) c.self.view_is) c.members.ensures.value)))

pub overflow_sub-result : goal.overflow_sub-result
overflow_sub-result c =
    let at = goal.at.overflow_sub-result c in
    asked-le (looked_at at.After-index-left) (count_is c)

pub returns-then-saturating_sub-asked : goal.returns-then-saturating_sub-asked
returns-then-saturating_sub-asked c =
    let at = goal.at.returns-then-saturating_sub-asked c in
    tight-counted c.args.most (looked_at at.After-index-left) (count_is c)

pub returns-else-saturating_sub-asked : goal.returns-else-saturating_sub-asked
returns-else-saturating_sub-asked c =
    let at = goal.at.returns-else-saturating_sub-asked c in
    let much : length c.args.asked.now < c.index-left.result.now - c.args.most = omega arith in
    lt-leb c.saturating_sub.result (length c.args.asked.now) (omega arith)
    ∙ sym (not_tight-counted c.args.most (looked_at at.After-index-left) much)
