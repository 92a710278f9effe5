use Rattle.std.specs.Prelude.{Err, IsErrOf}
use Rattle.std.proofs.Common.{ap, refl, subst, sym, ◌∙◌}
use Rattle.tree_families.specs.Due.{IsDueToTree}
use Rattle.zdd_product.specs.Seats.{WentAll}
use Rattle.zdd_shared_table.specs.Seats.{Seated}
use Rattle.outage_engine.specs.Store.{IsDiagramOf}
use Rattle.unit_sets.specs.declared.refusal.ListEnd.{ListEnd}
use Rattle.outage_engine.proofs.found.find_cuts.Goals as goal

-- an error of one result is that of another
same_end : {A B : Type 0} (end why : ListEnd) → IsErrOf {T = A} (Err end) why → IsErrOf {T = B} (Err end) why
same_end end why is = cc

pub returns-in-Ok-list_root : goal.returns-in-Ok-list_root
returns-in-Ok-list_root g c =
    let same = sym c.list_root.ensures.seat in
    record {
      cuts = c.in-Ok-list_root.ensures.cuts;
      within = c.in-Ok-list_root.ensures.within;
      root =
          subst (λ seat. IsDiagramOf seat c.args.tree.now c.in-Ok.root) same
          (record { top = c.in-Ok.ensures.top; nodes = c.in-Ok.ensures.nodes });
      full = λ none. absurd cc;
      limit = λ is. absurd cc;
      went = subst (WentAll (IsDueToTree c.args.tree.now) c.args.seat.now) same c.build.ensures.went;
      share = ap (λ (seat : Seated). seat.share) c.list_root.ensures.seat ∙ c.build.ensures.share;
    }

pub returns-in-Err : goal.returns-in-Err
returns-in-Err g c = record {
  cuts = tt;
  within = tt;
  root = tt;
  full = tt;
  limit = λ is. c.in-Err.ensures.limit (same_end _ _ is);
  went =
      subst (WentAll (IsDueToTree c.args.tree.now) c.args.seat.now) (sym c.list_root.ensures.seat)
      c.build.ensures.went;
  share = ap (λ (seat : Seated). seat.share) c.list_root.ensures.seat ∙ c.build.ensures.share;
}

pub returns-in-Ok-mcs_by_lists : goal.returns-in-Ok-mcs_by_lists
returns-in-Ok-mcs_by_lists g c = record {
  cuts = c.in-Ok-mcs_by_lists.ensures.cut_list;
  within = c.in-Ok-mcs_by_lists.ensures.within;
  root = tt;
  full = λ none. (rw c.in-Err-Full.field-0-is at c.in-Err-Full.ensures.full) refl;
  limit = λ is. absurd cc;
  went = c.build.ensures.went;
  share = c.build.ensures.share;
}

pub returns-in-Err-mcs_by_lists : goal.returns-in-Err-mcs_by_lists
returns-in-Err-mcs_by_lists g c = record {
  cuts = tt;
  within = tt;
  root = tt;
  full = tt;
  limit = λ is. c.in-Err-mcs_by_lists.ensures.limit (same_end _ _ is);
  went = c.build.ensures.went;
  share = c.build.ensures.share;
}
