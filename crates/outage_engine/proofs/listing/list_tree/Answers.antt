use Rattle.std.specs.Prelude.{ℕ, Option}
use Rattle.std.proofs.{Common.sym, Common.subst, lemmas.Result.IfOk-weaker}
use Rattle.outage_engine.specs.{Answers.IsLimitOf, Store.IsFoundBy, Store.method_by}
use Rattle.outage_engine.proofs.ByDiagram.{found_by, limit_without}
use Rattle.outage_engine.proofs.listing.list_tree.Goals as goal

pub returns-in-Ok : goal.returns-in-Ok
returns-in-Ok g c = record {
  listed = c.list_found.ensures.listed;
  found =
      IfOk-weaker c.list_found.result _ _
      (λ listing same.
      subst (λ (root : Option ℕ). IsFoundBy c.args.seat.now c.find_cuts.new.seat c.args.tree (method_by root))
      (sym same)
      (found_by c.args.seat.now c.find_cuts.new.seat c.args.tree c.in-Ok.found.root c.in-Ok.ensures.root
      c.in-Ok.ensures.full))
      c.list_found.ensures.root;
  limit = c.list_found.ensures.limit;
  left = record { went = c.find_cuts.ensures.went; share = c.find_cuts.ensures.share };
}

pub returns-in-Err : goal.returns-in-Err
returns-in-Err g c = record {
  listed = tt;
  found = tt;
  limit =
      rw c.end_of.ensures
      (limit_without (IsLimitOf c.args.asked.most c.args.tree) c.in-Err.end c.in-Err.ensures.limit);
  left = record { went = c.find_cuts.ensures.went; share = c.find_cuts.ensures.share };
}
