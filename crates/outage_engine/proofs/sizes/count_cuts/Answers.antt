use Rattle.std.proofs.Common.{◌≡◌, sym, subst}
use Rattle.std.proofs.lemmas.Result.{IfOk-weaker}
use Rattle.outage_engine.specs.{Store.IsFoundBy, Store.method_by, declared.status.Method.TheVariants.Diagram}
use Rattle.outage_engine.proofs.sizes.count_cuts.Goals as goal

pub returns-in-Ok-clause-found : goal.returns-in-Ok-clause-found
returns-in-Ok-clause-found g c =
    IfOk-weaker c.count_family.result (λ counts. method_by counts.nodes ≡ Diagram)
    (λ counts. IsFoundBy c.args.seat.now c.count_family.new.seat c.args.tree.now (method_by counts.nodes))
    (λ counts is. subst (IsFoundBy c.args.seat.now c.count_family.new.seat c.args.tree.now) (sym is)
    (rw c.count_family.ensures.seat (
      c.in-Ok.root,
      record {
        top = c.in-Ok.ensures.top;
        nodes = c.in-Ok.ensures.nodes;
      },
    )))
    c.count_family.ensures.method
