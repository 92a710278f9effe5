use Rattle.std.proofs.Common.{◌∙◌, ◌+◌, List, length, All, subst, sym, ap, arith}
use Rattle.std.proofs.{lemmas.List.length_push, lemmas.List.Elements.All-push}
use Rattle.zdd_build.specs.{declared.worker.Worker.Worker, Workers.IsNew, Workers.IsReady}
use Rattle.zdd_build.proofs.TeamLemmas.{split_then}
use Rattle.zdd_build.proofs.teams.open.Goals as goal

pub loop-number-preserved : goal.loop-number-preserved
loop-number-preserved c =
    let inv = c.loop-number.invariant in
    let pushed = c.push_reserved.ensures.items in
    record {
      count =
          ap (λ (l : List Worker). length l) pushed ∙ length_push c.loop-number.team.items c.in_ok-worker.worker
          ∙ ap (λ n. n + 1) inv.count;
      room = let e = c.push_reserved.ensures.capacity in let h = inv.room in omega (arith, e, h);
      split =
          split_then inv.split c.in_ok-worker.ensures.split;
      ready =
          subst (All (IsReady c.args.task)) (sym pushed)
          (All-push (IsReady c.args.task) c.loop-number.team.items c.in_ok-worker.worker inv.ready
          c.in_ok-worker.ensures.ready);
      new =
          subst (All IsNew) (sym pushed) (All-push IsNew c.loop-number.team.items c.in_ok-worker.worker inv.new
          c.in_ok-worker.ensures.new);
    }
