use Rattle.std.proofs.Common.{◌≡◌, true, false, length, arith}
use Rattle.std.specs.{Prelude.nat_lt, List.list_all}
use Rattle.std.proofs.lemmas.Grind.{common_steps}
use Rattle.graph_cycles.specs.Graph.{successors}
use Rattle.graph_cycles.proofs.Below.{AreNodesBefore-more, all_below}
use Rattle.graph_cycles.proofs.is_graph.Goals as goal

pub returns-then-not-all_below : goal.returns-then-not-all_below
returns-then-not-all_below c = (
  (λ never. absurd (let e : false ≡ true = never in cc)),
  (λ whole.
      let found : list_all (λ node. nat_lt node (length c.args.graph.now)) (successors c.args.graph.now c.loop-x.x)
      ≡ true =
      all_below (successors c.args.graph.now c.loop-x.x) (length c.args.graph.now)
      (λ y goes. whole c.loop-x.x y goes) in
      grind (arith, common_steps, found)),
)

pub loop-x-preserved : goal.loop-x-preserved
loop-x-preserved c =
    AreNodesBefore-more c.args.graph.now c.loop-x.x c.loop-x.invariant (grind (arith, common_steps))
