use Rattle.std.proofs.Common.{arith}
use Rattle.graph_cycles.specs.State.{edges_at, explored_at}
use Rattle.graph_cycles.proofs.Progress.{followed_edge, top_open, Steps-explored}
use Rattle.graph_cycles.proofs.{Steps.Followed, Seal.has-at}
use Rattle.graph_cycles.proofs.walk.Walk.explore.Goals as goal

pub follow-requires-clause-within : goal.follow-requires-clause-within
follow-requires-clause-within c =
    omega (
      arith,
      c.requires.stands.sound.stages_all,
      c.next_edge-next.ensures.edge,
      c.requires.whole _ _ (has-at (edges_at c.args.graph.now c.args.self.now c.args.at)
          (explored_at c.args.self.now c.args.at) c.requires.more),
    )

pub count-requires-clause-within : goal.count-requires-clause-within
count-requires-clause-within c =
    let d : Followed c.args.graph.now c.args.self.now c.follow.new.self c.args.at c.next_edge-next.result =
    followed_edge c.requires.whole c.requires.stands c.requires.top c.requires.more c.next_edge-next.ensures.edge
    c.in_ok-follow.ensures in
    top_open c.args.graph.now d.stands d.on

pub count-requires-clause-node : goal.count-requires-clause-node
count-requires-clause-node c =
    let d : Followed c.args.graph.now c.args.self.now c.follow.new.self c.args.at c.next_edge-next.result =
    followed_edge c.requires.whole c.requires.stands c.requires.top c.requires.more c.next_edge-next.ensures.edge
    c.in_ok-follow.ensures in
    omega (
      arith,
      d.stands.sound.nodes c.args.at (top_open c.args.graph.now d.stands d.on),
      d.stands.sound.explored_all,
    )

pub count-requires-clause-small : goal.count-requires-clause-small
count-requires-clause-small c =
    let d : Followed c.args.graph.now c.args.self.now c.follow.new.self c.args.at c.next_edge-next.result =
    followed_edge c.requires.whole c.requires.stands c.requires.top c.requires.more c.next_edge-next.ensures.edge
    c.in_ok-follow.ensures in
    rw (d.node, d.explored) c.next_edge-next.ensures.small

pub returns : goal.returns
returns c =
    let d : Followed c.args.graph.now c.args.self.now c.follow.new.self c.args.at c.next_edge-next.result =
    followed_edge c.requires.whole c.requires.stands c.requires.top c.requires.more c.next_edge-next.ensures.edge
    c.in_ok-follow.ensures in
    Steps-explored c.requires.more c.next_edge-next.ensures.edge d c.count.ensures
