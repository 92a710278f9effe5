use Rattle.std.proofs.Common.{◌≡◌, ◌≤◌, length, arith}
use Rattle.fault_definitions.specs.Tree.{node_count}
use Rattle.fault_model.proofs.RankingLemmas.{are_ranks, from_below, lists_positive, order_low, ranks_low, tree_is_graph}
use Rattle.fault_model.proofs.ranking.Ranking.over.Goals as goal

pub graph_of-requires : goal.graph_of-requires
graph_of-requires c = lists_positive c.requires.1 c.requires.2

pub find_cycles-requires : goal.find_cycles-requires
find_cycles-requires c = tree_is_graph c.requires.1 c.requires.2 c.in_ok-graph.ensures

pub ranks_of-requires : goal.ranks_of-requires
ranks_of-requires c =
    let whole : length c.in_ok-found.found.ranks.items ≡ length c.in_ok-graph.graph =
    omega (arith, c.in_ok-found.ensures.all_ranks) in
    let few : node_count c.requires.0 ≤ 2147483648 = omega (arith, c.requires.1.few_units, c.requires.1.few_gates) in
    rw c.deref.ensures.value (ranks_low c.requires.1 c.requires.2 c.in_ok-graph.ensures
    c.in_ok-found.found.on_cycle.items c.in_ok-found.found.ranks.items whole
    c.in_ok-found.ensures.exact c.in_ok-found.ensures.ranked c.in_ok-found.ensures.order 2147483648 few)

pub nodes_at-requires : goal.nodes_at-requires
nodes_at-requires c =
    let whole : length c.in_ok-found.found.ranks.items ≡ length c.in_ok-graph.graph =
    omega (arith, c.in_ok-found.ensures.all_ranks) in
    let few : node_count c.requires.0 ≤ 2147483648 = omega (arith, c.requires.1.few_units, c.requires.1.few_gates) in
    rw c.deref-2.ensures.value (order_low c.requires.1 c.requires.2 c.in_ok-graph.ensures
    c.in_ok-found.found.on_cycle.items c.in_ok-found.found.ranks.items whole
    c.in_ok-found.ensures.exact c.in_ok-found.ensures.ranked c.in_ok-found.ensures.order 2147483648 few)

pub returns-clause-ranks : goal.returns-clause-ranks
returns-clause-ranks c = λ tree kept holds.
    let whole : length c.in_ok-found.found.ranks.items ≡ length c.in_ok-graph.graph =
    omega (arith, c.in_ok-found.ensures.all_ranks) in
    rw (c.in_ok-ranks_of.ensures, c.deref.ensures.value) (are_ranks kept holds c.in_ok-graph.ensures
    c.in_ok-found.found.on_cycle.items c.in_ok-found.found.ranks.items whole
    c.in_ok-found.ensures.exact c.in_ok-found.ensures.ranked c.in_ok-found.ensures.order)

pub returns-clause-order : goal.returns-clause-order
returns-clause-order c = λ tree kept holds.
    let whole : length c.in_ok-found.found.ranks.items ≡ length c.in_ok-graph.graph =
    omega (arith, c.in_ok-found.ensures.all_ranks) in
    rw (c.in_ok-nodes_at.ensures, c.deref-2.ensures.value) (from_below kept holds c.in_ok-graph.ensures
    c.in_ok-found.found.on_cycle.items c.in_ok-found.found.ranks.items whole
    c.in_ok-found.ensures.exact c.in_ok-found.ensures.ranked c.in_ok-found.ensures.order)
