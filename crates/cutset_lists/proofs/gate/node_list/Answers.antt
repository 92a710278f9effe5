use Rattle.std.proofs.Common.{◌<◌, ◌≤◌, ◌≡◌, ◌∷◌, ◌++◌, [], ℕ, ◌∙◌, arith, ap, List}
use Rattle.std.proofs.lemmas.Result.{on_ok_weaker}
use Rattle.fault_definitions.specs.Tree.{unit_count}
use Rattle.cutset_lists.proofs.NodeLemmas.{gate_node, unit_node}
use Rattle.cutset_lists.proofs.gate.node_list.Goals as goal

pub returns-then-node-units : goal.returns-then-node-units
returns-then-node-units c =
    let above : unit_count c.args.tree.now < c.args.node =
    omega (arith, c.node.view_is, c.if-node-units.true, c.units.ensures.count) in
    on_ok_weaker c.gate_list.result (gate_node c.args.tree.now c.args.lists.now c.args.node
    c.below-below.ensures.below c.gate_list.new.sets above c.kind.ensures) c.gate_list.ensures

pub returns : goal.returns
returns c =
    let low : c.args.node ≤ unit_count c.args.tree.now =
    omega (arith, c.node.view_is, c.if-node-units.false, c.units.ensures.count) in
    let old_is : c.push.new.self ≡ (c.args.node ∷ []) ∷ [] =
    c.in_ok-push.ensures.ok ∙ ap (λ (s : List (List ℕ)). s ++ (c.unit.result ∷ []) ∷ []) c.requires.none
    ∙ ap (λ (n : ℕ). (n ∷ []) ∷ []) c.unit.ensures in
    on_ok_weaker c.some_of.result (unit_node c.args.tree.now c.args.lists.now c.args.node
    c.below-below.ensures.below c.some_of.new.sets c.requires.node.0 low old_is) c.some_of.ensures
