use Rattle.std.proofs.Common.{◌≡◌, ◌≤◌, length, sym, ◌∙◌, ap, subst, arith}
use Rattle.std.proofs.lemmas.List.{length-map}
use Rattle.fault_words.specs.declared.kind.GateKind.{GateKind}
use Rattle.fault_definitions.specs.{Trigger.below}
use Rattle.fault_definitions.proofs.RankLaws.{gate_sound}
use Rattle.fault_definitions.specs.Tree.{IsGateOf, IsUnitOf, inputs_of, kind_of}
use Rattle.tree_families.proofs.Building.{gate_below}
use Rattle.tree_families.specs.Recipe.{IsProductOfAll, alone, gate_recipe}
use Rattle.zdd_families.specs.Map.{family}
use Rattle.zdd_shared_table.specs.Seats.{map_of}
use Rattle.zdd_product.specs.Voting.{families}
use Rattle.zdd_nodes.specs.Reading.{CanVote}
use Rattle.zdd_nodes.proofs.NodeAnswers.{Answer}
use Rattle.zdd_nodes.proofs.NodeParts.{StandFor-length, sound_some}
use Rattle.path_sets.specs.{Dual.CanTurn, Dual.dual_kind, Due.IsDueToKeptUnit, Paths.IsPathFamily}
use Rattle.path_sets.proofs.{NodeAnswers.gate_made, NodeAnswers.gate_recipe_is, NodeAnswers.unit_kept}
use Rattle.path_sets.proofs.Serving.{can_turn, turned_votes}
use Rattle.path_sets.proofs.nodes.make.Goals as goal

pub dual_kind-requires : goal.dual_kind-requires
dual_kind-requires c =
    let tree = c.args.tree.now in
    let gate = c.args.node in
    let is_gate : IsGateOf tree gate = (omega arith, c.requires.node.1) in
    subst CanTurn (sym c.kind.ensures)
    (can_turn tree (kind_of tree gate) (inputs_of tree gate) (gate_sound c.units.ensures.kept gate is_gate).kind)

pub make_gate-requires-clause-some : goal.make_gate-requires-clause-some
make_gate-requires-clause-some c =
    let tree = c.args.tree.now in
    let gate = c.args.node in
    let is_gate : IsGateOf tree gate = (omega arith, c.requires.node.1) in
    let some : 1 ≤ length (inputs_of tree gate) =
    sound_some tree (kind_of tree gate) (inputs_of tree gate) (gate_sound c.units.ensures.kept gate is_gate).kind in
    let as_many : length (families (map_of c.args.ops.now) c.args.list.now) ≡ length (below tree gate) =
    StandFor-length (IsPathFamily tree) (below tree gate) (families (map_of c.args.ops.now) c.args.list.now)
    c.requires.stand in
    let reads : length (below tree gate) ≡ length (inputs_of tree gate) =
    ap (λ q. length q) (gate_below tree gate is_gate) in
    let listed : length (families (map_of c.args.ops.now) c.args.list.now) ≡ length c.args.list.now =
    length-map c.args.list.now (family (map_of c.args.ops.now)) in
    omega (arith, some, as_many, reads, listed)

pub make_gate-requires-clause-votes : goal.make_gate-requires-clause-votes
make_gate-requires-clause-votes c =
    let tree = c.args.tree.now in
    let gate = c.args.node in
    let is_gate : IsGateOf tree gate = (omega arith, c.requires.node.1) in
    let reads : length (below tree gate) ≡ length (inputs_of tree gate) =
    ap (λ q. length q) (gate_below tree gate is_gate) in
    let room : length (inputs_of tree gate) ≤ length c.args.room.now =
    let some = c.requires.room in omega (arith, reads, some) in
    subst (λ kind. CanVote kind (length c.args.room.now)) (sym (c.dual_kind.ensures ∙ ap dual_kind c.kind.ensures))
    (turned_votes tree (kind_of tree gate) (inputs_of tree gate) (length c.args.room.now)
    (gate_sound c.units.ensures.kept gate is_gate).kind room)

pub returns-then-number-units-clause-made : goal.returns-then-number-units-clause-made
returns-then-number-units-clause-made c =
    let tree = c.args.tree.now in
    let gate = c.args.node in
    let fs = families (map_of c.args.ops.now) c.args.list.now in
    let is_gate : IsGateOf tree gate = (omega arith, c.requires.node.1) in
    gate_made tree gate c.requires.node c.requires.read fs c.requires.stand
    (gate_recipe_is tree gate fs is_gate
    ∙ ap (λ (kind : GateKind). gate_recipe kind fs) (sym (c.dual_kind.ensures ∙ ap dual_kind c.kind.ensures)))
    c.args.ops.now c.make_gate.new.ops c.make_gate.result c.make_gate.ensures

pub returns-clause-made : goal.returns-clause-made
returns-clause-made c =
    let tree = c.args.tree.now in
    let node = c.args.node in
    let fs = families (map_of c.args.ops.now) c.args.list.now in
    let is_unit : IsUnitOf tree node = (c.requires.node.0, omega arith) in
    unit_kept tree node c.requires.node c.requires.read fs c.requires.stand is_unit c.args.ops.now
    c.keep_unit.new.ops c.keep_unit.result
    (subst (λ unit. Answer (IsProductOfAll (alone unit) fs) (IsDueToKeptUnit unit fs) c.args.ops.now c.keep_unit.new.ops
    c.keep_unit.result) c.unit.ensures c.keep_unit.ensures)
