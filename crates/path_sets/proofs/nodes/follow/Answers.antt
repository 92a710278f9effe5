use Rattle.std.proofs.Common.{◌≡◌, All, map, take, drop, length, sym, ◌∙◌, ap, subst, arith}
use Rattle.fault_definitions.specs.Trigger.{below}
use Rattle.path_sets.specs.Paths.{IsPathFamily}
use Rattle.tree_families.specs.Recipe.{StandFor}
use Rattle.zdd_families.specs.Map.{Knows}
use Rattle.zdd_shared_table.specs.Seats.{map_of}
use Rattle.zdd_product.specs.Voting.{families}
use Rattle.zdd_nodes.specs.Reading.{reference_of}
use Rattle.zdd_nodes.proofs.NodeParts.{front_of, known_of, stand_of}
use Rattle.path_sets.proofs.nodes.follow.Goals as goal
use Rattle.path_sets.proofs.nodes.follow.Goals.{After-deref}

-- the front of the room holds the references of what the node reads
gathered : (c : After-deref) → take (length c.below-nodes.result.now) c.deref.result.now
    ≡ map (reference_of c.args.references.now) (below c.args.tree.now c.args.node)
gathered c =
    let nodes = c.below-nodes.result.now in
    let fits = c.requires.room.list c.args.node c.requires.node in
    let reads = ap (λ q. length q) c.below-nodes.ensures.below in
    ap (take (length nodes)) c.deref.ensures.value
    ∙ front_of (length nodes) c.args.rooms.now.list.len c.gather.new.list
    (drop (length c.gather.new.list) c.args.rooms.now.list.items)
    (omega (arith, fits, reads)) (omega (arith, fits, reads, c.gather.ensures.size))
    ∙ c.gather.ensures.list ∙ ap (map (reference_of c.args.references.now)) c.below-nodes.ensures.below

pub make-requires-clause-knows : goal.make-requires-clause-knows
make-requires-clause-knows c =
    let known = map_of c.args.ops.now in
    subst (All (Knows known)) (sym (gathered (goal.at.make-requires-clause-knows c).After-deref))
    (known_of (IsPathFamily c.args.tree.now) known c.args.references.now (below c.args.tree.now c.args.node)
    c.requires.below)

pub make-requires-clause-stand : goal.make-requires-clause-stand
make-requires-clause-stand c =
    let tree = c.args.tree.now in
    let known = map_of c.args.ops.now in
    subst (λ q. StandFor (IsPathFamily tree) (below tree c.args.node) (families known q))
    (sym (gathered (goal.at.make-requires-clause-stand c).After-deref))
    (stand_of (IsPathFamily tree) known c.args.references.now (below tree c.args.node) c.requires.below)
