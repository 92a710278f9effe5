use Rattle.std.proofs.lemmas.Result.{MatchResult-from_both}
use Rattle.zdd_families.specs.{Due.IsDueToMinimal, Minimal.IsMinimal, Map.family}
use Rattle.fault_definitions.specs.Trigger.{below}
use Rattle.path_sets.specs.Paths.{IsPathFamily}
use Rattle.path_sets.specs.Due.{IsDueToPaths}
use Rattle.zdd_shared_table.specs.Seats.{map_of}
use Rattle.zdd_product.specs.Seats.{Gave, WasFull}
use Rattle.zdd_product.proofs.After.{gave_of, full_of}
use Rattle.zdd_nodes.specs.Reading.{families_below}
use Rattle.zdd_nodes.proofs.{NodeAnswers.Answer, NodeParts.stand_of}
use Rattle.path_sets.proofs.{NodeAnswers.node_ends, nodes.path_family.Goals.After-minimal}
use Rattle.path_sets.proofs.nodes.path_family.Goals as goal

-- what the recipe made, then cut down to its minimal sets, answers for both clauses
ends : (c : After-minimal) → Answer (IsPathFamily c.args.tree.now c.args.node) (IsDueToPaths c.args.tree.now)
    c.args.ops.now c.minimal.new.self c.minimal.result
ends c =
    let tree = c.args.tree.now in
    let node = c.args.node in
    let known = map_of c.args.ops.now in
    let references = c.args.references.now in
    let mid = c.follow.new.ops in
    let after = c.minimal.new.self in
    let made = family (map_of mid) c.in_ok-made.made in
    node_ends tree node c.requires.node c.requires.read (families_below known tree references node)
    (stand_of (IsPathFamily tree) known references (below tree node) c.requires.below) c.units.ensures.kept after
    c.in_ok-made.ensures.made c.minimal.result
    (MatchResult-from_both c.minimal.result (Gave (IsMinimal made) (IsDueToMinimal made) mid after)
    (λ _. WasFull (IsDueToMinimal made) mid after) c.minimal.ensures.gives c.minimal.ensures.full)

pub returns-clause-gives : goal.returns-clause-gives
returns-clause-gives c =
    gave_of (IsPathFamily c.args.tree.now c.args.node) (IsDueToPaths c.args.tree.now) (IsDueToPaths c.args.tree.now)
    (λ h due. due) c.args.ops.now c.minimal.new.self c.minimal.result
    (ends (goal.at.returns-clause-gives c).After-minimal)

pub returns-clause-full : goal.returns-clause-full
returns-clause-full c =
    full_of (IsPathFamily c.args.tree.now c.args.node) (IsDueToPaths c.args.tree.now) (IsDueToPaths c.args.tree.now)
    (λ h due. due) c.args.ops.now c.minimal.new.self c.minimal.result
    (ends (goal.at.returns-clause-full c).After-minimal)
