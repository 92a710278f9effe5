use Rattle.std.proofs.Common.{All, subst, sym}
use Rattle.fault_definitions.specs.{Tree.IsNodeOf, WellFormed.IsTree}
use Rattle.fault_definitions.proofs.RankLaws.{below_are_nodes}
use Rattle.fault_model.proofs.tree.Tree.below.Goals as goal

pub returns-clause-nodes : goal.returns-clause-nodes
returns-clause-nodes c =
    let kept : IsTree c.args.self.now = subst IsTree c.self.view_is c.self.invariant.kept in
    subst (All (IsNodeOf c.args.self.now)) (sym c.list.ensures) (below_are_nodes kept c.args.node)
