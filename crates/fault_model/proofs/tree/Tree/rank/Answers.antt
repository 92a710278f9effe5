use Rattle.std.proofs.Common.{ap, subst}
use Rattle.fault_definitions.specs.{Tree.FaultTree, WellFormed.IsTree}
use Rattle.fault_definitions.proofs.RankLaws.{read_rank_rule}
use Rattle.fault_model.proofs.tree.Tree.rank.Goals as goal

pub returns-clause-rule : goal.returns-clause-rule
returns-clause-rule c =
    read_rank_rule c.args.node
    (subst IsTree c.self.view_is c.self.invariant.kept) c.requires (ap (λ (t : FaultTree). t.ranks) c.self.view_is)
    c.index.ensures c.index-2.ensures
