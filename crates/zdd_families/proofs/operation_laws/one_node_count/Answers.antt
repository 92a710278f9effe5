use Rattle.zdd_families.proofs.NodesLemmas.{node_count-one}
use Rattle.zdd_families.proofs.operation_laws.one_node_count.Goals as goal

pub returns : goal.returns
returns c = node_count-one
