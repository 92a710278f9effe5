use Rattle.zdd_families.proofs.NodesLemmas.{node_count-references}
use Rattle.zdd_families.proofs.operation_laws.nodes_are_references.Goals as goal

pub returns : goal.returns
returns c = node_count-references
