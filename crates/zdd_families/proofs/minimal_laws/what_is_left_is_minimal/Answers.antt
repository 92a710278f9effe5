use Rattle.zdd_families.proofs.LeastNodesLemmas.{antichain-without}
use Rattle.zdd_families.proofs.minimal_laws.what_is_left_is_minimal.Goals as goal

pub returns : goal.returns
returns c = antichain-without
