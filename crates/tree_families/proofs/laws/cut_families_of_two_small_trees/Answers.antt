use Rattle.tree_families.proofs.ExamplesLemmas.{two_of_three-top, superset_absorbed-top, superset_absorbed-gate}
use Rattle.tree_families.proofs.laws.cut_families_of_two_small_trees.Goals as goal

pub returns-clause-votes : goal.returns-clause-votes
returns-clause-votes c = two_of_three-top

pub returns-clause-top : goal.returns-clause-top
returns-clause-top c = superset_absorbed-top

pub returns-clause-gate : goal.returns-clause-gate
returns-clause-gate c = superset_absorbed-gate
