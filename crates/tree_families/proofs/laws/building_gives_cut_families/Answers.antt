use Rattle.tree_families.proofs.Building.{gate-cut_family, unit-cut_family, recipe-generates}
use Rattle.tree_families.proofs.laws.building_gives_cut_families.Goals as goal

pub returns-clause-unit : goal.returns-clause-unit
returns-clause-unit c = unit-cut_family

pub returns-clause-gate : goal.returns-clause-gate
returns-clause-gate c = gate-cut_family

pub returns-clause-generates : goal.returns-clause-generates
returns-clause-generates c = recipe-generates
