use Rattle.fault_definitions.specs.CutFamily.{IsCutFamily}
use Rattle.tree_families.proofs.Building.{StandFor-table}
use Rattle.tree_families.proofs.laws.families_from_a_table.Goals as goal

pub returns : goal.returns
returns c = λ tree. StandFor-table (IsCutFamily tree)
