use Rattle.unit_sets.specs.UnitList.{among}
use Rattle.fault_definitions.proofs.ReadingLaws.{reads-full}
use Rattle.fault_definitions.proofs.laws.all_units_are_a_cut.Goals as goal

pub returns : goal.returns
returns c = λ tree kept set full. reads-full kept (among set) full tree.top kept.top_is_node kept.top_is_read
