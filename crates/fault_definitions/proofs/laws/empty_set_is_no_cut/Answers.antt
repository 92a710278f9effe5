use Rattle.std.proofs.Common.{refl, []}
use Rattle.unit_sets.specs.UnitList.{among}
use Rattle.fault_definitions.proofs.ReadingLaws.{reads-empty}
use Rattle.fault_definitions.proofs.laws.empty_set_is_no_cut.Goals as goal

pub returns : goal.returns
returns c = λ tree kept. reads-empty kept (among []) (λ n. refl) tree.top
