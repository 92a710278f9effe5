use Rattle.fault_definitions.specs.Tree.{IsUnitOf}
use Rattle.wave_planner.proofs.FirstFitLemmas.{waves_have}
use Rattle.board_tests.proofs.wave_planner_tests.holds.Goals as goal

pub are_written-requires : goal.are_written-requires
are_written-requires c = waves_have (IsUnitOf c.args.tree.now) c.in-Ok.ensures.waves c.requires.units
