use Rattle.std.specs.Prelude.{is_some}
use Rattle.std.proofs.lemmas.Bool.{and_parts}
use Rattle.fault_definitions.specs.{FailingOrder.is_admissible, Step.step}
use Rattle.fault_definitions.proofs.StepLaws.{step-reads}
use Rattle.fault_definitions.proofs.laws.failing_order_is_a_cut.Goals as goal

pub returns-clause-step : goal.returns-clause-step
returns-clause-step c = λ tree order. step-reads tree order tree.top

pub returns-clause-failing : goal.returns-clause-failing
returns-clause-failing c =
    λ tree order fails. step-reads tree order tree.top
    (and_parts (is_admissible tree order) (is_some (step tree order tree.top)) fails).1
