use Rattle.std.proofs.Common.{suc, length, [], ◌∷◌, ◌++◌}
use Rattle.fault_definitions.specs.Step.{step}
use Rattle.replay_semantics.proofs.{GrowthLemmas.grows-stays, StepGrowth.step-grows}
use Rattle.replay_semantics.proofs.laws.failures_stay.Goals as goal

pub returns : goal.returns
returns c =
    λ tree order unit node number is. grows-stays (suc (length order)) number (step tree order node)
    (step tree (order ++ unit ∷ []) node) ((step-grows tree order unit).each node) is
