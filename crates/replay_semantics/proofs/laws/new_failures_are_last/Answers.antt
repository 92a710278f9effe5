use Rattle.std.proofs.Common.{suc, length, [], ◌∷◌, ◌++◌}
use Rattle.fault_definitions.specs.Step.{step}
use Rattle.replay_semantics.proofs.{GrowthLemmas.grows-new, StepGrowth.step-grows}
use Rattle.replay_semantics.proofs.laws.new_failures_are_last.Goals as goal

pub returns : goal.returns
returns c =
    λ tree order unit node was some. grows-new (suc (length order)) (step tree order node)
    (step tree (order ++ unit ∷ []) node) ((step-grows tree order unit).each node) was some
