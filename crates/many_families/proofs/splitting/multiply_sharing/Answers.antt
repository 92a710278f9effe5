use Rattle.minimal_operations.proofs.Steps.{failed}
use Rattle.many_families.proofs.SplitSteps.{are_rests, rests_multiplied}
use Rattle.many_families.proofs.splitting.multiply_sharing.Goals as goal

pub returns-in_err-other : goal.returns-in_err-other
returns-in_err-other c =
    failed _ _ c.from_residual-in_err-other.result c.from_residual-in_err-other.ensures.1
    c.in_ok-rest.ensures.gives.went c.in_err-other.ensures.spent

pub multiply_rests-requires : goal.multiply_rests-requires
multiply_rests-requires c = are_rests c.requires c.in_ok-rest.ensures.gives c.in_ok-other.ensures.gives

pub returns : goal.returns
returns c =
    rests_multiplied c.requires c.in_ok-rest.ensures.gives c.in_ok-other.ensures.gives c.multiply_rests.new.memory
    c.multiply_rests.result c.multiply_rests.ensures
