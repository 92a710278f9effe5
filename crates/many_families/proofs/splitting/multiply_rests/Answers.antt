use Rattle.std.proofs.lemmas.Result.{MatchResult-from_both}
use Rattle.minimal_operations.proofs.Steps.{failed}
use Rattle.many_families.proofs.SplitSteps.{went2, went3, split_multiplied}
use Rattle.many_families.proofs.splitting.multiply_rests.Goals as goal

pub returns-in_err-second : goal.returns-in_err-second
returns-in_err-second c =
    failed _ _ c.from_residual-in_err-second.result c.from_residual-in_err-second.ensures.1
    c.in_ok-first.ensures.gives.went c.in_err-second.ensures.spent

pub returns-in_err-alone : goal.returns-in_err-alone
returns-in_err-alone c =
    failed _ _ c.from_residual-in_err-alone.result c.from_residual-in_err-alone.ensures.1
    (went2 c.requires c.in_ok-first.ensures.gives c.in_ok-second.ensures.gives) c.in_err-alone.ensures.spent

pub returns-in_err-joined : goal.returns-in_err-joined
returns-in_err-joined c =
    failed _ _ c.from_residual-in_err-joined.result c.from_residual-in_err-joined.ensures.1
    (went3 c.requires c.in_ok-first.ensures.gives c.in_ok-second.ensures.gives c.in_ok-alone.ensures.gives)
    c.in_err-joined.ensures.spent

pub returns : goal.returns
returns c =
    split_multiplied c.requires c.in_ok-first.ensures.gives c.in_ok-second.ensures.gives c.in_ok-alone.ensures.gives
    c.in_ok-joined.ensures.gives c.union-2.new.memory c.union-2.result
    (MatchResult-from_both c.union-2.result _ _ c.union-2.ensures.gives c.union-2.ensures.spent)
