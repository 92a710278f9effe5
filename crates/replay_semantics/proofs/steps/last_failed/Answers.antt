use Rattle.std.proofs.Common.{◌∙◌, ◌-◌, length, sym, ap, is_some, arith}
use Rattle.replay_semantics.specs.Table.{step_in}
use Rattle.replay_semantics.proofs.ListLemmas.{last_step-at}
use Rattle.replay_semantics.proofs.steps.last_failed.Goals as goal

pub returns-in-len1-up : goal.returns-in-len1-up
returns-in-len1-up c =
    c.has_failed.ensures
    ∙ ap (λ at. is_some (step_in c.args.steps.now at)) c.last-item.is
    ∙ sym (ap is_some (last_step-at (step_in c.args.steps.now) c.args.nodes.now (length c.args.nodes.now - 1)
    c.last-item.result (omega arith)))
