use Rattle.std.proofs.Common.{ℕ, ◌<◌, ◌-◌, ◌∙◌, length, sym, ap, drop}
use Rattle.std.proofs.{lemmas.List.take_rest, lemmas.List.Elements.All-take, lemmas.List.Elements.All-drop}
use Rattle.fault_definitions.specs.Step.{Step}
use Rattle.replay_semantics.specs.{Failing.falls_not_after, Table.step_in}
use Rattle.replay_semantics.proofs.ListLemmas.{never_falls-first}
use Rattle.replay_semantics.proofs.steps.never_fall.Goals as goal

pub returns-in-len1-up : goal.returns-in-len1-up
returns-in-len1-up c =
    c.fall_not_after.ensures
    ∙ ap (falls_not_after (step_in c.args.steps.now) c.step_of.result) (take_rest c.args.nodes.now 1)
    ∙ ap (λ (before : Step). falls_not_after (step_in c.args.steps.now) before (drop 1 c.args.nodes.now))
    c.step_of.ensures
    ∙ sym (never_falls-first (step_in c.args.steps.now) c.args.nodes.now c.in-len1-up.len_at_least c.first-item.is)

pub fall_not_after-requires : goal.fall_not_after-requires
fall_not_after-requires c =
    let within = λ (node : ℕ). node < length c.args.steps.now in
    All-take within (length c.args.nodes.now - 1) (drop 1 c.args.nodes.now)
    (All-drop within 1 c.args.nodes.now c.requires)
