use Rattle.std.proofs.Common.{ℕ, ◌<◌, ◌-◌, length, drop}
use Rattle.std.proofs.lemmas.List.Elements.{All-take, All-drop}
use Rattle.replay_semantics.proofs.steps.first_fails.Goals as goal

pub none_before-requires : goal.none_before-requires
none_before-requires c =
    let within = λ (node : ℕ). node < length c.args.steps.now in
    All-take within (length c.args.nodes.now - 1) (drop 1 c.args.nodes.now)
    (All-drop within 1 c.args.nodes.now c.requires)
