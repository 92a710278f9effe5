use Rattle.std.proofs.Common.{◌≡◌, ◌∙◌, sym, rules}
use Rattle.std.specs.Prelude.{count_by}
use Rattle.fault_definitions.proofs.ReadingLaws.{true_count-count_by}
use Rattle.replay_semantics.specs.Table.{has_step}
use Rattle.replay_semantics.proofs.steps.count_failed.Goals as goal

pub returns : goal.returns
returns c =
    let counted : c.count.result ≡ count_by (has_step c.args.steps.now) c.args.nodes.now = search rules in
    counted ∙ sym (true_count-count_by (has_step c.args.steps.now) c.args.nodes.now)
