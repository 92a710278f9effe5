use Rattle.std.proofs.Common.{◌≡◌, ◌∙◌, sym, rules}
use Rattle.std.specs.Prelude.{count_by}
use Rattle.fault_model.specs.Scratch.{value_in}
use Rattle.fault_definitions.proofs.ReadingLaws.{true_count-count_by}
use Rattle.fault_model.proofs.reading.count_values.Goals as goal

pub returns : goal.returns
returns c =
    let counted : c.count.result ≡ count_by (value_in c.args.values.now) c.args.nodes.now = search rules in
    counted ∙ sym (true_count-count_by (value_in c.args.values.now) c.args.nodes.now)
