use Rattle.std.proofs.Common.{sym}
use Rattle.galileo_tree.proofs.Parses.{inputs_after}
use Rattle.galileo_tree.proofs.grammar.all_inputs.Goals as goal

pub returns-then-is_name : goal.returns-then-is_name
returns-then-is_name c =
    inputs_after c.args.gate.now c.add_first_input.new.gate c.args.reader.now c.add_first_input.new.reader c.args.first
    c.add_first_input.result (sym c.if-is_name.ensures.named) c.add_first_input.ensures
