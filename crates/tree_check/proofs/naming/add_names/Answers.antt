use Rattle.std.proofs.Common.{arith, ◌≡◌, false, sym}
use Rattle.std.proofs.lemmas.Grind.{common_steps}
use Rattle.tree_check.specs.Said.{basic_names, gate_names}
use Rattle.fault_words.specs.Names.{all_differ}
use Rattle.tree_check.proofs.Differ.{differ-front_false}
use Rattle.tree_check.proofs.naming.add_names.Goals as goal

pub returns-then-not-branch-clause-differ : goal.returns-then-not-branch-clause-differ
returns-then-not-branch-clause-differ c =
    let same : all_differ (basic_names c.args.statements.now) ≡ false = grind (arith, common_steps) in
    sym (differ-front_false (basic_names c.args.statements.now) (gate_names c.args.statements.now) same)
