use Rattle.std.proofs.lemmas.Grind.{common_steps}
use Rattle.std.proofs.Common.{arith}
use Rattle.std.proofs.Common.{ap, sym, ◌∙◌}
use Rattle.tree_check.specs.{Said.definitions, Classes.first}
use Rattle.tree_check.proofs.Unmarked.{none_marked}
use Rattle.tree_check.proofs.cycles.first_marked.Goals as goal

pub returns-then-not-contains : goal.returns-then-not-contains
returns-then-not-contains c =
    sym (ap first (none_marked c.args.marks.now c.args.index.now (definitions c.args.statements.now)
    (sym c.contains.ensures.value ∙ c.if-not-contains.true)))

pub loop-statement-preserved : goal.loop-statement-preserved
loop-statement-preserved c = grind (arith, common_steps)
