use Rattle.std.proofs.Common.{sym}
use Rattle.tree_check.proofs.Differ.{Comes-adds, Comes-refused, next_name}
use Rattle.tree_check.proofs.naming.add_all.Goals as goal

pub returns-then-not-branch-clause-differ : goal.returns-then-not-branch-clause-differ
returns-then-not-branch-clause-differ c =
    sym (Comes-refused c.name_of.result _ _
    (next_name c.args.named c.args.statements.now c.loop-statement.statement-index c.name_of.result
    c.loop-statement-test.true c.statement-item.is c.name_of.ensures)
    c.in_ok-add.ensures c.if-not-branch.true c.loop-statement.invariant)

pub loop-statement-preserved : goal.loop-statement-preserved
loop-statement-preserved c =
    Comes-adds c.name_of.result _
    (next_name c.args.named c.args.statements.now c.loop-statement.statement-index c.name_of.result
    c.loop-statement-test.true c.statement-item.is c.name_of.ensures)
    c.in_ok-add.ensures c.if-not-branch.false c.loop-statement.invariant
