use Rattle.std.proofs.Common.{◌∙◌, ap}
use Rattle.galileo_tree.specs.declared.raw.RawTop.{RawTop}
use Rattle.tree_check.specs.Said.{top_in}
use Rattle.tree_check.proofs.{FirstPlaces.passed_one, FirstPlaces.passed_none, StatementParts.no_top_in}
use Rattle.tree_check.proofs.statements.top_after.Goals as goal
use Rattle.tree_check.proofs.statements.top_after.Goals.{in-Top+else-to_pass-eq0, in_default}

pub loop-statement-preserved : goal.loop-statement-preserved
loop-statement-preserved c =
    elim c.match-statement.branch [
      | in-Top+else-to_pass-eq0 w ↦ passed_one top_in (λ (y : RawTop). y.word) c.args.statements.now
          c.loop-statement.statement-index c.statement-item.result c.loop-statement.to_pass c.loop-statement-test.true
          c.statement-item.is (ap top_in w.in-Top.is) w.if-to_pass-eq0.false w.to_pass-is ∙ c.loop-statement.invariant
      | in_default w ↦ passed_none top_in (λ (y : RawTop). y.word) c.args.statements.now
          c.loop-statement.statement-index c.statement-item.result c.loop-statement.to_pass c.loop-statement-test.true
          c.statement-item.is (no_top_in c.statement-item.result w.in_default.not-Top)
          w.to_pass-is ∙ c.loop-statement.invariant
    ]
