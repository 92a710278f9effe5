use Rattle.std.proofs.Common.{◌∙◌, ap}
use Rattle.galileo_tree.specs.declared.raw.RawBasic.{RawBasic}
use Rattle.tree_check.specs.Said.{basic_in}
use Rattle.tree_check.proofs.{FirstPlaces.passed_one, FirstPlaces.passed_none, StatementParts.no_basic_in}
use Rattle.tree_check.proofs.statements.unit_after.Goals as goal
use Rattle.tree_check.proofs.statements.unit_after.Goals.{in-Basic+else-to_pass-eq0, in_default}

pub loop-statement-preserved : goal.loop-statement-preserved
loop-statement-preserved c =
    elim c.match-statement.branch [
      | in-Basic+else-to_pass-eq0 w ↦ passed_one basic_in (λ (y : RawBasic). y.name.place) c.args.statements.now
          c.loop-statement.statement-index c.statement-item.result c.loop-statement.to_pass c.loop-statement-test.true
          c.statement-item.is (ap basic_in w.in-Basic.is) w.if-to_pass-eq0.false w.to_pass-is ∙
          c.loop-statement.invariant
      | in_default w ↦ passed_none basic_in (λ (y : RawBasic). y.name.place) c.args.statements.now
          c.loop-statement.statement-index c.statement-item.result c.loop-statement.to_pass c.loop-statement-test.true
          c.statement-item.is (no_basic_in c.statement-item.result w.in_default.not-Basic)
          w.to_pass-is ∙ c.loop-statement.invariant
    ]
