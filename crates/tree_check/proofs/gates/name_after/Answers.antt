use Rattle.std.proofs.Common.{sym}
use Rattle.tree_check.proofs.FirstPlaces.{none_behind, some_behind}
use Rattle.tree_check.specs.declared.numbered.NumberedGate.{NumberedGate}
use Rattle.tree_check.proofs.gates.name_after.Goals as goal

pub returns-then-gates-number : goal.returns-then-gates-number
returns-then-gates-number c =
    sym (some_behind (λ (gate : NumberedGate). gate.name) c.args.gates.now c.args.number c.index-gates-number.result
    c.if-gates-number.true)

pub returns-else-gates-number : goal.returns-else-gates-number
returns-else-gates-number c =
    sym (none_behind (λ (gate : NumberedGate). gate.name) c.args.gates.now c.args.number c.if-gates-number.false)
