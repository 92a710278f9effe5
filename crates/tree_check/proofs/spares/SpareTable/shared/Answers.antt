use Rattle.std.proofs.Common.{sym, ◌∙◌, ap, ◌+◌, length}
use Rattle.std.proofs.lemmas.List.{length-replicate}
use Rattle.tree_check.specs.declared.spares.EarlierUses.TheVariants.{Unused}
use Rattle.tree_check.proofs.FirstPlaces.{none_from_no_some}
use Rattle.tree_check.proofs.SpareLemmas.{begun, next_gate, clash_here}
use Rattle.tree_check.proofs.spares.SpareTable.shared.Goals as goal

pub loop-gate-init : goal.loop-gate-init
loop-gate-init c = record {
  room = ap length c.requires.fresh ∙ length-replicate (c.args.nodes + 1) Unused;
  rest = begun c.args.nodes c.args.gates.now c.requires.numbers c.requires.fresh;
}

pub returns-in-Some : goal.returns-in-Some
returns-in-Some c =
    sym (clash_here c.args.gates.now c.loop-gate.gate-index c.loop-gate-test.true c.gate-item.is
    c.loop-gate.self.uses.items c.in-Some.place (sym c.in-Some.ensures.clash))
    ∙ c.loop-gate.invariant.rest

pub loop-gate-preserved : goal.loop-gate-preserved
loop-gate-preserved c =
    let none = none_from_no_some c.clash_at.result c.in_default.not-Some in
    record {
      room = c.clash_at.ensures.room ∙ c.loop-gate.invariant.room;
      rest =
          next_gate c.args.gates.now c.loop-gate.gate-index c.loop-gate-test.true c.gate-item.is
          c.loop-gate.self.uses.items (sym c.clash_at.ensures.clash ∙ none)
          (c.clash_at.ensures.table none) ∙ c.loop-gate.invariant.rest;
    }
