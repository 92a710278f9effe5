use Rattle.std.proofs.Common.{◌∙◌, ap, subst, sym, arith}
use Rattle.std.specs.List.{list_any}
use Rattle.std.proofs.lemmas.Bool.{le-ltb}
use Rattle.fault_definitions.proofs.RankLaws.{gate_sound}
use Rattle.fault_definitions.specs.Tree.{kind_of, inputs_of, unit_count}
use Rattle.replay_semantics.specs.{Failing.AsksSome, Table.has_step}
use Rattle.replay_semantics.proofs.{FailingLemmas.asks_some, ListLemmas.unit_fails}
use Rattle.replay_semantics.proofs.steps.node_fails.Goals as goal

pub gate_fails-requires-clause-some : goal.gate_fails-requires-clause-some
gate_fails-requires-clause-some c =
    let sound = gate_sound c.units.ensures.kept c.args.node (omega arith, omega arith) in
    subst AsksSome (sym c.kind.ensures) (asks_some c.args.tree.now (kind_of c.args.tree.now c.args.node)
    (inputs_of c.args.tree.now c.args.node) sound.kind)

pub returns : goal.returns
returns c =
    c.any_failed.ensures
    ∙ ap (list_any (has_step c.args.steps.now)) c.below-below.ensures.below
    ∙ unit_fails c.args.tree.now c.args.steps.now c.args.node
    (le-ltb (unit_count c.args.tree.now) c.args.node (omega arith))
