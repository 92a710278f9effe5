use Rattle.std.proofs.Common.{◌≡◌, ◌∙◌, ap, sym, true, false, List}
use Rattle.fault_definitions.specs.Step.{Step}
use Rattle.replay_semantics.specs.{Failing.node_fails, Table.step_in, Table.has_step}
use Rattle.replay_semantics.proofs.SpreadLemmas.{fails_more}
use Rattle.replay_semantics.proofs.failures.Failures.reach.Goals as goal

pub returns-then-node_fails-clause-spreads : goal.returns-then-node_fails-clause-spreads
returns-then-node_fails-clause-spreads c = λ turn todo next last spreading.
    let steps : List Step = c.args.self.now.steps.items in
    let has : has_step steps c.args.node ≡ false =
    ap (λ (s : List Step). has_step s c.args.node) (sym c.deref.ensures.value) ∙ sym c.has_failed.ensures
    ∙ c.if-has_failed.false in
    let fails : node_fails c.args.tree.now (step_in steps) c.args.node ≡ true =
    ap (λ (s : List Step). node_fails c.args.tree.now (step_in s) c.args.node) (sym c.deref-2.ensures.value)
    ∙ sym c.node_fails.ensures ∙ c.if-node_fails.true in
    rw (c.fail_first.ensures.steps, c.fail_first.ensures.log, ← last) (fails_more c.requires.can.kept.table
    c.requires.node spreading has fails)
