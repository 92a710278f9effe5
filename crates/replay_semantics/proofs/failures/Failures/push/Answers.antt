use Rattle.std.proofs.Common.{◌≡◌, ◌∙◌, ap, sym, true, false, List, length, arith}
use Rattle.fault_definitions.specs.Step.{Step}
use Rattle.replay_semantics.specs.Table.{has_step}
use Rattle.replay_semantics.proofs.SpreadLemmas.{first_fails, nothing_failed, all_failed, turn_of}
use Rattle.replay_semantics.proofs.failures.Failures.push.Goals as goal

pub returns-then-has_failed-clause-failed : goal.returns-then-has_failed-clause-failed
returns-then-has_failed-clause-failed c = λ order is_unit last holds.
    let steps : List Step = c.args.self.now.steps.items in
    let has : has_step steps c.args.unit ≡ true =
    ap (λ (s : List Step). has_step s c.args.unit) (sym c.deref.ensures.value) ∙ sym c.has_failed.ensures
    ∙ c.if-has_failed.true in
    nothing_failed c.requires.tree order c.args.unit c.requires.can.kept is_unit holds has

pub returns-clause-failed : goal.returns-clause-failed
returns-clause-failed c = λ order is_unit last holds.
    let steps : List Step = c.args.self.now.steps.items in
    let has : has_step steps c.args.unit ≡ false =
    ap (λ (s : List Step). has_step s c.args.unit) (sym c.deref.ensures.value) ∙ sym c.has_failed.ensures
    ∙ c.if-has_failed.false in
    all_failed c.requires.tree order c.args.unit
    (c.spread.ensures.spreads (turn_of order c.args.unit steps c.args.self.now.log.items) last
    (let start : c.len-start.result ≡ length c.args.self.now.log.items = omega arith in
    rw (c.fail_first.ensures.steps, c.fail_first.ensures.log, start, ← last)
    (first_fails c.requires.tree order c.args.unit c.requires.can.kept is_unit holds has)))
