use Rattle.std.proofs.Common.{◌≡◌, ◌∙◌, ◌++◌, ◌∷◌, ◌&&◌, [], false, suc, List, ℕ, length, drop, ap, sym, subst, arith}
use Rattle.std.specs.List.{list_all}
use Rattle.fault_definitions.specs.{FailingOrder.is_admissible, Step.Step, Tree.IsUnitOf}
use Rattle.unit_sets.specs.UnitList.{among}
use Rattle.replay_semantics.specs.{Admission.node_awaits, Admission.all_in_turn, Readers.readers_in, Spread.HaveFailed}
use Rattle.replay_semantics.specs.{Table.step_in, Table.HoldsSteps}
use Rattle.replay_semantics.proofs.AdmissionLemmas.{admissible_next, fits_awaited, fits_not}
use Rattle.replay_semantics.proofs.replay.fail_next.Goals.{After-push}
use Rattle.replay_semantics.proofs.replay.fail_next.Goals as goal

same : (c : After-push) → c.from.result ≡ c.args.unit
same c = c.from.ensures ∙ c.number.ensures.value

-- whether the longer order can happen, by the readers of what fails at its last unit
next : (c : After-push) (order : List ℕ) → suc (length order) ≡ c.args.at → among order c.args.unit ≡ false
    → HoldsSteps c.args.tree.now order c.args.failures.now.steps.items
    → is_admissible c.args.tree.now (order ++ c.args.unit ∷ []) ≡ (is_admissible c.args.tree.now order
    && (list_all (node_awaits c.args.tree.now (step_in c.args.failures.now.steps.items) c.args.unit)
    (readers_in c.args.readers.now c.args.unit)
    && all_in_turn c.args.tree.now c.args.readers.now c.push.new.self.steps.items
    (drop (length c.args.failures.now.log.items) c.push.new.self.log.items)))
next c order last fresh holds =
    let tree = c.args.tree.now in
    let before : List Step = c.args.failures.now.steps.items in
    let log : List ℕ = c.args.failures.now.log.items in
    let after : List Step = c.push.new.self.steps.items in
    let log' : List ℕ = c.push.new.self.log.items in
    admissible_next tree c.requires.tree c.args.readers.now c.requires.readers order c.args.unit fresh before after
    holds log log'
    (subst (λ (n : ℕ). HaveFailed tree (order ++ n ∷ []) before after log log') (same c)
    (c.push.ensures.failed order (subst (IsUnitOf tree) (sym (same c)) c.requires.unit) last holds))

awaited : (c : After-push) → c.all_await-awaited.result
    ≡ list_all (node_awaits c.args.tree.now (step_in c.args.failures.now.steps.items) c.args.unit)
    (readers_in c.args.readers.now c.args.unit)
awaited c =
    let tree = c.args.tree.now in
    let before : List Step = c.args.failures.now.steps.items in
    c.all_await-awaited.ensures
    ∙ ap (λ (s : List Step). list_all (node_awaits tree (step_in s) c.from.result) c.row.result.now)
    c.as_slice.ensures.value
    ∙ ap (list_all (node_awaits tree (step_in before) c.from.result))
    (c.row.ensures ∙ ap (readers_in c.args.readers.now) c.number-2.ensures)
    ∙ ap (λ (n : ℕ). list_all (node_awaits tree (step_in before) n) (readers_in c.args.readers.now n)) (same c)

pub returns-then-awaited-clause-fits : goal.returns-then-awaited-clause-fits
returns-then-awaited-clause-fits c = λ order last fresh holds.
    let at = (goal.at.returns-then-awaited-clause-fits c).After-push in
    let start : c.len-start.result ≡ length c.args.failures.now.log.items = omega arith in
    next at order last fresh holds
    ∙ fits_awaited (is_admissible c.args.tree.now order) (sym (awaited at) ∙ c.if-awaited.true)
    (sym (c.keep_turns.ensures ∙ ap (λ (n : ℕ). all_in_turn c.args.tree.now c.args.readers.now
    c.push.new.self.steps.items (drop n c.push.new.self.log.items)) start))

pub returns-else-awaited-clause-fits : goal.returns-else-awaited-clause-fits
returns-else-awaited-clause-fits c = λ order last fresh holds.
    let at = (goal.at.returns-else-awaited-clause-fits c).After-push in
    next at order last fresh holds
    ∙ fits_not (is_admissible c.args.tree.now order) _ (sym (awaited at)) c.if-awaited.false
