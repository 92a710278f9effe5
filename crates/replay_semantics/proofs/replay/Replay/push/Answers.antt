use Rattle.std.proofs.Common.{◌≡◌, ◌<◌, ◌≤◌, ◌∙◌, ◌+◌, suc, false, ℕ, List, length, eqb, is_some, ap, sym, subst, arith}
use Rattle.unit_sets.specs.UnitList.{among}
use Rattle.fault_definitions.specs.{Step.Step, Step.step, Tree.IsUnitOf, Tree.unit_count}
use Rattle.fault_definitions.proofs.StepLaws.{step-reads}
use Rattle.replay_semantics.specs.{Held.HoldsReplay, Replayed.Replayed, Table.has_step, Table.HoldsSteps}
use Rattle.replay_semantics.proofs.HeldLemmas.{holds_more, few_units, room_for_unit, holds_now, admitted-all}
use Rattle.replay_semantics.proofs.replay.Replay.push.Goals.{After-len}
use Rattle.replay_semantics.proofs.replay.Replay.push.Goals as goal

-- what the replay held before
held : (c : After-len) → HoldsReplay c.self.inside.tree.now c.self.inside.readers c.self.inside.failures.steps.items
    c.self.inside.failures.log.items c.self.inside.order.items c.self.inside.starts.items c.self.inside.admitted
held c = c.self.invariant.0

few : (c : After-len) → length c.self.inside.order.items ≤ unit_count c.self.inside.tree.now
few c = few_units (held c)

is_unit : (c : After-len) → IsUnitOf c.self.inside.tree.now c.args.unit
is_unit c = subst (λ (v : Replayed). IsUnitOf v.tree c.args.unit) (sym c.self.view_is) c.requires.unit

fresh : (c : After-len) → among c.self.inside.order.items c.args.unit ≡ false
fresh c = subst (λ (v : Replayed). among v.order c.args.unit ≡ false) (sym c.self.view_is) c.requires.fresh

room : (c : After-len) → length c.self.inside.order.items < unit_count c.self.inside.tree.now
room c = room_for_unit (held c) c.args.unit (is_unit c) (fresh c)

pub overflow_cast-at : goal.overflow_cast-at
overflow_cast-at c =
    let at = (goal.at.overflow_cast-at c).After-len in omega (arith, few at, (held at).kept.few_units)

pub overflow_add-at : goal.overflow_add-at
overflow_add-at c =
    let at = (goal.at.overflow_add-at c).After-len in omega (arith, few at, (held at).kept.few_units)

pub admitted_after-self-inside-requires : goal.admitted_after-self-inside-requires
admitted_after-self-inside-requires c =
    let at = (goal.at.admitted_after-self-inside-requires c).After-len in
    omega (arith, few at, (held at).kept.few_units)

pub push_reserved-requires : goal.push_reserved-requires
push_reserved-requires c = omega (arith, room (goal.at.push_reserved-requires c).After-len, c.self.invariant.2)

pub push_reserved-requires-2 : goal.push_reserved-requires-2
push_reserved-requires-2 c =
    let at = (goal.at.push_reserved-requires-2 c).After-len in
    omega (arith, room at, (held at).starts_all, c.self.invariant.3)

pub invariant_of-self : goal.invariant_of-self
invariant_of-self c =
    let at = (goal.at.invariant_of-self c).After-len in
    let tree = c.self.inside.tree.now in
    let steps : List Step = c.self.inside.failures.steps.items in
    let log : List ℕ = c.self.inside.failures.log.items in
    let order : List ℕ = c.self.inside.order.items in
    let starts : List ℕ = c.self.inside.starts.items in
    let holds : HoldsSteps tree order steps = holds_now (held at) in
    let last : suc (length order) ≡ c.len.result + 1 = omega arith in
    let start : c.len-start.result ≡ length log = omega arith in
    let units : c.len-2.result ≡ length order = omega arith in (
      rw (
        c.push_reserved.ensures.items,
        c.push_reserved-2.ensures.items,
        c.admitted_after-self-inside.ensures,
        start,
        units,
      ) (holds_more (held at) c.args.unit (is_unit at) (fresh at)
          c.fail_next-fits.result c.fail_next-fits.ensures.can.kept (c.fail_next-fits.ensures.failed order last holds)
          (c.fail_next-fits.ensures.fits order last (fresh at) holds)),
      c.fail_next-fits.ensures.can.room,
      omega (arith, c.push_reserved.ensures.capacity, c.self.invariant.2),
      omega (arith, c.push_reserved-2.ensures.capacity, c.self.invariant.3),
    )

pub returns-clause-admissible : goal.returns-clause-admissible
returns-clause-admissible c =
    let units : c.len-3.result ≡ length c.push_reserved.new.self.items = omega arith in
    ap (eqb c.admitted_after-self-inside.result) units
    ∙ admitted-all {tree = c.self.inside.tree.now} {rows = c.self.inside.readers}
    {steps = c.fail_next-fits.new.failures.steps.items}
    {log = c.fail_next-fits.new.failures.log.items} {order = c.push_reserved.new.self.items}
    {starts = c.push_reserved-2.new.self.items}
    {up_to = c.admitted_after-self-inside.result} (invariant_of-self c).0

pub returns-clause-top_failed : goal.returns-clause-top_failed
returns-clause-top_failed c =
    let steps : List Step = c.fail_next-fits.new.failures.steps.items in
    c.has_failed.ensures
    ∙ ap (λ (s : List Step). has_step s c.top.result) c.as_slice.ensures.value
    ∙ ap is_some (holds_now {tree = c.self.inside.tree.now} {rows = c.self.inside.readers} {steps = steps}
    {log = c.fail_next-fits.new.failures.log.items}
    {order = c.push_reserved.new.self.items} {starts = c.push_reserved-2.new.self.items}
    {up_to = c.admitted_after-self-inside.result} (invariant_of-self c).0 c.top.result c.top.ensures.node)
    ∙ ap (λ (n : ℕ). is_some (step c.self.inside.tree.now c.push_reserved.new.self.items n)) c.top.ensures.top

pub returns-clause-bound : goal.returns-clause-bound
returns-clause-bound c = λ fails.
    step-reads c.self.inside.tree.now c.push_reserved.new.self.items c.self.inside.tree.now.top
    (sym (returns-clause-top_failed c) ∙ fails)
