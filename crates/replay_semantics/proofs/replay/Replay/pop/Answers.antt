use Rattle.std.proofs.Common.{◌≡◌, ◌∙◌, ◌<◌, ◌-◌, suc, ℕ, List, length, drop, ap, sym, subst, arith}
use Rattle.std.proofs.lemmas.List.{get_or_default}
use Rattle.fault_definitions.specs.Step.{Step}
use Rattle.replay_semantics.specs.{Held.HoldsReplay, Held.start_of, Replayed.Replayed, Spread.step_without}
use Rattle.replay_semantics.proofs.HeldLemmas.{start_within, holds_less}
use Rattle.replay_semantics.proofs.replay.Replay.pop.Goals as goal

pub undo-requires-clause-start : goal.undo-requires-clause-start
undo-requires-clause-start c =
    let starts : List ℕ = c.self.inside.starts.items in
    let log : List ℕ = c.self.inside.failures.log.items in
    let order : List ℕ = c.self.inside.order.items in
    let last : ℕ = c.len-last.result - 1 in
    let held : HoldsReplay c.self.inside.tree.now c.self.inside.readers c.self.inside.failures.steps.items log order
    starts c.self.inside.admitted = c.self.invariant.0 in
    let filled : 0 < length order = subst (λ (v : Replayed). 0 < length v.order) (sym c.self.view_is) c.requires in
    let short : last < length starts = omega (arith, held.starts_all) in
    let start : c.index.result.now ≡ start_of starts log last =
    c.index.ensures ∙ get_or_default starts last c.index.result.now (length log) short in
    omega (
      arith,
      start,
      start_within held last (omega arith),
    )

pub invariant_of-self : goal.invariant_of-self
invariant_of-self c =
    let starts : List ℕ = c.self.inside.starts.items in
    let log : List ℕ = c.self.inside.failures.log.items in
    let order : List ℕ = c.self.inside.order.items in
    let steps : List Step = c.self.inside.failures.steps.items in
    let last : ℕ = c.len-last.result - 1 in
    let held : HoldsReplay c.self.inside.tree.now c.self.inside.readers steps log order starts c.self.inside.admitted =
    c.self.invariant.0 in
    let filled : 0 < length order = subst (λ (v : Replayed). 0 < length v.order) (sym c.self.view_is) c.requires in
    let is_last : length order ≡ suc last = omega arith in
    let short : last < length starts = omega (arith, held.starts_all) in
    let start : c.index.result.now ≡ start_of starts log last =
    c.index.ensures ∙ get_or_default starts last c.index.result.now (length log) short in (
      rw (c.undo.ensures.log, c.truncate.ensures.items, c.truncate-2.ensures.items, c.min-self-inside.ensures, start)
          (holds_less c.self.inside.tree.now c.self.inside.readers steps log order starts c.self.inside.admitted held
          last is_last c.undo.new.self.steps.items
          (λ node. c.undo.ensures.steps node ∙ ap (λ (n : ℕ). step_without (drop n log) steps node) start)
          c.undo.ensures.table),
      omega (arith, c.undo.ensures.room, c.self.invariant.1),
      omega (arith, c.truncate.ensures.capacity, c.self.invariant.2),
      omega (arith, c.truncate-2.ensures.capacity, c.self.invariant.3),
    )
