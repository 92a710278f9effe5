use Rattle.std.proofs.Common.{rules, arith, sym, ◌∙◌}
use Rattle.cutset_lists.proofs.WaitingLemmas.{found_waiters, finds-some, finds-none, NoneAt-more}
use Rattle.cutset_lists.proofs.waiting.Waiting.finds_marked.Goals as goal

pub is_any_found-requires : goal.is_any_found-requires
is_any_found-requires c =
    let units = c.args.self.now.all_units in
    found_waiters c.number.result c.requires.waiting (search rules) c.index.ensures c.as_slice-waiters.ensures.items

pub returns-then-is_any_found : goal.returns-then-is_any_found
returns-then-is_any_found c =
    let units = c.args.self.now.all_units in
    sym (finds-some c.args.self.now.marked c.args.set.now c.args.size c.loop-unit.unit-index c.unit-item.result
    c.requires.waiting c.requires.marks c.loop-unit-test.true c.unit-item.is c.number.ensures.value (search rules)
    c.index.ensures c.as_slice-waiters.ensures.items (sym c.is_any_found.ensures ∙ c.if-is_any_found.true))

pub loop-unit-preserved : goal.loop-unit-preserved
loop-unit-preserved c =
    let units = c.args.self.now.all_units in
    NoneAt-more c.args.sets.now c.args.self.now.at.items c.args.self.now.marked c.args.set.now c.args.size
    c.loop-unit.unit-index c.unit-item.result c.loop-unit-test.true c.unit-item.is c.number.ensures.value
    (search rules) c.index.ensures
    c.as_slice-waiters.ensures.items (sym c.is_any_found.ensures ∙ c.if-is_any_found.false) c.loop-unit.invariant

pub returns : goal.returns
returns c =
    sym (finds-none c.args.self.now.marked c.args.set.now
    c.args.size c.loop-unit.unit-index c.requires.waiting c.requires.marks (omega arith) c.loop-unit.invariant)
