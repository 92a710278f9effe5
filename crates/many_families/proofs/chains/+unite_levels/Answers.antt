use Rattle.std.proofs.Common.{◌-◌, ◌<◌, arith}
use Rattle.family_memory.specs.Memory.{family_in}
use Rattle.family_memory.proofs.After.{answers_of}
use Rattle.minimal_operations.specs.Rests.{IsRidBranch}
use Rattle.many_families.proofs.ChainSteps.{all_above, fewer_levels, least_level, levels_united, lo_above}
use Rattle.many_families.proofs.ChainSteps.{lowered_from, lowered_has}
use Rattle.many_families.proofs.chains.+unite_levels.Goals as goal

pub unite_levels-requires : goal.unite_levels-requires
unite_levels-requires t c =
    let s0 = c.args.memory.now in
    let s1 = c.unite_uppers.new.memory in
    let list = c.args.list.now in
    let lower = c.lower_all.new.list in
    let x = c.parts-level.result.level in
    let from = lowered_from s1 x list lower c.lower_all.ensures.size c.lower_all.ensures.lowered in
    let unit = c.parts-level.ensures.unit in
    let fewer : 4096 - least_level s1 lower < 4096 - least_level s0 list =
    fewer_levels s0 s1 list lower c.lowest-first.result (c.lowest-first.ensures.member (omega arith))
    c.parts-level.ensures.level (omega (arith, unit.1)) from in (
      omega (arith, fewer),
      lowered_has s1 x list lower c.lower_all.ensures.size c.lower_all.ensures.lowered,
    )

pub rid_node-requires-clause-lo_above : goal.rid_node-requires-clause-lo_above
rid_node-requires-clause-lo_above t c =
    lo_above c.parts-level.result.level c.args.list.now c.lower_all.new.list c.is_sound.ensures c.requires
    c.in_ok-all.ensures c.lower_all.ensures.size
    c.lower_all.ensures.lowered c.in_ok-lo.ensures

pub rid_node-requires-clause-all_above : goal.rid_node-requires-clause-all_above
rid_node-requires-clause-all_above t c =
    all_above c.parts-level.result.level c.args.list.now
    c.lower_all.new.list c.is_sound.ensures c.requires c.in_ok-all.ensures c.lower_all.ensures.size
    c.lower_all.ensures.lowered c.in_ok-lo.ensures

pub returns : goal.returns
returns t c =
    let s2 = c.unite_levels.new.memory in
    levels_united c.parts-level.result.level c.args.list.now
    c.lower_all.new.list c.is_sound.ensures c.requires c.in_ok-all.ensures c.lower_all.ensures.size
    c.lower_all.ensures.lowered c.in_ok-lo.ensures c.rid_node.new.memory c.rid_node.result
    (answers_of (IsRidBranch c.parts-level.result.level (family_in s2 c.in_ok-lo.lo) (family_in s2 c.in_ok-all.all)) s2
    c.rid_node.new.memory c.rid_node.result c.rid_node.ensures.gives c.rid_node.ensures.spent)
