use Rattle.std.proofs.Common.{rules, subst, All}
use Rattle.std.proofs.{lemmas.List.take_all, lemmas.List.Elements.All-more}
use Rattle.family_memory.specs.Memory.{Has}
use Rattle.memory_tests.proofs.families.has_all.Goals as goal

pub loop-r-preserved : goal.loop-r-preserved
loop-r-preserved c =
    All-more (Has c.args.memory.now) c.args.list.now c.loop-r.r-index c.r-item.result c.loop-r-test.true
    c.loop-r.invariant (subst (Has c.args.memory.now) c.r-item.is (search rules))

pub returns : goal.returns
returns c =
    λ _. subst (All (Has c.args.memory.now)) (take_all c.loop-r.r-index c.args.list.now c.loop-r-test.false)
    c.loop-r.invariant
