use Rattle.std.proofs.Common.{All, take}
use Rattle.family_memory.specs.Memory.{Has}
use Rattle.memory_tests.proofs.families.has_all.Given as goal

abbrev pub invariant-loop-r : goal.invariant-loop-r
invariant-loop-r l = All (Has l.memory) (take l.r-index l.list)
