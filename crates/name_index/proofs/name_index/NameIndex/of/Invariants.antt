use Rattle.std.proofs.Common.{◌≡◌, ◌++◌, drop}
use Rattle.name_index.proofs.name_index.NameIndex.of.Given as goal

abbrev pub invariant-loop-name : goal.invariant-loop-name
invariant-loop-name l = l.index ++ drop l.name-index l.names ≡ l.names
