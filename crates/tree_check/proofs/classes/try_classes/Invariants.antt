use Rattle.std.proofs.Common.{drop}
use Rattle.tree_check.specs.Examined.{read_of}
use Rattle.tree_check.proofs.Trying.{Comes}
use Rattle.tree_check.proofs.classes.try_classes.Given as goal

abbrev pub invariant-loop-code : goal.invariant-loop-code
invariant-loop-code l = Comes (read_of l.parts) l.codes (drop l.code-index l.codes)
