use Rattle.std.proofs.Common.{sym, ◌∙◌}
use Rattle.tree_check.proofs.Differ.{some_repeat}
use Rattle.tree_check.proofs.naming.repetition.Goals as goal

pub unreachable-requires : goal.unreachable-requires
unreachable-requires c = some_repeat c.args.statements.now c.requires (sym c.in_ok-place.ensures ∙ c.in-None.is)
