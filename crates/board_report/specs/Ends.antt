-- What a board shows at its end.
use Rattle.std.specs.Prelude.{◌≡◌, length}
use Rattle.fault_definitions.specs.Tree.{unit_count}
use Rattle.margin_policy.specs.Holders.{HoldersBelow}
use Rattle.board_report.specs.declared.at_end.AtEnd.{AtEnd}

-- the standing has the units of the tree, and each that is out is with one of the crews
pub record IsEnd (end : AtEnd) : Type 0 where
  pub holders : HoldersBelow (length end.dockets.now) end.standing.now.held
  pub units : end.standing.now.units ≡ unit_count end.tree.now
