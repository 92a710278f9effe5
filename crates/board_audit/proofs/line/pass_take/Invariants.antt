use Rattle.std.proofs.Common.{◌≡◌, drop}
use Rattle.std.specs.List.{flat_map}
use Rattle.text_pieces.specs.Shown.{named}
use Rattle.board_audit.specs.Pieces.{past}
use Rattle.board_audit.proofs.line.pass_take.Given as goal

abbrev pub invariant-loop-name : goal.invariant-loop-name
invariant-loop-name l =
    past (flat_map named (drop l.name-index l.names)) l.part ≡ past (flat_map named l.names) l.initial.part
