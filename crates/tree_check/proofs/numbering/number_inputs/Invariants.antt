use Rattle.std.proofs.Common.{◌≡◌, ◌++◌, map, take, drop}
use Rattle.tree_check.specs.{Numbered.numbered, Classes.undefined}
use Rattle.tree_check.proofs.numbering.number_inputs.Given as goal

abbrev pub invariant-loop-input : goal.invariant-loop-input
invariant-loop-input l =
    (l.row ≡ l.initial.row ++ map (numbered l.index) (take l.input-index l.inputs))
    × (undefined l.index (drop l.input-index l.inputs) ≡ undefined l.index l.inputs)
