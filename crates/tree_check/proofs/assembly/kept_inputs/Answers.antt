use Rattle.std.proofs.{Common.arith, lemmas.Grind.common_steps}
use Rattle.tree_check.specs.Numbered.{is_fdep_in, kinds}
use Rattle.tree_check.proofs.Edges.{kept_as}
use Rattle.tree_check.proofs.assembly.kept_inputs.Goals as goal

pub returns : goal.returns
returns c =
    let same =
    kept_as c.drops_fdeps-drops.result (is_fdep_in c.args.units (kinds c.args.gates.now)) c.args.gate.now.inputs in
    grind (arith, common_steps)
