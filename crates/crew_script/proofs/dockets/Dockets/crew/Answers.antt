use Rattle.std.proofs.{Common.arith, lemmas.Grind.common_steps}
use Rattle.crew_script.proofs.DocketLemmas.{docket_within}
use Rattle.crew_script.proofs.dockets.Dockets.crew.Goals as goal

pub returns-clause-few : goal.returns-clause-few
returns-clause-few c =
    let within = docket_within c.args.self.now c.args.crew.0 c.requires in
    let kept = c.self.invariant in
    grind (arith, common_steps, within, kept)
