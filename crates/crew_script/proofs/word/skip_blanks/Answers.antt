use Rattle.std.proofs.{Common.arith, lemmas.Grind.common_steps}
use Rattle.crew_script.proofs.WordLemmas.{blanks_skipped, blanks_gone}
use Rattle.crew_script.proofs.word.skip_blanks.Goals as goal

pub returns-clause-same : goal.returns-clause-same
returns-clause-same c =
    let skipped = blanks_skipped c.args.bytes.now in
    grind (arith, common_steps, skipped, c.blanks.ensures.count)

pub returns-clause-begins : goal.returns-clause-begins
returns-clause-begins c =
    let gone = blanks_gone c.args.bytes.now in
    grind (arith, common_steps, gone, c.blanks.ensures.count)
