use Rattle.std.proofs.lemmas.Result.{on_ok_weaker}
use Rattle.cutset_lists.proofs.GateLemmas.{IsReducedFrom-minimal}
use Rattle.cutset_lists.proofs.minimal.reduce.Goals as goal

pub returns-else-apart : goal.returns-else-apart
returns-else-apart c =
    on_ok_weaker c.minimize.result (IsReducedFrom-minimal c.args.sets.now c.minimize.new.sets) c.minimize.ensures
