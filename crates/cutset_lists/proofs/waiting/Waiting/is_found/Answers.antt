use Rattle.std.proofs.Common.{sym}
use Rattle.cutset_lists.specs.Waiting.{set_at}
use Rattle.cutset_lists.proofs.WaitingLemmas.{sign_missing}
use Rattle.cutset_lists.proofs.waiting.Waiting.is_found.Goals as goal

pub returns-then-not-contains : goal.returns-then-not-contains
returns-then-not-contains c =
    sym (sign_missing c.args.marked.now (set_at c.args.sets.now c.args.waiter.place) c.args.size c.args.waiter.sign
    c.requires.sign (sym c.if-not-contains.ensures.value))
