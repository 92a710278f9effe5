use Rattle.std.proofs.Common.{arith}
use Rattle.cut_sequences.proofs.DealLemmas.{share_at}
use Rattle.cut_sequences.proofs.lists.OrderLists.share_of.Goals as goal

pub returns : goal.returns
returns c =
    share_at c.self.inside.sets c.args.i c.len-workers.result c.self.invariant.0 c.self.view_is
    (omega (arith, c.len-workers.ensures, c.self.inside.shares.ok.0)) c.index.ensures
