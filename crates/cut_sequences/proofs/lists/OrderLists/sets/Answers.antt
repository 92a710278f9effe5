use Rattle.std.proofs.Common.{length, sym, ◌∙◌, ap}
use Rattle.cut_sequences.proofs.DealLemmas.{length-gathered}
use Rattle.cut_sequences.proofs.lists.OrderLists.sets.Goals as goal

pub returns : goal.returns
returns c = sym (length-gathered c.self.inside.sets c.self.inside.shares.items) ∙ ap length c.self.view_is
