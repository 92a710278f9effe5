use Rattle.std.proofs.Common.{◌≡◌, ◌++◌, ◌∷◌, []}
use Rattle.cutset_listing.proofs.Walks.{truncated, refused_so}
use Rattle.cutset_listing.proofs.walk.Walk.visit.Goals as goal
use Rattle.std.proofs.Common.{arith}
use Rattle.std.proofs.lemmas.Grind.{common_steps}

-- the path counts up to the last node
pub returns-in-Ok-clause-on : goal.returns-in-Ok-clause-on
returns-in-Ok-clause-on c = λ sets on.
    let popped : c.args.self.now.pending.items ≡ c.pop.new.self.items ++ c.in-Some.last ∷ [] =
    c.in-Some.ensures.items in
    c.in-Ok.ensures.on sets (rw c.truncate.ensures.items
    (truncated c.pop.new.self.items c.in-Some.last (rw popped at on)))

pub returns-in-Err-clause-limit : goal.returns-in-Err-clause-limit
returns-in-Err-clause-limit c = λ refused sets on.
    let popped : c.args.self.now.pending.items ≡ c.pop.new.self.items ++ c.in-Some.last ∷ [] =
    c.in-Some.ensures.items in
    c.in-Err.ensures.limit (refused_so c.in-Err.end _ refused) sets
    (rw c.truncate.ensures.items (truncated c.pop.new.self.items c.in-Some.last (rw popped at on)))

pub returns-in-None-clause-limit : goal.returns-in-None-clause-limit
returns-in-None-clause-limit c = grind (arith, common_steps)
