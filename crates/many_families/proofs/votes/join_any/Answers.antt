use Rattle.many_families.proofs.JoinSteps.{joined_any}
use Rattle.many_families.proofs.votes.join_any.Goals as goal

pub returns : goal.returns
returns c =
    joined_any c.union.new.memory c.args.voter c.args.same
    c.args.fewer c.requires.sound c.requires.has_same c.in_ok-more.ensures.gives c.union.result
    c.union.ensures.gives c.union.ensures.spent
