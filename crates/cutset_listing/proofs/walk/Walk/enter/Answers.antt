use Rattle.std.proofs.{Common.sym, lemmas.Bool.eqb-true, lemmas.Result.on_ok_weaker}
use Rattle.cutset_listing.proofs.Walks.{skips, fewer_left, finds_on, finds_fewer, finds_heavy}
use Rattle.cutset_listing.proofs.walk.Walk.enter.Goals as goal

-- the family without sets
pub returns-then-eq-clause-on : goal.returns-then-eq-clause-on
returns-then-eq-clause-on c =
    λ sets on. skips _ c.args.at on (eqb-true c.args.at.node 0 (sym c.if-eq.ensures))

pub returns-then-eq-clause-fewer : goal.returns-then-eq-clause-fewer
returns-then-eq-clause-fewer c = fewer_left _ _ c.args.at

-- the first set of another one
pub returns-clause-on : goal.returns-clause-on
returns-clause-on c =
    on_ok_weaker c.keep.result
    (λ kept. finds_on c.args.at c.requires.at_end c.in_ok-descend.ensures.on {new = c.keep.new.self} kept)
    c.keep.ensures.kept

pub returns-clause-fewer : goal.returns-clause-fewer
returns-clause-fewer c =
    on_ok_weaker c.keep.result
    (λ kept. finds_fewer c.args.at c.requires.at_end c.in_ok-descend.ensures.on {new = c.keep.new.self} kept)
    c.keep.ensures.kept

pub returns-clause-limit : goal.returns-clause-limit
returns-clause-limit c = λ refused.
    finds_heavy c.args.at c.requires.at_end c.in_ok-descend.ensures.on (c.keep.ensures.limit refused)
