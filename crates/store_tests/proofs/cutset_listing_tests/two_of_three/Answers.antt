use Rattle.std.proofs.{Common.arith, lemmas.Result.IfOk-weaker}
use Rattle.store_tests.proofs.Mades.{made_empty, made_unit, made_before, lacks_kept, lacks_none}
use Rattle.store_tests.proofs.cutset_listing_tests.two_of_three.Goals as goal

pub put-requires-clause-lo : goal.put-requires-clause-lo
put-requires-clause-lo c = made_empty

pub put-requires-clause-hi : goal.put-requires-clause-hi
put-requires-clause-hi c = made_unit

pub put-requires-2-clause-lo : goal.put-requires-2-clause-lo
put-requires-2-clause-lo c = made_empty

pub put-requires-3-clause-lo : goal.put-requires-3-clause-lo
put-requires-3-clause-lo c =
    made_before c.in_ok-both.ensures.keeps (omega arith) (c.in_ok-third.ensures.made 2 (omega arith))

pub put-requires-3-clause-hi : goal.put-requires-3-clause-hi
put-requires-3-clause-hi c = made_unit

pub put-requires-4-clause-lo : goal.put-requires-4-clause-lo
put-requires-4-clause-lo c =
    made_before c.in_ok-either.ensures.keeps (omega arith) (c.in_ok-both.ensures.made 1 (omega arith))

pub returns-clause-made : goal.returns-clause-made
returns-clause-made c = IfOk-weaker c.put-4.result _ _ (λ r made. made 0 (omega arith)) c.put-4.ensures.made

pub returns-clause-lacks : goal.returns-clause-lacks
returns-clause-lacks c =
    IfOk-weaker c.put-4.result _ _
    (λ r lacks. lacks (lacks_kept _ _ c.in_ok-both.both c.in_ok-either.ensures.keeps
    (c.in_ok-both.ensures.made 0 (omega arith)).knows (c.in_ok-both.ensures.lacks (lacks_none _))))
    c.put-4.ensures.lacks
