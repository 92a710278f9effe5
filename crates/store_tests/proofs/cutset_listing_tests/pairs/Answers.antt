use Rattle.std.proofs.Common.{◌*◌, ◌-◌, ◌∙◌, refl, arith}
use Rattle.store_tests.proofs.Mades.{made_empty, made_unit, made_before, lacks_kept, lacks_none}
use Rattle.store_tests.proofs.cutset_listing_tests.pairs.Goals as goal

pub loop-left-init : goal.loop-left-init
loop-left-init c =
    record { own = refl; made = made_empty; lacks = lacks_none _; few = c.requires.few }

pub put-requires-clause-lo : goal.put-requires-clause-lo
put-requires-clause-lo c = made_empty

pub put-requires-clause-hi : goal.put-requires-clause-hi
put-requires-clause-hi c = made_unit

pub put-requires-in-loop-left-clause-lo : goal.put-requires-in-loop-left-clause-lo
put-requires-in-loop-left-clause-lo c =
    made_before c.in_ok-second.ensures.keeps (omega arith) c.loop-left.invariant.made

pub loop-left-preserved : goal.loop-left-preserved
loop-left-preserved c =
    let more = c.loop-left-test.true in
    record {
      own = c.in_ok-all.ensures.store ∙ c.in_ok-second.ensures.store ∙ c.loop-left.invariant.own;
      made = c.in_ok-all.ensures.made (2 * (c.loop-left.left - 1)) (omega (arith, more));
      lacks =
          c.in_ok-all.ensures.lacks (lacks_kept _ _ c.loop-left.all c.in_ok-second.ensures.keeps
          c.loop-left.invariant.made.knows c.loop-left.invariant.lacks);
      few = let few = c.loop-left.invariant.few in omega (arith, few);
    }
