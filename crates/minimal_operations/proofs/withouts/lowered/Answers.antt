use Rattle.minimal_operations.proofs.withouts.lowered.Goals as goal

pub loop-a-preserved : goal.loop-a-preserved
loop-a-preserved c = record {
  has = c.nearer-part.ensures.serves.has;
  same = λ left without. c.loop-a.invariant.same left (c.nearer-part.ensures.serves.same left without);
}
