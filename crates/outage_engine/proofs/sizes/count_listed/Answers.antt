use Rattle.std.proofs.Common.{arith}
use Rattle.cut_texts.proofs.Members.{weight_parts}
use Rattle.outage_engine.proofs.sizes.count_listed.Goals as goal

pub overflow_sub-result : goal.overflow_sub-result
overflow_sub-result c = omega (arith, c.weight.ensures.value, c.len-sets.ensures.value, weight_parts c.in-Ok.cuts)

pub returns-in-Ok-clause-counts : goal.returns-in-Ok-clause-counts
returns-in-Ok-clause-counts c = record {
  list = c.in-Ok.cuts;
  within = record { all = c.in-Ok.ensures.cut_list; light = c.in-Ok.ensures.within };
  counted = c.len-sets.ensures.value;
  summed = omega (arith, c.weight.ensures.value, c.len-sets.ensures.value, weight_parts c.in-Ok.cuts);
  nodes = tt;
}
