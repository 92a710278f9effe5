use Rattle.std.proofs.Common.{arith}
use Rattle.cut_texts.proofs.Members.{weight_parts}
use Rattle.cut_texts.proofs.diagram.members_of.Goals as goal

pub overflow_sub-result : goal.overflow_sub-result
overflow_sub-result c = omega (arith, c.weight.ensures.value, c.len.ensures.value, weight_parts c.args.cuts.now)

pub returns : goal.returns
returns c = omega (arith, c.weight.ensures.value, c.len.ensures.value, weight_parts c.args.cuts.now)
