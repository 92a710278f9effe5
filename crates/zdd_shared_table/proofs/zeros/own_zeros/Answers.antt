use Rattle.std.proofs.lemmas.List.{take-replicate}
use Rattle.zdd_shared_table.proofs.zeros.own_zeros.Goals as goal

pub shared_ref_as_front-result : goal.shared_ref_as_front-result
shared_ref_as_front-result c = c.requires

pub returns : goal.returns
returns c = take-replicate c.args.count 1048576 0 c.requires
