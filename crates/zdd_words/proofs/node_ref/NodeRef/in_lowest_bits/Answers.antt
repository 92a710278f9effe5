use Rattle.zdd_words.proofs.Bits.{lowest_bits}
use Rattle.zdd_words.proofs.node_ref.NodeRef.in_lowest_bits.Goals as goal

pub returns : goal.returns
returns c = lowest_bits c.args.word
