use Rattle.cut_sequences.proofs.PermutationLemmas.{permutations_complete}
use Rattle.cut_sequences.proofs.laws.orders_are_permutations.Goals as goal

pub returns : goal.returns
returns c = permutations_complete
