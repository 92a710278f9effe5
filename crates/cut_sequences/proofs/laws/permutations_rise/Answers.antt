use Rattle.cut_sequences.proofs.PermutationLemmas.{permutations_sorted}
use Rattle.cut_sequences.proofs.laws.permutations_rise.Goals as goal

pub returns : goal.returns
returns c = permutations_sorted
