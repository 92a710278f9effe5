use Rattle.cut_sequences.proofs.PermutationLemmas.{permutations_sound}
use Rattle.cut_sequences.proofs.laws.permutations_are_orders.Goals as goal

pub returns : goal.returns
returns c = permutations_sound
