use Rattle.zdd_families.proofs.LeastLemmas.{least-one, IsLeastFor-itself}
use Rattle.zdd_families.proofs.minimal_laws.sets_within_tell_a_minimal_family.Goals as goal

pub returns : goal.returns
returns c = λ f g is is' same. least-one (record { antichain = is; some_within = same }) (IsLeastFor-itself is')
