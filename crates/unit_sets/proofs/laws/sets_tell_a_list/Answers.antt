use Rattle.unit_sets.specs.CutOrder.{cut_cmp_total}
use Rattle.unit_sets.proofs.Sorted.{same_from_members}
use Rattle.unit_sets.proofs.laws.sets_tell_a_list.Goals as goal

pub returns : goal.returns
returns c = λ xs ys s t same. same_from_members cut_cmp_total xs ys s t (λ cut. (same cut).0) (λ cut. (same cut).1)
