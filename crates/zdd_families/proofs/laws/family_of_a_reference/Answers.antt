use Rattle.std.proofs.lemmas.Bool.{false_from_ne_true}
use Rattle.zdd_families.specs.Map.{is_inner}
use Rattle.zdd_families.proofs.MapLemmas.{family-inner, family-improper, test-from_IsInner, IsInner-from_test}
use Rattle.zdd_families.proofs.laws.family_of_a_reference.Goals as goal

pub returns-clause-inner : goal.returns-clause-inner
returns-clause-inner c = λ known r bounded is. family-inner known r bounded (test-from_IsInner is)

pub returns-clause-improper : goal.returns-clause-improper
returns-clause-improper c =
    λ known r above other. family-improper known r above
    (false_from_ne_true (is_inner known r) (λ test. other (IsInner-from_test {known = known} {r = r} test)))
