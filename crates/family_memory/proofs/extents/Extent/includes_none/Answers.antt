use Rattle.std.proofs.Common.{arith, bit_and, inl, inr}
use Rattle.std.proofs.lemmas.Bool.{eqb-false, not-true}
use Rattle.family_memory.proofs.Sizes.{none_by_marks, none_by_reach, none_by_sizes}
use Rattle.family_memory.proofs.extents.Extent.includes_none.Goals as goal

pub returns-then-self-other-2 : goal.returns-then-self-other-2
returns-then-self-other-2 c f g is is' first second test =
    elim c.if-self-other-2.either [
      | inl past ↦ none_by_reach g c.args.other.reach first.last second.reach past
      | inr larger ↦
          none_by_sizes c.args.self.most c.args.other.least (omega arith) is is' first.most second.least larger.1
    ]

pub returns-else-self-other-2 : goal.returns-else-self-other-2
returns-else-self-other-2 c f g is is' first second test =
    none_by_marks f g c.args.self.units first.units second.common
    (eqb-false (bit_and c.args.other.common c.args.self.units) c.args.other.common (not-true _ test))
