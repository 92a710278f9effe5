-- Laws of cuts: nothing less than a minimal cut is a cut, and a tree has at most one cut list.
use Rattle.std.specs.Prelude.{◌≡◌, ℕ, true, false, not, ◌==◌, List}
use Rattle.std.proofs.Common.{◌∙◌, subst, inl, inr}
use Rattle.std.proofs.lemmas.Bool.{and_from, ne_eqb, not_from_false, cases_Bool}
use Rattle.std.proofs.lemmas.List.Elements.{All-contains}
use Rattle.unit_sets.specs.{UnitList.among, UnitList.without_unit, CutOrder.cut_cmp_total}
use Rattle.unit_sets.proofs.UnitListLemmas.{among-without_unit, Contains-from_among}
use Rattle.unit_sets.proofs.Sorted.{same_from_members}
use Rattle.fault_definitions.specs.{Tree.FaultTree, Reading.reads, Reading.Within}
use Rattle.fault_definitions.proofs.ReadingLaws.{reads-rises}
use Rattle.fault_definitions.specs.Cut.{IsMinimalFor, IsMinimalCut, IsCutList}

-- A set that lacks a member of a minimal one, and has none besides, does not fail the node.
pub smaller_fails_not : (tree : FaultTree) (node : ℕ) (set smaller : List ℕ) (member : ℕ) → IsMinimalFor tree node set
    → Within (among smaller) (among set) → among set member ≡ true → among smaller member ≡ false
    → reads tree (among smaller) node ≡ false
smaller_fails_not tree node set smaller member minimal within has lacks =
    let rest : List ℕ = without_unit member set in
    let inside : Within (among smaller) (among rest) = record {
      kept = λ n here.
          among-without_unit member set n ∙ and_from (among set n) (not (n == member)) (within.kept n here)
          (not_from_false (n == member) (ne_eqb n member
          (λ same. let clash : among smaller member ≡ true = subst (λ q. among smaller q ≡ true) same here in
          absurd cc)));
    } in
    let needed : reads tree (among rest) node ≡ false =
    All-contains (λ m. reads tree (among (without_unit m set)) node ≡ false) set member minimal.needed
    (Contains-from_among set member has) in
    elim (cases_Bool (reads tree (among smaller) node)) [
      | inl fails ↦ let clash : reads tree (among rest) node ≡ true =
          reads-rises tree (among smaller) (among rest) inside node fails in absurd cc
      | inr lives ↦ lives
    ]

-- Two cut lists of a tree are equal.
pub same_cut_list : (tree : FaultTree) (cuts others : List (List ℕ)) → IsCutList tree cuts → IsCutList tree others
    → cuts ≡ others
same_cut_list tree cuts others list other =
    same_from_members cut_cmp_total cuts others list.ordered other.ordered
    (λ set in_cuts. other.complete set (All-contains (IsMinimalCut tree) cuts set list.sound in_cuts))
    (λ set in_others. list.complete set (All-contains (IsMinimalCut tree) others set other.sound in_others))
