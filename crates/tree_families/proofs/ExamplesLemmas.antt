-- What follows from the definitions of `specs/Examples`.
use Rattle.std.specs.Prelude.{◌≡◌, ℕ, ◌+◌, Bool, true, false, not, ◌&&◌, ◌||◌, nat_le, List, [], ◌∷◌, Contains}
use Rattle.std.specs.Prelude.{if◌then◌else◌}
use Rattle.std.specs.{List.list_all, List.Sorted.IsStrictlySortedBy}
use Rattle.std.proofs.Common.{refl, sym, ◌∙◌, ap, inl, inr, arith}
use Rattle.std.proofs.lemmas.Bool.{and_parts, or_cases, not_from_true, leb-true, false≢true}
use Rattle.unit_sets.proofs.Sorted.{Contains-nil, Contains-cons_cases}
use Rattle.unit_sets.specs.UnitList.{is_within, some_within}
use Rattle.fault_definitions.specs.{CutFamily.IsCutFamily, Rank.by_rank, Reading.reads, Tree.FaultTree, Tree.unit_count}
use Rattle.zdd_families.specs.{Family.IsFamily, Minimal.IsMinimal}
use Rattle.zdd_families.proofs.{CutsLemmas.set_rises, WithinLemmas.passes_at, InclusionLemmas.same_within}
use Rattle.zdd_families.proofs.MinimalLemmas.{minimal-itself}
use Rattle.tree_families.specs.{Generation.IsFamilyOf, Examples.superset_absorbed, Examples.two_of_three}
use Rattle.tree_families.proofs.CutFamilies.{cut_family-minimal}

abbrev pub pairs_of_three : List (List ℕ)
pairs_of_three = (1 ∷ 2 ∷ []) ∷ (1 ∷ 3 ∷ []) ∷ (2 ∷ 3 ∷ []) ∷ []

abbrev pub one_alone : List (List ℕ)
one_alone = (1 ∷ []) ∷ []

abbrev pub one_and_two : List (List ℕ)
one_and_two = (1 ∷ 2 ∷ []) ∷ []

-- ---- facts of given families, by tests

passes_of : {K : Type 0} (test : K → Bool) (xs : List K) (x : K) → list_all test xs ≡ true → Contains xs x
    → test x ≡ true
passes_of test [] x all has = Contains-nil _ has
passes_of test (first ∷ others) x all has =
    let both = and_parts _ _ all in
    elim (Contains-cons_cases _ _ _ has) [
      | inl same ↦ ap test (sym same) ∙ both.0
      | inr later ↦ passes_of test others x both.1 later
    ]

-- each set that is within another has it within
abbrev is_antichain : List (List ℕ) → Bool
is_antichain f = list_all (λ set. list_all (λ other. not (is_within set other) || is_within other set) f) f

minimal_itself : {f : List (List ℕ)} → IsFamily f → is_antichain f ≡ true → IsMinimal f f
minimal_itself {f} is anti =
    minimal-itself is (λ set other has has' within.
    elim (or_cases _ _ (passes_of (λ q. not (is_within set q) || is_within q set) f other
    (passes_of (λ s. list_all (λ q. not (is_within s q) || is_within q s) f) f set anti has) has')) [
      | inl outside ↦ absurd (false≢true (sym (not_from_true _ within) ∙ outside))
      | inr back ↦ same_within (set_rises _ is has') (set_rises _ is has) back within
    ])

abbrev is_unit_of : FaultTree → ℕ → Bool
is_unit_of tree unit = nat_le 1 unit && nat_le unit (unit_count tree)

of_tree : {tree : FaultTree} {f : List (List ℕ)} → IsFamily f → list_all (list_all (is_unit_of tree)) f ≡ true
    → IsFamilyOf tree f
of_tree {tree} {f} is units = record {
  is_family = is;
  units = λ set has unit member.
      let both =
      and_parts (nat_le 1 unit) (nat_le unit (unit_count tree))
      (passes_at (is_unit_of tree) set unit (passes_of (list_all (is_unit_of tree)) f set units has) member) in
      (leb-true 1 unit both.0, leb-true unit (unit_count tree) both.1);
}

-- ---- the families

pairs_family : IsFamily pairs_of_three
unfolding IsStrictlySortedBy
pairs_family =
    record {
      ordered = ((refl, (refl, tt)), ((refl, tt), (tt, tt)));
      rising =
          (((refl, tt), (tt, tt)), (((refl, tt), (tt, tt)), (((refl, tt), (tt, tt)), tt)));
    }

one_family : IsFamily one_alone
unfolding IsStrictlySortedBy
one_family = record { ordered = (tt, tt); rising = ((tt, tt), tt) }

both_family : IsFamily one_and_two
unfolding IsStrictlySortedBy
both_family = record { ordered = (tt, tt); rising = (((refl, tt), (tt, tt)), tt) }

two_fail : (a b c : Bool) → ((a && (b && true)) || ((a && (c && true)) || ((b && (c && true)) || false)))
    ≡ nat_le 2 ((if a || false then 1 else 0) + ((if b || false then 1 else 0) + ((if c || false then 1 else 0) + 0)))
two_fail a b c = grind arith

one_fails : (a b : Bool) → ((a && true) || false)
    ≡ ((a || false) || (((a || false) && ((b || false) && true)) || false))
one_fails a b = grind arith

both_fail : (a b : Bool) → ((a && (b && true)) || false) ≡ ((a || false) && ((b || false) && true))
both_fail a b = grind arith

votes_hit : (within : ℕ → Bool) → some_within pairs_of_three within ≡ reads two_of_three within 4
unfolding reads by_rank
votes_hit within = two_fail (within 1) (within 2) (within 3)

top_hit : (within : ℕ → Bool) → some_within one_alone within ≡ reads superset_absorbed within 3
unfolding reads by_rank
top_hit within = one_fails (within 1) (within 2)

gate_within : (within : ℕ → Bool) → some_within one_and_two within ≡ reads superset_absorbed within 4
unfolding reads by_rank
gate_within within = both_fail (within 1) (within 2)

family_by : {tree : FaultTree} {node : ℕ} {f : List (List ℕ)} → IsFamily f
    → list_all (list_all (is_unit_of tree)) f ≡ true → is_antichain f ≡ true
    → ((within : ℕ → Bool) → some_within f within ≡ reads tree within node) → IsCutFamily tree node f
family_by {tree} {node} {f} is units anti hit =
    cut_family-minimal tree node f f (record { of_tree = of_tree is units; some_within = hit }) (minimal_itself is anti)

pub two_of_three-top : IsCutFamily two_of_three 4 pairs_of_three
two_of_three-top = family_by pairs_family refl refl votes_hit

pub superset_absorbed-top : IsCutFamily superset_absorbed 3 one_alone
superset_absorbed-top = family_by one_family refl refl top_hit

pub superset_absorbed-gate : IsCutFamily superset_absorbed 4 one_and_two
superset_absorbed-gate = family_by both_family refl refl gate_within
