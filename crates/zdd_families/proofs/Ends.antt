-- Minimal unions, products and rests that are known at once.
use Rattle.std.specs.Prelude.{◌≡◌, ◌≢◌, ℕ, true, List, [], ◌∷◌, Contains}
use Rattle.std.proofs.Common.{refl, sym, ◌∙◌, arith}
use Rattle.std.proofs.lemmas.Bool.{false≢true, false_from_ne_true}
use Rattle.unit_sets.proofs.Sorted.{Contains-cons_first, Contains-nil}
use Rattle.unit_sets.specs.UnitList.{is_within}
use Rattle.zdd_families.proofs.{FamilyLemmas.IsFamily-nil, CutsLemmas.cut_lo, MinimalLemmas.minimal-none}
use Rattle.zdd_families.proofs.{MinimalLemmas.minimal-unit, WithoutLemmas.unit-without_other}
use Rattle.zdd_families.proofs.{LeastLemmas.IsLeastFor-same, LeastNodesLemmas.hi_includes_none}
use Rattle.zdd_families.specs.{Cuts.Cuts, Inclusion.Includes, Without.IsWithout}
use Rattle.zdd_families.specs.{Antichains.IsAntichain, Least.IsLeastUnion, Least.IsLeastProduct}
use Rattle.zdd_families.proofs.InclusionLemmas.{Includes-from_test, test-from_part, within_itself}

-- ---- order does not matter

pub least_union-swap : (f g h : List (List ℕ)) → IsLeastUnion f g h → IsLeastUnion g f h
least_union-swap f g h is =
    IsLeastFor-same is (λ within. grind arith)

pub least_product-swap : (f g h : List (List ℕ)) → IsLeastProduct f g h → IsLeastProduct g f h
least_product-swap f g h is =
    IsLeastFor-same is (λ within. grind arith)

-- ---- unions

pub least_union-none : {g : List (List ℕ)} → IsAntichain g → IsLeastUnion [] g g
least_union-none is = record { antichain = is; some_within = λ within. refl }

pub least_union-itself : {f : List (List ℕ)} → IsAntichain f → IsLeastUnion f f f
least_union-itself {f} is = record { antichain = is; some_within = λ within. grind arith }

-- every set includes the empty set
pub least_union-unit : (g : List (List ℕ)) → IsLeastUnion ([] ∷ []) g ([] ∷ [])
least_union-unit g = record { antichain = minimal-unit; some_within = λ within. refl }

-- ---- products

pub least_product-none : (g : List (List ℕ)) → IsLeastProduct [] g []
least_product-none g = record { antichain = minimal-none; some_within = λ within. refl }

pub least_product-itself : {f : List (List ℕ)} → IsAntichain f → IsLeastProduct f f f
least_product-itself {f} is = record { antichain = is; some_within = λ within. grind arith }

pub least_product-unit : {g : List (List ℕ)} → IsAntichain g → IsLeastProduct ([] ∷ []) g g
least_product-unit is = record { antichain = is; some_within = λ within. refl }

-- ---- rests

pub without-itself : (f : List (List ℕ)) → IsWithout f f []
without-itself f = record {
  is_family = IsFamily-nil;
  sets = λ set. (
    λ none. Contains-nil set none,
    λ both. absurd (false≢true (sym both.1 ∙ test-from_part _ _ _ both.0 (within_itself set))),
  );
}

some_set : {x : ℕ} {f lo : List (List ℕ)} (hi : List (List ℕ)) → Cuts x f lo hi → IsAntichain f → hi ≢ []
    → Contains lo [] → ⊥
some_set [] cut is filled has = filled refl
some_set {lo} (set ∷ hi) cut is filled has =
    false≢true (sym (hi_includes_none cut is set (Contains-cons_first _ _))
    ∙ test-from_part lo set [] has refl)

-- a minimal family with a unit lacks the empty set
pub no_empty_set : (x : ℕ) {f : List (List ℕ)} (lo : List (List ℕ)) {hi : List (List ℕ)} → Cuts x f lo hi
    → IsAntichain f → hi ≢ [] → Contains f [] → ⊥
no_empty_set x lo {hi} cut is filled has = some_set hi cut is filled (cut_lo [] cut tt has)

within_none : (part : List ℕ) (f : List (List ℕ)) → Contains f part → is_within [] part ≡ true → Contains f []
within_none [] f has within = has
within_none (unit ∷ part) f has within = absurd (false≢true within)

pub unit-left : (g : List (List ℕ)) → ¬ (Contains g []) → IsWithout ([] ∷ []) g ([] ∷ [])
unit-left g lacks =
    unit-without_other g (false_from_ne_true _ (λ t.
    let found : Includes g [] = Includes-from_test g [] t in lacks (within_none found.part g found.has found.within)))
