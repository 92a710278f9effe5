-- The minimal sets of a union of many families that are cut at one unit.
use Rattle.std.specs.Prelude.{◌≡◌, ℕ, Bool, true, false, ◌&&◌, ◌||◌, List, [], ◌∷◌, map}
use Rattle.std.specs.List.{list_any}
use Rattle.std.proofs.Common.{refl, sym, ◌∙◌, ap}
use Rattle.unit_sets.specs.UnitList.{some_within}
use Rattle.zdd_families.specs.Family.{IsAbove, branch, sets_with, sets_without}
use Rattle.zdd_families.proofs.{FamilyLemmas.sets_with-branch, FamilyLemmas.sets_without-branch}
use Rattle.zdd_families.proofs.{LeastLemmas.IsLeastFor-same, LeastLemmas.least-above, LeastNodesLemmas.least-node}
use Rattle.zdd_families.proofs.{StepsLemmas.or_of}
use Rattle.zdd_families.specs.{Cuts.Cuts, Without.IsWithout, Least.IsLeastOfAll}
use Rattle.zdd_families.proofs.CutAtUnit.{above_only, some_within-above, some_within-cut}
use Rattle.many_families.specs.Chains.{uppers}

-- the parts of a family that is cut are its sets without the unit and with it
pub own_lo : {x : ℕ} {f lo hi : List (List ℕ)} → Cuts x f lo hi → sets_without x f ≡ lo
own_lo {x} {lo} {hi} cut = ap (sets_without x) cut.is ∙ sets_without-branch x lo hi cut.lo_above

pub own_hi : {x : ℕ} {f lo hi : List (List ℕ)} → Cuts x f lo hi → sets_with x f ≡ hi
own_hi {x} {lo} {hi} cut = ap (sets_with x) cut.is ∙ sets_with-branch x lo hi cut.lo_above cut.hi_above

-- of each family the sets without x
abbrev pub lowers : ℕ → List (List (List ℕ)) → List (List (List ℕ))
lowers x fs = map (sets_without x) fs

-- all families are cut at the unit
abbrev pub AreCut : ℕ → List (List (List ℕ)) → Type 0
AreCut x [] = Unit {0}
AreCut x (f ∷ fs) = Cuts x f (sets_without x f) (sets_with x f) × AreCut x fs

-- one of the families is true
abbrev pub one_within : List (List (List ℕ)) → (ℕ → Bool) → Bool
one_within fs within = list_any (λ f. some_within f within) fs

none_of : (w : Bool) → false ≡ (false || (w && false))
none_of true = refl
none_of false = refl

parts_of_or : (w a b c d : Bool) → ((a || (w && b)) || (c || (w && d))) ≡ ((a || c) || (w && (b || d)))
parts_of_or true true b c d = refl
parts_of_or true false true true d = refl
parts_of_or true false true false d = refl
parts_of_or true false false true d = refl
parts_of_or true false false false d = refl
parts_of_or false true b c d = refl
parts_of_or false false b true d = refl
parts_of_or false false b false d = refl

one_within-cut : (x : ℕ) (fs : List (List (List ℕ))) (within : ℕ → Bool) → AreCut x fs
    → one_within fs within ≡ (one_within (lowers x fs) within || (within x && one_within (uppers x fs) within))
one_within-cut x [] within cut = none_of (within x)
one_within-cut x (f ∷ fs) within cut =
    or_of (some_within-cut cut.0 within) (one_within-cut x fs within cut.1)
    ∙ parts_of_or (within x) (some_within (sets_without x f) within) (some_within (sets_with x f) within)
    (one_within (lowers x fs) within) (one_within (uppers x fs) within)

lowers_ask : (x : ℕ) (fs : List (List (List ℕ))) (within : ℕ → Bool) → AreCut x fs
    → one_within (lowers x fs) (above_only x within) ≡ one_within (lowers x fs) within
lowers_ask x [] within cut = refl
lowers_ask x (f ∷ fs) within cut =
    or_of (some_within-above x (sets_without x f) within cut.0.lo_above) (lowers_ask x fs within cut.1)

uppers_ask : (x : ℕ) (fs : List (List (List ℕ))) (within : ℕ → Bool) → AreCut x fs
    → one_within (uppers x fs) (above_only x within) ≡ one_within (uppers x fs) within
uppers_ask x [] within cut = refl
uppers_ask x (f ∷ fs) within cut =
    or_of (some_within-above x (sets_with x f) within cut.0.hi_above) (uppers_ask x fs within cut.1)

module _ (x : ℕ) (fs : List (List (List ℕ))) (cut : AreCut x fs) where
  pub lowers_above : {lo : List (List ℕ)} → IsLeastOfAll (lowers x fs) lo → IsAbove x lo
  lowers_above is = least-above x is (λ within. lowers_ask x fs within cut)

  pub uppers_above : {all : List (List ℕ)} → IsLeastOfAll (uppers x fs) all → IsAbove x all
  uppers_above is = least-above x is (λ within. uppers_ask x fs within cut)

  -- the node of both unions is the union
  pub least_of_levels : {lo all hi : List (List ℕ)} → IsLeastOfAll (lowers x fs) lo → IsLeastOfAll (uppers x fs) all
      → IsWithout all lo hi → IsLeastOfAll fs (branch x lo hi)
  least_of_levels of_lo of_all left =
      IsLeastFor-same (least-node x (lowers_above of_lo)
      (uppers_above of_all) of_lo of_all left) (λ within. sym (one_within-cut x fs within cut))
