-- What follows from the definitions of `specs/Spans`.
use Rattle.std.specs.Prelude.{◌≡◌, ◌⊎◌, ℕ, zero, suc, ◌+◌, ◌<◌, ◌≤◌, List, [], ◌∷◌, ◌++◌, Contains}
use Rattle.std.specs.{List.AllByRecursion, List.Sorted.IsStrictlySortedBy, Ordering.nat_cmp, Ordering.ordering_then}
use Rattle.std.specs.{declared.cmp.Ordering.TheVariants.Less}
use Rattle.std.proofs.Common.{refl, sym, ◌∙◌, ap, subst, inl, inr, arith, eq-eqb}
use Rattle.std.proofs.lemmas.Bool.{cases_eq, or_left, or_right}
use Rattle.std.proofs.{lemmas.Bool.Decides.nat_tests, lemmas.Cmp.nat_cmp_total, lemmas.Cmp.tied_itself}
use Rattle.std.proofs.{lemmas.List.append-nil}
use Rattle.unit_sets.proofs.Sorted.{Contains-cons_first, Contains-cons_other}
use Rattle.unit_sets.specs.UnitList.{IsRising}
use Rattle.zdd_families.specs.Family.{IsFamily, IsAbove, IsSetAbove, branch, each_with, set_cmp}
use Rattle.zdd_families.proofs.{FamilyLemmas.IsFamily-nil, FamilyLemmas.filled_after, Lists.each-weaker}
use Rattle.zdd_families.proofs.{CutsLemmas.cut_has_lo}
use Rattle.zdd_families.proofs.{CutsLemmas.cut_has_hi, CutsLemmas.each-from_contains, CutsLemmas.set_above}
use Rattle.zdd_families.proofs.{InclusionLemmas.above_first, SetsLemmas.IsRising-rest}
use Rattle.zdd_families.specs.{Cuts.Cuts, Spans.Spans}

-- ---- a family without the empty set, cut at its first number

-- each set is not empty
abbrev AreFilled : List (List ℕ) → Type 0
AreFilled family = AllByRecursion (λ set. set_cmp [] set ≡ Less) family

-- so are those of lo
record Divided (x : ℕ) (family : List (List ℕ)) : Type 0 where
  lo : List (List ℕ)
  hi : List (List ℕ)
  is : family ≡ each_with x hi ++ lo
  lo_is : IsFamily lo
  hi_is : IsFamily hi
  lo_above : IsAbove x lo
  hi_above : IsAbove x hi
  lo_filled : AreFilled lo

family_rest : {first : List ℕ} {others : List (List ℕ)} → IsFamily (first ∷ others) → IsFamily others
unfolding IsStrictlySortedBy
family_rest is = record { ordered = is.ordered.1; rising = is.rising.1 }

family_first : {first : List ℕ} {others : List (List ℕ)} → IsFamily (first ∷ others)
    → AllByRecursion (λ set. set_cmp first set ≡ Less) others
unfolding IsStrictlySortedBy
family_first is = is.ordered.0

family_with : {first : List ℕ} {others : List (List ℕ)} → AllByRecursion (λ set. set_cmp first set ≡ Less) others
    → IsRising first → IsFamily others → IsFamily (first ∷ others)
unfolding IsStrictlySortedBy
family_with before rises is = record { ordered = (before, is.ordered); rising = (rises, is.rising) }

-- a set after one that begins above x is above x
after_above : (x unit : ℕ) (set other : List ℕ) → x < unit → IsRising other → set_cmp (unit ∷ set) other ≡ Less
    → IsSetAbove x other
after_above x unit set [] h rises before = absurd cc
after_above x unit set (first ∷ other) h rises before =
    let low : unit ≤ first = no_greater unit first (set_cmp set other) before in
    (omega arith, each-weaker (λ u. first < u) (λ u. x < u) other (λ u k. omega arith) (above_first first other rises))
  where
    no_greater : (a b : ℕ) (o : _) → ordering_then (nat_cmp a b) o ≡ Less → a ≤ b
    no_greater a b o e = grind (arith, nat_tests)

all_after : (x unit : ℕ) (set : List ℕ) (others : List (List ℕ)) → x < unit → AllByRecursion IsRising others
    → AllByRecursion (λ other. set_cmp (unit ∷ set) other ≡ Less) others → IsAbove x others
all_after x unit set [] h rise before = tt
all_after x unit set (other ∷ others) h rise before =
    (after_above x unit set other h rise.0 before.0, all_after x unit set others h rise.1 before.1)

same_first : (x : ℕ) (a b : List ℕ) → set_cmp (x ∷ a) (x ∷ b) ≡ Less → set_cmp a b ≡ Less
same_first x a b h = ap (λ o. ordering_then o (set_cmp a b)) (sym (tied_itself nat_cmp_total x)) ∙ h

-- what is after x and a set has its sets with x after the set
each_after : (x : ℕ) (set : List ℕ) (hi lo : List (List ℕ))
    → AllByRecursion (λ other. set_cmp (x ∷ set) other ≡ Less) (each_with x hi ++ lo)
    → AllByRecursion (λ other. set_cmp set other ≡ Less) hi
each_after x set [] lo after = tt
each_after x set (other ∷ hi) lo after = (same_first x set other after.0, each_after x set hi lo after.1)

module _ (low : ℕ) where
  with_first : {unit : ℕ} {set : List ℕ} {others : List (List ℕ)} → suc low ≡ unit → IsFamily ((unit ∷ set) ∷ others)
      → Divided (suc low) others → Divided (suc low) ((unit ∷ set) ∷ others)
  with_first {set} {others} same is rest =
      let rises : IsRising (suc low ∷ set) = rw same is.rising.0 in
      let after = subst (λ q. AllByRecursion (λ other. set_cmp (suc low ∷ set) other ≡ Less) q) rest.is
      (subst (λ q. AllByRecursion (λ other. set_cmp (q ∷ set) other ≡ Less) others) (sym same) (family_first is)) in
      record {
        lo = rest.lo;
        hi = set ∷ rest.hi;
        is = rw (← same) (ap (λ q. (suc low ∷ set) ∷ q) rest.is);
        lo_is = rest.lo_is;
        hi_is =
            family_with (each_after (suc low) set rest.hi rest.lo after) (IsRising-rest (suc low) set rises) rest.hi_is;
        lo_above = rest.lo_above;
        hi_above = (above_first (suc low) set rises, rest.hi_above);
        lo_filled = rest.lo_filled;
      }

  -- where no set has the number
  all_lo : {family : List (List ℕ)} → IsFamily family → AreFilled family → IsAbove (suc low) family
      → Divided (suc low) family
  all_lo {family} is filled above = record {
    lo = family;
    hi = [];
    is = refl;
    lo_is = is;
    hi_is = IsFamily-nil;
    lo_above = above;
    hi_above = tt;
    lo_filled = filled;
  }

  divided : (family : List (List ℕ)) → IsFamily family → AreFilled family → IsAbove low family
      → Divided (suc low) family
  divided [] is filled above = all_lo is tt tt
  divided ([] ∷ others) is filled above = absurd (let e = filled.0 in cc)
  divided ((unit ∷ set) ∷ others) is filled above =
      elim (cases_eq (suc low) unit) [
        | inl same ↦ with_first same is (divided others (family_rest is) filled.1 above.1)
        | inr other ↦
            let high : suc low < unit = (let k = above.0.0 in omega (arith, other)) in
            all_lo is filled (
              (high, each-weaker _ _ _ (λ u k. omega (arith, high)) (above_first unit set is.rising.0)),
              all_after (suc low) unit set others high is.rising.1 (family_first is),
            )
      ]

-- ---- any family, cut at its first number

-- f is cut at x into families
pub record CutAt (x : ℕ) (f : List (List ℕ)) : Type 0 where
  pub lo : List (List ℕ)
  pub hi : List (List ℕ)
  pub cut : Cuts x f lo hi
  pub lo_is : IsFamily lo
  pub hi_is : IsFamily hi

-- where lo has no empty set in front, a branch has the sets with x first
branch_filled : (x : ℕ) (lo hi : List (List ℕ)) → AreFilled lo → branch x lo hi ≡ each_with x hi ++ lo
branch_filled x [] hi filled = sym (append-nil (each_with x hi))
branch_filled x ([] ∷ others) hi filled = absurd (let e = filled.0 in cc)
branch_filled x ((unit ∷ set) ∷ others) hi filled = refl

cut_filled : (low : ℕ) {family : List (List ℕ)} → IsFamily family → AreFilled family → IsAbove low family
    → CutAt (suc low) family
cut_filled low {family} is filled above =
    let parts : Divided (suc low) family = divided low family is filled above in
    record {
      lo = parts.lo;
      hi = parts.hi;
      cut = record {
        is = parts.is ∙ sym (branch_filled _ _ _ parts.lo_filled);
        lo_above = parts.lo_above;
        hi_above = parts.hi_above;
      };
      lo_is = parts.lo_is;
      hi_is = parts.hi_is;
    }

cut_empty : (low : ℕ) {others : List (List ℕ)} → IsFamily ([] ∷ others) → IsAbove low others
    → CutAt (suc low) ([] ∷ others)
cut_empty low {others} is above =
    let parts : Divided (suc low) others = divided low others (family_rest is) (family_first is) above in
    record {
      lo = [] ∷ parts.lo;
      hi = parts.hi;
      cut = record {
        is = ap (λ q. [] ∷ q) parts.is;
        lo_above = (tt, parts.lo_above);
        hi_above = parts.hi_above;
      };
      lo_is = family_with parts.lo_filled is.rising.0 parts.lo_is;
      hi_is = parts.hi_is;
    }

pub cut_at : (low : ℕ) (family : List (List ℕ)) → IsFamily family → IsAbove low family → CutAt (suc low) family
cut_at low [] is above = cut_filled low is tt above
cut_at low ([] ∷ others) is above = cut_empty low is above.1
cut_at low ((unit ∷ set) ∷ others) is above =
    cut_filled low is (refl, filled_after unit set others (family_first is)) above

-- ---- the parts span one number less

module _ {low : ℕ} (size : ℕ) {f lo hi : List (List ℕ)} (cut : Cuts (suc low) f lo hi) (spans : Spans low (suc size) f)
  where
    pub Spans-lo : IsFamily lo → Spans (suc low) size lo
    Spans-lo is = record {
      is_family = is;
      above = cut.lo_above;
      below =
          λ set has unit member. let k = spans.below set (cut_has_lo _ cut has) unit member in
          omega (arith, k);
    }

    pub Spans-hi : IsFamily hi → Spans (suc low) size hi
    Spans-hi is = record {
      is_family = is;
      above = cut.hi_above;
      below = λ set has unit member.
          let k =
          spans.below (suc low ∷ set) (cut_has_hi _ cut has) unit
          (or_right _ _ member) in
          omega (arith, k);
    }

-- a family that spans no numbers has no units
no_units : {low : ℕ} (unit : ℕ) (set : List ℕ) {f : List (List ℕ)} → Spans low zero f → Contains f (unit ∷ set)
    → IsSetAbove low (unit ∷ set) → ⊥
no_units {low} unit set spans has above =
    let k : unit ≤ low + zero = spans.below (unit ∷ set) has unit (or_left _ _ (eq-eqb unit unit refl)) in
    let h : low < unit = above.0 in
    omega (arith, k, h)

pub no_span : {low : ℕ} (f : List (List ℕ)) → Spans low zero f → (f ≡ []) ⊎ (f ≡ [] ∷ [])
no_span [] spans = inl refl
no_span ([] ∷ []) spans = inr refl
no_span ([] ∷ [] ∷ others) spans = absurd (let e = (family_first spans.is_family).0 in cc)
no_span ([] ∷ (unit ∷ set) ∷ others) spans =
    absurd (no_units unit set spans
    (Contains-cons_other [] (unit ∷ set) ((unit ∷ set) ∷ others) (Contains-cons_first _ _))
    spans.above.1.0)
no_span ((unit ∷ set) ∷ others) spans =
    absurd (no_units unit set spans (Contains-cons_first _ _) spans.above.0)

-- both parts of a family that is cut at its first number
pub record Halves (low size : ℕ) (f : List (List ℕ)) : Type 0 where
  pub lo : List (List ℕ)
  pub hi : List (List ℕ)
  pub cut : Cuts (suc low) f lo hi
  pub lo_spans : Spans (suc low) size lo
  pub hi_spans : Spans (suc low) size hi

pub halves : {low size : ℕ} {f : List (List ℕ)} → Spans low (suc size) f → Halves low size f
halves {low} {size} {f} spans =
    let c : CutAt (suc low) f = cut_at low f spans.is_family spans.above in
    record {
      lo = c.lo;
      hi = c.hi;
      cut = c.cut;
      lo_spans = Spans-lo size c.cut spans c.lo_is;
      hi_spans = Spans-hi size c.cut spans c.hi_is;
    }

-- a family of some of the sets spans as much
pub Spans-some : {low size : ℕ} {f h : List (List ℕ)} → Spans low size f → IsFamily h
    → ((set : List ℕ) → Contains h set → Contains f set) → Spans low size h
Spans-some s is within = record {
  is_family = is;
  above = each-from_contains _ _ (λ set has. set_above _ _ _ s.above (within set has));
  below = λ set has. s.below set (within set has);
}

-- a branch of parts that span alike is cut into them
pub spans-cut : {low size : ℕ} {lo hi : List (List ℕ)} → Spans low size lo → Spans low size hi
    → Cuts low (branch low lo hi) lo hi
spans-cut s t = record { is = refl; lo_above = s.above; hi_above = t.above }
