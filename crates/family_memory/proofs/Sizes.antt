-- The extents of no sets, of the empty set and of a node, and families of which no set of the one includes one of the
-- other.
use Rattle.std.proofs.Common.{◌≡◌, ◌≢◌, ◌⊎◌, ℕ, ◌+◌, ◌<◌, ◌≤◌, ◌%◌, true, ◌==◌, List, [], ◌∷◌, Contains, length, max}
use Rattle.std.proofs.Common.{refl, sym, ◌∙◌, ap, subst, inl, inr, arith, eq-eqb, eqb-true, bit_and, min, zero, suc}
use Rattle.std.specs.Int.{bit_at}
use Rattle.std.proofs.lemmas.Bool.{cases_lt, or_left, or_right, or_cases}
use Rattle.std.proofs.lemmas.Nat.Bits.{bit_at_and, bit_at-lt, bit_at-zero, same_from_bits}
use Rattle.unit_sets.specs.UnitList.{among}
use Rattle.unit_sets.proofs.{Sorted.Contains-nil, Sorted.Contains-cons_cases, UnitListLemmas.among-from_is_within}
use Rattle.zdd_families.specs.{Family.IsFamily, Family.branch, Units.IsLastUnit}
use Rattle.zdd_families.proofs.{Members.HasWith, Members.branch-cases, CutsLemmas.set_rises}
use Rattle.zdd_families.proofs.{InclusionLemmas.within-length}
use Rattle.zdd_families.proofs.UnitsLemmas.{last-none, last-unit, last-branch}
use Rattle.family_memory.specs.declared.extents.Extent.{Extent}
use Rattle.family_memory.specs.Extents.{HaveAtLeast, HaveAtMost, HaveMarks, IncludesNone, IsExtent, Reach, ShareMarks}

pub extent-none : (reach least most common rest : ℕ) → IsExtent []
    (record { last = 0; reach = reach; least = least; most = most; units = 0; common = common; rest = rest })
extent-none reach least most common rest = record {
  last = last-none;
  reach = λ some set has. absurd (Contains-nil set has);
  least = λ set has. Contains-nil set has;
  most = λ few set has. Contains-nil set has;
  units = λ set has unit there. absurd (Contains-nil set has);
  common = λ mark shared set has. absurd (Contains-nil set has);
}

empty_alone : (set : List ℕ) → Contains ([] ∷ []) set → length set ≡ 0
empty_alone set has =
    elim (Contains-cons_cases [] set [] has) [
      | inl same ↦ ap length (sym same)
      | inr later ↦ Contains-nil set later
    ]

no_units : (set : List ℕ) → Contains ([] ∷ []) set → (unit : ℕ) → among set unit ≡ true → ⊥
no_units [] has unit there = cc
no_units (first ∷ rest) has unit there = absurd (let e = empty_alone (first ∷ rest) has in omega (arith, e))

pub extent-unit : (rest : ℕ) → IsExtent ([] ∷ [])
    (record { last = 0; reach = 0; least = 0; most = 0; units = 0; common = 0; rest = rest })
extent-unit rest = record {
  last = last-unit;
  reach = λ some set has. absurd (omega (arith, some));
  least = λ set has. omega arith;
  most = λ few set has. let e = empty_alone set has in omega (arith, e);
  units = λ set has unit there. absurd (no_units set has unit there);
  common = λ mark shared set has. absurd (omega (arith, shared, bit_at-zero mark));
}

module _ (x : ℕ) {f g : List (List ℕ)} {a b : Extent} (e : Extent) (is : IsExtent f a) (is' : IsExtent g b)
    (filled : g ≢ [])
    (last : e.last ≡ max (max x a.last) b.last) (reach : e.reach ≤ a.reach) (reach' : e.reach ≤ max x b.reach)
    (least : e.least ≤ a.least) (least' : e.least ≤ b.least + 1)
    (most : a.most ≤ e.most) (most' : e.most < 65535 → b.most + 1 ≤ e.most)
    (own : bit_at e.units (x % 64) ≡ 1) (units : (mark : ℕ) → bit_at a.units mark ≡ 1 → bit_at e.units mark ≡ 1)
    (units' : (mark : ℕ) → bit_at b.units mark ≡ 1 → bit_at e.units mark ≡ 1)
    (common : (mark : ℕ) → bit_at e.common mark ≡ 1 → bit_at a.common mark ≡ 1)
    (common' : (mark : ℕ) → bit_at e.common mark ≡ 1 → (mark ≡ x % 64) ⊎ (bit_at b.common mark ≡ 1)) where
  past : 1 ≤ e.reach → {set : List ℕ} → HasWith x g set → (unit : ℕ) × (e.reach ≤ unit) × (among set unit ≡ true)
  past some with_x =
      elim (cases_lt x e.reach) [
        | inl more ↦
            let up = is'.reach (omega (arith, more, reach')) with_x.0 with_x.2 in (
              up.0,
              (let h = up.1 in omega (arith, h, more, reach')),
              subst (λ q. among q up.0 ≡ true) (sym with_x.1) (or_right (x == up.0) (among with_x.0 up.0) up.2),
            )
        | inr here ↦ (
          x,
          here,
          subst (λ q. among q x ≡ true) (sym with_x.1)
              (or_left (x == x) (among with_x.0 x) (eq-eqb x x refl)),
        )
      ]

  long : {set : List ℕ} → HasWith x g set → e.least ≤ length set
  long with_x =
      let h = is'.least with_x.0 with_x.2 in let n = ap length with_x.1 in omega (arith, h, n, least')

  short : e.most < 65535 → {set : List ℕ} → HasWith x g set → length set ≤ e.most
  short few with_x =
      let m = most' few in
      let h = is'.most (omega (arith, m, few)) with_x.0 with_x.2 in
      let n = ap length with_x.1 in omega (arith, h, n, m)

  marked : {set : List ℕ} → HasWith x g set → (unit : ℕ) → among set unit ≡ true → bit_at e.units (unit % 64) ≡ 1
  marked with_x unit there =
      elim (or_cases (x == unit) (among with_x.0 unit) (subst (λ q. among q unit ≡ true) with_x.1 there)) [
        | inl same ↦ subst (λ q. bit_at e.units (q % 64) ≡ 1) (eqb-true x unit same) own
        | inr later ↦ units' (unit % 64) (is'.units with_x.0 with_x.2 unit later)
      ]

  shared : {mark : ℕ} → bit_at e.common mark ≡ 1 → {set : List ℕ} → HasWith x g set
      → (unit : ℕ) × (unit % 64 ≡ mark) × (among set unit ≡ true)
  shared {mark} set_there with_x =
      elim (common' mark set_there) [
        | inl of_x ↦ (
          x,
          sym of_x,
          subst (λ q. among q x ≡ true) (sym with_x.1) (or_left (x == x) (among with_x.0 x) (eq-eqb x x refl)),
        )
        | inr of_hi ↦
            let u = is'.common mark of_hi with_x.0 with_x.2 in (
              u.0,
              u.1,
              subst (λ q. among q u.0 ≡ true) (sym with_x.1) (or_right (x == u.0) (among with_x.0 u.0) u.2),
            )
      ]

  pub extent-branch : IsExtent (branch x f g) e
  extent-branch = record {
    last = last-branch x filled is.last is'.last last;
    reach =
        λ some set has. elim (branch-cases x f g set has) [
          | inl of_lo ↦
              let up = is.reach (omega (arith, some, reach)) set of_lo in
              (up.0, (let h = up.1 in omega (arith, h, reach)), up.2)
          | inr with_x ↦ past some with_x
        ];
    least =
        λ set has. elim (branch-cases x f g set has) [
          | inl of_lo ↦ let h = is.least set of_lo in omega (arith, h, least)
          | inr with_x ↦ long with_x
        ];
    most =
        λ few set has. elim (branch-cases x f g set has) [
          | inl of_lo ↦ let h = is.most (omega (arith, few, most)) set of_lo in omega (arith, h, most)
          | inr with_x ↦ short few with_x
        ];
    units =
        λ set has unit there. elim (branch-cases x f g set has) [
          | inl of_lo ↦ units (unit % 64) (is.units set of_lo unit there)
          | inr with_x ↦ marked with_x unit there
        ];
    common =
        λ mark there set has. elim (branch-cases x f g set has) [
          | inl of_lo ↦ is.common mark (common mark there) set of_lo
          | inr with_x ↦ shared there with_x
        ];
  }

pub none_by_reach : {f : List (List ℕ)} (g : List (List ℕ)) {last : ℕ} (reach : ℕ) → IsLastUnit f last → Reach g reach
    → last < reach
    → IncludesNone f g
none_by_reach g reach is at h set part has has' within =
    let up = at (omega (arith, h)) part has' in
    let low = is.most up.0 (set, has, among-from_is_within set part up.0 within up.2) in
    let past = up.1 in
    omega (arith, low, h, past)

pub none_by_sizes : {f g : List (List ℕ)} (most least : ℕ) → least < 65536 → IsFamily f → IsFamily g
    → HaveAtMost f most → HaveAtLeast g least → most < least → IncludesNone f g
none_by_sizes most least fits is is' at_most at_least h set part has has' within =
    let m = at_most (omega (arith, h, fits)) set has in
    let n = at_least part has' in
    let w = within-length set part (set_rises set is has) (set_rises part is' has') within in
    omega (arith, h, m, n, w)

min_of_marks : (m n : ℕ) → m < 2 → (m ≡ 1 → n ≡ 1) → min m n ≡ m
min_of_marks zero n few there = omega arith
min_of_marks (suc zero) n few there = let e = there refl in omega (arith, e)
min_of_marks (suc (suc m)) n few there = absurd (omega (arith, few))

-- marks that each set of the second family has, of which the first family's units lack one
pub none_by_marks : (f g : List (List ℕ)) (units : ℕ) {common : ℕ} → HaveMarks f units → ShareMarks g common
    → bit_and common units ≢ common → IncludesNone f g
none_by_marks f g units {common} have share lacks set part has has' within =
    lacks (same_from_bits (bit_and common units) common (λ mark.
    bit_at_and common units mark ∙ min_of_marks (bit_at common mark) (bit_at units mark) (bit_at-lt common mark)
    (λ there. let u = share mark there part has' in
    subst (λ m. bit_at units m ≡ 1) u.1
    (have set has u.0 (among-from_is_within set part u.0 within u.2)))))
