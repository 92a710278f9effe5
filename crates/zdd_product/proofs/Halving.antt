-- The halves of references, and what they say of families and levels.
use Rattle.std.proofs.Common.{◌≡◌, ◌≢◌, ◌⊎◌, ℕ, ◌-◌, ◌<◌, ◌≤◌, min, List, [], refl, sym, ◌∙◌, ap, subst, inl, inr}
use Rattle.std.proofs.Common.{arith}
use Rattle.unit_sets.specs.Unit.{IsUnit}
use Rattle.zdd_families.specs.Family.{IsAbove, branch, first_unit}
use Rattle.zdd_families.specs.Map.{Knows, IsClosed, Grown, family, level_in}
use Rattle.zdd_families.proofs.MapLemmas.{family-empty, level_in-terminal}
use Rattle.zdd_families.proofs.MapLemmas.{level_in-inner, level_in-grown}
use Rattle.zdd_families.proofs.Canonical.{family-above, family-filled, level-above, first_unit-family}
use Rattle.zdd_families.specs.{Cuts.Cuts, Due.Splits}
use Rattle.zdd_families.proofs.CutsLemmas.{cut_above}
use Rattle.zdd_product.specs.{declared.halves.Half.Half, declared.halves.Halves.Halves, declared.halves.Split.Split}
use Rattle.zdd_product.specs.Halves.{IsHalved, IsHalf, IsSplit, AreHalves}

pub inner_known : (known : ℕ → ℕ) (r : ℕ) → Knows known r → 2 ≤ r → known r ≢ 0
inner_known known r (inl small) inner = absurd (omega arith)
inner_known known r (inr has) inner = has

-- ---- one reference

module _ (known : ℕ → ℕ) (x r : ℕ) (half : Half) (closed : IsClosed known) where
  -- what the parts of a node say
  pub splits_parts : family known r ≡ branch x (family known half.lo) (family known half.hi) → half.hi ≢ 0
      → Knows known half.hi → IsAbove x (family known half.lo) → IsAbove x (family known half.hi)
      → Splits x (family known r) (family known half.lo) (family known half.hi)
  splits_parts is filled knows_hi lo_above hi_above = record {
    cut = record { is = is; lo_above = lo_above; hi_above = hi_above };
    some_with = family-filled known half.hi closed knows_hi filled;
  }

  pub IsSplit-parts : Knows known r → 2 ≤ r → x ≡ first_unit (family known r)
      → Splits x (family known r) (family known half.lo) (family known half.hi) → IsSplit known x r half
  IsSplit-parts knows inner least splits = record {
    level =
        level_in-inner known r inner ∙ sym (first_unit-family known r closed (inner_known known r knows inner))
        ∙ sym least;
    splits = splits;
  }

  pub IsHalf-parts : IsUnit x → Knows known half.lo → Knows known half.hi
      → Splits x (family known r) (family known half.lo) (family known half.hi) → IsHalf known x r half
  IsHalf-parts unit knows_lo knows_hi splits = record {
    knows_lo = knows_lo;
    knows_hi = knows_hi;
    lo_above = level-above known x half.lo closed knows_lo (let u = unit.1 in omega arith) splits.cut.lo_above;
    hi_above = level-above known x half.hi closed knows_hi (let u = unit.1 in omega arith) splits.cut.hi_above;
    halved = inl splits;
  }

-- the same, where the map is the same before and after
pub node_halves : {known known' : ℕ → ℕ} {x : ℕ} (r : ℕ) (half : Half) → known' ≡ known → IsClosed known'
    → Knows known r
    → 2 ≤ r → IsUnit x → x ≡ first_unit (family known r)
    → family known' r ≡ branch x (family known' half.lo) (family known' half.hi) → half.hi ≢ 0 → Knows known' half.lo
    → Knows known' half.hi
    → IsAbove x (family known' half.lo) → IsAbove x (family known' half.hi)
    → IsHalf known x r half × IsSplit known x r half
node_halves {known'} {x} r half same closed knows inner unit least is filled knows_lo knows_hi lo_above hi_above =
    let splits : Splits x (family known' r) (family known' half.lo) (family known' half.hi) =
    splits_parts known' x r half closed is filled knows_hi lo_above hi_above in
    subst (λ m. IsHalf m x r half × IsSplit m x r half) same (
      IsHalf-parts known' x r half closed unit knows_lo knows_hi splits,
      IsSplit-parts known' x r half closed (subst (λ m. Knows m r) (sym same) knows) inner
          (least ∙ ap (λ m. first_unit (family m r)) (sym same)) splits,
    )

-- a reference of a greater level is its own lo
pub IsHalf-whole : {known : ℕ → ℕ} {x r : ℕ} {half : Half} → IsClosed known → IsUnit x → Knows known r
    → x < level_in known r → half ≡ record { lo = r; hi = 0 } → IsHalf known x r half
IsHalf-whole {known} {x} {r} closed unit knows above is =
    subst (IsHalf known x r) (sym is)
    record {
      knows_lo = knows;
      knows_hi = inl (omega arith);
      lo_above = above;
      hi_above =
          let e : level_in known 0 ≡ 4096 = level_in-terminal known 0 (omega arith) in let u = unit.1 in
          omega (arith, e, u);
      halved =
          inr (record { above = family-above known x r closed knows above; lo_is = refl; hi_is = family-empty known });
    }

pub terminal_above : (known : ℕ → ℕ) (x r : ℕ) → IsUnit x → r < 2 → x < level_in known r
terminal_above known x r unit small =
    let e : level_in known r ≡ 4096 = level_in-terminal known r small in let u = unit.1 in omega (arith, e, u)

-- ---- two references

-- both references are split, each at its own level
pub record AreSplit (known : ℕ → ℕ) (a b : ℕ) (one other : Split) : Type 0 where
  pub closed : IsClosed known
  pub knows_a : Knows known a
  pub knows_b : Knows known b
  pub one_unit : IsUnit one.level
  pub other_unit : IsUnit other.level
  pub one_half : IsHalf known one.level a one.half
  pub one_split : IsSplit known one.level a one.half
  pub other_half : IsHalf known other.level b other.half
  pub other_split : IsSplit known other.level b other.half

module _ {known : ℕ → ℕ} {a b : ℕ} {one other : Split} (are : AreSplit known a b one other) where
  pub first_lower : {whole : Half} → whole ≡ record { lo = b; hi = 0 } → one.level < other.level
      → AreHalves known a b (record { level = one.level; first = one.half; second = whole })
  first_lower is lower = record {
    unit = are.one_unit;
    first = are.one_half;
    second =
        IsHalf-whole are.closed are.one_unit are.knows_b (let e = are.other_split.level in omega (arith, e)) is;
    least = inl are.one_split;
  }

  pub second_lower : {whole : Half} → whole ≡ record { lo = a; hi = 0 } → other.level < one.level
      → AreHalves known a b (record { level = other.level; first = whole; second = other.half })
  second_lower is lower = record {
    unit = are.other_unit;
    first =
        IsHalf-whole are.closed are.other_unit are.knows_a (let e = are.one_split.level in omega (arith, e)) is;
    second = are.other_half;
    least = inr are.other_split;
  }

  pub same_level : other.level ≡ one.level
      → AreHalves known a b (record { level = one.level; first = one.half; second = other.half })
  same_level same = record {
    unit = are.one_unit;
    first = are.one_half;
    second = subst (λ n. IsHalf known n b other.half) same are.other_half;
    least = inl are.one_split;
  }

-- ---- cuts

pub Cuts-halved : {x : ℕ} {f lo hi : List (List ℕ)} → IsHalved x f lo hi → Cuts x f lo hi
Cuts-halved (inl splits) = splits.cut
Cuts-halved {x} {f} {lo} (inr higher) =
    subst (λ h. Cuts x f lo h) (sym higher.hi_is)
    (subst (λ l. Cuts x f l []) (sym higher.lo_is) (cut_above x f higher.above))

pub one_split : {known : ℕ → ℕ} {a b : ℕ} {halves : Halves} → AreHalves known a b halves
    → (family known halves.first.hi ≢ []) ⊎ (family known halves.second.hi ≢ [])
one_split are = elim are.least [
  | inl first ↦ inl first.splits.some_with
  | inr second ↦ inr second.splits.some_with
]

-- a split has sets with its unit, so not both can lack them
pub not_both : {G : Type 0} {f1 g1 : List (List ℕ)} → (f1 ≢ []) ⊎ (g1 ≢ []) → f1 ≡ [] → g1 ≡ [] → G
not_both (inl some) none none' = absurd (some none)
not_both (inr some) none none' = absurd (some none')

-- ---- the measure of a recursion: how many levels there are from the least of both on

abbrev pub levels_left : (ℕ → ℕ) → ℕ → ℕ → ℕ
levels_left known a b = 4096 - min (level_in known a) (level_in known b)

fewer_above : (x a b lo lo' : ℕ) → x < 4096 → x < lo → x < lo' → (a ≡ x) ⊎ (b ≡ x) → 4096 - min lo lo' < 4096 - min a b
fewer_above x a b lo lo' unit above above' (inl here) = omega arith
fewer_above x a b lo lo' unit above above' (inr here) = omega arith

pub fewer_left : {known : ℕ → ℕ} (known' : ℕ → ℕ) {a b : ℕ} (r q : ℕ) {halves : Halves} → AreHalves known a b halves
    → halves.level < level_in known' r → halves.level < level_in known' q
    → levels_left known' r q < levels_left known a b
fewer_left {known} known' {a} {b} r q {halves} are above above' =
    fewer_above halves.level (level_in known a) (level_in known b) (level_in known' r) (level_in known' q)
    (let u = are.unit.1 in omega arith) above above'
    (elim are.least [
      | inl first ↦ inl first.level
      | inr second ↦ inr second.level
    ])

-- the lower halves of both references, over the same map
pub lo_fewer : {known known' : ℕ → ℕ} {a b : ℕ} {halves : Halves} → known' ≡ known → AreHalves known a b halves
    → (levels_left known' halves.first.lo halves.second.lo < levels_left known a b)
    × (Knows known' halves.first.lo × Knows known' halves.second.lo)
lo_fewer {known} {a} {b} {halves} same are =
    subst (λ m. (levels_left m halves.first.lo halves.second.lo < levels_left known a b)
    × (Knows m halves.first.lo × Knows m halves.second.lo)) (sym same) (
      fewer_left known halves.first.lo halves.second.lo are are.first.lo_above are.second.lo_above,
      (are.first.knows_lo, are.second.knows_lo),
    )

-- of two halves at once
abbrev pub levels_with : (ℕ → ℕ) → Half → Half → ℕ
levels_with known first second =
    4096 - min (min (level_in known first.lo) (level_in known first.hi))
    (min (level_in known second.lo) (level_in known second.hi))

fewer_four : (x a b f0 f1 g0 g1 : ℕ) → x < 4096 → x < f0 → x < f1 → x < g0 → x < g1 → (a ≡ x) ⊎ (b ≡ x)
    → 4096 - min (min f0 f1) (min g0 g1) < 4096 - min a b
fewer_four x a b f0 f1 g0 g1 unit h0 h1 k0 k1 (inl here) = omega arith
fewer_four x a b f0 f1 g0 g1 unit h0 h1 k0 k1 (inr here) = omega arith

pub fewer_with : {known : ℕ → ℕ} (known' : ℕ → ℕ) {a b : ℕ} {halves : Halves} → AreHalves known a b halves
    → Grown known known'
    → levels_with known' halves.first halves.second < levels_left known a b
fewer_with {known} known' {a} {b} {halves} are grown =
    let later : (r : ℕ) → Knows known r → halves.level < level_in known r → halves.level < level_in known' r =
    λ r knows above. subst (λ n. halves.level < n) (sym (level_in-grown known known' r grown knows)) above in
    fewer_four halves.level (level_in known a) (level_in known b) (level_in known' halves.first.lo)
    (level_in known' halves.first.hi) (level_in known' halves.second.lo) (level_in known' halves.second.hi)
    (let u = are.unit.1 in omega arith)
    (later halves.first.lo are.first.knows_lo are.first.lo_above)
    (later halves.first.hi are.first.knows_hi are.first.hi_above)
    (later halves.second.lo are.second.knows_lo are.second.lo_above)
    (later halves.second.hi are.second.knows_hi are.second.hi_above)
    (elim are.least [
      | inl first ↦ inl first.level
      | inr second ↦ inr second.level
    ])

fewer_two : (p q r s m n : ℕ) → (m ≡ p) ⊎ (m ≡ q) → (n ≡ r) ⊎ (n ≡ s) → 4096 - min m n ≤ 4096 - min (min p q) (min r s)
fewer_two p q r s m n (inl e) (inl e') = omega arith
fewer_two p q r s m n (inl e) (inr e') = omega arith
fewer_two p q r s m n (inr e) (inl e') = omega arith
fewer_two p q r s m n (inr e) (inr e') = omega arith

-- one reference of each half, over a larger map
pub fewer_of_halves : (known known' : ℕ → ℕ) (first second : Half) (r q : ℕ) → Grown known known' → Knows known first.lo
    → Knows known first.hi → Knows known second.lo → Knows known second.hi → (r ≡ first.lo) ⊎ (r ≡ first.hi)
    → (q ≡ second.lo) ⊎ (q ≡ second.hi) → levels_left known' r q ≤ levels_with known first second
fewer_of_halves known known' first second r q grown k0 k1 j0 j1 one other =
    let at : (n : ℕ) → Knows known n → level_in known' n ≡ level_in known n =
    λ n knows. level_in-grown known known' n grown knows in
    fewer_two (level_in known first.lo) (level_in known first.hi) (level_in known second.lo) (level_in known second.hi)
    (level_in known' r) (level_in known' q)
    (elim one [
      | inl e ↦ inl (ap (level_in known') e ∙ at first.lo k0)
      | inr e ↦ inr (ap (level_in known') e ∙ at first.hi k1)
    ])
    (elim other [
      | inl e ↦ inl (ap (level_in known') e ∙ at second.lo j0)
      | inr e ↦ inr (ap (level_in known') e ∙ at second.hi j1)
    ])
