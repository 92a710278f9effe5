-- What follows from the definitions of `specs/Map`.
use Rattle.std.specs.Prelude.{◌≡◌, ◌≢◌, ℕ, zero, suc, ◌+◌, ◌-◌, ◌<◌, ◌≤◌, true, false, not, ◌==◌}
use Rattle.std.specs.Prelude.{nat_lt, List, [], ◌∷◌}
use Rattle.std.proofs.Common.{refl, sym, ◌∙◌, ap, subst, inl, inr, arith}
use Rattle.std.proofs.lemmas.Bool.{cases_lt, cases_eq, cases_Bool, and_parts, and_from, cond-true}
use Rattle.std.proofs.lemmas.Bool.{cond-false, lt-ltb, le-ltb, ltb-true, ne_eqb, eqb-false, not_from_false, not-true}
use Rattle.std.proofs.lemmas.Bool.Decides.{nat_tests}
use Rattle.zdd_words.specs.Word.{level_of, lo_of, hi_of}
use Rattle.zdd_words.proofs.WordLemmas.{level_of-zero}
use Rattle.zdd_families.specs.Family.{branch}
use Rattle.zdd_families.specs.Map.{Grown, IsClosed, IsInner, IsNode, Knows, family, family_within, is_inner, level_in}
use Rattle.zdd_families.specs.Map.{terminal}

-- ---- levels

pub level_in-terminal : (known : ℕ → ℕ) (r : ℕ) → r < 2 → level_in known r ≡ 4096
level_in-terminal known r h = cond-true _ _ _ (lt-ltb _ _ h)

pub level_in-inner : (known : ℕ → ℕ) (r : ℕ) → 2 ≤ r → level_in known r ≡ level_of (known r)
level_in-inner known r h = cond-false _ _ _ (le-ltb _ _ h)

-- a reference above some level is known
pub Knows-from_level : (known : ℕ → ℕ) (x r : ℕ) → x < level_in known r → Knows known r
Knows-from_level known x r h =
    elim (cases_lt r 2) [
      | inl below ↦ inl below
      | inr above ↦ inr (λ absent.
          let e : level_in known r ≡ 0 = level_in-inner known r above ∙ ap level_of absent ∙ level_of-zero in
          omega (arith, e, h))
    ]

pub level_in-grown : (known known' : ℕ → ℕ) (r : ℕ) → Grown known known' → Knows known r
    → level_in known' r ≡ level_in known r
level_in-grown known known' r grown knows =
    elim (cases_lt r 2) [
      | inl below ↦ level_in-terminal known' r below ∙ sym (level_in-terminal known r below)
      | inr above ↦ elim knows [
        | inl below ↦ absurd (omega arith)
        | inr has ↦ level_in-inner known' r above ∙ ap level_of (grown r has) ∙ sym (level_in-inner known r above)
      ]
    ]

pub Knows-grown : (known known' : ℕ → ℕ) (r : ℕ) → Grown known known' → Knows known r → Knows known' r
Knows-grown known known' r grown knows =
    elim knows [
      | inl below ↦ inl below
      | inr has ↦ inr (λ absent. has (sym (grown r has) ∙ absent))
    ]

pub IsNode-grown : (known known' : ℕ → ℕ) (word : ℕ) → Grown known known' → IsNode known word → IsNode known' word
IsNode-grown known known' word grown node =
    let e : level_in known' (lo_of word) ≡ level_in known (lo_of word) =
    level_in-grown known known' (lo_of word) grown
    (Knows-from_level known (level_of word) (lo_of word) node.lo_above) in
    let e' : level_in known' (hi_of word) ≡ level_in known (hi_of word) =
    level_in-grown known known' (hi_of word) grown
    (Knows-from_level known (level_of word) (hi_of word) node.hi_above) in
    record {
      unit = node.unit;
      lo_above = subst (λ n. level_of word < n) (sym e) node.lo_above;
      hi_above = subst (λ n. level_of word < n) (sym e') node.hi_above;
      filled = node.filled;
    }

pub lo_known : {known : ℕ → ℕ} {word : ℕ} → IsNode known word → Knows known (lo_of word)
lo_known {known} {word} node = Knows-from_level known (level_of word) (lo_of word) node.lo_above

pub hi_known : {known : ℕ → ℕ} {word : ℕ} → IsNode known word → Knows known (hi_of word)
hi_known {known} {word} node = Knows-from_level known (level_of word) (hi_of word) node.hi_above

pub IsInner-from_test : {known : ℕ → ℕ} {r : ℕ} → is_inner known r ≡ true → IsInner known r
IsInner-from_test {known} {r} h =
    let both = and_parts _ _ h in
    let here = and_parts (not (nat_lt r 2)) (not (known r == 0)) both.0 in
    let there = and_parts _ _ both.1 in
    record {
      above = grind (arith, nat_tests, here.0);
      has = eqb-false _ _ (not-true _ here.1);
      lo_above = ltb-true _ _ there.0;
      hi_above = ltb-true _ _ there.1;
    }

pub test-from_IsInner : {known : ℕ → ℕ} {r : ℕ} → IsInner known r → is_inner known r ≡ true
test-from_IsInner {known} {r} is =
    and_from _ _ (and_from _ _ (not_from_false _ (le-ltb _ _ is.above))
    (not_from_false _ (ne_eqb _ _ is.has)))
    (and_from _ _ (lt-ltb _ _ is.lo_above)
    (lt-ltb _ _ is.hi_above))

-- a reference of a closed map is an inner one
IsInner-closed : {known : ℕ → ℕ} {r : ℕ} → IsClosed known → known r ≢ 0 → IsInner known r
IsInner-closed {r} closed has = record {
  above = (closed r has).0;
  has = has;
  lo_above = (closed r has).1.lo_above;
  hi_above = (closed r has).1.hi_above;
}

within_inner : (n : ℕ) (known : ℕ → ℕ) (r : ℕ) → is_inner known r ≡ true
    → family_within (suc n) known r ≡ branch (level_of (known r)) (family_within n known (lo_of (known r)))
    (family_within n known (hi_of (known r)))
within_inner n known r h = cond-true _ _ _ h

within_other : (n : ℕ) (known : ℕ → ℕ) (r : ℕ) → is_inner known r ≡ false → family_within n known r ≡ terminal r
within_other zero known r h = refl
within_other (suc n) known r h = cond-false _ _ _ h

-- each word's level is a unit's number or 0
abbrev pub IsBounded : (ℕ → ℕ) → Type 0
IsBounded known = (r : ℕ) → level_of (known r) < 4096

pub IsBounded-closed : (known : ℕ → ℕ) → IsClosed known → IsBounded known
IsBounded-closed known closed r =
    elim (cases_eq (known r) 0) [
      | inl absent ↦ let e : level_of (known r) ≡ 0 = ap level_of absent ∙ level_of-zero in omega (arith, e)
      | inr has ↦ let unit = (closed r has).1.unit in omega (arith, unit.1)
    ]

branches : (x : ℕ) {lo lo' hi hi' : List (List ℕ)} → lo ≡ lo' → hi ≡ hi' → branch x lo hi ≡ branch x lo' hi'
branches x {lo'} {hi} e f = ap (λ q. branch x q hi) e ∙ ap (λ q. branch x lo' q) f

none_left : {G : Type 0} {known : ℕ → ℕ} {r : ℕ} → IsBounded known → IsInner known r → 4096 ≤ level_in known r → G
none_left {known} {r} bounded is h =
    absurd (let e = level_in-inner known r is.above in let b = bounded r in omega (arith, e, b, h))

one_less : {known : ℕ → ℕ} (n : ℕ) {r : ℕ} (q : ℕ) → IsInner known r → level_of (known r) < level_in known q
    → 4096 ≤ suc n + level_in known r → 4096 ≤ n + level_in known q
one_less {known} n {r} q is above h = let e = level_in-inner known r is.above in omega (arith, e)

-- as many levels as are left suffice
enough : (known : ℕ → ℕ) → IsBounded known → (n k r : ℕ) → 4096 ≤ n + level_in known r → 4096 ≤ k + level_in known r
    → family_within n known r ≡ family_within k known r
enough known bounded zero k r h h' =
    elim (cases_Bool (is_inner known r)) [
      | inl inner ↦ none_left bounded (IsInner-from_test inner) (omega arith)
      | inr other ↦ sym (within_other k known r other)
    ]
enough known bounded (suc n) zero r h h' =
    elim (cases_Bool (is_inner known r)) [
      | inl inner ↦ none_left bounded (IsInner-from_test inner) (omega arith)
      | inr other ↦ within_other (suc n) known r other
    ]
enough known bounded (suc n) (suc k) r h h' =
    elim (cases_Bool (is_inner known r)) [
      | inl inner ↦
          let is : IsInner known r = IsInner-from_test inner in
          within_inner n known r inner
          ∙ branches (level_of (known r))
          (enough known bounded n k (lo_of (known r)) (one_less n (lo_of (known r)) is is.lo_above h)
          (one_less k (lo_of (known r)) is is.lo_above h'))
          (enough known bounded n k (hi_of (known r)) (one_less n (hi_of (known r)) is is.hi_above h)
          (one_less k (hi_of (known r)) is is.hi_above h'))
          ∙ sym (within_inner k known r inner)
      | inr other ↦ within_other (suc n) known r other ∙ sym (within_other (suc k) known r other)
    ]

-- ---- what the family of a reference is

pub family-empty : (known : ℕ → ℕ) → family known 0 ≡ []
unfolding family
family-empty known = refl

pub family-unit : (known : ℕ → ℕ) → family known 1 ≡ [] ∷ []
unfolding family
family-unit known = refl

-- a reference that is no inner one, and no terminal, has no sets
pub family-improper : (known : ℕ → ℕ) (r : ℕ) → 2 ≤ r → is_inner known r ≡ false → family known r ≡ []
unfolding family
family-improper known r above other =
    within_other (4096 - level_in known r) known r other
    ∙ cond-false (r == 1) ([] ∷ []) [] (ne_eqb _ _ (λ e. omega arith))

pub family-inner : (known : ℕ → ℕ) (r : ℕ) → IsBounded known → is_inner known r ≡ true
    → family known r ≡ branch (level_of (known r)) (family known (lo_of (known r))) (family known (hi_of (known r)))
unfolding family
family-inner known r bounded inner =
    let is : IsInner known r = IsInner-from_test inner in
    let e : level_in known r ≡ level_of (known r) = level_in-inner known r is.above in
    let below : level_of (known r) < 4096 = bounded r in
    enough known bounded (4096 - level_in known r) (suc (4095 - level_in known r)) r (omega arith) (omega arith)
    ∙ within_inner (4095 - level_in known r) known r inner
    ∙ branches (level_of (known r))
    (enough known bounded (4095 - level_in known r) (4096 - level_in known (lo_of (known r))) (lo_of (known r))
    (let k = is.lo_above in omega (arith, e)) (omega arith))
    (enough known bounded (4095 - level_in known r) (4096 - level_in known (hi_of (known r))) (hi_of (known r))
    (let k = is.hi_above in omega (arith, e)) (omega arith))

-- over a closed map a known reference has the branch of its lo and hi
pub family-node : (known : ℕ → ℕ) (r : ℕ) → IsClosed known → known r ≢ 0
    → family known r ≡ branch (level_of (known r)) (family known (lo_of (known r))) (family known (hi_of (known r)))
family-node known r closed has =
    family-inner known r (IsBounded-closed known closed) (test-from_IsInner (IsInner-closed closed has))

-- what holds of the terminals, and of a reference where it holds of its lo and hi, holds of each known reference
by_levels_within : (known : ℕ → ℕ) → IsClosed known → (P : ℕ → Type 0) → P 0 → P 1
    → ((r : ℕ) → known r ≢ 0 → P (lo_of (known r)) → P (hi_of (known r)) → P r) → (n r : ℕ)
    → 4096 ≤ n + level_in known r → Knows known r → P r
by_levels_within known closed P none one step n zero h knows = none
by_levels_within known closed P none one step n (suc zero) h knows = one
by_levels_within known closed P none one step zero (suc (suc r)) h (inl below) = absurd (omega arith)
by_levels_within known closed P none one step zero (suc (suc r)) h (inr has) =
    absurd (let e = level_in-inner known (suc (suc r)) (omega arith) in
    let b = IsBounded-closed known closed (suc (suc r)) in omega (arith, e, b, h))
by_levels_within known closed P none one step (suc n) (suc (suc r)) h (inl below) = absurd (omega arith)
by_levels_within known closed P none one step (suc n) (suc (suc r)) h (inr has) =
    let node : IsNode known (known (suc (suc r))) = (closed (suc (suc r)) has).1 in
    let e : level_in known (suc (suc r)) ≡ level_of (known (suc (suc r))) =
    level_in-inner known (suc (suc r)) (omega arith) in
    step (suc (suc r)) has
    (by_levels_within known closed P none one step n (lo_of (known (suc (suc r))))
    (let k = node.lo_above in omega (arith, e)) (lo_known node))
    (by_levels_within known closed P none one step n (hi_of (known (suc (suc r))))
    (let k = node.hi_above in omega (arith, e)) (hi_known node))

pub by_levels : (known : ℕ → ℕ) → IsClosed known → (P : ℕ → Type 0) → P 0 → P 1
    → ((r : ℕ) → known r ≢ 0 → P (lo_of (known r)) → P (hi_of (known r)) → P r) → (r : ℕ) → Knows known r → P r
by_levels known closed P none one step r knows =
    by_levels_within known closed P none one step 4096 r (omega arith) knows
