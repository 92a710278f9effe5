-- How the residual of a cut set changes with the set of units that are out.
use Rattle.std.proofs.Common.{◌≡◌, ℕ, suc, ◌+◌, ◌<◌, ◌≤◌, Bool, true, false, not, cond, ◌||◌, ◌==◌, List, [], ◌∷◌, ◌++◌}
use Rattle.std.proofs.Common.{length, take, get_or, filter, refl, sym, ◌∙◌, ap, arith, eqb-true, eq-eqb}
use Rattle.std.proofs.Common.{zero-add, inl, inr, length-take}
use Rattle.std.specs.{List.list_any, List.AllByRecursion, declared.cmp.Ordering.TheVariants.Less}
use Rattle.std.specs.{List.Sorted.IsStrictlySortedBy, Ordering.nat_cmp}
use Rattle.std.proofs.lemmas.Bool.{or_cases, or_parts, or_from, or_left, or_right, cases_Bool}
use Rattle.std.proofs.{lemmas.Bool.Decides.nat_tests, lemmas.List.get_or_read, lemmas.List.Filters.length-filter_more}
use Rattle.unit_sets.specs.UnitList.{among, IsRising}
use Rattle.residual_ledger.specs.Residual.{residual}
use Rattle.residual_ledger.proofs.ResidualFacts.{length-filter-cons, residual-cons, residual-alike}
use Rattle.residual_ledger.proofs.RowLemmas.{among-append, IsRising-tail}

-- ---- member by member

pub residual-nobody : (cut : List ℕ) → residual [] cut ≡ length cut
residual-nobody [] = refl
residual-nobody (x ∷ xs) = ap suc (residual-nobody xs)

at_most_one : (b : Bool) → cond b 1 0 ≤ 1
at_most_one true = omega arith
at_most_one false = omega arith

length-filter-le : (p : ℕ → Bool) (xs : List ℕ) → length (filter p xs) ≤ length xs
length-filter-le p [] = omega arith
length-filter-le p (x ∷ xs) = omega (arith, length-filter-cons p x xs, length-filter-le p xs, at_most_one (p x))

pub residual-le : (out cut : List ℕ) → residual out cut ≤ length cut
residual-le out cut = length-filter-le (λ member. not (among out member)) cut

-- ---- one unit more out

-- a unit that a cut set does not have changes nothing
pub residual-apart : (unit : ℕ) (out cut : List ℕ) → among cut unit ≡ false
    → residual (unit ∷ out) cut ≡ residual out cut
residual-apart unit out [] none = refl
residual-apart unit out (x ∷ xs) none =
    let parts : ((x == unit) ≡ false) × (among xs unit ≡ false) = or_parts (x == unit) (among xs unit) none in
    let other : (unit == x) ≡ false = grind (arith, nat_tests, parts.0) in
    residual-cons (unit ∷ out) x xs
    ∙ ap (λ b. cond (not (b || among out x)) 1 0 + residual (unit ∷ out) xs) other
    ∙ ap (λ n. cond (not (among out x)) 1 0 + n) (residual-apart unit out xs parts.1)
    ∙ sym (residual-cons out x xs)

none_of_higher : (x : ℕ) (xs : List ℕ) → AllByRecursion (λ y. nat_cmp x y ≡ Less) xs → among xs x ≡ false
none_of_higher x [] all = refl
none_of_higher x (y ∷ ys) all =
    or_from (y == x) (among ys x) (grind (arith, nat_tests, all.0)) (none_of_higher x ys all.1)

-- the first unit of a rising set doesn't come again
first_not_later : (x : ℕ) (xs : List ℕ) → IsRising (x ∷ xs) → among xs x ≡ false
unfolding IsStrictlySortedBy
first_not_later x xs rising = none_of_higher x xs rising.0

swapped : (x unit : ℕ) → (x == unit) ≡ false → (unit == x) ≡ false
swapped x unit h = grind (arith, nat_tests)

-- a unit that was in service is one member less of each cut set that has it
pub residual-taken : (unit : ℕ) (out cut : List ℕ) → IsRising cut → among out unit ≡ false → among cut unit ≡ true
    → residual out cut ≡ suc (residual (unit ∷ out) cut)
residual-taken unit out [] rising free has = absurd cc
residual-taken unit out (x ∷ xs) rising free has =
    elim (cases_Bool (x == unit)) [
      | inl here ↦
          let same : x ≡ unit = eqb-true x unit here in
          let later : among xs unit ≡ false = rw same at (first_not_later x xs rising) in
          let left : residual out (x ∷ xs) ≡ 1 + residual out xs = rw (residual-cons out x xs, same, free) refl in
          let right : residual (unit ∷ out) (x ∷ xs) ≡ residual (unit ∷ out) xs =
          rw (residual-cons (unit ∷ out) x xs, eq-eqb unit x (sym same)) (zero-add (residual (unit ∷ out) xs)) in
          omega (arith, left, right, residual-apart unit out xs later)
      | inr other ↦
          let later : among xs unit ≡ true = second_of (x == unit) (among xs unit) other has in
          let left : residual out (x ∷ xs) ≡ cond (not (among out x)) 1 0 + residual out xs = residual-cons out x xs in
          let right : residual (unit ∷ out) (x ∷ xs) ≡ cond (not (among out x)) 1 0 + residual (unit ∷ out) xs =
          residual-cons (unit ∷ out) x xs ∙ ap (λ b. cond (not (b || among out x)) 1 0 + residual (unit ∷ out) xs)
          (swapped x unit other) in
          omega (arith, left, right, residual-taken unit out xs (IsRising-tail x xs rising) free later)
    ]
  where
    second_of : (a b : Bool) → a ≡ false → (a || b) ≡ true → b ≡ true
    second_of true b h k = absurd cc
    second_of false b h k = k

-- ---- some units more out

-- what holds of a unit that is out already, and of one that isn't
one_more_at_most : (unit : ℕ) (out cut : List ℕ) → IsRising cut → residual out cut ≤ residual (unit ∷ out) cut + 1
one_more_at_most unit out cut rising =
    elim (cases_Bool (among out unit)) [
      | inl already ↦ omega (arith, residual-alike (unit ∷ out) out (λ v. again v already) cut)
      | inr free ↦ elim (cases_Bool (among cut unit)) [
        | inl has ↦ omega (arith, residual-taken unit out cut rising free has)
        | inr none ↦ omega (arith, residual-apart unit out cut none)
      ]
    ]
  where
    absorbed : (t a : Bool) → (t ≡ true → a ≡ true) → (t || a) ≡ a
    absorbed true a h = sym (h refl)
    absorbed false a h = refl

    again : (v : ℕ) → among out unit ≡ true → among (unit ∷ out) v ≡ among out v
    again v already =
        absorbed (unit == v) (among out v) (λ e. rw (eqb-true unit v e) at already)

-- so many units take no more than so many members of a cut set
pub residual-asked-le : (asked out cut : List ℕ) → IsRising cut
    → residual out cut ≤ residual (asked ++ out) cut + length asked
residual-asked-le [] out cut rising = omega arith
residual-asked-le (unit ∷ asked) out cut rising =
    omega (arith, residual-asked-le asked out cut rising, one_more_at_most unit (asked ++ out) cut rising)

-- the members that are asked, where none of them was out, are the ones that go
pub residual-asked : (asked out : List ℕ) → ((unit : ℕ) → among asked unit ≡ true → among out unit ≡ false)
    → (cut : List ℕ) → residual out cut ≡ residual (asked ++ out) cut + length (filter (among asked) cut)
residual-asked asked out free [] = refl
residual-asked asked out free (x ∷ xs) =
    omega (
      arith,
      residual-cons out x xs,
      residual-cons (asked ++ out) x xs,
      length-filter-cons (among asked) x xs,
      residual-asked asked out free xs,
      one (among asked x) (among out x) (among (asked ++ out) x) (among-append asked out x) (free x),
    )
  where
    one : (a o both : Bool) → both ≡ (a || o) → (a ≡ true → o ≡ false)
        → cond (not o) 1 0 ≡ cond (not both) 1 0 + cond a 1 0
    one true o both e free = let none : o ≡ false = free refl in rw (e, none) refl
    one false true both e free = rw e refl
    one false false both e free = rw e refl

-- asked units that a cut set does not have change nothing
pub residual-asked-apart : (asked out cut : List ℕ) → list_any (among cut) asked ≡ false
    → residual (asked ++ out) cut ≡ residual out cut
residual-asked-apart [] out cut none = refl
residual-asked-apart (unit ∷ asked) out cut none =
    let parts : (among cut unit ≡ false) × (list_any (among cut) asked ≡ false) =
    or_parts (among cut unit) (list_any (among cut) asked) none in
    residual-apart unit (asked ++ out) cut parts.0 ∙ residual-asked-apart asked out cut parts.1

-- an asked unit that a cut set has
pub met_unit : (asked cut : List ℕ) → list_any (among cut) asked ≡ true
    → (unit : ℕ) × (among asked unit ≡ true) × (among cut unit ≡ true)
met_unit [] cut some = absurd cc
met_unit (unit ∷ asked) cut some =
    elim (or_cases (among cut unit) (list_any (among cut) asked) some) [
      | inl here ↦ (unit, or_left (unit == unit) (among asked unit) (eq-eqb unit unit refl), here)
      | inr later ↦ let found =
          met_unit asked cut later in (found.0, or_right (unit == found.0) (among asked found.0) found.1, found.2)
    ]

-- ---- counting the members that are asked

pub asked_so_far-le : (asked members : List ℕ) (i : ℕ) {count : ℕ}
    → count ≡ length (filter (among asked) (take i members))
    → count ≤ i
asked_so_far-le asked members i is =
    omega (arith, is, length-filter-le (among asked) (take i members), length-take i members)

pub asked-more : (asked members : List ℕ) (i : ℕ) {item count more : ℕ} → i < length members
    → item ≡ get_or members i item
    → count ≡ length (filter (among asked) (take i members)) → more ≡ count + cond (among asked item) 1 0
    → more ≡ length (filter (among asked) (take (i + 1) members))
asked-more asked members i {item} short at is next =
    let same : get_or members i 0 ≡ item = sym (get_or_read members i item short at 0) in
    let told : ℕ → ℕ = λ x. cond (among asked x) 1 0 in
    let one : told (get_or members i 0) ≡ told item = ap told same in
    omega (arith, next, is, length-filter_more (among asked) members i 0 short, one)

pub found_one : (found : Bool) (count : ℕ) {more : ℕ} → found ≡ true → more ≡ count + 1 → more ≡ count + cond found 1 0
found_one true count has is = is
found_one false count has is = absurd cc

pub found_none : (found : Bool) {count more : ℕ} → found ≡ false → more ≡ count → more ≡ count + cond found 1 0
found_none true none is = absurd cc
found_none false none is = omega arith
