-- Lemmas on the numbers below a bound that pass a test.
use Rattle.std.proofs.Common.{◌≡◌, ℕ, zero, suc, ◌+◌, ◌<◌, ◌≤◌, Bool, true, false, ◌&&◌, ◌||◌, ◌==◌, nat_lt, List, []}
use Rattle.std.proofs.Common.{◌∷◌, ◌++◌, length, filter, if◌then◌else◌, refl, sym, ◌∙◌, ap, arith, add-suc, add-zero}
use Rattle.std.proofs.Common.{add_assoc, append-nil}
use Rattle.std.specs.{List.AllByRecursion, List.Sorted.IsStrictlySortedBy, Ordering.nat_cmp}
use Rattle.std.specs.{declared.cmp.Ordering.TheVariants.Less}
use Rattle.std.proofs.{lemmas.Bool.cond_both, lemmas.Bool.Decides.nat_tests, lemmas.List.Folds.list_any-append}
use Rattle.std.proofs.{lemmas.List.Elements.filter-append, lemmas.List.length-append}
use Rattle.unit_sets.proofs.Sorted.{sorted-push}
use Rattle.unit_sets.specs.{UnitList.among, UnitList.IsRising, Words.passing_below}

-- one number, where the test passes
abbrev one_passing : (ℕ → Bool) → ℕ → List ℕ
one_passing test n = if test n then n ∷ [] else []

last_counts : (l t : Bool) → ((l && t) || (t && true)) ≡ ((l || true) && t)
last_counts true true = refl
last_counts true false = refl
last_counts false true = refl
last_counts false false = refl

last_apart : (l t tn : Bool) → ((l && t) || (tn && false)) ≡ ((l || false) && t)
last_apart true true tn = refl
last_apart true false true = refl
last_apart true false false = refl
last_apart false t true = refl
last_apart false t false = refl

one_step : (l : Bool) {l' : Bool} (e t tn : Bool) → l' ≡ (l || e) → (e ≡ true → tn ≡ t)
    → ((l && t) || (tn && e)) ≡ (l' && t)
one_step l true t tn h k = ap (λ x. (l && t) || (x && true)) (k refl) ∙ last_counts l t ∙ ap (λ x. x && t) (sym h)
one_step l false t tn h k = last_apart l t tn ∙ ap (λ x. x && t) (sym h)

or-false : (a : Bool) → (a || false) ≡ a
or-false true = refl
or-false false = refl

among-one_passing : (test : ℕ → Bool) (n unit : ℕ) → among (one_passing test n) unit ≡ (test n && (n == unit))
among-one_passing test n unit =
    cond_both (test n) (n ∷ []) [] (λ xs. among xs unit ≡ (test n && (n == unit)))
    (λ yes. or-false (n == unit) ∙ ap (λ b. b && (n == unit)) (sym yes))
    (λ no. ap (λ b. b && (n == unit)) (sym no))

none_below_zero : (u : ℕ) → nat_lt u 0 ≡ false
none_below_zero u = grind (arith, nat_tests)

below_one_more : (u n : ℕ) → nat_lt u (suc n) ≡ (nat_lt u n || (n == u))
below_one_more u n = grind (arith, nat_tests)

pub same_by_test : (a b : ℕ) → (a == b) ≡ true → a ≡ b
same_by_test a b h = grind (arith, nat_tests)

pub among-passing_below : (test : ℕ → Bool) (n unit : ℕ)
    → among (passing_below test n) unit ≡ (nat_lt unit n && test unit)
unfolding passing_below
among-passing_below test zero unit = ap (λ b. b && test unit) (sym (none_below_zero unit))
among-passing_below test (suc n) unit =
    list_any-append (λ member. member == unit) (passing_below test n) (one_passing test n)
    ∙ ap (λ b. b || among (one_passing test n) unit) (among-passing_below test n unit)
    ∙ ap (λ b. (nat_lt unit n && test unit) || b) (among-one_passing test n unit)
    ∙ one_step (nat_lt unit n) (n == unit) (test unit) (test n) (below_one_more unit n)
    (λ e. ap test (same_by_test n unit e))

all_append : (P : ℕ → Type 0) (xs ys : List ℕ) → AllByRecursion P xs → AllByRecursion P ys → AllByRecursion P (xs ++ ys)
all_append P [] ys s t = t
all_append P (x ∷ xs) ys s t = (s.0, all_append P xs ys s.1 t)

less_from_lt : (a b : ℕ) → a < b → nat_cmp a b ≡ Less
less_from_lt a b h = grind (arith, nat_tests)

pub all_passing : (P : ℕ → Type 0) (test : ℕ → Bool) (n : ℕ) → ((k : ℕ) → k < n → test k ≡ true → P k)
    → AllByRecursion P (passing_below test n)
unfolding passing_below
all_passing P test zero each = tt
all_passing P test (suc n) each =
    all_append P (passing_below test n) (one_passing test n)
    (all_passing P test n (λ k h passes. each k (omega arith) passes))
    (cond_both (test n) (n ∷ []) [] (AllByRecursion P) (λ yes. (each n (omega arith) yes, tt)) (λ _. tt))

pub IsRising-passing_below : (test : ℕ → Bool) (n : ℕ) → IsRising (passing_below test n)
unfolding passing_below IsStrictlySortedBy
IsRising-passing_below test zero = tt
IsRising-passing_below test (suc n) =
    cond_both (test n) (n ∷ []) [] (λ one. IsRising (passing_below test n ++ one))
    (λ _. sorted-push nat_cmp (passing_below test n) n (IsRising-passing_below test n)
    (all_passing (λ x. nat_cmp x n ≡ Less) test n (λ k h _. less_from_lt k n h)))
    (λ _. rw append-nil (IsRising-passing_below test n))

-- tests that agree below the bound give one list
pub passing_below-same : (s t : ℕ → Bool) (n : ℕ) → ((k : ℕ) → k < n → s k ≡ t k)
    → passing_below s n ≡ passing_below t n
unfolding passing_below
passing_below-same s t zero agree = refl
passing_below-same s t (suc n) agree =
    ap (λ xs. xs ++ one_passing s n) (passing_below-same s t n (λ k h. agree k (omega arith)))
    ∙ ap (λ (b : Bool). passing_below t n ++ (if b then n ∷ [] else [])) (agree n (omega arith))

-- where no number passes there is none
pub passing_below-none : (test : ℕ → Bool) (n : ℕ) → ((k : ℕ) → k < n → test k ≡ false) → passing_below test n ≡ []
unfolding passing_below
passing_below-none test zero none = refl
passing_below-none test (suc n) none =
    ap (λ xs. xs ++ one_passing test n) (passing_below-none test n (λ k h. none k (omega arith)))
    ∙ ap (λ (b : Bool). if b then n ∷ [] else []) (none n (omega arith))

filter_one : (keep : ℕ → Bool) (n : ℕ) (b : Bool)
    → filter keep (if b then n ∷ [] else []) ≡ (if b && keep n then n ∷ [] else [])
filter_one keep n true = refl
filter_one keep n false = refl

pub filter-passing_below : (keep test : ℕ → Bool) (n : ℕ)
    → filter keep (passing_below test n) ≡ passing_below (λ k. test k && keep k) n
unfolding passing_below
filter-passing_below keep test zero = refl
filter-passing_below keep test (suc n) =
    filter-append keep (passing_below test n) (one_passing test n)
    ∙ ap (λ xs. xs ++ filter keep (one_passing test n)) (filter-passing_below keep test n)
    ∙ ap (λ xs. passing_below (λ k. test k && keep k) n ++ xs) (filter_one keep n (test n))

length_one : (b : Bool) (x y : ℕ) → length (if b then x ∷ [] else []) ≡ length (if b then y ∷ [] else [])
length_one true x y = refl
length_one false x y = refl

-- how many pass below a sum of two bounds
pub length-passing_below-add : (test : ℕ → Bool) (m n : ℕ)
    → length (passing_below test (m + n)) ≡ length (passing_below test m) + length (passing_below (λ k. test (m + k)) n)
unfolding passing_below
length-passing_below-add test m zero =
    ap (λ x. length (passing_below test x)) (add-zero m) ∙ sym (add-zero (length (passing_below test m)))
length-passing_below-add test m (suc n) =
    ap (λ x. length (passing_below test x)) (add-suc m n)
    ∙ length-append (passing_below test (m + n)) (one_passing test (m + n))
    ∙ ap (λ x. x + length (one_passing test (m + n))) (length-passing_below-add test m n)
    ∙ add_assoc (length (passing_below test m)) (length (passing_below (λ k. test (m + k)) n))
    (length (one_passing test (m + n)))
    ∙ ap (λ x. length (passing_below test m) + (length (passing_below (λ k. test (m + k)) n) + x))
    (length_one (test (m + n)) (m + n) n)
    ∙ ap (λ x. length (passing_below test m) + x)
    (sym (length-append (passing_below (λ k. test (m + k)) n) (if test (m + n) then n ∷ [] else [])))

length_one_le : (b : Bool) (n : ℕ) → length (if b then n ∷ [] else []) ≤ 1
length_one_le true n = omega arith
length_one_le false n = omega arith

-- at most n numbers are below n
pub length-passing_below-le : (test : ℕ → Bool) (n : ℕ) → length (passing_below test n) ≤ n
unfolding passing_below
length-passing_below-le test zero = omega arith
length-passing_below-le test (suc n) =
    omega (
      arith,
      length-passing_below-le test n,
      length_one_le (test n) n,
      length-append (passing_below test n) (one_passing test n),
    )
