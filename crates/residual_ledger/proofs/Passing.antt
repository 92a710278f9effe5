-- The numbers below a bound that pass a test: how many there are, which they are, and that they rise.
use Rattle.std.specs.Prelude.{◌≡◌, ℕ, zero, suc, ◌+◌, ◌<◌, ◌≤◌, Bool, true, false, ◌&&◌, ◌||◌, ◌==◌, nat_lt, cond, []}
use Rattle.std.specs.Prelude.{◌∷◌, ◌++◌, length, if◌then◌else◌}
use Rattle.std.specs.{List.AllByRecursion, List.Sorted.IsStrictlySortedBy, Ordering.nat_cmp}
use Rattle.std.specs.{declared.cmp.Ordering.TheVariants.Less}
use Rattle.std.proofs.Common.{refl, sym, ◌∙◌, ap, subst, arith, inl, inr, append-nil, length-append}
use Rattle.std.proofs.{lemmas.Bool.cond_both, lemmas.Bool.cases_eq, lemmas.Bool.Decides.nat_tests}
use Rattle.std.proofs.{lemmas.List.Folds.list_any-append, lemmas.Bool.eqb-true, Math.Bool.and-false, Math.Bool.or-false}
use Rattle.unit_sets.proofs.Sorted.{sorted-push, all-push}
use Rattle.unit_sets.specs.{UnitList.among, UnitList.IsRising, Words.passing_below}

-- ---- how many

pub passing-more : (test : ℕ → Bool) (n : ℕ) → passing_below test (suc n) ≡ passing_below test n ++
    (if test n then n ∷ [] else [])
unfolding passing_below
passing-more test n = refl

pub passing-none : (test : ℕ → Bool) → passing_below test 0 ≡ []
unfolding passing_below
passing-none test = refl

one_length : (b : Bool) (n : ℕ) → length (if b then n ∷ [] else []) ≡ cond b 1 0
one_length true n = refl
one_length false n = refl

pub length-passing-more : (test : ℕ → Bool) (n : ℕ) → length (passing_below test (suc n)) ≡ length
    (passing_below test n) + cond (test n) 1 0
length-passing-more test n =
    ap length (passing-more test n)
    ∙ length-append (passing_below test n) (if test n then n ∷ [] else [])
    ∙ ap (λ k. length (passing_below test n) + k) (one_length (test n) n)

at_most_one : (b : Bool) → cond b 1 0 ≤ 1
at_most_one true = omega arith
at_most_one false = omega arith

-- at most n numbers are below n
pub length-passing-le : (test : ℕ → Bool) (n : ℕ) → length (passing_below test n) ≤ n
length-passing-le test zero = omega (arith, ap length (passing-none test))
length-passing-le test (suc n) = omega (
  arith,
  length-passing-more test n,
  length-passing-le test n,
  at_most_one (test n),
)

-- more pass below a greater bound
pub length-passing-grows : (test : ℕ → Bool) (n m : ℕ) → n ≤ m
    → length (passing_below test n) ≤ length (passing_below test m)
length-passing-grows test n zero low = let same : n ≡ 0 = omega arith in rw same (omega arith)
length-passing-grows test n (suc m) low =
    elim (cases_eq n (suc m)) [
      | inl same ↦ rw same (omega arith)
      | inr apart ↦ omega (arith, length-passing-more test m, length-passing-grows test n m (omega arith))
    ]

-- a number that passes is one more
pub length-passing-one : (test : ℕ → Bool) (n m : ℕ) → n < m → test n ≡ true
    → length (passing_below test n) + 1 ≤ length (passing_below test m)
length-passing-one test n m low passes =
    let one : length (passing_below test (suc n)) ≡ length (passing_below test n) + 1 = length-passing-more test n
    ∙ ap (λ b. length (passing_below test n) + cond b 1 0) passes in
    omega (arith, length-passing-grows test (suc n) m (omega arith))

-- ---- which

none_below_zero : (k : ℕ) → nat_lt k 0 ≡ false
none_below_zero k = grind (arith, nat_tests)

last : (l : Bool) {l' : Bool} (e t tn : Bool) → l' ≡ (l || e) → (e ≡ true → tn ≡ t)
    → ((l && t) || (tn && e)) ≡ (l' && t)
last l true t tn h same = rw (h, same refl) (here l t)
  where
    here : (l t : Bool) → ((l && t) || (t && true)) ≡ ((l || true) && t)
    here true true = refl
    here true false = refl
    here false true = refl
    here false false = refl
last l false t tn h same = rw h (elsewhere l t)
  where
    elsewhere : (l t : Bool) → ((l && t) || (tn && false)) ≡ ((l || false) && t)
    elsewhere true true = refl
    elsewhere true false = and-false tn
    elsewhere false t = and-false tn

below_one_more : (k n : ℕ) → nat_lt k (suc n) ≡ (nat_lt k n || (n == k))
below_one_more k n = grind (arith, nat_tests)

among-one : (b : Bool) (n k : ℕ) → among (if b then n ∷ [] else []) k ≡ (b && (n == k))
among-one true n k = or-false (n == k)
among-one false n k = refl

pub among-passing : (test : ℕ → Bool) (n k : ℕ) → among (passing_below test n) k ≡ (nat_lt k n && test k)
among-passing test zero k = ap (λ xs. among xs k) (passing-none test) ∙ ap (λ b. b && test k) (sym (none_below_zero k))
among-passing test (suc n) k =
    ap (λ xs. among xs k) (passing-more test n)
    ∙ list_any-append (λ member. member == k) (passing_below test n) (if test n then n ∷ [] else [])
    ∙ ap (λ b. b || among (if test n then n ∷ [] else []) k) (among-passing test n k)
    ∙ ap (λ b. (nat_lt k n && test k) || b) (among-one (test n) n k)
    ∙ last (nat_lt k n) (n == k) (test k) (test n) (below_one_more k n) (λ e. ap test (eqb-true n k e))

less_from_lt : (a b : ℕ) → a < b → nat_cmp a b ≡ Less
less_from_lt a b h = grind (arith, nat_tests)

all_below : (test : ℕ → Bool) (n m : ℕ) → n ≤ m → AllByRecursion (λ k. nat_cmp k m ≡ Less) (passing_below test n)
all_below test zero m low = rw (passing-none test) tt
all_below test (suc n) m low =
    rw (passing-more test n) (cond_both (test n) (n ∷ []) []
    (λ one. AllByRecursion (λ k. nat_cmp k m ≡ Less) (passing_below test n ++ one))
    (λ _. all-push (λ k. nat_cmp k m ≡ Less) (passing_below test n) n (all_below test n m (omega arith))
    (less_from_lt n m (omega arith)))
    (λ _. rw append-nil (all_below test n m (omega arith))))

pub IsRising-passing : (test : ℕ → Bool) (n : ℕ) → IsRising (passing_below test n)
unfolding IsStrictlySortedBy
IsRising-passing test zero = rw (passing-none test) tt
IsRising-passing test (suc n) =
    subst IsRising (sym (passing-more test n))
    (cond_both (test n) (n ∷ []) [] (λ one. IsRising (passing_below test n ++ one))
    (λ _. sorted-push nat_cmp (passing_below test n) n (IsRising-passing test n) (all_below test n n (omega arith)))
    (λ _. rw append-nil (IsRising-passing test n)))
