-- Rising rows of places, and lists that differ by one at the places of a row.
use Rattle.std.proofs.Common.{◌≡◌, ◌≢◌, ℕ, zero, suc, ◌+◌, ◌<◌, ◌≤◌, true, false, ◌||◌, ◌==◌, List, [], ◌∷◌, ◌++◌}
use Rattle.std.proofs.Common.{length, take, set, get_or, All, refl, sym, ◌∙◌, ap, arith, inl, inr, add-one}
use Rattle.std.proofs.Common.{length-set, get_or-set_same, get_or-set_other, eq-eqb}
use Rattle.std.specs.{List.Sorted.IsStrictlySortedBy, Ordering.nat_cmp, declared.cmp.Ordering.TheVariants.Less}
use Rattle.std.proofs.Math.Bool.{or-false}
use Rattle.std.proofs.lemmas.Bool.{or_from, or_left, or_right, cases_eq, ne_eqb}
use Rattle.std.proofs.{lemmas.Bool.Decides.nat_tests, lemmas.List.take_more, lemmas.List.Folds.list_any-append}
use Rattle.std.proofs.{lemmas.List.Elements.Contains-get_or, lemmas.Map.Keys.Less-from_sorted}
use Rattle.unit_sets.specs.UnitList.{among, IsRising}
use Rattle.unit_sets.proofs.UnitListLemmas.{among-from_Contains}
use Rattle.residual_ledger.specs.Kept.{IsOneMore}

-- ---- members

pub among-append : (xs ys : List ℕ) (x : ℕ) → among (xs ++ ys) x ≡ (among xs x || among ys x)
among-append xs ys x = list_any-append (λ member. member == x) xs ys

pub push-other : (row : List ℕ) {place p : ℕ} → p ≢ place → among (row ++ place ∷ []) p ≡ among row p
push-other row {place} {p} apart =
    among-append row (place ∷ []) p
    ∙ ap (λ b. among row p || (b || false)) (ne_eqb place p (λ e. apart (sym e)))
    ∙ or-false (among row p)

pub push-itself : (row : List ℕ) (place : ℕ) → among (row ++ place ∷ []) place ≡ true
push-itself row place =
    among-append row (place ∷ []) place
    ∙ or_right (among row place) (among (place ∷ []) place) (or_left (place == place) false (eq-eqb place place refl))

pub All-from_among : (P : ℕ → Type 0) (xs : List ℕ) → ((x : ℕ) → among xs x ≡ true → P x) → All P xs
All-from_among P xs each k d short =
    each (get_or xs k d) (among-from_Contains xs (get_or xs k d) (Contains-get_or xs k d short))

pub among-at : (xs : List ℕ) (k d : ℕ) → k < length xs → among xs (get_or xs k d) ≡ true
among-at xs k d short = among-from_Contains xs (get_or xs k d) (Contains-get_or xs k d short)

-- ---- rising rows

less : (a b : ℕ) → nat_cmp a b ≡ Less → (a == b) ≡ false
less a b h = grind (arith, nat_tests)

pub IsRising-tail : (x : ℕ) (xs : List ℕ) → IsRising (x ∷ xs) → IsRising xs
unfolding IsStrictlySortedBy
IsRising-tail x xs rising = rising.1

-- no number of a rising row stands before itself
pub fresh_at : (row : List ℕ) (i : ℕ) → IsRising row → i < length row → among (take i row) (get_or row i 0) ≡ false
fresh_at [] i rising short = absurd (omega arith)
fresh_at (y ∷ ys) zero rising short = refl
fresh_at (y ∷ ys) (suc i) rising short =
    or_from (y == get_or ys i 0) (among (take i ys) (get_or ys i 0))
    (less y (get_or ys i 0) (Less-from_sorted nat_cmp (y ∷ ys) 0 (suc i) 0 rising (omega arith) short))
    (fresh_at ys i (IsRising-tail y ys rising) (omega arith))

less_from : (a b : ℕ) → nat_cmp a b ≡ Less → a < b
less_from a b h = grind (arith, nat_tests)

-- a rising row's numbers stand in order
pub in_order : (row : List ℕ) (i k : ℕ) → IsRising row → i ≤ k → k < length row → get_or row i 0 ≤ get_or row k 0
in_order row i k rising order short = elim (cases_eq i k) [
  | inl same ↦ omega (arith, ap (λ n. get_or row n 0) same)
  | inr apart ↦
      omega (
        arith,
        less_from (get_or row i 0) (get_or row k 0)
            (Less-from_sorted nat_cmp row i k 0 rising (omega arith) short),
      )
]

-- ---- one more at the places of a row

pub one_more-lower : {row low high : List ℕ} (place left : ℕ) → IsOneMore row low high → among row place ≡ false
    → place < length low → get_or low place 0 ≡ suc left → IsOneMore (row ++ place ∷ []) (set low place left) high
one_more-lower {row} {low} {high} place left old fresh short is = record {
  long = length-set low place left ∙ old.long;
  more = λ p has. elim (cases_eq p place) [
    | inl same ↦ rw same (old.same place fresh ∙ is ∙ ap suc (sym (get_or-set_same low place left 0 short)))
    | inr apart ↦ old.more p (sym (push-other row apart) ∙ has)
        ∙ ap suc (sym (get_or-set_other low place p left 0 apart))
  ];
  same = λ p none. elim (cases_eq p place) [
    | inl same ↦ absurd (cc (push-itself row place, rw same at none))
    | inr apart ↦ old.same p (sym (push-other row apart) ∙ none)
        ∙ sym (get_or-set_other low place p left 0 apart)
  ];
}

pub one_more-raise : {row low high : List ℕ} (place : ℕ) → IsOneMore row low high → among row place ≡ false
    → place < length high → IsOneMore (row ++ place ∷ []) low (set high place (suc (get_or high place 0)))
one_more-raise {row} {low} {high} place old fresh short =
    record {
      long = old.long ∙ sym (length-set high place (suc (get_or high place 0)));
      more = λ p has. elim (cases_eq p place) [
        | inl same ↦
            rw same (get_or-set_same high place (suc (get_or high place 0)) 0 short ∙ ap suc (old.same place fresh))
        | inr apart ↦ get_or-set_other high place p (suc (get_or high place 0)) 0 apart
            ∙ old.more p (sym (push-other row apart) ∙ has)
      ];
      same = λ p none. elim (cases_eq p place) [
        | inl same ↦ absurd (cc (push-itself row place, rw same at none))
        | inr apart ↦ get_or-set_other high place p (suc (get_or high place 0)) 0 apart
            ∙ old.same p (sym (push-other row apart) ∙ none)
      ];
    }

-- the same along a row that is gone through from its first place on
pub one_more-lower_at : (row : List ℕ) {low high : List ℕ} (i : ℕ) {place : ℕ} (left : ℕ) → IsRising row
    → i < length row
    → place ≡ get_or row i 0 → IsOneMore (take i row) low high → place < length low → get_or low place 0 ≡ suc left
    → IsOneMore (take (i + 1) row) (set low place left) high
one_more-lower_at row i {place} left rising short at old there is =
    rw (take_more row i 0 short, ← at)
    (one_more-lower place left old (ap (among (take i row)) at ∙ fresh_at row i rising short) there is)

pub one_more-raise_at : (row : List ℕ) {low high : List ℕ} (i place : ℕ) → IsRising row → i < length row
    → place ≡ get_or row i 0
    → IsOneMore (take i row) low high → place < length high
    → IsOneMore (take (i + 1) row) low (set high place (get_or high place 0 + 1))
one_more-raise_at row i place rising short at old there =
    rw (take_more row i 0 short, ← at, add-one)
    (one_more-raise place old (ap (among (take i row)) at ∙ fresh_at row i rising short) there)

-- a place that is gone through later is as it was
pub one_more-later : (row : List ℕ) {low high : List ℕ} (i : ℕ) → IsRising row → i < length row
    → IsOneMore (take i row) low high
    → get_or high (get_or row i 0) 0 ≡ get_or low (get_or row i 0) 0
one_more-later row i rising short old = old.same (get_or row i 0) (fresh_at row i rising short)
