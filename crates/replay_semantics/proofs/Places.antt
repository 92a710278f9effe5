-- Where a unit stands in an order that has one unit more.
use Rattle.std.specs.Prelude.{◌≡◌, ◌≢◌, ℕ, suc, Bool, true, false, ◌==◌, ◌||◌, List, [], ◌∷◌, ◌++◌, length, Some}
use Rattle.std.specs.Prelude.{is_some, if◌then◌else◌}
use Rattle.std.proofs.Common.{refl, ap, sym}
use Rattle.std.proofs.lemmas.Bool.{ne_eqb, eq-eqb, cond-false, cond-true}
use Rattle.unit_sets.specs.UnitList.{among}
use Rattle.fault_definitions.specs.Step.{Step, never, place_from, place}
use Rattle.replay_semantics.proofs.{GrowthLemmas.grows-new, StepGrowth.place-grows}

-- ---- members

pub among-append : (xs ys : List ℕ) (x : ℕ) → among (xs ++ ys) x ≡ (among xs x || among ys x)
among-append [] ys x = refl
among-append (y ∷ xs) ys x = let rest = among-append xs ys x in either (y == x) rest
  where
    either : (test : Bool) → among (xs ++ ys) x ≡ (among xs x || among ys x)
        → (test || among (xs ++ ys) x) ≡ ((test || among xs x) || among ys x)
    either true e = refl
    either false e = e

pub or_nothing : (a : Bool) → (a || false) ≡ a
or_nothing true = refl
or_nothing false = refl

-- ---- places

place_from-other : (first : ℕ) (order : List ℕ) {unit node : ℕ} → node ≢ unit
    → place_from first (order ++ unit ∷ []) node ≡ place_from first order node
place_from-other first [] {unit} {node} apart =
    cond-false (unit == node) (Some first) never (ne_eqb unit node (λ e. apart (sym e)))
place_from-other first (failed ∷ order) {node} apart =
    ap (λ (at : Step). if failed == node then Some first else at) (place_from-other (suc first) order apart)

pub place-other : (order : List ℕ) {unit node : ℕ} → node ≢ unit → place (order ++ unit ∷ []) node ≡ place order node
place-other order apart = place_from-other 1 order apart

place_from-itself : (first : ℕ) (order : List ℕ) (unit : ℕ)
    → is_some (place_from first (order ++ unit ∷ []) unit) ≡ true
place_from-itself first [] unit = ap is_some (cond-true (unit == unit) (Some first) never (eq-eqb unit unit refl))
place_from-itself first (failed ∷ order) unit = either (failed == unit) (place_from-itself (suc first) order unit)
  where
    either : (test : Bool) → is_some (place_from (suc first) (order ++ unit ∷ []) unit) ≡ true
        → is_some (if test then Some first else place_from (suc first) (order ++ unit ∷ []) unit) ≡ true
    either true h = refl
    either false h = h

pub place-itself : (order : List ℕ) (unit : ℕ) → is_some (place (order ++ unit ∷ []) unit) ≡ true
place-itself order unit = place_from-itself 1 order unit

-- ---- a unit that is in the order, and one that is not

pub place_from-none : (first : ℕ) (order : List ℕ) (unit : ℕ) → among order unit ≡ false
    → place_from first order unit ≡ never
place_from-none first [] unit none = refl
place_from-none first (failed ∷ order) unit none = either (failed == unit) none (place_from-none (suc first) order unit)
  where
    either : (test : Bool) → (test || among order unit) ≡ false
        → (among order unit ≡ false → place_from (suc first) order unit ≡ never)
        → (if test then Some first else place_from (suc first) order unit) ≡ never
    either true h rest = absurd cc
    either false h rest = rest h

pub place_from-some : (first : ℕ) (order : List ℕ) (unit : ℕ) → among order unit ≡ true
    → is_some (place_from first order unit) ≡ true
place_from-some first [] unit has = absurd cc
place_from-some first (failed ∷ order) unit has = either (failed == unit) has (place_from-some (suc first) order unit)
  where
    either : (test : Bool) → (test || among order unit) ≡ true
        → (among order unit ≡ true → is_some (place_from (suc first) order unit) ≡ true)
        → is_some (if test then Some first else place_from (suc first) order unit) ≡ true
    either true h rest = refl
    either false h rest = rest h

pub place-last : (order : List ℕ) (unit : ℕ) → among order unit ≡ false
    → place (order ++ unit ∷ []) unit ≡ Some (suc (length order))
place-last order unit fresh =
    grows-new (suc (length order)) (place order unit) (place (order ++ unit ∷ []) unit)
    ((place-grows order unit).each unit) (place_from-none 1 order unit fresh) (place-itself order unit)
