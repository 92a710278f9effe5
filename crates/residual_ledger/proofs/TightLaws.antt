-- The first number of the tight cut sets, and two ways to write the units that are out.
use Rattle.std.specs.Prelude.{◌≡◌, ℕ, zero, suc, ◌+◌, ◌<◌, Bool, true, false, List, [], ◌∷◌, length, get_or}
use Rattle.std.specs.Prelude.{slice_get, Some, nat_le}
use Rattle.std.specs.{List.position, List.position_or_len, Option.option_map}
use Rattle.std.proofs.Common.{refl, ◌∙◌, ap, inl, inr, arith}
use Rattle.std.proofs.lemmas.Bool.{cases_lt, lt-ltb, le-ltb}
use Rattle.std.proofs.lemmas.List.Sums.{fails_before_first, passes_at_first}
use Rattle.unit_sets.specs.UnitList.{among}
use Rattle.residual_ledger.proofs.ResidualFacts.{residual-alike}
use Rattle.residual_ledger.specs.Tight.{is_tight, numbers_from, tight}

numbers_from-first : (number : ℕ) (test : List ℕ → Bool) (cuts : List (List ℕ)) (place : ℕ) → place < length cuts
    → ((k : ℕ) → k < place → test (get_or cuts k []) ≡ false) → test (get_or cuts place []) ≡ true
    → slice_get (numbers_from number test cuts) 0 ≡ Some (number + place)
numbers_from-first number test [] place short before here = absurd (omega arith)
numbers_from-first number test (cut ∷ cuts) zero short before here =
    let same : number ≡ number + 0 = omega arith in rw here (ap Some same)
numbers_from-first number test (cut ∷ cuts) (suc place) short before here =
    let same : suc number + place ≡ number + suc place = omega arith in
    rw (before 0 (omega arith)) (numbers_from-first (suc number) test cuts place (omega arith)
    (λ k h. before (suc k) (omega arith)) here ∙ ap Some same)

numbers_from-none : (number : ℕ) (test : List ℕ → Bool) (cuts : List (List ℕ))
    → ((k : ℕ) → k < length cuts → test (get_or cuts k []) ≡ false) → numbers_from number test cuts ≡ []
numbers_from-none number test [] none = refl
numbers_from-none number test (cut ∷ cuts) none =
    rw (none 0 (omega arith)) (numbers_from-none (suc number) test cuts (λ k h. none (suc k) (omega arith)))

-- the first of the numbers from 1 is one more than the first place from 0
pub numbers_from-position : (test : List ℕ → Bool) (cuts : List (List ℕ))
    → slice_get (numbers_from 1 test cuts) 0 ≡ option_map suc (position test cuts)
numbers_from-position test cuts =
    let place : ℕ = position_or_len test cuts in
    elim (cases_lt place (length cuts)) [
      | inl some ↦
          let one_more : 1 + place ≡ suc place = omega arith in
          rw (lt-ltb place (length cuts) some) (numbers_from-first 1 test cuts place some
          (λ k h. fails_before_first test cuts k [] h) (passes_at_first test cuts [] some) ∙ ap Some one_more)
      | inr all ↦
          rw (
            numbers_from-none 1 test cuts (λ k h. fails_before_first test cuts k [] (omega arith)),
            le-ltb place (length cuts) all,
          )
    ]

-- the first tight cut set by number and by place
pub tight-first : (out : List ℕ) (most : ℕ) (cuts : List (List ℕ))
    → slice_get (tight out most cuts) 0 ≡ option_map suc (position (is_tight out most) cuts)
tight-first out most cuts = numbers_from-position (is_tight out most) cuts

-- ---- the same units out

numbers_from-alike : (number : ℕ) (test other : List ℕ → Bool) → ((cut : List ℕ) → test cut ≡ other cut)
    → (cuts : List (List ℕ)) → numbers_from number test cuts ≡ numbers_from number other cuts
numbers_from-alike number test other alike [] = refl
numbers_from-alike number test other alike (cut ∷ cuts) =
    rw (alike cut, numbers_from-alike (suc number) test other alike cuts)

-- two ways to write the units that are out make the same cut sets tight, where they have the same members
pub tight-alike : (out other : List ℕ) (most : ℕ) → ((unit : ℕ) → among out unit ≡ among other unit)
    → (cuts : List (List ℕ)) → tight out most cuts ≡ tight other most cuts
tight-alike out other most alike cuts =
    numbers_from-alike 1 (is_tight out most) (is_tight other most)
    (λ cut. ap (λ n. nat_le n most) (residual-alike out other alike cut)) cuts
