-- The first cut set that is tight: no block and no row that is passed over has an earlier one.
use Rattle.std.proofs.Common.{◌≡◌, ℕ, suc, ◌-◌, ◌<◌, ◌≤◌, Bool, true, false, nat_le}
use Rattle.std.proofs.Common.{List, [], ◌++◌, length, take, get_or, filter, All, Some, None, ◌∙◌, ap}
use Rattle.std.proofs.Common.{arith, inl, inr}
use Rattle.std.specs.List.{list_any, position, position_or_len}
use Rattle.std.proofs.lemmas.Bool.{cases_Bool, cases_lt, le-leb, lt-leb, le-ltb, lt-ltb}
use Rattle.std.proofs.{lemmas.List.Sums.position_or_len_is}
use Rattle.std.proofs.lemmas.List.{take_all, get_or_default, get_or_read}
use Rattle.unit_sets.specs.UnitList.{among, IsRising}
use Rattle.unit_sets.proofs.UnitListLemmas.{Contains-from_among}
use Rattle.residual_ledger.specs.{Residual.residual, Residual.cut_at, Tight.is_tight, Holding.holding, Kept.residuals}
use Rattle.residual_ledger.specs.{Kept.IsFirstAtMost, Ledger.IsFirstHolding}
use Rattle.residual_ledger.proofs.ResidualLemmas.{residual-asked, residual-asked-apart, residual-asked-le, met_unit}
use Rattle.residual_ledger.proofs.RowLemmas.{in_order}
use Rattle.residual_ledger.proofs.LedgerLemmas.{count_at, as_many, place_held, row_rises}

-- ---- one cut set

-- none of the asked units is out
pub all_free : (asked out : List ℕ) → All (λ unit. among out unit ≡ false) asked → (unit : ℕ) → among asked unit ≡ true
    → among out unit ≡ false
all_free asked out free unit has =
    let found = Contains-from_among asked unit has in
    rw found.2 at (free found.0 unit found.1)

-- what is kept of a cut set
pub left_is : (out : List ℕ) (cuts : List (List ℕ)) {counts : List ℕ} (place : ℕ) {left : ℕ}
    → counts ≡ residuals out cuts
    → place < length cuts → left ≡ get_or counts place left → left ≡ residual out (cut_at cuts place)
left_is out cuts {counts} place {left} counted short is =
    get_or_read counts place left (omega (arith, as_many out cuts counted)) is 0
    ∙ count_at out cuts place counted short

-- what a look at the members of a cut set tells, and what it need not tell
pub record IsLookedAt (out asked cut : List ℕ) (left : ℕ) : Type 0 where
  pub counted : left ≡ residual out cut
  pub rising : IsRising cut
  pub free : All (λ unit. among out unit ≡ false) asked

pub asked-le : {out asked cut : List ℕ} {left count : ℕ} → IsLookedAt out asked cut left
    → count ≡ length (filter (among asked) cut) → count ≤ left
asked-le {out} {asked} {cut} look is =
    omega (arith, look.counted, is, residual-asked asked out (all_free asked out look.free) cut)

pub tight-counted : {out asked cut : List ℕ} {left count : ℕ} (most : ℕ) → IsLookedAt out asked cut left
    → count ≡ length (filter (among asked) cut) → nat_le (left - count) most ≡ is_tight (asked ++ out) most cut
tight-counted {out} {asked} {cut} {left} {count} most look is =
    let new : left - count ≡ residual (asked ++ out) cut =
    omega (arith, look.counted, is, residual-asked asked out (all_free asked out look.free) cut) in
    ap (λ n. nat_le n most) new

pub not_tight-counted : {out asked cut : List ℕ} {left : ℕ} (most : ℕ) → IsLookedAt out asked cut left
    → length asked < left - most → is_tight (asked ++ out) most cut ≡ false
not_tight-counted {out} {asked} {cut} most look much =
    lt-leb (residual (asked ++ out) cut) most
    (omega (arith, look.counted, residual-asked-le asked out cut look.rising))

-- ---- along the row of a unit

-- the first cut sets of a row don't pass
pub record IsPassed (row : List ℕ) (cuts : List (List ℕ)) (test : List ℕ → Bool) (end i : ℕ) : Type 0 where
  pub fails : (k : ℕ) → k < i → test (cut_at cuts (get_or row k 0)) ≡ false

-- a place before a bound stands in the part of the row that has been gone through, where the rest is not below the
-- bound
pub passed : {row : List ℕ} (cuts : List (List ℕ)) (unit i bound : ℕ) (test : List ℕ → Bool) → row ≡ holding cuts unit
    → ((k : ℕ) → k < i → test (cut_at cuts (get_or row k 0)) ≡ false) → bound ≤ length cuts
    → (i < length row → bound ≤ get_or row i 0)
    → (place : ℕ) → place < bound → among (cut_at cuts place) unit ≡ true → test (cut_at cuts place) ≡ false
passed {row} cuts unit i bound test is fails inside rest place before has =
    let in_row : among row place ≡ true =
    ap (λ xs. among xs place) is ∙ place_held cuts unit place (omega arith) ∙ has in
    let found = Contains-from_among row place in_row in
    let at : get_or row found.0 0 ≡ place = get_or_default row found.0 0 place found.1 ∙ found.2 in
    elim (cases_lt found.0 i) [
      | inl gone ↦ rw at at (fails found.0 gone)
      | inr ahead ↦ absurd (omega (
        arith,
        at,
        rest (omega (arith, found.1)),
        in_order row i found.0 (row_rises cuts unit is) ahead found.1,
      ))
    ]

pub holding-stopped : {row : List ℕ} (cuts : List (List ℕ)) {unit i end : ℕ} {test : List ℕ → Bool}
    → row ≡ holding cuts unit → IsPassed row cuts test end i → end ≤ length cuts
    → (i < length row → end ≤ get_or row i 0) → IsFirstHolding unit test cuts end end
holding-stopped cuts {unit} {i} {end} {test} is was inside rest = record {
  inside = omega arith;
  before = passed cuts unit i end test is was.fails inside rest;
  here = λ h. absurd (omega arith);
}

pub holding-found : {row : List ℕ} (cuts : List (List ℕ)) {unit i end : ℕ} {test : List ℕ → Bool}
    → row ≡ holding cuts unit → IsPassed row cuts test end i → end ≤ length cuts → get_or row i 0 < end
    → test (cut_at cuts (get_or row i 0)) ≡ true → IsFirstHolding unit test cuts end (get_or row i 0)
holding-found {row} cuts {unit} {i} {test} is was inside below passes = record {
  inside = omega arith;
  before = passed cuts unit i (get_or row i 0) test is was.fails (omega arith) (λ _. omega arith);
  here = λ _. passes;
}

-- ---- the asked units one after another

-- No cut set before the first one is tight, as far as it has one of the units asked so far or none at all.
pub record IsNarrowed (cuts : List (List ℕ)) (out asked : List ℕ) (most count first : ℕ) : Type 0 where
  pub inside : first ≤ length cuts
  pub low : (place : ℕ) → place < first → suc most ≤ residual out (cut_at cuts place)
  pub held : (place unit : ℕ) → place < first → among (take count asked) unit ≡ true
      → among (cut_at cuts place) unit ≡ true → is_tight (asked ++ out) most (cut_at cuts place) ≡ false
  pub here : first < length cuts → is_tight (asked ++ out) most (cut_at cuts first) ≡ true

pub narrowed-first : (cuts : List (List ℕ)) {out asked counts : List ℕ} {most first : ℕ} → counts ≡ residuals out cuts
    → All (λ unit. among out unit ≡ false) asked → IsFirstAtMost counts most first
    → IsNarrowed cuts out asked most 0 first
narrowed-first cuts {out} {asked} {counts} {most} {first} counted free found =
    let many : length counts ≡ length cuts = as_many out cuts counted in
    record {
      inside = omega (arith, found.inside);
      low =
          λ place h. let short : place < length cuts = omega (arith, found.inside) in
          omega (arith, found.before place (omega arith) h, count_at out cuts place counted short);
      held = λ place unit h has _. absurd cc;
      here = λ h.
          let cut : List ℕ = cut_at cuts first in
          le-leb (residual (asked ++ out) cut) most
          (omega (
            arith,
            found.here (omega arith),
            count_at out cuts first counted h,
            residual-asked asked out (all_free asked out free) cut,
          ));
    }

module _ (cuts : List (List ℕ)) {out asked : List ℕ} {most count first : ℕ} (full : length asked ≤ count)
    (was : IsNarrowed cuts out asked most count first) where
  -- every cut set before the first one keeps enough
  none_before : (place : ℕ) → place < first → is_tight (asked ++ out) most (cut_at cuts place) ≡ false
  none_before place before =
      let cut : List ℕ = cut_at cuts place in
      elim (cases_Bool (list_any (among cut) asked)) [
        | inl some ↦
            let met = met_unit asked cut some in
            was.held place met.0 before (ap (λ xs. among xs met.0) (take_all count asked full) ∙ met.1) met.2
        | inr apart ↦
            lt-leb (residual (asked ++ out) cut) most
            (omega (arith, was.low place before, residual-asked-apart asked out cut apart))
      ]

  narrowed-is : position_or_len (is_tight (asked ++ out) most) cuts ≡ first
  narrowed-is = position_or_len_is (is_tight (asked ++ out) most) cuts first [] was.inside none_before was.here

  pub narrowed-found : first < length cuts → Some first ≡ position (is_tight (asked ++ out) most) cuts
  narrowed-found short = rw (narrowed-is, lt-ltb first (length cuts) short)

  pub narrowed-none : length cuts ≤ first → None ≡ position (is_tight (asked ++ out) most) cuts
  narrowed-none past = rw (narrowed-is, le-ltb first (length cuts) past)
