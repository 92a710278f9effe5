-- The counts of a ledger before and after a unit goes out or comes back.
use Rattle.std.proofs.Common.{◌≡◌, ℕ, suc, ◌+◌, ◌<◌, ◌≤◌, ◌^◌, Bool, true, false, not, ◌&&◌, ◌||◌, ◌==◌, nat_lt}
use Rattle.std.proofs.Common.{◌↔◌, List, [], ◌∷◌, length, get_or, All, refl, sym, ◌∙◌, ap, arith, inl, inr}
use Rattle.std.proofs.Common.{ext_get_or, eqb-true, eq-eqb}
use Rattle.std.proofs.lemmas.Bool.{cases_Bool, and_parts, ltb-true, lt-ltb}
use Rattle.std.proofs.{lemmas.Bool.Decides.nat_tests, Math.Bool.and-false}
use Rattle.std.proofs.{lemmas.List.get_or-map, lemmas.List.length-map, lemmas.List.Sums.get_or-le-sum_by}
use Rattle.unit_sets.specs.CutOrder.{IsOrderedCuts, IsCutSet, weight}
use Rattle.unit_sets.specs.UnitList.{among, IsRising, with_unit, without_unit}
use Rattle.unit_sets.proofs.UnitListLemmas.{among-with_unit, among-without_unit}
use Rattle.residual_ledger.specs.{Residual.residual, Residual.cut_at, Kept.residuals, Kept.IsOneMore}
use Rattle.residual_ledger.specs.{Ledger.KeepsLedger}
use Rattle.residual_ledger.proofs.{ResidualFacts.residual-alike, RowLemmas.All-from_among}
use Rattle.residual_ledger.proofs.{HoldingLemmas.IsRising-holding, HoldingLemmas.among-holding}
use Rattle.residual_ledger.specs.Holding.{holding}
use Rattle.residual_ledger.proofs.ResidualLemmas.{residual-apart, residual-taken, residual-le}

-- ---- the places of a row

pub cut_rises : (cuts : List (List ℕ)) (place : ℕ) → IsOrderedCuts cuts → place < length cuts
    → IsRising (cut_at cuts place)
cut_rises cuts place ordered short = let cut : IsCutSet (cut_at cuts place) = ordered.sets place [] short in cut.rising

pub held_place : (cuts : List (List ℕ)) (unit place : ℕ) → among (holding cuts unit) place ≡ true
    → (place < length cuts) × (among (cut_at cuts place) unit ≡ true)
held_place cuts unit place has =
    let parts =
    and_parts (nat_lt place (length cuts)) (among (cut_at cuts place) unit)
    (sym (among-holding cuts unit place) ∙ has) in
    (ltb-true place (length cuts) parts.0, parts.1)

pub place_held : (cuts : List (List ℕ)) (unit place : ℕ) → place < length cuts
    → among (holding cuts unit) place ≡ among (cut_at cuts place) unit
place_held cuts unit place short =
    among-holding cuts unit place ∙ ap (λ b. b && among (cut_at cuts place) unit) (lt-ltb place (length cuts) short)

pub count_at : (out : List ℕ) (cuts : List (List ℕ)) {counts : List ℕ} (place : ℕ) → counts ≡ residuals out cuts
    → place < length cuts → get_or counts place 0 ≡ residual out (cut_at cuts place)
count_at out cuts place is short = ap (λ xs. get_or xs place 0) is ∙ get_or-map (residual out) cuts place [] 0 short

pub as_many : (out : List ℕ) (cuts : List (List ℕ)) {counts : List ℕ} → counts ≡ residuals out cuts
    → length counts ≡ length cuts
as_many out cuts is = ap length is ∙ length-map cuts (residual out)

pub row_rises : (cuts : List (List ℕ)) (unit : ℕ) {row : List ℕ} → row ≡ holding cuts unit → IsRising row
row_rises cuts unit is = rw is (IsRising-holding cuts unit)

-- ---- a unit goes out

pub residual-with_unit : (unit : ℕ) (out cut : List ℕ) → residual (with_unit unit out) cut ≡ residual (unit ∷ out) cut
residual-with_unit unit out cut = residual-alike (with_unit unit out) (unit ∷ out) (among-with_unit unit out) cut

-- what a cut set keeps without a unit and with it, one less where it has the unit
one_less : (unit : ℕ) (out cut : List ℕ) (low high : ℕ) → IsRising cut → among out unit ≡ false
    → (among cut unit ≡ true → high ≡ suc low) → (among cut unit ≡ false → high ≡ low)
    → (high ≡ residual out cut) ↔ (low ≡ residual (unit ∷ out) cut)
one_less unit out cut low high rising free more same = elim (cases_Bool (among cut unit)) [
  | inl has ↦
      let fewer = residual-taken unit out cut rising free has in
      (λ is. omega (arith, more has, fewer), λ is. omega (arith, more has, fewer))
  | inr none ↦
      let alike = residual-apart unit out cut none in
      (λ is. omega (arith, same none, alike), λ is. omega (arith, same none, alike))
]

-- ---- a unit comes back

pub gone : (unit : ℕ) (out : List ℕ) → among (without_unit unit out) unit ≡ false
gone unit out =
    among-without_unit unit out unit ∙ ap (λ b. among out unit && not b) (eq-eqb unit unit refl)
    ∙ and-false (among out unit)

-- the unit and the others are those that were out
pub with_it_again : (unit : ℕ) (out : List ℕ) → among out unit ≡ true → (other : ℕ)
    → among (unit ∷ without_unit unit out) other ≡ among out other
with_it_again unit out was other =
    ap (λ b. (unit == other) || b) (among-without_unit unit out other)
    ∙ either (unit == other) (other == unit) (among out other) (turned unit other)
    (λ same. rw (← eqb-true unit other same) was)
  where
    turned : (a b : ℕ) → (a == b) ≡ (b == a)
    turned a b = grind (arith, nat_tests)

    either : (s t a : Bool) → s ≡ t → (s ≡ true → a ≡ true) → (s || (a && not t)) ≡ a
    either true t a e has = sym (has refl)
    either false true a e has = absurd cc
    either false false true e has = refl
    either false false false e has = refl

-- the row of a unit, while the counts are those of the units that are out
module _ (out : List ℕ) (cuts : List (List ℕ)) {counts : List ℕ} (unit : ℕ) {row : List ℕ}
    (is : row ≡ holding cuts unit) (counted : counts ≡ residuals out cuts) where
  held : (place : ℕ) → among row place ≡ true → (place < length cuts) × (among (cut_at cuts place) unit ≡ true)
  held place has = held_place cuts unit place (rw is at has)

  pub row_within : All (λ place. place < length counts) row
  row_within =
      All-from_among (λ place. place < length counts) row
      (λ place has. omega (arith, as_many out cuts counted, (held place has).0))

  module _ (ordered : IsOrderedCuts cuts) where
    pub row_room : All (λ place. get_or counts place 0 < 2 ^ 31) row
    row_room =
        All-from_among (λ place. get_or counts place 0 < 2 ^ 31) row
        (λ place has.
        let short : place < length cuts = (held place has).0 in
        let heavy : 1 + length (cut_at cuts place) ≤ weight cuts =
        get_or-le-sum_by (λ (c : List ℕ). 1 + length c) cuts place [] short in
        omega (arith, count_at out cuts place counted short, residual-le out (cut_at cuts place), ordered.within))

    pub row_positive : among out unit ≡ false → All (λ place. 0 < get_or counts place 0) row
    row_positive free =
        All-from_among (λ place. 0 < get_or counts place 0) row
        (λ place has.
        let there = held place has in
        omega (
          arith,
          count_at out cuts place counted there.0,
          residual-taken unit out (cut_at cuts place) (cut_rises cuts place ordered there.0) free there.1,
        ))

    pub lowered_counts : {counts' : List ℕ} → among out unit ≡ false → IsOneMore row counts' counts
        → counts' ≡ residuals (with_unit unit out) cuts
    lowered_counts {counts'} free more =
        let many : length counts' ≡ length cuts = more.long ∙ as_many out cuts counted in
        ext_get_or 0 counts' (residuals (with_unit unit out) cuts)
        (many ∙ sym (length-map cuts (residual (with_unit unit out))))
        (λ place short.
        let inside : place < length cuts = omega (arith, short, many) in
        let same : among row place ≡ among (cut_at cuts place) unit = rw is (place_held cuts unit place inside) in
        (one_less unit out (cut_at cuts place) (get_or counts' place 0) (get_or counts place 0)
        (cut_rises cuts place ordered inside) free
        (λ has. more.more place (same ∙ has)) (λ none. more.same place (same ∙ none))).0
        (count_at out cuts place counted inside)
        ∙ sym (residual-with_unit unit out (cut_at cuts place))
        ∙ sym (get_or-map (residual (with_unit unit out)) cuts place [] 0 inside))

    pub raised_counts : {counts' : List ℕ} → among out unit ≡ true → IsOneMore row counts counts'
        → counts' ≡ residuals (without_unit unit out) cuts
    raised_counts {counts'} was more =
        let left : List ℕ = without_unit unit out in
        let many : length counts' ≡ length cuts = sym more.long ∙ as_many out cuts counted in
        ext_get_or 0 counts' (residuals left cuts) (many ∙ sym (length-map cuts (residual left)))
        (λ place short.
        let inside : place < length cuts = omega (arith, short, many) in
        let cut : List ℕ = cut_at cuts place in
        let same : among row place ≡ among cut unit = rw is (place_held cuts unit place inside) in
        (one_less unit left cut (get_or counts place 0) (get_or counts' place 0) (cut_rises cuts place ordered inside)
        (gone unit out) (λ has. more.more place (same ∙ has)) (λ none. more.same place (same ∙ none))).1
        (count_at out cuts place counted inside
        ∙ sym (residual-alike (unit ∷ left) out (with_it_again unit out was) cut))
        ∙ sym (get_or-map (residual left) cuts place [] 0 inside))

-- what a ledger keeps, where its rows are read again as they were written
pub written : {units : ℕ} {cuts : List (List ℕ)} {out counts counts' least lowest ends rows : List ℕ}
    → counts' ≡ counts → KeepsLedger units cuts out counts least lowest ends rows
    → KeepsLedger units cuts out counts' least lowest ends rows
written same keeps = rw same keeps
