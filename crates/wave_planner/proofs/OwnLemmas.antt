-- The cut sets that hold a unit decide whether it may go out beside others that may be out together.
use Rattle.std.specs.Prelude.{◌≡◌, ℕ, suc, ◌+◌, ◌-◌, ◌<◌, ◌≤◌, Bool, true, false, nat_le, List, [], ◌∷◌, length, get_or}
use Rattle.std.specs.Prelude.{Option, Some, None, is_none}
use Rattle.std.specs.{List.position, List.position_or_len, Option.option_map}
use Rattle.std.proofs.Common.{refl, sym, ◌∙◌, ap, arith, inl, inr}
use Rattle.std.proofs.lemmas.Bool.{cases_Bool, cases_lt, false_from_ne_true, le-leb, lt-leb, lt-ltb, le-ltb}
use Rattle.std.proofs.lemmas.List.Sums.{fails_before_first, passes_at_first}
use Rattle.unit_sets.specs.{CutOrder.IsOrderedCuts, UnitList.among}
use Rattle.residual_ledger.specs.{Holding.holding, Ledger.IsFirstHolding, Residual.cut_at, Residual.residual}
use Rattle.residual_ledger.specs.{Tight.is_tight}
use Rattle.residual_ledger.proofs.LedgerLemmas.{cut_rises, held_place}
use Rattle.residual_ledger.proofs.{ResidualLemmas.residual-apart, ResidualLemmas.residual-taken, RowLemmas.among-at}
use Rattle.residual_ledger.proofs.SearchLemmas.{IsPassed, holding-stopped}
use Rattle.residual_ledger.proofs.TightLaws.{tight-first}
use Rattle.wave_planner.specs.Filling.{is_free}

-- ---- some units may be out together where no cut set is tight

none_as_none : (place : Option ℕ) → is_none (option_map suc place) ≡ is_none place
none_as_none None = refl
none_as_none (Some place) = refl

by_place : (cuts : List (List ℕ)) (margin : ℕ) (units : List ℕ)
    → is_free cuts margin units ≡ is_none (position (is_tight units margin) cuts)
by_place cuts margin units =
    ap is_none (tight-first units margin cuts) ∙ none_as_none (position (is_tight units margin) cuts)

module _ (test : List ℕ → Bool) (cuts : List (List ℕ)) where
  no_place : ((place : ℕ) → place < length cuts → test (cut_at cuts place) ≡ false)
      → is_none (position test cuts) ≡ true
  no_place none = elim (cases_lt (position_or_len test cuts) (length cuts)) [
    | inl short ↦
        absurd (cc (passes_at_first test cuts [] short, none (position_or_len test cuts) short))
    | inr all ↦ rw (le-ltb (position_or_len test cuts) (length cuts) all) refl
  ]

  none_at : is_none (position test cuts) ≡ true → (place : ℕ) → place < length cuts
      → test (cut_at cuts place) ≡ false
  none_at none place short = elim (cases_lt (position_or_len test cuts) (length cuts)) [
    | inl some ↦ absurd (cc (rw (lt-ltb (position_or_len test cuts) (length cuts) some) at none))
    | inr all ↦ fails_before_first test cuts place [] (omega arith)
  ]

pub keeps_at : (cuts : List (List ℕ)) (margin : ℕ) (units : List ℕ) → is_free cuts margin units ≡ true
    → (place : ℕ) → place < length cuts → is_tight units margin (cut_at cuts place) ≡ false
keeps_at cuts margin units free =
    none_at (is_tight units margin) cuts (sym (by_place cuts margin units) ∙ free)

-- ---- a unit beside those that are out

-- the row of the places of its cut sets, while it is in service
pub record IsOwnRow (cuts : List (List ℕ)) (out : List ℕ) (unit : ℕ) (row : List ℕ) : Type 0 where
  pub is : row ≡ holding cuts unit
  pub ordered : IsOrderedCuts cuts
  pub in_service : among out unit ≡ false

module _ {cuts : List (List ℕ)} {out : List ℕ} {unit : ℕ} {row : List ℕ} (own : IsOwnRow cuts out unit row) where
  pub own_place : (i : ℕ) → i < length row
      → (get_or row i 0 < length cuts) × (among (cut_at cuts (get_or row i 0)) unit ≡ true)
  own_place i short =
      held_place cuts unit (get_or row i 0)
      (ap (λ xs. among xs (get_or row i 0)) (sym own.is) ∙ among-at row i 0 short)

  pub none_passed : (margin : ℕ) → IsPassed row cuts (is_tight (unit ∷ out) margin) (length cuts) 0
  none_passed margin = record { fails = λ k low. absurd (omega arith) }

  module _ (i : ℕ) {left : ℕ} (short : i < length row) (counted : left ≡ residual out
      (cut_at cuts (get_or row i 0))) where
    -- what a cut set of the row has left, and what it has with the unit out, too
    pub one_less : left ≡ suc (residual (unit ∷ out) (cut_at cuts (get_or row i 0)))
    one_less =
        let at = own_place i short in
        let cut : List ℕ = cut_at cuts (get_or row i 0) in
        counted ∙ residual-taken unit out cut (cut_rises cuts (get_or row i 0) own.ordered at.0) own.in_service at.1

    pub stays : (margin : ℕ) → left - 1 ≤ margin → is_free cuts margin (unit ∷ out) ≡ false
    stays margin few =
        false_from_ne_true (is_free cuts margin (unit ∷ out))
        (λ free. cc (
          keeps_at cuts margin (unit ∷ out) free (get_or row i 0) (own_place i short).0,
          le-leb (residual (unit ∷ out) (cut_at cuts (get_or row i 0))) margin (omega (arith, one_less, few)),
        ))

    pub one_more_passed : (margin : ℕ) → margin < left - 1
        → IsPassed row cuts (is_tight (unit ∷ out) margin) (length cuts) i
        → IsPassed row cuts (is_tight (unit ∷ out) margin) (length cuts) (i + 1)
    one_more_passed margin many was = record {
      fails = λ k low. elim (cases_lt k i) [
        | inl before ↦ was.fails k before
        | inr here ↦
            let same : k ≡ i = omega arith in
            rw same (lt-leb (residual (unit ∷ out) (cut_at cuts (get_or row i 0))) margin
            (omega (arith, one_less, many)))
      ];
    }

  -- where each cut set of the row keeps enough, the unit may go, since the others keep what they have
  pub goes : (margin i : ℕ) → length row ≤ i → is_free cuts margin out ≡ true
      → IsPassed row cuts (is_tight (unit ∷ out) margin) (length cuts) i → is_free cuts margin (unit ∷ out) ≡ true
  goes margin i all free was =
      by_place cuts margin (unit ∷ out)
      ∙ no_place (is_tight (unit ∷ out) margin) cuts
      (λ place short. elim (cases_Bool (among (cut_at cuts place) unit)) [
        | inl has ↦ first.before place short has
        | inr none ↦
            ap (λ n. nat_le n margin) (residual-apart unit out (cut_at cuts place) none)
            ∙ keeps_at cuts margin out free place short
      ])
    where
      first : IsFirstHolding unit (is_tight (unit ∷ out) margin) cuts (length cuts) (length cuts)
      first = holding-stopped cuts own.is was (omega arith) (λ short. absurd (omega arith))
