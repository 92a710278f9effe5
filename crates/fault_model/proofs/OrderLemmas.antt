-- Units one after another: what was seen so far, and whether a unit stands twice.
use Rattle.std.proofs.Common.{◌≡◌, ℕ, ◌+◌, ◌<◌, Bool, true, false, List, [], ◌∷◌, ◌++◌, length, take, get_or, Contains}
use Rattle.std.proofs.Common.{sym, ◌∙◌, ap, subst, arith}
use Rattle.std.specs.Prelude.{◌||◌, ◌==◌, IsTrue}
use Rattle.std.proofs.lemmas.List.{get_or-take, get_or_default, length-take, take_more}
use Rattle.std.proofs.lemmas.List.Quantifiers.{all_pairs_push}
use Rattle.unit_sets.specs.UnitList.{among, with_unit}
use Rattle.unit_sets.proofs.UnitListLemmas.{among-with_unit, among-from_Contains, Contains-from_among}
use Rattle.fault_model.specs.Order.{AreDistinct}
use Rattle.fault_model.proofs.TriggerLemmas.{among-push}

-- a list of units, one of which is next
module _ (units : List ℕ) (i : ℕ) {unit : ℕ} (short : i < length units) (is : unit ≡ get_or units i unit) where
  pushed : take (i + 1) units ≡ take i units ++ unit ∷ []
  pushed = take_more units i unit short ∙ ap (λ u. take i units ++ u ∷ []) (sym is)

  pub seen_more : (seen : List ℕ) {seen' : List ℕ} → ((u : ℕ) → among seen u ≡ among (take i units) u)
      → seen' ≡ with_unit unit seen → (u : ℕ) → among seen' u ≡ among (take (i + 1) units) u
  seen_more seen same with u =
      ap (λ s. among s u) with ∙ among-with_unit unit seen u
      ∙ turned (unit == u) (among seen u) (among (take i units) u) (same u)
      ∙ sym (ap (λ l. among l u) pushed ∙ among-push (take i units) unit u)
    where
      turned : (a b c : Bool) → b ≡ c → (a || b) ≡ (c || (a || false))
      turned true true c e = cc
      turned true false c e = cc
      turned false true c e = cc
      turned false false c e = cc

  pub distinct_more : AreDistinct (take i units) → among (take i units) unit ≡ false → AreDistinct (take (i + 1) units)
  distinct_more distinct fresh =
      subst AreDistinct (sym pushed) (all_pairs_push (λ earlier later. earlier ≡ later → ⊥) (take i units) unit distinct
      (λ k d within same.
      let met : among (take i units) unit ≡ true =
      among-from_Contains (take i units) unit (k, within, get_or_default (take i units) k unit d within ∙ same) in
      absurd cc))

  pub stands_twice : among (take i units) unit ≡ true → AreDistinct units → IsTrue false
  stands_twice met distinct =
      let there : Contains (take i units) unit = Contains-from_among (take i units) unit met in
      let size = length-take i units in
      let before : there.0 < i = (let s = there.1 in omega arith) in
      let at : get_or units there.0 unit ≡ unit = sym (get_or-take i units there.0 unit before) ∙ there.2 in
      absurd (distinct there.0 i unit before short (at ∙ is))
