-- No two gates of the made deck share a spare.
use Rattle.std.proofs.Common.{◌≡◌, ℕ, zero, suc, ◌+◌, ◌*◌, ◌<◌, ◌≤◌, false, not, cond, eqb, List, [], ◌∷◌, ◌++◌, map}
use Rattle.std.proofs.Common.{refl, ap, ◌∙◌, arith}
use Rattle.std.specs.Prelude.{◌&&◌, ◌||◌, All, slice_index_or}
use Rattle.std.specs.List.{flat_map, list_any, range_with_len}
use Rattle.std.proofs.{lemmas.Bool.eqb-true, lemmas.List.append-nil, lemmas.List.Concat.flat_map-append}
use Rattle.std.proofs.{lemmas.List.Folds.flat_map-map}
use Rattle.std.proofs.lemmas.List.Elements.{All-cons, All-head, All-nil, All-tail, All-weaker}
use Rattle.fault_words.specs.declared.kind.GateKind.TheVariants.{And}
use Rattle.tree_check.specs.Classes.{SpareUse, clash, shared_after, shared_spares, spare_uses, spare_uses_in}
use Rattle.tree_maker.specs.MadeDeck as made
use Rattle.tree_maker.proofs.FineGates.{deck_gates, kind, seven_kinds}
use Rattle.tree_maker.proofs.Gates.{fdep_numbered, group_numbered, numbered_by}
use Rattle.tree_maker.proofs.Ranges.{flat_range-none}

-- the numbers of uses rise, from this one on
abbrev Rise : ℕ → List SpareUse → Type 0
Rise least [] = Unit {0}
Rise least (used ∷ uses) = (least ≤ used.input.number) × Rise (used.input.number + 1) uses

no_clash : (earlier : List SpareUse) (later : SpareUse) (least : ℕ)
    → All (λ (e : SpareUse). e.input.number < least) earlier → least ≤ later.input.number
    → list_any (λ e. clash e later) earlier ≡ false
no_clash [] later least below high = refl
no_clash (e ∷ earlier) later least below high =
    let low : e.input.number < least = All-head (λ (e : SpareUse). e.input.number < least) e earlier below in
    let differ : eqb e.input.number later.input.number ≡ false = grind (arith, eqb-true) in
    ap (λ b. (b && not (e.is_first && later.is_first)) || list_any (λ e. clash e later) earlier) differ
    ∙ no_clash earlier later least (All-tail (λ (e : SpareUse). e.input.number < least) e earlier below) high

-- rising uses don't clash
none_shared : (earlier uses : List SpareUse) (least : ℕ) → All (λ (e : SpareUse). e.input.number < least) earlier
    → Rise least uses → shared_after earlier uses ≡ []
none_shared earlier [] least below rise = refl
none_shared earlier (later ∷ uses) least below (high, rise) =
    ap (λ b. cond b (later.input.place ∷ []) [] ++ shared_after (later ∷ earlier) uses)
    (no_clash earlier later least below high)
    ∙ none_shared (later ∷ earlier) uses (later.input.number + 1)
    (All-cons (λ (e : SpareUse). e.input.number < later.input.number + 1) later earlier (omega arith)
    (All-weaker (λ (e : SpareUse). e.input.number < least) (λ (e : SpareUse). e.input.number < later.input.number + 1)
    (λ e low. omega arith) earlier below))
    rise

rise-from : (least lower : ℕ) (uses : List SpareUse) → lower ≤ least → Rise least uses → Rise lower uses
rise-from least lower [] low rise = tt
rise-from least lower (used ∷ uses) low (high, rise) = (omega arith, rise)

-- a group's three units, in front of higher ones
group_rises : (place n : ℕ) (rest : List SpareUse) → Rise (n + 4) rest
    → Rise (n + 1) (spare_uses_in
    (numbered_by (slice_index_or made.kinds place And) ((n + 1) ∷ (n + 2) ∷ (n + 3) ∷ [])) ++ rest)
group_rises place n rest rise =
    let passed : Rise (n + 1) rest = rise-from (n + 4) (n + 1) rest (omega arith) rise in
    let behind : Rise (n + 3 + 1) rest = rise-from (n + 4) (n + 3 + 1) rest (omega arith) rise in
    seven_kinds (λ kind. Rise (n + 1) (spare_uses_in (numbered_by kind ((n + 1) ∷ (n + 2) ∷ (n + 3) ∷ [])) ++ rest))
    passed passed passed passed
    (omega arith, (omega arith, (omega arith, behind)))
    (omega arith, (omega arith, (omega arith, behind)))
    (omega arith, (omega arith, (omega arith, behind)))
    place

module _ (count fdeps : ℕ) (place : ℕ → ℕ) (some : 1 ≤ count) (fits : (q : ℕ) → q < fdeps → 5 * q < count) where
  abbrev group_uses : ℕ → List SpareUse
  group_uses group = spare_uses_in (group_numbered count fdeps (kind count fdeps place some fits) group)

  groups_rise : (s n : ℕ) → Rise (3 * s + 1) (flat_map group_uses (range_with_len s n))
  groups_rise s zero = tt
  groups_rise s (suc n) =
      group_rises (place s) (3 * s) (flat_map group_uses (range_with_len (s + 1) n))
      (rise-from (3 * (s + 1) + 1) (3 * s + 4) (flat_map group_uses (range_with_len (s + 1) n)) (omega arith)
      (groups_rise (s + 1) n))

  uses_are : spare_uses (deck_gates count fdeps place some fits) ≡ flat_map group_uses (range_with_len 0 count)
  uses_are =
      flat_map-append spare_uses_in
      (map (group_numbered count fdeps (kind count fdeps place some fits)) (range_with_len 0 count))
      (map (fdep_numbered count fdeps (kind count fdeps place some fits)) (range_with_len 0 fdeps))
      ∙ ap (λ l. l ++ flat_map spare_uses_in
      (map (fdep_numbered count fdeps (kind count fdeps place some fits)) (range_with_len 0 fdeps)))
      (flat_map-map spare_uses_in (group_numbered count fdeps (kind count fdeps place some fits))
      (range_with_len 0 count))
      ∙ ap (λ l. flat_map group_uses (range_with_len 0 count) ++ l)
      (flat_map-map spare_uses_in (fdep_numbered count fdeps (kind count fdeps place some fits))
      (range_with_len 0 fdeps)
      ∙ flat_range-none (λ q. spare_uses_in (fdep_numbered count fdeps (kind count fdeps place some fits) q)) 0 fdeps
      (λ q. refl))
      ∙ append-nil (flat_map group_uses (range_with_len 0 count))

  pub no_shared_spares : shared_spares (deck_gates count fdeps place some fits) ≡ []
  no_shared_spares =
      ap (shared_after []) uses_are
      ∙ none_shared [] (flat_map group_uses (range_with_len 0 count)) 1
      (All-nil (λ (e : SpareUse). e.input.number < 1)) (groups_rise 0 count)
