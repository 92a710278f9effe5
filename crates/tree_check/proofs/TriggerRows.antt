-- What triggers a unit among more and more gates.
use Rattle.std.proofs.Common.{◌≡◌, ℕ, ◌+◌, ◌<◌, List, [], ◌∷◌, ◌++◌, length, map, take, get_or, refl, sym, ap, ◌∙◌}
use Rattle.std.proofs.Common.{subst, zero, suc, replicate, drop, ◌-◌, ◌≤◌, All, arith}
use Rattle.std.specs.Prelude.{◌||◌, ◌==◌, Option, Some, None, filter_map, option_to_list}
use Rattle.std.specs.List.{cons_option}
use Rattle.std.proofs.lemmas.List.{length-drop, length-replicate, map_more, take_all}
use Rattle.std.proofs.{lemmas.List.Elements.filter_map-append, lemmas.List.Folds.list_any-append}
use Rattle.unit_sets.specs.UnitList.{among}
use Rattle.fault_words.specs.{declared.kind.GateKind.GateKind, declared.kind.GateKind.TheVariants.Fdep}
use Rattle.fault_definitions.specs.{Tree.is_fdep_kind, Trigger.trigger_by}
use Rattle.tree_check.specs.Triggers.{AddsTriggers, HasTriggers, written_gate, dependents_by, dependents_of}
use Rattle.tree_check.specs.{declared.numbered.Numbered.Numbered, declared.numbered.NumberedGate.NumberedGate}

empty_at : (n i : ℕ) → get_or (replicate {A = List ℕ} n []) i [] ≡ []
empty_at zero i = refl
empty_at (suc n) zero = refl
empty_at (suc n) (suc i) = empty_at n i

-- before the first gate
pub HasTriggers-begun : {units : ℕ} {rows : List (List ℕ)} → rows ≡ replicate {A = List ℕ} (units + 1) []
    → HasTriggers units [] rows
HasTriggers-begun {units} is = record {
  all = ap length is ∙ length-replicate {A = List ℕ} (units + 1) [];
  triggers =
      λ unit other. ap (λ row. among row other) (ap (λ rs. get_or rs unit []) is ∙ empty_at (units + 1) unit);
}

one_option : {X : Type 0} (o : Option X) → cons_option o [] ≡ option_to_list o
one_option None = refl
one_option (Some x) = refl

pub HasTriggers-more : {units : ℕ} {gates : List (GateKind × List ℕ)} {gate : GateKind × List ℕ}
    {old new : List (List ℕ)}
    → HasTriggers units gates old → AddsTriggers gate old new → HasTriggers units (gates ++ gate ∷ []) new
HasTriggers-more {gates} {gate} h a = record {
  all = a.all ∙ h.all;
  triggers = λ unit other.
      let apart : filter_map (trigger_by unit) (gates ++ gate ∷ [])
      ≡ filter_map (trigger_by unit) gates ++ option_to_list (trigger_by unit gate) =
      filter_map-append (trigger_by unit) gates (gate ∷ [])
      ∙ ap (λ t. filter_map (trigger_by unit) gates ++ t) (one_option (trigger_by unit gate)) in
      a.triggers unit other
      ∙ (ap (λ b. b || among (option_to_list (trigger_by unit gate)) other) (h.triggers unit other)
      ∙ (sym (list_any-append (λ v. v == other) (filter_map (trigger_by unit) gates)
      (option_to_list (trigger_by unit gate)))
      ∙ ap (λ ts. among ts other) (sym apart)));
}

pub HasTriggers-next : {units : ℕ} (gates : List NumberedGate) (i : ℕ) {gate : NumberedGate} {old new : List (List ℕ)}
    → i < length gates → gate ≡ get_or gates i gate
    → HasTriggers units (map written_gate (take i gates)) old → AddsTriggers (written_gate gate) old new
    → HasTriggers units (map written_gate (take (i + 1) gates)) new
HasTriggers-next {units} gates i {gate} {new} l is h a =
    subst (λ gs. HasTriggers units gs new)
    (sym (map_more written_gate gates i gate l ∙ ap
    (λ (g : NumberedGate). map written_gate (take i gates) ++ written_gate g ∷ []) (sym is))) (HasTriggers-more h a)

-- the dependents of an `fdep` have their rows
pub dependents_low : (rows : ℕ) (gate : NumberedGate) {inputs : List Numbered} → gate.kind ≡ Fdep
    → inputs ≡ gate.inputs → 1 ≤ length inputs → All (λ dependent. dependent.number < rows) (dependents_of gate)
    → All (λ dependent. dependent.number < rows) (take (length inputs - 1) (drop 1 inputs))
dependents_low rows gate {inputs} kind same one low =
    let is_low : Numbered → Type 0 = λ dependent. dependent.number < rows in
    subst (All is_low) (sym (take_all (length inputs - 1) (drop 1 inputs) (omega (arith, length-drop 1 inputs))))
    (subst (λ is. All is_low (dependents_by is inputs)) (ap is_fdep_kind kind)
    (subst (λ xs. All is_low (dependents_by (is_fdep_kind gate.kind) xs)) (sym same) low))
