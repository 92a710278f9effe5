-- What leads to what in a text by numbers.
use Rattle.std.proofs.Common.{◌≡◌, ℕ, ◌+◌, ◌<◌, List, [], ◌∷◌, ◌++◌, length, map, take, get_or, sym, ap, ◌∙◌}
use Rattle.std.proofs.Common.{append_assoc, refl, Bool, true, false}
use Rattle.std.specs.Prelude.{filter, not, ◌&&◌, if◌then◌else◌}
use Rattle.std.proofs.lemmas.List.{append-nil, map-append, map_more, take_more}
use Rattle.std.proofs.lemmas.List.Elements.{filter-append}
use Rattle.fault_words.specs.declared.kind.GateKind.{GateKind}
use Rattle.tree_check.specs.{Numbered.kept_by, Numbered.kept_inputs, TreeOf.numbers}
use Rattle.tree_check.specs.{declared.numbered.Numbered.Numbered, declared.numbered.NumberedGate.NumberedGate}

-- a gate as its kind and the numbers of the inputs that are left after dropping
abbrev pub kept_gate : ℕ → List GateKind → NumberedGate → GateKind × List ℕ
kept_gate units all_kinds gate = (gate.kind, numbers (kept_inputs units all_kinds gate))

abbrev pub kept_gates : ℕ → List GateKind → List NumberedGate → List (GateKind × List ℕ)
kept_gates units all_kinds gates = map (kept_gate units all_kinds) gates

-- rows behind others, with one more
pub row_more : {X : Type 0} (f : X → List ℕ) (before : List (List ℕ)) (xs : List X) (i : ℕ) {x : X} {row : List ℕ}
    {old new : List (List ℕ)} → i < length xs → x ≡ get_or xs i x → row ≡ f x → old ≡ before ++ map f (take i xs)
    → new ≡ old ++ row ∷ [] → new ≡ before ++ map f (take (i + 1) xs)
row_more f before xs i {x} {row} short is row_is old_is new_is =
    new_is ∙ ap (λ rows. rows ++ row ∷ []) old_is
    ∙ ap (λ r. (before ++ map f (take i xs)) ++ r ∷ []) (row_is ∙ ap f is)
    ∙ append_assoc before (map f (take i xs)) (f (get_or xs i x) ∷ [])
    ∙ ap (λ rows. before ++ rows) (sym (map_more f xs i x short))

-- the inputs that are left, by one test of each
pub kept_as : (drops : Bool) (is_fdep : ℕ → Bool) (inputs : List Numbered)
    → filter (λ input. not (drops && is_fdep input.number)) inputs ≡ kept_by drops is_fdep inputs
kept_as true is_fdep inputs = refl
kept_as false is_fdep [] = refl
kept_as false is_fdep (input ∷ inputs) = ap (λ rest. input ∷ rest) (kept_as false is_fdep inputs)

-- one input more, which is left or not
module _ (drops : Bool) (is_fdep : ℕ → Bool) {inputs items : List Numbered} (i : ℕ) (d : Numbered) {old : List ℕ}
    (same : items ≡ inputs) (short : i < length items)
    (so_far : old ≡ numbers (filter (λ input. not (drops && is_fdep input.number)) (take i inputs))) where
  abbrev keeps : Numbered → Bool
  keeps input = not (drops && is_fdep input.number)

  one_more : numbers (filter keeps (take (i + 1) inputs))
      ≡ old ++ numbers (if keeps (get_or items i d) then get_or items i d ∷ [] else [])
  one_more =
      ap (λ xs. numbers (filter keeps (take (i + 1) xs))) (sym same)
      ∙ ap (λ xs. numbers (filter keeps xs)) (take_more items i d short)
      ∙ ap numbers (filter-append keeps (take i items) (get_or items i d ∷ []))
      ∙ map-append (λ (input : Numbered). input.number) (filter keeps (take i items))
      (if keeps (get_or items i d) then get_or items i d ∷ [] else [])
      ∙ ap (λ ns. ns ++ numbers (if keeps (get_or items i d) then get_or items i d ∷ [] else []))
      (ap (λ xs. numbers (filter keeps (take i xs))) same ∙ sym so_far)

  pub kept_one : (drops && is_fdep (get_or items i d).number) ≡ false → {new : List ℕ}
      → new ≡ old ++ (get_or items i d).number ∷ [] → new ≡ numbers (filter keeps (take (i + 1) inputs))
  kept_one kept is =
      is ∙ ap (λ b. old ++ numbers (if not b then get_or items i d ∷ [] else [])) (sym kept) ∙ sym one_more

  pub dropped_one : (drops && is_fdep (get_or items i d).number) ≡ true → {new : List ℕ} → new ≡ old
      → new ≡ numbers (filter keeps (take (i + 1) inputs))
  dropped_one dropped is =
      is ∙ sym (append-nil old)
      ∙ ap (λ b. old ++ numbers (if not b then get_or items i d ∷ [] else [])) (sym dropped) ∙ sym one_more
