-- The text of a tree is that of its statements.
use Rattle.std.proofs.Common.{◌≡◌, ℕ, ◌+◌, ◌-◌, true, List, [], ◌∷◌, ◌++◌, get_or, map, refl, sym, ap}
use Rattle.std.proofs.Common.{◌∙◌, subst, inl, inr, arith}
use Rattle.std.specs.Prelude.{All, OnOk, Result, Ok, Err, codes}
use Rattle.std.specs.List.{flat_map}
use Rattle.std.proofs.{lemmas.Bool.cases_lt, lemmas.List.get_or_default, lemmas.List.Concat.flat_map-append}
use Rattle.std.proofs.{lemmas.List.Folds.flat_map-map}
use Rattle.fault_words.specs.Name.{is_name}
use Rattle.fault_definitions.specs.Tree.{FaultTree, IsGateOf, IsUnitOf, inputs_of, kind_of, name_of, unit_count}
use Rattle.fault_definitions.specs.WellFormed.{IsTree}
use Rattle.deck_reading.specs.TreeStatements.{HasNames, IsNamed, gate_numbers, gate_statement, node_name, statements_of}
use Rattle.deck_reading.specs.TreeStatements.{unit_numbers, unit_statement}
use Rattle.deck_reading.specs.Written.{input_text as written_input, quoted, statement_text, written}
use Rattle.text_pieces.specs.GateWords.{gate_word}
use Rattle.board_report.specs.PrintText.{IsNamedUnit, gate_line, print_text, top_line, unit_line}

flat_map_same : {A B : Type 0} (f g : A → List B) → ((x : A) → f x ≡ g x) → (xs : List A)
    → flat_map f xs ≡ flat_map g xs
flat_map_same f g same [] = refl
flat_map_same f g same (x ∷ xs) = ap (λ l. l ++ flat_map f xs) (same x) ∙ ap (λ l. g x ++ l) (flat_map_same f g same xs)

module _ (tree : FaultTree) where
  gate_is : (gate : ℕ) → gate_line tree gate ≡ statement_text (gate_statement tree gate)
  gate_is gate =
      ap (λ t. quoted (name_of tree gate) ++ (codes " " ++ (gate_word (kind_of tree gate) ++ (t ++ codes ";\n"))))
      (sym (flat_map-map written_input (node_name tree) (inputs_of tree gate)))

  pub text_is : print_text tree ≡ written (statements_of tree)
  text_is =
      let of_gates = map (gate_statement tree) (gate_numbers tree) in
      let of_units = map (unit_statement tree) (unit_numbers tree) in
      ap (λ l. top_line tree ++ (l ++ flat_map (unit_line tree) (unit_numbers tree)))
      (flat_map_same (gate_line tree) (λ g. statement_text (gate_statement tree g)) gate_is (gate_numbers tree)
      ∙ sym (flat_map-map statement_text (gate_statement tree) (gate_numbers tree)))
      ∙ ap (λ l. top_line tree ++ (flat_map statement_text of_gates ++ l))
      (sym (flat_map-map statement_text (unit_statement tree) (unit_numbers tree)))
      ∙ ap (λ l. top_line tree ++ l) (sym (flat_map-append statement_text of_gates of_units))

  -- units and gates are all nodes
  pub tree_named : IsTree tree → ((gate : ℕ) → IsGateOf tree gate → is_name (name_of tree gate) ≡ true)
      → ((unit : ℕ) → IsUnitOf tree unit → IsNamedUnit tree unit)
      → IsNamed tree
  tree_named kept gates units = record {
    names = λ k d short.
        let all = kept.names_all in
        let at : k + 1 - 1 ≡ k = omega arith in
        let named : is_name (name_of tree (k + 1)) ≡ true =
        elim (cases_lt (unit_count tree) (k + 1)) [
          | inl above ↦ gates (k + 1) (above, omega arith)
          | inr low ↦ (units (k + 1) (omega arith, low)).name
        ] in
        subst (λ n. is_name n ≡ true) (ap (λ n. get_or tree.names n []) at
        ∙ get_or_default tree.names k [] d short) named;
    attributes = λ k d short.
        let at : k + 1 - 1 ≡ k = omega arith in
        subst (λ l. All HasNames l) (ap (λ n. get_or tree.attributes n []) at
        ∙ get_or_default tree.attributes k [] d short)
        (units (k + 1) (omega arith, omega arith)).attributes;
  }

-- what holds where a result is Ok gives what follows from it
pub on_ok : {T E : Type 0} (result : Result T E) (P Q : Type 0) → (P → Q) → OnOk result P → OnOk result Q
on_ok (Ok value) P Q gives holds = gives holds
on_ok (Err error) P Q gives holds = holds
