-- The lines of a picture, and which of them belong to a node.
use Rattle.std.proofs.Common.{◌≡◌, ℕ, ◌+◌, ◌-◌, ◌<◌, ◌≤◌, ◌^◌, Bool, true, false, List, [], ◌∷◌, ◌++◌, cond, map}
use Rattle.std.proofs.Common.{length}
use Rattle.std.proofs.Common.{refl, sym, ap, ◌∙◌, arith, append_assoc, append-nil, inl, inr, length-append}
use Rattle.std.specs.Prelude.{◌==◌, ◌&&◌, not, codes, decimal, nat_eq, nat_le, if◌then◌else◌, All, filter}
use Rattle.std.specs.{Char.is_ascii_digit, Str.all_ascii_digits}
use Rattle.std.specs.List.{flat_map, list_all, starts_with, sum_by}
use Rattle.std.proofs.lemmas.Bool.{and_parts, and_from, cases_lt, eqb-true, ne_eqb, lt-ltb, le-ltb}
use Rattle.std.proofs.{lemmas.List.Concat.flat_map-append, lemmas.List.Folds.flat_map-map}
use Rattle.std.proofs.lemmas.List.Elements.{All-append, All-cons, All-get_or, All-head, All-nil, All-tail}
use Rattle.std.proofs.lemmas.List.Elements.{filter-append}
use Rattle.unit_sets.specs.UnitList.{among}
use Rattle.fault_words.specs.{declared.kind.GateKind.GateKind, declared.kind.GateKind.TheVariants.And, Name.is_name}
use Rattle.fault_words.specs.{Name.is_name_byte}
use Rattle.fault_definitions.specs.Tree.{FaultTree, IsGateOf, IsNodeOf, gate_count, inputs_of}
use Rattle.fault_definitions.specs.Tree.{is_fdep_kind, kind_of, name_of, node_count, unit_count}
use Rattle.fault_definitions.specs.WellFormed.{IsTree}
use Rattle.fault_definitions.proofs.RankLaws.{gate_sound}
use Rattle.crew_script.specs.Deck.{lines_of}
use Rattle.deck_reading.specs.TreeStatements.{IsNamed, gate_numbers, unit_numbers}
use Rattle.text_pieces.specs.GateWords.{gate_word}
use Rattle.tree_picture.specs.Labels.{label_byte, label_text}
use Rattle.tree_picture.specs.PictureText.{ended, gate_label, gate_line, gate_shape, gate_text, input_head, input_line}
use Rattle.tree_picture.specs.PictureText.{input_style, lines_with, node_head, node_line}
use Rattle.tree_picture.specs.PictureText.{picture_text, unit_line, unit_shape, unit_text}
use Rattle.tree_picture.proofs.HeadLemmas.{decimal_digits, starts_with-head, starts_with-unnumbered}
use Rattle.tree_picture.proofs.LineLemmas.{IsOneLine, PicksOne, all_of_numbers, filter_all, filter_none, length-headed}
use Rattle.tree_picture.proofs.LineLemmas.{length-singles, one_line-append, picks_none, picks_one, split_lines}
use Rattle.tree_picture.proofs.LineLemmas.{stays_on_line, texts_of_lines}
use Rattle.tree_picture.proofs.ShownLemmas.{small_node, word_stays}

-- ---- the lines

abbrev pub unit_lines : FaultTree → List ℕ → ℕ → List (List ℕ)
unit_lines tree marked unit = unit_line tree marked unit ∷ []

abbrev pub gate_lines : FaultTree → ℕ → List (List ℕ)
gate_lines tree gate = gate_line tree gate ∷ map (input_line tree gate) (inputs_of tree gate)

abbrev pub picture_lines : FaultTree → List ℕ → List (List ℕ)
picture_lines tree marked =
    codes "digraph {" ∷ codes "  ordering=out;" ∷ (flat_map (unit_lines tree marked) (unit_numbers tree)
    ++ (flat_map (gate_lines tree) (gate_numbers tree) ++ codes "}" ∷ []))

pub text_of_lines : (tree : FaultTree) (marked : List ℕ)
    → flat_map ended (picture_lines tree marked) ≡ picture_text tree marked
text_of_lines tree marked =
    let units = flat_map (unit_lines tree marked) (unit_numbers tree) in
    let gates = flat_map (gate_lines tree) (gate_numbers tree) in
    let of_units : flat_map ended units ≡ flat_map (unit_text tree marked) (unit_numbers tree) =
    texts_of_lines (unit_lines tree marked) (unit_text tree marked)
    (λ unit. append-nil (unit_text tree marked unit)) (unit_numbers tree) in
    let of_gates : flat_map ended gates ≡ flat_map (gate_text tree) (gate_numbers tree) =
    texts_of_lines (gate_lines tree) (gate_text tree)
    (λ gate. ap (λ l. ended (gate_line tree gate) ++ l) (flat_map-map ended (input_line tree gate) (inputs_of tree
    gate)))
    (gate_numbers tree) in
    ap (λ l. codes "digraph {\n  ordering=out;\n" ++ l) (
    flat_map-append ended units (gates ++ codes "}" ∷ [])
    ∙ ap (λ l. flat_map ended units ++ l) (flat_map-append ended gates (codes "}" ∷ []))
    ∙ sym (append_assoc (flat_map ended units) (flat_map ended gates) (codes "}\n"))
    ∙ ap (λ l. l ++ flat_map ended gates ++ codes "}\n") of_units
    ∙ ap (λ l. flat_map (unit_text tree marked) (unit_numbers tree) ++ l ++ codes "}\n") of_gates
    )

-- ---- no line has a line feed in it

digit_stays : (byte : ℕ) → is_ascii_digit byte ≡ true → stays_on_line byte ≡ true
digit_stays byte digit = grind arith

digits_stay : (digits : List ℕ) → all_ascii_digits digits ≡ true → IsOneLine digits
digits_stay [] each = refl
digits_stay (digit ∷ digits) each =
    let parts = and_parts (is_ascii_digit digit) (all_ascii_digits digits) each in
    and_from (stays_on_line digit) (list_all stays_on_line digits) (digit_stays digit parts.0)
    (digits_stay digits parts.1)

label_byte_stays : (byte : ℕ) (quote backslash ampersand feed : Bool) → (byte == 34) ≡ quote → (byte == 92) ≡ backslash
    → (byte == 38) ≡ ampersand → (byte == 10) ≡ feed → is_name_byte byte ≡ true
    → IsOneLine (if quote then codes "\\\"" else (if backslash then codes "\\\\"
    else (if ampersand then codes "&amp;" else byte ∷ [])))
label_byte_stays byte true backslash ampersand feed quote slash amp line is = refl
label_byte_stays byte false true ampersand feed quote slash amp line is = refl
label_byte_stays byte false false true feed quote slash amp line is = refl
label_byte_stays byte false false false true quote slash amp line is =
    absurd (let same = ap is_name_byte (eqb-true byte 10 line) in cc)
label_byte_stays byte false false false false quote slash amp line is = ap (λ b. not b && true) line

label_stays : (text : List ℕ) → list_all is_name_byte text ≡ true → IsOneLine (label_text text)
label_stays [] each = refl
label_stays (byte ∷ text) each =
    let parts = and_parts (is_name_byte byte) (list_all is_name_byte text) each in
    one_line-append (label_byte byte) (label_text text)
    (label_byte_stays byte (byte == 34) (byte == 92) (byte == 38) (byte == 10) refl refl refl refl parts.0)
    (label_stays text parts.1)

unit_shape_stays : (marked : List ℕ) (unit : ℕ) → IsOneLine (unit_shape marked unit)
unit_shape_stays marked unit =
    elim (among marked unit) as (λ b. IsOneLine (if b then codes "circle, style=filled" else codes "circle"))
    [ true ↦ refl | false ↦ refl ]

gate_shape_stays : (kind : GateKind) → IsOneLine (gate_shape kind)
gate_shape_stays And = refl
gate_shape_stays _ = refl

input_style_stays : (kind : GateKind) → IsOneLine (input_style kind)
input_style_stays kind =
    elim (is_fdep_kind kind) as (λ b. IsOneLine (if b then codes " [style=dashed]" else codes ""))
    [ true ↦ refl | false ↦ refl ]

module _ {tree : FaultTree} (kept : IsTree tree) (named : IsNamed tree) where
  number_stays : (node : ℕ) → IsNodeOf tree node → IsOneLine (decimal node)
  number_stays node is = digits_stay (decimal node) (decimal_digits node (small_node node kept is))

  name_stays : (node : ℕ) → IsNodeOf tree node → IsOneLine (label_text (name_of tree node))
  name_stays node is =
      let good : is_name (name_of tree node) ≡ true =
      All-get_or (λ name. is_name name ≡ true) tree.names (node - 1) []
      (omega (arith, kept.names_all, is.0, is.1)) named.names in
      let name = name_of tree node in
      label_stays name
      (and_parts (nat_le 1 (length name) && nat_le (length name) 255) (list_all is_name_byte name) good).1

  head_stays : (node : ℕ) → IsNodeOf tree node → IsOneLine (node_head node)
  head_stays node is = one_line-append (decimal node) (codes " [") (number_stays node is) refl

  unit_stays : (marked : List ℕ) (unit : ℕ) → IsNodeOf tree unit → IsOneLine (unit_line tree marked unit)
  unit_stays marked unit is =
      let shape = unit_shape marked unit ++ codes "];" in
      let label = label_text (name_of tree unit) in
      one_line-append (node_head unit) (codes "label=\"" ++ (label ++ (codes "\", shape=" ++ shape)))
      (head_stays unit is)
      (one_line-append label (codes "\", shape=" ++ shape) (name_stays unit is)
      (one_line-append (unit_shape marked unit) (codes "];") (unit_shape_stays marked unit) refl))

  gate_stays : (gate : ℕ) → IsGateOf tree gate → IsOneLine (gate_line tree gate)
  gate_stays gate is =
      let node : IsNodeOf tree gate = (omega (arith, is.0), is.1) in
      let shape = gate_shape (kind_of tree gate) ++ codes "];" in
      let word = gate_word (kind_of tree gate) in
      one_line-append (node_head gate) (codes "label=\"" ++ (gate_label tree gate ++ (codes "\", shape=" ++ shape)))
      (head_stays gate node)
      (one_line-append (gate_label tree gate) (codes "\", shape=" ++ shape)
      (one_line-append (label_text (name_of tree gate)) (codes "\\n" ++ word) (name_stays gate node)
      (word_stays gate kept is))
      (one_line-append (gate_shape (kind_of tree gate)) (codes "];") (gate_shape_stays (kind_of tree gate)) refl))

  input_stays : (gate input : ℕ) → IsGateOf tree gate → IsNodeOf tree input → IsOneLine (input_line tree gate input)
  input_stays gate input is node =
      let style = input_style (kind_of tree gate) in
      one_line-append (input_head gate) (decimal input ++ (style ++ codes ";"))
      (one_line-append (decimal gate) (codes " -> ") (number_stays gate (omega (arith, is.0), is.1)) refl)
      (one_line-append (decimal input) (style ++ codes ";") (number_stays input node)
      (one_line-append style (codes ";") (input_style_stays (kind_of tree gate)) refl))

  inputs_stay : (gate : ℕ) (inputs : List ℕ) → IsGateOf tree gate → All (IsNodeOf tree) inputs
      → All IsOneLine (map (input_line tree gate) inputs)
  inputs_stay gate [] is all = All-nil IsOneLine
  inputs_stay gate (input ∷ inputs) is all =
      All-cons IsOneLine (input_line tree gate input) (map (input_line tree gate) inputs)
      (input_stays gate input is (All-head (IsNodeOf tree) input inputs all))
      (inputs_stay gate inputs is (All-tail (IsNodeOf tree) input inputs all))

  pub all_one_line : (marked : List ℕ) → All IsOneLine (picture_lines tree marked)
  all_one_line marked =
      let units = flat_map (unit_lines tree marked) (unit_numbers tree) in
      let gates = flat_map (gate_lines tree) (gate_numbers tree) in
      let behind : All IsOneLine (codes "}" ∷ []) = All-cons IsOneLine (codes "}") [] refl (All-nil IsOneLine) in
      let of_units : All IsOneLine units =
      all_of_numbers (unit_lines tree marked) 1 (unit_count tree) (λ unit low high.
      All-cons IsOneLine (unit_line tree marked unit) [] (unit_stays marked unit (low, omega arith))
      (All-nil IsOneLine)) in
      let of_gates : All IsOneLine gates =
      all_of_numbers (gate_lines tree) (unit_count tree + 1) (gate_count tree) (λ gate low high.
      let is : IsGateOf tree gate = (omega arith, omega arith) in
      All-cons IsOneLine (gate_line tree gate) (map (input_line tree gate) (inputs_of tree gate)) (gate_stays gate is)
      (inputs_stay gate (inputs_of tree gate) is (gate_sound kept gate is).nodes)) in
      All-cons IsOneLine (codes "digraph {")
      (codes "  ordering=out;" ∷ (units ++ (gates ++ codes "}" ∷ []))) refl
      (All-cons IsOneLine (codes "  ordering=out;") (units ++ (gates ++ codes "}" ∷ [])) refl
      (All-append IsOneLine units (gates ++ codes "}" ∷ []) of_units
      (All-append IsOneLine gates (codes "}" ∷ []) of_gates behind)))

  -- the lines of a picture's text, and nothing behind the last of them
  pub lines_of-picture : (marked : List ℕ) → lines_of (picture_text tree marked)
      ≡ picture_lines tree marked ++ [] ∷ []
  lines_of-picture marked =
      ap lines_of (sym (text_of_lines tree marked)) ∙ split_lines (picture_lines tree marked) (all_one_line marked)

-- ---- which lines begin with a head

and_true : (b : Bool) → (b && true) ≡ b
and_true true = refl
and_true false = refl

and_false : (b : Bool) → (b && false) ≡ false
and_false true = refl
and_false false = refl

-- whether a line begins with a head
abbrev has_head : List ℕ → List ℕ → Bool
has_head head line = starts_with nat_eq line head

module _ (n m : ℕ) (rest : List ℕ) (small : n < 2 ^ 64) (few : m < 2 ^ 64) where
  node_line_of_node : has_head (node_head n) (node_head m ++ rest) ≡ (n == m)
  node_line_of_node =
      ap (λ l. has_head (node_head n) (codes "  " ++ l)) (append_assoc (decimal m) (codes " [") rest)
      ∙ starts_with-head n m 91 91 [] rest small few ∙ and_true (n == m)

  node_line_of_inputs : has_head (input_head n) (node_head m ++ rest) ≡ false
  node_line_of_inputs =
      ap (λ l. has_head (input_head n) (codes "  " ++ l)) (append_assoc (decimal m) (codes " [") rest)
      ∙ starts_with-head n m 45 91 (62 ∷ 32 ∷ []) rest small few ∙ and_false (n == m)

  input_line_of_node : has_head (node_head n) (input_head m ++ rest) ≡ false
  input_line_of_node =
      ap (λ l. has_head (node_head n) (codes "  " ++ l)) (append_assoc (decimal m) (codes " -> ") rest)
      ∙ starts_with-head n m 91 45 [] (62 ∷ 32 ∷ rest) small few ∙ and_false (n == m)

  input_line_of_inputs : has_head (input_head n) (input_head m ++ rest) ≡ (n == m)
  input_line_of_inputs =
      ap (λ l. has_head (input_head n) (codes "  " ++ l)) (append_assoc (decimal m) (codes " -> ") rest)
      ∙ starts_with-head n m 45 45 (62 ∷ 32 ∷ []) (62 ∷ 32 ∷ rest) small few ∙ and_true (n == m)

-- the lines of a picture that pass a test which its first two lines, its last one and an empty one don't pass
passing : (test : List ℕ → Bool) (tree : FaultTree) (marked : List ℕ) {units gates : List (List ℕ)}
    → lines_of (picture_text tree marked) ≡ picture_lines tree marked ++ [] ∷ []
    → test (codes "digraph {") ≡ false → test (codes "  ordering=out;") ≡ false → test (codes "}") ≡ false
    → test [] ≡ false
    → filter test (flat_map (unit_lines tree marked) (unit_numbers tree)) ≡ units
    → filter test (flat_map (gate_lines tree) (gate_numbers tree)) ≡ gates
    → filter test (lines_of (picture_text tree marked)) ≡ units ++ gates
passing test tree marked {units} {gates} lines first second last none of_units of_gates =
    let all_units = flat_map (unit_lines tree marked) (unit_numbers tree) in
    let all_gates = flat_map (gate_lines tree) (gate_numbers tree) in
    let behind : filter test (codes "}" ∷ []) ≡ [] = ap (λ b. cond b (codes "}" ∷ []) []) last in
    let empty : filter test ([] ∷ []) ≡ [] = ap (λ b. cond b ([] ∷ []) []) none in
    let body = all_units ++ (all_gates ++ codes "}" ∷ []) in
    ap (filter test) lines
    ∙ filter-append test (picture_lines tree marked) ([] ∷ [])
    ∙ ap (λ l. filter test (picture_lines tree marked) ++ l) empty
    ∙ append-nil (filter test (picture_lines tree marked))
    ∙ ap (λ b. cond b (codes "digraph {" ∷ filter test (codes "  ordering=out;" ∷ body))
    (filter test (codes "  ordering=out;" ∷ body))) first
    ∙ ap (λ b. cond b (codes "  ordering=out;" ∷ filter test body) (filter test body)) second
    ∙ filter-append test all_units (all_gates ++ codes "}" ∷ [])
    ∙ ap (λ l. l ++ filter test (all_gates ++ codes "}" ∷ [])) of_units
    ∙ ap (λ l. units ++ l) (filter-append test all_gates (codes "}" ∷ [])
    ∙ ap (λ l. l ++ filter test (codes "}" ∷ [])) of_gates
    ∙ ap (λ l. gates ++ l) behind ∙ append-nil gates)

-- a line that passes where the numbers are equal
picked : (test : List ℕ → Bool) (line : ℕ → List ℕ) (number n : ℕ) (same : Bool) → (number == n) ≡ same
    → test (line n) ≡ (number == n)
    → filter test (line n ∷ []) ≡ (if same then line number ∷ [] else [])
picked test line number n true same is =
    ap (λ b. cond b (line n ∷ []) []) (is ∙ same) ∙ ap (λ k. line k ∷ []) (sym (eqb-true number n same))
picked test line number n false same is = ap (λ b. cond b (line n ∷ []) []) (is ∙ same)

module _ (tree : FaultTree) (marked : List ℕ) (kept : IsTree tree) (named : IsNamed tree) where
  small_gate : (gate : ℕ) → unit_count tree + 1 ≤ gate → gate < unit_count tree + 1 + gate_count tree → gate < 2 ^ 64
  small_gate gate low high = small_node gate kept (omega arith, omega arith)

  small_unit : (unit : ℕ) → 1 ≤ unit → unit < 1 + unit_count tree → unit < 2 ^ 64
  small_unit unit low high = small_node unit kept (low, omega arith)

  module _ (node : ℕ) (is : IsNodeOf tree node) where
    small : node < 2 ^ 64
    small = small_node node kept is

    unit_picked : PicksOne (has_head (node_head node)) (unit_lines tree marked) (unit_line tree marked node ∷ []) node
        1 (unit_count tree)
    unit_picked unit low high =
        picked (has_head (node_head node)) (unit_line tree marked) node unit (node == unit) refl
        (node_line_of_node node unit
        (codes "label=\"" ++ (label_text (name_of tree unit) ++ (codes "\", shape="
        ++ (unit_shape marked unit ++ codes "];")))) small (small_unit unit low high))

    gate_picked : PicksOne (has_head (node_head node)) (gate_lines tree) (gate_line tree node ∷ []) node
        (unit_count tree + 1) (gate_count tree)
    gate_picked gate low high =
        let test = has_head (node_head node) in
        let no_inputs : filter test (map (input_line tree gate) (inputs_of tree gate)) ≡ [] =
        filter_none test (input_line tree gate) (inputs_of tree gate) (λ input.
        input_line_of_node node gate (decimal input ++ (input_style (kind_of tree gate) ++ codes ";")) small
        (small_gate gate low high)) in
        ap (λ l. cond (test (gate_line tree gate)) (gate_line tree gate ∷ l) l) no_inputs
        ∙ picked test (gate_line tree) node gate (node == gate) refl
        (node_line_of_node node gate
        (codes "label=\"" ++ (gate_label tree gate ++ (codes "\", shape="
        ++ (gate_shape (kind_of tree gate) ++ codes "];")))) small (small_gate gate low high))

    pub node_once : lines_with (node_head node) (picture_text tree marked) ≡ node_line tree marked node ∷ []
    node_once =
        let test = has_head (node_head node) in
        let unnumbered : test (codes "  ordering=out;") ≡ false =
        starts_with-unnumbered node 111 (91 ∷ []) (codes "rdering=out;") small refl in
        elim (cases_lt (unit_count tree) node) [
          | inl above ↦
              passing test tree marked (lines_of-picture kept named marked) refl unnumbered refl refl
              (picks_none test (unit_lines tree marked) (unit_line tree marked node ∷ []) node 1 (unit_count tree)
              unit_picked (inr (omega arith)))
              (picks_one test (gate_lines tree) (gate_line tree node ∷ []) node (unit_count tree + 1)
              (gate_count tree) gate_picked (omega arith) (omega (arith, is.1)))
              ∙ ap (λ b. (if b then gate_line tree node else unit_line tree marked node) ∷ [])
              (sym (lt-ltb (unit_count tree) node above))
          | inr within ↦
              passing test tree marked (lines_of-picture kept named marked) refl unnumbered refl refl
              (picks_one test (unit_lines tree marked) (unit_line tree marked node ∷ []) node 1 (unit_count tree)
              unit_picked is.0 (omega arith))
              (picks_none test (gate_lines tree) (gate_line tree node ∷ []) node (unit_count tree + 1)
              (gate_count tree) gate_picked (inl (omega arith)))
              ∙ ap (λ b. (if b then gate_line tree node else unit_line tree marked node) ∷ [])
              (sym (le-ltb (unit_count tree) node within))
        ]

  module _ (gate : ℕ) (is : IsGateOf tree gate) where
    small_own : gate < 2 ^ 64
    small_own = small_node gate kept (omega (arith, is.0), is.1)

    abbrev inputs_lines : List (List ℕ)
    inputs_lines = map (input_line tree gate) (inputs_of tree gate)

    no_unit : PicksOne (has_head (input_head gate)) (unit_lines tree marked) inputs_lines gate 1 (unit_count tree)
    no_unit unit low high =
        let test = has_head (input_head gate) in
        let apart : (gate == unit) ≡ false = ne_eqb gate unit (λ same. absurd (omega (arith, is.0))) in
        ap (λ b. cond b (unit_line tree marked unit ∷ []) [])
        (node_line_of_inputs gate unit
        (codes "label=\"" ++ (label_text (name_of tree unit) ++ (codes "\", shape="
        ++ (unit_shape marked unit ++ codes "];")))) small_own (small_unit unit low high))
        ∙ ap (λ b. if b then inputs_lines else []) (sym apart)

    inputs_picked_if : (other : ℕ) (same : Bool) → other < 2 ^ 64 → (gate == other) ≡ same
        → filter (has_head (input_head gate)) (map (input_line tree other) (inputs_of tree other))
        ≡ (if same then inputs_lines else [])
    inputs_picked_if other true few same =
        filter_all (has_head (input_head gate)) (input_line tree other) (inputs_of tree other) (λ input.
        input_line_of_inputs gate other (decimal input ++ (input_style (kind_of tree other) ++ codes ";")) small_own few
        ∙ same)
        ∙ ap (λ k. map (input_line tree k) (inputs_of tree k)) (sym (eqb-true gate other same))
    inputs_picked_if other false few same =
        filter_none (has_head (input_head gate)) (input_line tree other) (inputs_of tree other) (λ input.
        input_line_of_inputs gate other (decimal input ++ (input_style (kind_of tree other) ++ codes ";")) small_own few
        ∙ same)

    inputs_picked : PicksOne (has_head (input_head gate)) (gate_lines tree) inputs_lines gate (unit_count tree + 1)
        (gate_count tree)
    inputs_picked other low high =
        let test = has_head (input_head gate) in
        let rest = map (input_line tree other) (inputs_of tree other) in
        ap (λ b. cond b (gate_line tree other ∷ filter test rest) (filter test rest))
        (node_line_of_inputs gate other
        (codes "label=\"" ++ (gate_label tree other ++ (codes "\", shape="
        ++ (gate_shape (kind_of tree other) ++ codes "];")))) small_own (small_gate other low high))
        ∙ inputs_picked_if other (gate == other) (small_gate other low high) refl

    pub inputs_once : lines_with (input_head gate) (picture_text tree marked) ≡ inputs_lines
    inputs_once =
        let test = has_head (input_head gate) in
        let unnumbered : test (codes "  ordering=out;") ≡ false =
        starts_with-unnumbered gate 111 (45 ∷ 62 ∷ 32 ∷ []) (codes "rdering=out;") small_own refl in
        passing test tree marked (lines_of-picture kept named marked) refl unnumbered refl refl
        (picks_none test (unit_lines tree marked) inputs_lines gate 1 (unit_count tree) no_unit
        (inr (omega (arith, is.0))))
        (picks_one test (gate_lines tree) inputs_lines gate (unit_count tree + 1) (gate_count tree) inputs_picked
        (omega (arith, is.0)) (omega (arith, is.1)))

  -- ---- how many lines

  pub all_counted : length (lines_of (picture_text tree marked))
      ≡ node_count tree + sum_by (λ gate. length (inputs_of tree gate)) (gate_numbers tree) + 4
  all_counted =
      let units = flat_map (unit_lines tree marked) (unit_numbers tree) in
      let gates = flat_map (gate_lines tree) (gate_numbers tree) in
      let of_units : length units ≡ unit_count tree =
      length-singles (unit_line tree marked) 1 (unit_count tree) in
      let of_gates : length gates
      ≡ gate_count tree + sum_by (λ gate. length (inputs_of tree gate)) (gate_numbers tree) =
      length-headed (gate_line tree) (input_line tree) (inputs_of tree) (unit_count tree + 1) (gate_count tree) in
      let lines : length (lines_of (picture_text tree marked)) ≡ length (picture_lines tree marked ++ [] ∷ []) =
      ap length (lines_of-picture kept named marked) in
      omega (
        arith,
        lines,
        of_units,
        of_gates,
        length-append (picture_lines tree marked) ([] ∷ []),
        length-append units (gates ++ codes "}" ∷ []),
        length-append gates (codes "}" ∷ []),
      )
