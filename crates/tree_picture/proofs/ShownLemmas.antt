-- What the labels of a picture show.
use Rattle.std.proofs.Common.{◌≡◌, ℕ, ◌<◌, ◌^◌, Bool, true, false, List, [], ◌∷◌, ◌++◌, Some, refl}
use Rattle.std.proofs.Common.{ap, ◌∙◌, arith, append_assoc, append-nil}
use Rattle.std.specs.Prelude.{◌==◌, ◌&&◌, not, codes, decimal}
use Rattle.std.specs.{Char.is_ascii_digit, List.list_all, Str.all_ascii_digits}
use Rattle.std.proofs.{lemmas.List.Folds.list_all-append, lemmas.Bool.and_from, lemmas.Bool.and_parts}
use Rattle.fault_words.specs.{declared.kind.GateKind.GateKind, declared.kind.GateKind.TheVariants.Votes}
use Rattle.fault_definitions.specs.Tree.{FaultTree, IsGateOf, IsNodeOf, inputs_of, kind_of, name_of}
use Rattle.fault_definitions.specs.WellFormed.{IsSoundKind, IsTree}
use Rattle.fault_definitions.proofs.RankLaws.{gate_sound}
use Rattle.text_pieces.specs.GateWords.{gate_word}
use Rattle.tree_picture.specs.Labels.{InText, behind_quote, label_text, shown_before, shown_from, shown_in}
use Rattle.tree_picture.specs.PictureText.{gate_label, gate_line, gate_shape, node_head, unit_line, unit_shape}
use Rattle.tree_picture.proofs.{HeadLemmas.decimal_digits, LineLemmas.IsOneLine, LineLemmas.stays_on_line}
use Rattle.tree_picture.proofs.LabelLemmas.{behind_digits, in_front_of_some, is_plain, label_text_shown, plain_shown}
use Rattle.tree_picture.proofs.LabelLemmas.{shown_in_front}

pub small_node : {tree : FaultTree} (node : ℕ) → IsTree tree → IsNodeOf tree node → node < 2 ^ 64
small_node node kept is = let units = kept.few_units in let gates = kept.few_gates in omega arith

-- ---- the label of a line stands behind its head

behind_head : (n : ℕ) (rest : List ℕ) → n < 2 ^ 64
    → behind_quote (node_head n ++ (codes "label=\"" ++ rest)) ≡ rest
behind_head n rest small =
    ap (λ l. behind_quote l) (append_assoc (decimal n) (codes " [") (codes "label=\"" ++ rest))
    ∙ behind_digits (decimal n) (codes " [" ++ (codes "label=\"" ++ rest)) (decimal_digits n small)

-- ---- units

pub unit_shown : (tree : FaultTree) (marked : List ℕ) (unit : ℕ) → unit < 2 ^ 64
    → shown_in (unit_line tree marked unit) ≡ Some (name_of tree unit)
unit_shown tree marked unit small =
    let behind = codes "\", shape=" ++ (unit_shape marked unit ++ codes "];") in
    ap (shown_from InText) (behind_head unit (label_text (name_of tree unit) ++ behind) small)
    ∙ label_text_shown (name_of tree unit) behind
    ∙ in_front_of_some (name_of tree unit) []
    ∙ ap (λ l. Some l) (append-nil (name_of tree unit))

-- ---- gates

-- a byte that stands for itself in a label, and in a line
abbrev is_simple : ℕ → Bool
is_simple byte = is_plain byte && not (byte == 10)

digit_apart : (digit other : ℕ) → is_ascii_digit digit ≡ true → is_ascii_digit other ≡ false
    → not (digit == other) ≡ true
digit_apart digit other is no_digit = grind arith

digit_simple : (digit : ℕ) → is_ascii_digit digit ≡ true → is_simple digit ≡ true
digit_simple digit is =
    and_from (is_plain digit) (not (digit == 10))
    (and_from (not (digit == 34)) (not (digit == 92) && not (digit == 38)) (digit_apart digit 34 is refl)
    (and_from (not (digit == 92)) (not (digit == 38)) (digit_apart digit 92 is refl) (digit_apart digit 38 is refl)))
    (digit_apart digit 10 is refl)

digits_simple : (digits : List ℕ) → all_ascii_digits digits ≡ true → list_all is_simple digits ≡ true
digits_simple [] each = refl
digits_simple (digit ∷ digits) each =
    let parts = and_parts (is_ascii_digit digit) (all_ascii_digits digits) each in
    and_from (is_simple digit) (list_all is_simple digits) (digit_simple digit parts.0) (digits_simple digits parts.1)

simple-append : (front back : List ℕ) → list_all is_simple front ≡ true → list_all is_simple back ≡ true
    → list_all is_simple (front ++ back) ≡ true
simple-append front back first second =
    list_all-append is_simple front back ∙ and_from (list_all is_simple front) (list_all is_simple back) first second

kind_simple : (tree : FaultTree) (kind : GateKind) (inputs : List ℕ) → IsSoundKind tree kind inputs
    → list_all is_simple (gate_word kind) ≡ true
kind_simple tree (Votes least of) inputs sound =
    let enough = sound.enough in
    let short = sound.short in
    simple-append (decimal least) (codes "of" ++ decimal of)
    (digits_simple (decimal least) (decimal_digits least (omega arith)))
    (simple-append (codes "of") (decimal of) refl (digits_simple (decimal of) (decimal_digits of (omega arith))))
kind_simple tree _ inputs sound = refl

all_weaker : (test other : ℕ → Bool) → ((byte : ℕ) → test byte ≡ true → other byte ≡ true) → (text : List ℕ)
    → list_all test text ≡ true → list_all other text ≡ true
all_weaker test other weaker [] each = refl
all_weaker test other weaker (byte ∷ text) each =
    let parts = and_parts (test byte) (list_all test text) each in
    and_from (other byte) (list_all other text) (weaker byte parts.0) (all_weaker test other weaker text parts.1)

word_simple : {tree : FaultTree} (gate : ℕ) → IsTree tree → IsGateOf tree gate
    → list_all is_simple (gate_word (kind_of tree gate)) ≡ true
word_simple {tree} gate kept is =
    kind_simple tree (kind_of tree gate) (inputs_of tree gate) (gate_sound kept gate is).kind

word_plain : {tree : FaultTree} (gate : ℕ) → IsTree tree → IsGateOf tree gate
    → list_all is_plain (gate_word (kind_of tree gate)) ≡ true
word_plain {tree} gate kept is =
    all_weaker is_simple is_plain (λ byte simple. (and_parts (is_plain byte) (not (byte == 10)) simple).0)
    (gate_word (kind_of tree gate)) (word_simple gate kept is)

pub word_stays : {tree : FaultTree} (gate : ℕ) → IsTree tree → IsGateOf tree gate
    → IsOneLine (gate_word (kind_of tree gate))
word_stays {tree} gate kept is =
    all_weaker is_simple stays_on_line (λ byte simple. (and_parts (is_plain byte) (not (byte == 10)) simple).1)
    (gate_word (kind_of tree gate)) (word_simple gate kept is)

pub gate_shown : {tree : FaultTree} (gate : ℕ) → IsTree tree → IsGateOf tree gate
    → shown_in (gate_line tree gate) ≡ Some (name_of tree gate ++ (codes "\n" ++ gate_word (kind_of tree gate)))
gate_shown {tree} gate kept is =
    let name = name_of tree gate in
    let word = gate_word (kind_of tree gate) in
    let behind = codes "\", shape=" ++ (gate_shape (kind_of tree gate) ++ codes "];") in
    let below : shown_from InText (word ++ behind) ≡ Some word =
    plain_shown word behind (word_plain gate kept is) ∙ in_front_of_some word []
    ∙ ap (λ l. Some l) (append-nil word) in
    ap (shown_from InText) (behind_head gate (gate_label tree gate ++ behind)
    (small_node gate kept (omega arith, is.1)))
    ∙ ap (shown_from InText) (append_assoc (label_text name) (codes "\\n" ++ word) behind)
    ∙ label_text_shown name ((codes "\\n" ++ word) ++ behind)
    ∙ ap (λ shown. shown_in_front name (shown_before 10 shown)) below
    ∙ in_front_of_some name (10 ∷ word)
