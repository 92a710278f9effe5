-- The names of a tree that a deck stands for have the form of names.
use Rattle.std.proofs.Common.{◌≡◌, ℕ, Bool, true, List, [], ◌∷◌, ◌++◌, map, Ok, refl, sym, subst}
use Rattle.std.specs.Prelude.{◌&&◌, ◌||◌, All}
use Rattle.std.specs.List.{flat_map}
use Rattle.std.proofs.lemmas.List.Elements.{All-append, All-cons, All-head, All-map, All-nil, All-tail, All-weaker}
use Rattle.fault_words.specs.{declared.attribute.Attribute.Attribute, Name.is_bare_name, Name.is_name as is_name_text}
use Rattle.fault_definitions.specs.Tree.{FaultTree}
use Rattle.galileo_lexer.specs.{declared.token.TokenKind.TokenKind, Lexed.tokens_of, Spelling.IsSpelled}
use Rattle.galileo_lexer.specs.declared.token.TokenKind.TheVariants.{Word, Quoted, Equals, Semicolon}
use Rattle.galileo_tree.specs.{declared.raw.RawAttribute.RawAttribute, declared.raw.RawBasic.RawBasic}
use Rattle.galileo_tree.specs.{declared.raw.RawGate.RawGate, declared.raw.Statement.Statement, Parsed.lexemes_of}
use Rattle.galileo_tree.specs.{Parsed.parsed_text}
use Rattle.galileo_tree.specs.declared.raw.Statement.TheVariants.{Top, Gate, Basic}
use Rattle.galileo_tree.specs.Grammar.{AreAttributes, IsReading, Spells, SpellsAll, Written, attribute_in, lexemes_in}
use Rattle.galileo_tree.specs.Lexeme.{HasNameText, Lexeme, is_bare, is_name, is_quoted_kind, is_value, is_word_kind}
use Rattle.galileo_tree.specs.Lexeme.{lexeme_of}
use Rattle.galileo_tree.proofs.NameTexts.{spelled_name}
use Rattle.tree_check.specs.Said.{basic_names, basics, gate_names}
use Rattle.tree_check.specs.TreeOf.{tree_of}
use Rattle.deck_reading.specs.{Deck.StandsFor, Deck.tree_part, TreeStatements.HasNames, TreeStatements.IsNamed}

-- ---- lexemes

-- a word's or a quoted token's text has the form of a name
abbrev IsTexted : Lexeme → Type 0
IsTexted lexeme = HasNameText lexeme.kind lexeme.text

named_kind : (kind : TokenKind) (bare : Bool) → (is_quoted_kind kind || (is_word_kind kind && bare)) ≡ true
    → (is_word_kind kind || is_quoted_kind kind) ≡ true
named_kind Word bare is = refl
named_kind Quoted bare is = refl
named_kind Equals bare is = absurd (cc)
named_kind Semicolon bare is = absurd (cc)

bare_kind : (kind : TokenKind) (bare : Bool) → (is_word_kind kind && bare) ≡ true
    → (is_word_kind kind || is_quoted_kind kind) ≡ true
bare_kind Word bare is = refl
bare_kind Quoted bare is = refl
bare_kind Equals bare is = absurd (cc)
bare_kind Semicolon bare is = absurd (cc)

name_texted : (lexeme : Lexeme) → IsTexted lexeme → is_name lexeme ≡ true → is_name_text lexeme.text ≡ true
unfolding is_name is_bare
name_texted lexeme texted is = texted (named_kind lexeme.kind (is_bare_name lexeme.text) is)

bare_texted : (lexeme : Lexeme) → IsTexted lexeme → is_bare lexeme ≡ true → is_name_text lexeme.text ≡ true
unfolding is_bare
bare_texted lexeme texted is = texted (bare_kind lexeme.kind (is_bare_name lexeme.text) is)

value_texted : (lexeme : Lexeme) → IsTexted lexeme → is_value lexeme ≡ true → is_name_text lexeme.text ≡ true
unfolding is_value
value_texted lexeme texted is = texted is

-- ---- statements

front_all : {X : Type 0} (P : X → Type 0) (xs ys : List X) → All P (xs ++ ys) → All P xs
front_all P [] ys all = All-nil P
front_all P (x ∷ xs) ys all = All-cons P x xs (All-head P x (xs ++ ys) all)
    (front_all P xs ys (All-tail P x (xs ++ ys) all))

back_all : {X : Type 0} (P : X → Type 0) (xs ys : List X) → All P (xs ++ ys) → All P ys
back_all P [] ys all = all
back_all P (x ∷ xs) ys all = back_all P xs ys (All-tail P x (xs ++ ys) all)

abbrev IsNamedAttribute : RawAttribute → Type 0
IsNamedAttribute raw = HasNames raw.attribute

attributes_named : (attributes : List Written) → AreAttributes attributes
    → All IsTexted (flat_map lexemes_in attributes) → All IsNamedAttribute (map attribute_in attributes)
attributes_named [] each texted = All-nil IsNamedAttribute
attributes_named (written ∷ attributes) each texted =
    let rest = flat_map lexemes_in attributes in
    let behind_word = All-tail IsTexted written.word (written.equals ∷ written.value ∷ rest) texted in
    let behind_equals = All-tail IsTexted written.equals (written.value ∷ rest) behind_word in
    All-cons IsNamedAttribute (attribute_in written) (map attribute_in attributes)
    (record {
      word = bare_texted written.word
          (All-head IsTexted written.word (written.equals ∷ written.value ∷ rest) texted) each.0.bare;
      value = value_texted written.value (All-head IsTexted written.value rest behind_equals) each.0.value;
    })
    (attributes_named attributes each.1 (All-tail IsTexted written.value rest behind_equals))

-- what a statement defines has the form of a name, and so have its attributes
abbrev IsNamedStatement : Statement → Type 0
IsNamedStatement (Top top) = Unit {0}
IsNamedStatement (Gate gate) = is_name_text gate.name.name ≡ true
IsNamedStatement (Basic basic) = (is_name_text basic.name.name ≡ true) × All IsNamedAttribute basic.attributes

statement_named : (statement : Statement) (lexemes : List Lexeme) → Spells statement lexemes → All IsTexted lexemes
    → IsNamedStatement statement
statement_named (Top top) lexemes spells texted = tt
statement_named (Gate gate) lexemes spells texted =
    let all = subst (All IsTexted) spells.spelled texted in
    subst (λ (g : RawGate). is_name_text g.name.name ≡ true) (sym spells.is)
    (name_texted spells.name (All-head IsTexted spells.name (spells.word ∷ spells.inputs
    ++ spells.close ∷ []) all) spells.defined.named)
statement_named (Basic basic) lexemes spells texted =
    let rest = flat_map lexemes_in spells.attributes in
    let all = subst (All IsTexted) spells.spelled texted in
    subst (λ (b : RawBasic). (is_name_text b.name.name ≡ true) × All IsNamedAttribute b.attributes) (sym spells.is) (
      name_texted spells.name (All-head IsTexted spells.name (rest ++ spells.close ∷ []) all) spells.defined.named,
      attributes_named spells.attributes spells.each
          (front_all IsTexted rest (spells.close ∷ []) (All-tail IsTexted spells.name (rest ++ spells.close ∷ []) all)),
    )

statements_named : (statements : List Statement) (lexemes : List Lexeme) → SpellsAll statements lexemes
    → All IsTexted lexemes → All IsNamedStatement statements
statements_named [] lexemes spells texted = All-nil IsNamedStatement
statements_named (statement ∷ statements) lexemes (front, back, is, first, rest) texted =
    let all = subst (All IsTexted) is texted in
    All-cons IsNamedStatement statement statements
    (statement_named statement front first (front_all IsTexted front back all))
    (statements_named statements back rest (back_all IsTexted front back all))

-- ---- the tree

abbrev IsName : List ℕ → Type 0
IsName name = is_name_text name ≡ true

basics_named : (statements : List Statement) → All IsNamedStatement statements → All IsName (basic_names statements)
basics_named [] all = All-nil IsName
basics_named (Top top ∷ statements) all = basics_named statements (All-tail IsNamedStatement (Top top) statements all)
basics_named (Gate gate ∷ statements) all = basics_named statements
    (All-tail IsNamedStatement (Gate gate) statements all)
basics_named (Basic basic ∷ statements) all =
    All-cons IsName basic.name.name (basic_names statements) (All-head IsNamedStatement (Basic basic) statements all).0
    (basics_named statements (All-tail IsNamedStatement (Basic basic) statements all))

gates_named : (statements : List Statement) → All IsNamedStatement statements → All IsName (gate_names statements)
gates_named [] all = All-nil IsName
gates_named (Top top ∷ statements) all = gates_named statements (All-tail IsNamedStatement (Top top) statements all)
gates_named (Gate gate ∷ statements) all =
    All-cons IsName gate.name.name (gate_names statements) (All-head IsNamedStatement (Gate gate) statements all)
    (gates_named statements (All-tail IsNamedStatement (Gate gate) statements all))
gates_named (Basic basic ∷ statements) all = gates_named statements
    (All-tail IsNamedStatement (Basic basic) statements all)

abbrev attributes_in : RawBasic → List Attribute
attributes_in basic = map (λ (raw : RawAttribute). raw.attribute) basic.attributes

all_attributes : (statements : List Statement) → All IsNamedStatement statements
    → All (All HasNames) (map attributes_in (basics statements))
all_attributes [] all = All-nil (All HasNames)
all_attributes (Top top ∷ statements) all = all_attributes statements
    (All-tail IsNamedStatement (Top top) statements all)
all_attributes (Gate gate ∷ statements) all = all_attributes statements
    (All-tail IsNamedStatement (Gate gate) statements all)
all_attributes (Basic basic ∷ statements) all =
    All-cons (All HasNames) (attributes_in basic) (map attributes_in (basics statements))
    (All-map HasNames (λ (raw : RawAttribute). raw.attribute) basic.attributes
    (All-head IsNamedStatement (Basic basic) statements all).1)
    (all_attributes statements (All-tail IsNamedStatement (Basic basic) statements all))

tree_named : (statements : List Statement) (ranks : List ℕ) → All IsNamedStatement statements
    → IsNamed (tree_of statements ranks)
tree_named statements ranks all = record {
  names = All-append IsName (basic_names statements) (gate_names statements) (basics_named statements all)
      (gates_named statements all);
  attributes = all_attributes statements all;
}

module _ (spelled : (text : List ℕ) → All (IsSpelled text) (tokens_of text).tokens)
    (parses : (text : List ℕ) → IsReading (lexemes_of text) (parsed_text text)) where
  lexemes_texted : (text : List ℕ) → All IsTexted (lexemes_of text).lexemes
  lexemes_texted text =
      All-map IsTexted (lexeme_of text) (tokens_of text).tokens
      (All-weaker (IsSpelled text) (λ token. IsTexted (lexeme_of text token))
      (λ token is. spelled_name text token.kind token.start token.end is.in_text is.some is.spelling)
      (tokens_of text).tokens (spelled text))

  pub deck_named : (bytes : List ℕ) (tree : FaultTree) → StandsFor bytes tree → IsNamed tree
  deck_named bytes tree stands =
      let text = tree_part bytes in
      let reading : IsReading (lexemes_of text) (Ok stands.read) =
      subst (IsReading (lexemes_of text)) stands.parsed (parses text) in
      subst IsNamed (sym stands.stands.is)
      (tree_named stands.read.statements tree.ranks
      (statements_named stands.read.statements (lexemes_of text).lexemes reading.0 (lexemes_texted text)))
