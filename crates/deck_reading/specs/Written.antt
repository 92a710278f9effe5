-- Statements as they are written, one a line: names bare or in quotes, and one blank in front of each word but the
-- first.
use Rattle.std.specs.Prelude.{◌≡◌, ℕ, Bool, true, not, ◌&&◌, if◌then◌else◌, List, ◌++◌, All, codes}
use Rattle.std.specs.{List.flat_map, List.list_all, Str.str_eq_ignore_ascii_case}
use Rattle.fault_words.specs.{declared.attribute.Attribute.Attribute, declared.kind.GateKind.GateKind}
use Rattle.fault_words.specs.{Name.is_bare_name, Name.is_name}
use Rattle.galileo_lexer.specs.Bytes.{is_word_byte}
use Rattle.galileo_tree.specs.ReadTree.{HasShortNumbers}
use Rattle.text_pieces.specs.GateWords.{gate_word}

-- ---- texts

-- a name in quotes
abbrev pub quoted : List ℕ → List ℕ
quoted name = codes "\"" ++ (name ++ codes "\"")

-- a name, and whether it stands in quotes
pub data WrittenName : Type 0 where
  Bare : List ℕ → WrittenName
  InQuotes : List ℕ → WrittenName

-- the name itself
abbrev pub name_in : WrittenName → List ℕ
name_in (Bare name) = name
name_in (InQuotes name) = name

-- a name as it is written: bare or in quotes
abbrev pub name_text : WrittenName → List ℕ
name_text (Bare name) = name
name_text (InQuotes name) = quoted name

-- an input behind a blank
abbrev pub input_text : WrittenName → List ℕ
input_text name = codes " " ++ name_text name

-- a value as it is where it has only bytes of a word, and else in quotes
abbrev pub value_text : List ℕ → List ℕ
value_text value = if list_all is_word_byte value then value else quoted value

-- ` word=`
abbrev pub attribute_word : List ℕ → List ℕ
attribute_word word = codes " " ++ (word ++ codes "=")

-- ` word=value`
abbrev pub attribute_text : Attribute → List ℕ
attribute_text attribute = attribute_word attribute.word ++ value_text attribute.value

-- the top statement, a gate with its inputs, and a basic event with its attributes
pub data WrittenStatement : Type 0 where
  Top : WrittenName → WrittenStatement
  Gate : WrittenName → GateKind → List WrittenName → WrittenStatement
  Basic : WrittenName → List Attribute → WrittenStatement

-- `toplevel NAME;`, `NAME WORD INPUT ..;` or `NAME word=value ..;`, and a line feed
abbrev pub statement_text : WrittenStatement → List ℕ
statement_text (Top name) = codes "toplevel " ++ (name_text name ++ codes ";\n")
statement_text (Gate name kind inputs) =
    name_text name ++ (codes " " ++ (gate_word kind ++ (flat_map input_text inputs ++ codes ";\n")))
statement_text (Basic name attributes) = name_text name ++ (flat_map attribute_text attributes ++ codes ";\n")

-- each on a line of its own
abbrev pub written : List WrittenStatement → List ℕ
written statements = flat_map statement_text statements

-- ---- what can be written so

-- 1 to 255 printable bytes without a quotation mark, and without quotes a bare name
abbrev pub is_good_name : WrittenName → Bool
is_good_name (Bare name) = is_name name && is_bare_name name
is_good_name (InQuotes name) = is_name name

-- the name of a definition isn't the bare word `toplevel`, in any case
abbrev pub is_good_definition : WrittenName → Bool
is_good_definition (Bare name) = is_name name && is_bare_name name && not
    (str_eq_ignore_ascii_case name (codes "toplevel"))
is_good_definition (InQuotes name) = is_name name

-- the word is a bare name of at most 255 bytes, and the value has the form of a name
abbrev pub is_good_attribute : Attribute → Bool
is_good_attribute attribute = is_name attribute.word && is_bare_name attribute.word && is_name attribute.value

-- names have their forms, and the numbers of a `KofN` are at most 999,999,999
abbrev pub IsGood : WrittenStatement → Type 0
IsGood (Top name) = is_good_name name ≡ true
IsGood (Gate name kind inputs) = (is_good_definition name ≡ true) × HasShortNumbers kind
    × (list_all is_good_name inputs ≡ true)
IsGood (Basic name attributes) = (is_good_definition name ≡ true) × (list_all is_good_attribute attributes ≡ true)

-- each statement is good: its names and attributes have their forms, and the numbers of a `KofN` their bound
abbrev pub AreGood : List WrittenStatement → Type 0
AreGood statements = All IsGood statements
