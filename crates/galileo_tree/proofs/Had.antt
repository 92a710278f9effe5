-- What the open statement has had in each state, and what a further lexeme makes of it.
use Rattle.std.proofs.Common.{◌≡◌, ℕ, true, List, [], ◌∷◌, ◌++◌, Option, Some, None, refl, sym, ap, ◌∙◌}
use Rattle.std.proofs.Common.{append_assoc}
use Rattle.std.specs.Prelude.{map}
use Rattle.std.specs.List.{list_all, flat_map}
use Rattle.std.proofs.{lemmas.List.append-nil, lemmas.List.map-append}
use Rattle.std.proofs.{lemmas.List.Folds.list_all-append, lemmas.List.Concat.flat_map-append}
use Rattle.fault_words.specs.{declared.kind.GateKind.GateKind, declared.place.Place.Place}
use Rattle.galileo_tree.specs.{declared.raw.Placed.Placed, declared.raw.RawAttribute.RawAttribute, GateWord.kind_said}
use Rattle.galileo_tree.specs.Lexeme.{Lexeme, is_equals, is_semicolon, is_bare, is_name, is_value, is_top_word, placed}
use Rattle.galileo_tree.specs.Parsed.{State, Outside, TopWord, TopName, Defined, GateWord, Inputs, AttributeWord}
use Rattle.galileo_tree.specs.Parsed.{AttributeEquals, Attributes, Step, On, Whole, Stop, step, expected, defined_step}
use Rattle.galileo_tree.specs.Parsed.{attribute_of}
use Rattle.galileo_tree.specs.Grammar.{IsDefinedName, Written, lexemes_in, IsAttribute, attribute_in, AreAttributes}
use Rattle.galileo_tree.specs.Grammar.{Spells, Stands, at_start, behind_top_word, behind_top_name, behind_name}
use Rattle.galileo_tree.specs.Grammar.{behind_first_word, behind_inputs, behind_equals, behind_value, behind_next_word}
use Rattle.galileo_tree.proofs.LexemeKinds.{by_test}

-- a gate's name, its word and its inputs
pub record HadGate (name : Placed) (place : Place) (kind : GateKind) (inputs : List Placed)
    (had : List Lexeme) : Type 0 where
  pub first : Lexeme
  pub word : Lexeme
  pub rest : List Lexeme
  pub is : had ≡ first ∷ word ∷ rest
  pub defined : IsDefinedName first
  pub said : kind_said word ≡ Some kind
  pub named : list_all is_name rest ≡ true
  pub name_is : name ≡ placed first
  pub place_is : place ≡ word.place
  pub inputs_are : inputs ≡ map placed rest

-- a basic event's name, its attributes, and the lexemes of one that has begun
pub record HadBasic (name : Placed) (attributes : List RawAttribute) (begun : List Lexeme) (had : List Lexeme)
    (whole : List Written) : Type 0 where
  pub first : Lexeme
  pub is : had ≡ first ∷ flat_map lexemes_in whole ++ begun
  pub defined : IsDefinedName first
  pub each : AreAttributes whole
  pub name_is : name ≡ placed first
  pub attributes_are : attributes ≡ map attribute_in whole

-- the word of an attribute: the first, which is no gate word, or one behind a value
abbrev pub IsNextWord : List Written → Lexeme → Type 0
IsNextWord [] word = kind_said word ≡ None
IsNextWord (written ∷ whole) word = Unit {0}

abbrev pub IsSome : List Written → Type 0
IsSome [] = ⊥
IsSome (written ∷ whole) = Unit {0}

abbrev pub Had : State → List Lexeme → Type 0
Had Outside had = had ≡ []
Had (TopWord place) had = (word : Lexeme) × (had ≡ word ∷ []) × (is_top_word word ≡ true) × (place ≡ word.place)
Had (TopName place name) had =
    (word : Lexeme) × (second : Lexeme) × (had ≡ word ∷ second ∷ []) × (is_top_word word ≡ true)
    × (is_name second ≡ true)
    × (place ≡ word.place) × (name ≡ placed second)
Had (Defined name) had = (first : Lexeme) × (had ≡ first ∷ []) × IsDefinedName first × (name ≡ placed first)
Had (GateWord name word kind) had =
    (first : Lexeme) × (had ≡ first ∷ word ∷ []) × IsDefinedName first × (kind_said word ≡ Some kind)
    × (name ≡ placed first)
Had (Inputs name place kind inputs) had = HadGate name place kind inputs had
Had (AttributeWord name attributes word) had =
    (whole : List Written) × (begun : Lexeme) × HadBasic name attributes (begun ∷ []) had whole × (is_bare begun ≡ true)
    × (word ≡ begun.text) × IsNextWord whole begun
Had (AttributeEquals name attributes word) had =
    (whole : List Written) × (begun : Lexeme) × (equals : Lexeme)
    × HadBasic name attributes (begun ∷ equals ∷ []) had whole
    × (is_bare begun ≡ true) × (word ≡ begun.text) × (is_equals equals ≡ true)
Had (Attributes name attributes) had = (whole : List Written) × HadBasic name attributes [] had whole × IsSome whole

-- what has been had stands before what the state expects
word_stands : {name : Placed} {attributes : List RawAttribute} {had : List Lexeme} (whole : List Written)
    {begun : Lexeme} →
    HadBasic name attributes (begun ∷ []) had whole → is_bare begun ≡ true → IsNextWord whole begun
    → Stands had (expected (AttributeWord name attributes begun.text))
word_stands [] {begun} basic bare next = behind_first_word basic.first begun basic.is basic.defined bare next refl
word_stands (written ∷ whole) {begun} basic bare next =
    behind_next_word basic.first written whole begun basic.is basic.defined basic.each bare refl

value_stands : {name : Placed} {attributes : List RawAttribute} {had : List Lexeme} (whole : List Written) →
    HadBasic name attributes [] had whole → IsSome whole → Stands had (expected (Attributes name attributes))
value_stands [] basic some = absurd some
value_stands (written ∷ whole) basic some =
    behind_value basic.first written whole (basic.is
    ∙ ap (λ l. basic.first ∷ l) (append-nil (flat_map lexemes_in (written ∷ whole)))) basic.defined basic.each refl

pub stands : (state : State) (had : List Lexeme) → Had state had → Stands had (expected state)
stands Outside had is = at_start is refl
stands (TopWord place) had is = behind_top_word is.0 is.1 is.2 refl
stands (TopName place name) had is = behind_top_name is.0 is.1 is.2 is.3 is.4 refl
stands (Defined name) had is = behind_name is.0 is.1 is.2 refl
stands (GateWord name word kind) had is = behind_inputs is.0 word kind [] is.1 is.2 is.3 refl refl
stands (Inputs name place kind inputs) had is =
    behind_inputs is.first is.word kind is.rest is.is is.defined is.said is.named refl
stands (AttributeWord name attributes word) had is = word_stands is.0 is.2 is.3 is.5
stands (AttributeEquals name attributes word) had is =
    behind_equals is.3.first is.0 is.1 is.2 is.3.is is.3.defined is.3.each is.4 is.6 refl
stands (Attributes name attributes) had is = value_stands is.0 is.1 is.2

-- what a step makes of what has been had
abbrev pub Makes : List Lexeme → Step → Type 0
Makes had (On later) = Had later had
Makes had (Whole statement) = Spells statement had
Makes had Stop = Unit {0}

list_all-push : (lexemes : List Lexeme) (lexeme : Lexeme) → list_all is_name lexemes ≡ true → is_name lexeme ≡ true →
    list_all is_name (lexemes ++ lexeme ∷ []) ≡ true
list_all-push lexemes lexeme each last = rw (list_all-append is_name lexemes (lexeme ∷ []), each, last) refl

attributes-push : (whole : List Written) (last : Written) → AreAttributes whole → IsAttribute last
    → AreAttributes (whole ++ last ∷ [])
attributes-push [] last each is = (is, tt)
attributes-push (first ∷ whole) last each is = (each.0, attributes-push whole last each.1 is)

some_pushed : (whole : List Written) (last : Written) → IsSome (whole ++ last ∷ [])
some_pushed [] last = tt
some_pushed (first ∷ whole) last = tt

-- behind a defined name
defined_makes : {name : Placed} {first : Lexeme} (lexeme : Lexeme) (said : Option GateKind) → kind_said lexeme ≡ said →
    IsDefinedName first → name ≡ placed first → Makes (first ∷ lexeme ∷ []) (defined_step name lexeme said)
defined_makes {first} lexeme (Some kind) said defined is = (first, refl, defined, said, is)
defined_makes {first} lexeme None said defined is =
    by_test (is_bare lexeme)
    (λ bare. rw bare (
      [],
      lexeme,
      record { first = first; is = refl; defined = defined; each = tt; name_is = is; attributes_are = refl },
      bare,
      refl,
      said,
    ))
    (λ other. rw other tt)

outside_makes : (lexeme : Lexeme) → Makes (lexeme ∷ []) (step Outside lexeme)
outside_makes lexeme =
    by_test (is_top_word lexeme)
    (λ top. rw top (lexeme, refl, top, refl))
    (λ no_top. rw no_top
    (by_test (is_name lexeme)
    (λ named. rw named (lexeme, refl, record { named = named; no_top = no_top }, refl))
    (λ other. rw other tt)))

top_word_makes : {place : Place} (word lexeme : Lexeme) → is_top_word word ≡ true → place ≡ word.place →
    Makes (word ∷ lexeme ∷ []) (step (TopWord place) lexeme)
top_word_makes word lexeme top is =
    by_test (is_name lexeme)
    (λ named. rw named (word, lexeme, refl, top, named, is, refl))
    (λ other. rw other tt)

top_name_makes : {place : Place} {name : Placed} (word second lexeme : Lexeme) → is_top_word word ≡ true
    → is_name second ≡ true →
    place ≡ word.place → name ≡ placed second → Makes (word ∷ second ∷ lexeme ∷ []) (step (TopName place name) lexeme)
top_name_makes {name} word second lexeme top named place_is name_is =
    by_test (is_semicolon lexeme)
    (λ close. rw (close, place_is, name_is)
    (record {
      word = word;
      name = second;
      close = lexeme;
      spelled = refl;
      is_top = top;
      named = named;
      closed = close;
      is = refl;
    }))
    (λ other. rw other tt)

name_makes : {name : Placed} {first : Lexeme} (lexeme : Lexeme) → IsDefinedName first → name ≡ placed first →
    Makes (first ∷ lexeme ∷ []) (step (Defined name) lexeme)
name_makes {name} {first} lexeme defined name_is =
    by_test (is_semicolon lexeme)
    (λ close. rw (close, name_is)
    (record {
      name = first;
      attributes = [];
      close = lexeme;
      spelled = refl;
      defined = defined;
      each = tt;
      closed =
          close;
      is = refl;
    })) (λ open_still. rw open_still (defined_makes lexeme (kind_said lexeme) refl defined name_is))

gate_word_makes : {name : Placed} (word : Lexeme) (kind : GateKind) {first : Lexeme} (lexeme : Lexeme)
    → IsDefinedName first
    → kind_said word ≡ Some kind →
    name ≡ placed first → Makes (first ∷ word ∷ lexeme ∷ []) (step (GateWord name word kind) lexeme)
gate_word_makes {name} word kind {first} lexeme defined said name_is =
    by_test (is_semicolon lexeme)
    (λ close. rw (close, name_is)
    (record {
      name = first;
      word = word;
      inputs = [];
      close = lexeme;
      spelled = refl;
      defined = defined;
      said = said;
      named = refl;
      closed = close;
      is = refl;
    }))
    (λ open_still. rw open_still
    (by_test (is_name lexeme)
    (λ named. rw named
    (record {
      first = first;
      word = word;
      rest = lexeme ∷ [];
      is = refl;
      defined = defined;
      said = said;
      named =
          rw named refl;
      name_is = name_is;
      place_is = refl;
      inputs_are = refl;
    }))
    (λ no_name. rw no_name
    (by_test (is_equals lexeme)
    (λ equals. rw equals
    (by_test (is_bare word)
    (λ bare. rw bare (
      [],
      word,
      lexeme,
      record {
        first = first;
        is = refl;
        defined = defined;
        each = tt;
        name_is = name_is;
        attributes_are = refl;
      },
      bare,
      refl,
      equals,
    ))
    (λ other. rw other tt)))
    (λ other. rw other tt)))))

inputs_make : {name : Placed} {place : Place} {kind : GateKind} {inputs : List Placed} {had : List Lexeme}
    (lexeme : Lexeme) → HadGate name place kind inputs had →
    Makes (had ++ lexeme ∷ []) (step (Inputs name place kind inputs) lexeme)
inputs_make {name} {inputs} {had} lexeme gate =
    let longer : had ++ lexeme ∷ [] ≡ gate.first ∷ gate.word ∷ gate.rest ++ lexeme ∷ [] =
    ap (λ l. l ++ lexeme ∷ []) gate.is in
    by_test (is_semicolon lexeme)
    (λ close. rw (close, gate.name_is, gate.place_is, gate.inputs_are)
    (record {
      name = gate.first;
      word = gate.word;
      inputs = gate.rest;
      close = lexeme;
      spelled = longer;
      defined =
          gate.defined;
      said = gate.said;
      named = gate.named;
      closed = close;
      is = refl;
    }))
    (λ open_still. rw open_still
    (by_test (is_name lexeme)
    (λ named. rw named
    (record {
      first = gate.first;
      word = gate.word;
      rest = gate.rest ++ lexeme ∷ [];
      is = longer;
      defined = gate.defined;
      said = gate.said;
      named = list_all-push gate.rest lexeme gate.named named;
      name_is = gate.name_is;
      place_is = gate.place_is;
      inputs_are = ap (λ l. l ++ placed lexeme ∷ []) gate.inputs_are ∙ sym (map-append placed gate.rest (lexeme ∷ []));
    }))
    (λ other. rw other tt)))

-- one more lexeme of an attribute that has begun
basic_longer : {name : Placed} {attributes : List RawAttribute} {begun had : List Lexeme} {whole : List Written}
    (lexeme : Lexeme) → HadBasic name attributes begun had whole
    → HadBasic name attributes (begun ++ lexeme ∷ []) (had ++ lexeme ∷ []) whole
basic_longer {begun} {whole} lexeme basic = record {
  first = basic.first;
  is =
      ap (λ l. l ++ lexeme ∷ []) basic.is ∙ ap (λ l. basic.first ∷ l)
      (append_assoc (flat_map lexemes_in whole) begun (lexeme ∷ []));
  defined = basic.defined;
  each = basic.each;
  name_is = basic.name_is;
  attributes_are = basic.attributes_are;
}

word_makes : {name : Placed} {attributes : List RawAttribute} {word : List ℕ} {had : List Lexeme} {whole : List Written}
    {begun : Lexeme} (lexeme : Lexeme) →
    HadBasic name attributes (begun ∷ []) had whole → is_bare begun ≡ true → word ≡ begun.text →
    Makes (had ++ lexeme ∷ []) (step (AttributeWord name attributes word) lexeme)
word_makes {whole} {begun} lexeme basic bare word_is =
    by_test (is_equals lexeme)
    (λ equals. rw equals (whole, begun, lexeme, basic_longer lexeme basic, bare, word_is, equals))
    (λ other. rw other tt)

equals_makes : {name : Placed} {attributes : List RawAttribute} {word : List ℕ} {had : List Lexeme}
    {whole : List Written} (begun equals lexeme : Lexeme) →
    HadBasic name attributes (begun ∷ equals ∷ []) had whole → is_bare begun ≡ true → word ≡ begun.text
    → is_equals equals ≡ true →
    Makes (had ++ lexeme ∷ []) (step (AttributeEquals name attributes word) lexeme)
unfolding basic_longer
equals_makes {word} {whole} begun equals lexeme basic bare word_is equals_is =
    by_test (is_value lexeme)
    (λ valued.
    let last : Written = record { word = begun; equals = equals; value = lexeme } in
    let longer = basic_longer lexeme basic in
    rw valued (
      whole ++ last ∷ [],
      record {
        first = basic.first;
        is =
            longer.is ∙ ap (λ l. basic.first ∷ l) (sym (flat_map-append lexemes_in whole (last ∷ []))
            ∙ sym (append-nil (flat_map lexemes_in (whole ++ last ∷ []))));
        defined = basic.defined;
        each = attributes-push whole last basic.each (record { bare = bare; equals = equals_is; value = valued });
        name_is = basic.name_is;
        attributes_are = ap (λ l. l ++ attribute_of word lexeme ∷ []) basic.attributes_are
            ∙ ap (λ w. map attribute_in whole ++ attribute_of w lexeme ∷ []) word_is
            ∙ sym (map-append attribute_in whole (last ∷ []));
      },
      some_pushed whole last,
    ))
    (λ other. rw other tt)

next_word_is : (whole : List Written) (lexeme : Lexeme) → IsSome whole → IsNextWord whole lexeme
next_word_is [] lexeme some = absurd some
next_word_is (written ∷ whole) lexeme some = tt

value_makes : {name : Placed} {attributes : List RawAttribute} {had : List Lexeme} {whole : List Written}
    (lexeme : Lexeme) →
    HadBasic name attributes [] had whole → IsSome whole
    → Makes (had ++ lexeme ∷ []) (step (Attributes name attributes) lexeme)
unfolding basic_longer
value_makes {whole} lexeme basic some =
    let longer = basic_longer lexeme basic in
    by_test (is_semicolon lexeme)
    (λ close. rw (close, basic.name_is, basic.attributes_are)
    (record {
      name = basic.first;
      attributes = whole;
      close = lexeme;
      spelled = longer.is;
      defined = basic.defined;
      each = basic.each;
      closed = close;
      is = refl;
    }))
    (λ open_still. rw open_still
    (by_test (is_bare lexeme)
    (λ bare. rw bare (whole, lexeme, longer, bare, refl, next_word_is whole lexeme some))
    (λ other. rw other tt)))

-- what a lexeme makes of what has been had
pub makes : (state : State) (had : List Lexeme) (lexeme : Lexeme) → Had state had
    → Makes (had ++ lexeme ∷ []) (step state lexeme)
makes Outside had lexeme is = rw is (outside_makes lexeme)
makes (TopWord place) had lexeme is = rw is.1 (top_word_makes is.0 lexeme is.2 is.3)
makes (TopName place name) had lexeme is = rw is.2 (top_name_makes is.0 is.1 lexeme is.3 is.4 is.5 is.6)
makes (Defined name) had lexeme is = rw is.1 (name_makes lexeme is.2 is.3)
makes (GateWord name word kind) had lexeme is = rw is.1 (gate_word_makes word kind lexeme is.2 is.3 is.4)
makes (Inputs name place kind inputs) had lexeme is = inputs_make lexeme is
makes (AttributeWord name attributes word) had lexeme is = word_makes lexeme is.2 is.3 is.4
makes (AttributeEquals name attributes word) had lexeme is = equals_makes is.1 is.2 lexeme is.3 is.4 is.5 is.6
makes (Attributes name attributes) had lexeme is = value_makes lexeme is.1 is.2
