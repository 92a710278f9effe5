-- What is read of a deck byte by byte is what the relations between whole lists relate it to.
use Rattle.std.specs.Prelude.{◌≡◌, ◌↔◌, ℕ, List, take, drop, Option, Some, None, Result}
use Rattle.std.proofs.Common.{sym, ap, subst, ◌∙◌, refl}
use Rattle.fault_definitions.specs.Tree.{FaultTree}
use Rattle.galileo_lexer.specs.{Lexed.Lexed, Lexed.tokens_of, Pieces.Reads}
use Rattle.galileo_tree.specs.{declared.fault.ParseFault.ParseFault, Grammar.IsReading, Parsed.lexemes_of}
use Rattle.galileo_tree.specs.{Parsed.parsed_text, ReadTree.ReadTree}
use Rattle.crew_script.specs.{Crews.crews_of, CrewsOf.Answers, Deck.lines_of, Deck.split_of, Divides.Divides}
use Rattle.crew_script.specs.{declared.deck.CrewsAt.CrewsAt, declared.deck.Split.Split, declared.dockets.Crew.Crew}
use Rattle.crew_script.specs.{declared.fault.CrewFault.CrewFault}
use Rattle.deck_reading.specs.Deck.{StandsFor, crew_part, crews_behind, tree_part}
use Rattle.deck_reading.specs.{declared.fault.DeckFault.DeckFault, Faults.IsFaultOf, Faults.IsTreeFault}
use Rattle.deck_reading.specs.Relations.{AreCrewsOf, IsFaultIn, IsReadAs, IsTreeOf, stream_of}

module _ (divides : (bytes : List ℕ) → Divides bytes (split_of bytes))
    (once : (bytes : List ℕ) (split : Split) → Divides bytes split → split_of bytes ≡ split) where
  module _ (reads : (text : List ℕ) → Reads text (tokens_of text))
      (one_way : (text : List ℕ) (read : Lexed) → Reads text read → tokens_of text ≡ read)
      (parses : (text : List ℕ) → IsReading (lexemes_of text) (parsed_text text))
      (one_parse : (text : List ℕ) (read : Result ReadTree ParseFault) → IsReading (lexemes_of text) read
      → parsed_text text ≡ read) where
    read_as : (bytes : List ℕ) → IsReadAs bytes (parsed_text (tree_part bytes))
    read_as bytes = record {
      split = split_of bytes;
      divides = divides bytes;
      lexed = tokens_of (tree_part bytes);
      tokens = reads (tree_part bytes);
      statements = parses (tree_part bytes);
    }

    is_read : {bytes : List ℕ} {read : Result ReadTree ParseFault} → IsReadAs bytes read
        → parsed_text (tree_part bytes) ≡ read
    is_read {bytes} {read} as_read =
        let part : take as_read.split.tree bytes ≡ tree_part bytes =
        ap (λ (s : Split). take s.tree bytes) (sym (once bytes as_read.split as_read.divides)) in
        let tokens : Reads (tree_part bytes) as_read.lexed =
        subst (λ text. Reads text as_read.lexed) part as_read.tokens in
        let same : tokens_of (tree_part bytes) ≡ as_read.lexed = one_way (tree_part bytes) as_read.lexed tokens in
        one_parse (tree_part bytes) read
        (subst (λ lexed. IsReading (stream_of (tree_part bytes) lexed) read) (sym same)
        (subst (λ text. IsReading (stream_of text as_read.lexed) read) part as_read.statements))

    pub tree_by_relations : (bytes : List ℕ) (tree : FaultTree) → StandsFor bytes tree ↔ IsTreeOf bytes tree
    tree_by_relations bytes tree = (
      λ stands. (stands.read, subst (IsReadAs bytes) stands.parsed (read_as bytes), stands.stands, stands.kept),
      λ is. record { read = is.0; parsed = is_read is.1; stands = is.2; kept = is.3 },
    )

    pub fault_by_relations : (bytes : List ℕ) (fault : DeckFault) → IsTreeFault bytes fault ↔ IsFaultIn bytes fault
    fault_by_relations bytes fault = (
      λ refused. (parsed_text (tree_part bytes), read_as bytes, refused),
      λ is. subst (λ r. IsFaultOf r fault) (sym (is_read is.1)) is.2,
    )

    pub read_by_relations : (bytes : List ℕ) (read : Result ReadTree ParseFault)
        → (parsed_text (tree_part bytes) ≡ read) ↔ IsReadAs bytes read
    read_by_relations bytes read = (λ is. subst (IsReadAs bytes) is (read_as bytes), is_read {bytes = bytes})

  module _ (answers : (number : ℕ) (bytes : List ℕ) → Answers number (lines_of bytes) (crews_of number bytes))
      (one_answer : (number : ℕ) (bytes : List ℕ) (read : Result (List Crew) CrewFault)
      → Answers number (lines_of bytes) read → crews_of number bytes ≡ read) where
    behind : {bytes : List ℕ} {said : Result (List Crew) CrewFault} (crews : Option CrewsAt)
        → (split_of bytes).crews ≡ crews → crews_behind bytes crews ≡ Some said → AreCrewsOf bytes said
    behind None is none = let clash = none in absurd cc
    behind {bytes} (Some at) is some_said = record {
      split = split_of bytes;
      divides = divides bytes;
      at = at;
      begins = is;
      answers =
          subst (λ read. Answers at.line (lines_of (drop at.start bytes)) read) (let same = some_said in cc)
          (answers at.line (drop at.start bytes));
    }

    pub crews_by_relations : (bytes : List ℕ) (said : Result (List Crew) CrewFault)
        → (crew_part bytes ≡ Some said) ↔ AreCrewsOf bytes said
    crews_by_relations bytes said = (
      λ is. behind (split_of bytes).crews refl is,
      λ crews.
          let begins : (split_of bytes).crews ≡ Some crews.at =
          ap (λ (s : Split). s.crews) (once bytes crews.split crews.divides) ∙ crews.begins in
          ap (crews_behind bytes) begins ∙ ap said_of (one_answer crews.at.line (drop crews.at.start bytes) said
          crews.answers),
    )
      where
        said_of : Result (List Crew) CrewFault → Option (Result (List Crew) CrewFault)
        said_of read = Some read
