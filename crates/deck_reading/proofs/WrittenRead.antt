-- Written statements are read as these statements.
use Rattle.std.proofs.Common.{◌≡◌, ℕ, List, [], Result, Ok, refl, sym, subst}
use Rattle.std.specs.Prelude.{map}
use Rattle.galileo_lexer.specs.Spot.{origin, place_of, walk}
use Rattle.galileo_lexer.specs.Lexed.{Lexed, tokens_of}
use Rattle.galileo_lexer.specs.Pieces.{Piece, Reads, tokens_from}
use Rattle.galileo_tree.specs.{declared.fault.ParseFault.ParseFault, Grammar.IsReading, Grammar.SpellsAll}
use Rattle.galileo_tree.specs.{Lexeme.lexeme_of, Lexeme.place_at, Parsed.lexemes_of, Parsed.parsed_text}
use Rattle.galileo_tree.specs.{ReadTree.ReadTree}
use Rattle.deck_reading.specs.{Relations.stream_of, Unplaced.SaysAll}
use Rattle.deck_reading.specs.Written.{AreGood, WrittenStatement, written}
use Rattle.deck_reading.proofs.Pieces.{all_are, all_pieces, all_spelled, spelled}
use Rattle.deck_reading.proofs.Lexemes.{is_lexed, lexed_as, lexemes_spelled}
use Rattle.deck_reading.proofs.Spelling.{all_say}

module _ (one_way : (text : List ℕ) (read : Lexed) → Reads text read → tokens_of text ≡ read)
    (one_parse : (text : List ℕ) (read : Result ReadTree ParseFault) → IsReading (lexemes_of text) read
    → parsed_text text ≡ read) where
  pub written_are_read : (statements : List WrittenStatement) → AreGood statements
      → (read : ReadTree) × (parsed_text (written statements) ≡ Ok read) × SaysAll read.statements statements
  written_are_read statements good =
      let pieces : List Piece = all_pieces statements in
      let text : List ℕ = spelled pieces in
      let said = all_say origin statements good in
      let end = place_of (walk origin text) in
      let tree : ReadTree = record { statements = said.read; end = place_at end } in
      let spells : SpellsAll said.read (map (lexeme_of text) (tokens_from origin pieces)) =
      subst (SpellsAll said.read) (sym (lexemes_spelled pieces)) said.spells in
      let reading : IsReading (stream_of text (lexed_as pieces)) (Ok tree) = (spells, end, refl, refl) in
      let lexed : tokens_of text ≡ lexed_as pieces =
      one_way text (lexed_as pieces) (is_lexed pieces (all_are statements [] good)) in
      let parsed : parsed_text text ≡ Ok tree =
      one_parse text (Ok tree) (subst (λ l. IsReading (stream_of text l) (Ok tree)) (sym lexed) reading) in
      (tree, subst (λ t. parsed_text t ≡ Ok tree) (all_spelled statements) parsed, said.same)
