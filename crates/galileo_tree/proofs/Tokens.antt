-- What the lexer's answer says of the tokens that are left.
use Rattle.std.proofs.Common.{◌≡◌, ℕ, List, [], ◌∷◌, drop, Some, None, Result, Ok, Err, refl, sym, ap, ◌∙◌}
use Rattle.galileo_lexer.specs.{declared.token.Token.Token, declared.token.LexPlace.LexPlace}
use Rattle.galileo_lexer.specs.{declared.token.LexFault.LexFault}
use Rattle.std.specs.Prelude.{map}
use Rattle.galileo_lexer.specs.Lexed.{Lexed, next_of, after}
use Rattle.galileo_tree.specs.{declared.fault.ParseFault.TheVariants.Lex, Lexeme.Stream, Lexeme.lexeme_of}
use Rattle.galileo_tree.specs.{Reads.TakesFirst, Reads.Nexts}

answered_token : (tokens : List Token) (ending : Result LexPlace LexFault) (token : Token) →
    next_of tokens ending ≡ Ok (Some token) → tokens ≡ token ∷ drop 1 tokens
answered_token [] (Ok place) token is = absurd (cc)
answered_token [] (Err fault) token is = absurd (cc)
answered_token (first ∷ tokens) ending token is = cc

answered_none : (tokens : List Token) (ending : Result LexPlace LexFault) →
    next_of tokens ending ≡ Ok None → (place : LexPlace) × (tokens ≡ []) × (ending ≡ Ok place)
answered_none [] (Ok place) is = (place, refl, refl)
answered_none [] (Err fault) is = absurd (cc)
answered_none (first ∷ tokens) ending is = absurd (cc)

answered_fault : (tokens : List Token) (ending : Result LexPlace LexFault) (fault : LexFault) →
    next_of tokens ending ≡ Err fault → (tokens ≡ []) × (ending ≡ Err fault)
answered_fault [] (Ok place) fault is = absurd (cc)
answered_fault [] (Err found) fault is = (refl, cc)
answered_fault (first ∷ tokens) ending fault is = absurd (cc)

-- the lexemes of tokens of a text
abbrev pub stream_of : List ℕ → Lexed → Stream
stream_of text read = record { lexemes = map (lexeme_of text) read.tokens; ending = read.ending }

-- what the lexer answers, as lexemes
pub nexts_token : (text : List ℕ) (old : Lexed) {new : Lexed} (token : Token)
    → Ok (Some token) ≡ next_of old.tokens old.ending
    → new ≡ after old →
    TakesFirst (stream_of text old) (lexeme_of text token) (stream_of text new)
nexts_token text old token answer rest = record {
  first =
      ap (map (lexeme_of text)) (answered_token old.tokens old.ending token (sym answer))
      ∙ ap (λ (l : Lexed). lexeme_of text token ∷ map (lexeme_of text) l.tokens) (sym rest);
  same_ending = ap (λ (l : Lexed). l.ending) rest;
}

pub nexts_none : (text : List ℕ) (old : Lexed) {new : Lexed} → Ok None ≡ next_of old.tokens old.ending → new ≡ after old
    →
    Nexts (stream_of text old) (Ok None) (stream_of text new)
nexts_none text old answer rest =
    let ended = answered_none old.tokens old.ending (sym answer) in (
      ended.0,
      record { none_left = ap (map (lexeme_of text)) ended.1; ending = ended.2 },
      ap (stream_of text) rest ∙ ap (λ tokens. let s : Stream =
          record { lexemes = map (lexeme_of text) tokens; ending = old.ending } in s)
          (ap (drop 1) ended.1 ∙ sym ended.1),
    )

pub nexts_fault : (text : List ℕ) (old new : Lexed) (fault : LexFault) → Err fault ≡ next_of old.tokens old.ending →
    Nexts (stream_of text old) (Err (Lex fault)) (stream_of text new)
nexts_fault text old new fault answer =
    let ended = answered_fault old.tokens old.ending fault (sym answer) in
    (fault, record { none_left = ap (map (lexeme_of text)) ended.0; ending = ended.1 }, refl)
