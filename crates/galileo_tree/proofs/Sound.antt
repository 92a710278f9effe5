-- What lexemes give is a reading of them.
use Rattle.std.proofs.Common.{◌≡◌, ℕ, true, List, [], ◌∷◌, ◌++◌, Result, Ok, Err, refl, sym, ap, ◌∙◌, subst}
use Rattle.std.proofs.Common.{append_assoc}
use Rattle.std.proofs.lemmas.List.{append-nil}
use Rattle.fault_words.specs.declared.place.Place.{Place}
use Rattle.galileo_lexer.specs.{declared.token.LexPlace.LexPlace, declared.token.LexFault.LexFault}
use Rattle.galileo_lexer.specs.declared.token.TokenKind.TheVariants.{Quoted, Equals, Semicolon}
use Rattle.galileo_tree.specs.{declared.raw.Statement.Statement, declared.fault.ParseFault.ParseFault}
use Rattle.galileo_tree.specs.{declared.fault.ParseFault.TheVariants.Expected, declared.raw.Placed.Placed}
use Rattle.galileo_tree.specs.{declared.raw.RawAttribute.RawAttribute}
use Rattle.galileo_tree.specs.Lexeme.{Lexeme, Stream, is_equals, is_semicolon, is_name, is_value, is_bare, placed}
use Rattle.galileo_tree.specs.Parsed.{State, Outside, TopWord, TopName, Defined, GateWord, Inputs, AttributeWord}
use Rattle.galileo_tree.specs.Parsed.{AttributeEquals, Attributes, Step, On, Whole, Stop, step, expected, missing}
use Rattle.galileo_tree.specs.Parsed.{parsed, parsed_from, top_of, gate_of, basic_of, attribute_of}
use Rattle.galileo_tree.specs.Grammar.{Spells, SpellsAll, IsViable, Expects, at_lexeme, at_end, at_token, IsReading}
use Rattle.galileo_tree.proofs.Parses.{with_front, with_front-push, with_front-none}
use Rattle.galileo_tree.proofs.Complete.{step_run, all_run}
use Rattle.galileo_tree.proofs.Had.{Had, Makes, stands, makes}

-- ---- each state can be completed

some_place : Place
some_place = record { line = 1; column = 1 }

abbrev a_semicolon : Lexeme
a_semicolon = record { kind = Semicolon; text = []; place = some_place }

abbrev an_equals : Lexeme
an_equals = record { kind = Equals; text = []; place = some_place }

abbrev a_name : Lexeme
a_name = record { kind = Quoted; text = []; place = some_place }

semicolon_is : is_semicolon a_semicolon ≡ true
unfolding is_semicolon
semicolon_is = refl

equals_is : is_equals an_equals ≡ true
unfolding is_equals
equals_is = refl

name_is : is_name a_name ≡ true
unfolding is_name is_bare
name_is = refl

value_is : is_value a_name ≡ true
unfolding is_value
value_is = refl

-- a semicolon ends the statement
closes : (state : State) (had : List Lexeme) (statement : Statement) → Had state had
    → step state a_semicolon ≡ Whole statement → IsViable had
closes state had statement is does =
    let spells : Spells statement (had ++ a_semicolon ∷ []) =
    subst (Makes (had ++ a_semicolon ∷ [])) does (makes state had a_semicolon is) in (
      a_semicolon ∷ [],
      statement ∷ [],
      (had ++ a_semicolon ∷ [], [], sym (append-nil (had ++ a_semicolon ∷ [])), spells, refl),
    )

-- a lexeme with which it goes on
goes : (state later : State) (had : List Lexeme) (lexeme : Lexeme) → Had state had → step state lexeme ≡ On later →
    (Had later (had ++ lexeme ∷ []) → IsViable (had ++ lexeme ∷ [])) → IsViable had
goes state later had lexeme is does viable =
    let then_viable = viable (subst (Makes (had ++ lexeme ∷ [])) does (makes state had lexeme is)) in (
      lexeme ∷ then_viable.0,
      then_viable.1,
      subst (SpellsAll then_viable.1)
          (append_assoc had (lexeme ∷ []) then_viable.0) then_viable.2,
    )

valued : (name : Placed) (attributes : List RawAttribute) (word : List ℕ) (had : List Lexeme)
    → Had (AttributeEquals name attributes word) had → IsViable had
valued name attributes word had is =
    let longer = attributes ++ attribute_of word a_name ∷ [] in
    goes (AttributeEquals name attributes word) (Attributes name longer) had a_name is (rw value_is refl)
    (λ behind. closes (Attributes name longer) (had ++ a_name ∷ []) (basic_of name longer) behind
    (rw semicolon_is refl))

completes : (state : State) (had : List Lexeme) → Had state had → IsViable had
completes Outside had is = ([], [], append-nil had ∙ is)
completes (TopWord place) had is =
    goes (TopWord place) (TopName place (placed a_name)) had a_name is (rw name_is refl)
    (λ behind. closes (TopName place (placed a_name)) (had ++ a_name ∷ []) (top_of place (placed a_name)) behind
    (rw semicolon_is refl))
completes (TopName place name) had is = closes (TopName place name) had (top_of place name) is (rw semicolon_is refl)
completes (Defined name) had is = closes (Defined name) had (basic_of name []) is (rw semicolon_is refl)
completes (GateWord name word kind) had is =
    closes (GateWord name word kind) had (gate_of name word.place kind []) is (rw semicolon_is refl)
completes (Inputs name place kind inputs) had is =
    closes (Inputs name place kind inputs) had (gate_of name place kind inputs) is (rw semicolon_is refl)
completes (AttributeWord name attributes word) had is =
    goes (AttributeWord name attributes word) (AttributeEquals name attributes word) had an_equals is
    (rw equals_is refl)
    (λ behind. valued name attributes word (had ++ an_equals ∷ []) behind)
completes (AttributeEquals name attributes word) had is = valued name attributes word had is
completes (Attributes name attributes) had is =
    closes (Attributes name attributes) had (basic_of name attributes) is (rw semicolon_is refl)

-- ---- lists of statements

pub SpellsAll-append : (first second : List Statement) (front back : List Lexeme) → SpellsAll first front
    → SpellsAll second back →
    SpellsAll (first ++ second) (front ++ back)
SpellsAll-append [] second front back none spells = subst (λ l. SpellsAll second (l ++ back)) (sym none) spells
SpellsAll-append (statement ∷ first) second front back more spells = (
  more.0,
  more.1 ++ back,
  ap (λ l. l ++ back) more.2 ∙ append_assoc more.0 more.1 back,
  more.3,
  SpellsAll-append first second more.1 back more.4 spells,
)

-- one more statement
SpellsAll-push : (statements : List Statement) (statement : Statement) (whole last : List Lexeme)
    → SpellsAll statements whole → Spells statement last →
    SpellsAll (statements ++ statement ∷ []) (whole ++ last)
SpellsAll-push statements statement whole last spells is =
    SpellsAll-append statements (statement ∷ []) whole last spells (last, [], sym (append-nil last), is, refl)

front_viable : (statements : List Statement) (whole had : List Lexeme) → SpellsAll statements whole → IsViable had
    → IsViable (whole ++ had)
front_viable statements whole had spells viable = (
  viable.0,
  statements ++ viable.1,
  subst (SpellsAll (statements ++ viable.1)) (sym (append_assoc whole had viable.0))
      (SpellsAll-append statements viable.1 whole (had ++ viable.0) spells viable.2),
)

-- ---- what is read is a reading

abbrev Ending : Type 0
Ending = Result LexPlace LexFault

abbrev at_stream : List Lexeme → Ending → Stream
at_stream lexemes ending = record { lexemes = lexemes; ending = ending }

-- the lexemes so far are whole statements and some of an open one, and are read as these, in this state
record IsRun (statements : List Statement) (whole : List Lexeme) (state : State) (had : List Lexeme) : Type 0 where
  spells : SpellsAll statements whole
  is : Had state had
  runs : (rest : List Lexeme) (ending : Ending) → parsed Outside (whole ++ had ++ rest) ending
      ≡ with_front statements (parsed state rest ending)

-- what is claimed of what is left
abbrev Claim : List Lexeme → Ending → Type 0
Claim lexemes ending =
    (statements : List Statement) (whole : List Lexeme) (state : State) (had : List Lexeme)
    → IsRun statements whole state had →
    IsReading (at_stream (whole ++ had ++ lexemes) ending) (with_front statements (parsed state lexemes ending))

-- where the reading fails the lexemes spell nothing
no_spelling : (statements others : List Statement) (lexemes : List Lexeme) (place : LexPlace) (fault : ParseFault) →
    parsed Outside lexemes (Ok place) ≡ with_front statements (Err fault) → SpellsAll others lexemes → ⊥
no_spelling statements others lexemes place fault fails spells =
    let runs = all_run others lexemes [] (Ok place) spells in
    let same : parsed Outside (lexemes ++ []) (Ok place) ≡ parsed Outside lexemes (Ok place) =
    ap (λ l. parsed Outside l (Ok place)) (append-nil lexemes) in
    cc

module _ {statements : List Statement} {whole : List Lexeme} {state : State} {had : List Lexeme}
    (run : IsRun statements whole state had) where
  viable : IsViable (whole ++ had)
  viable = front_viable statements whole had run.spells (completes state had run.is)

  expects : Expects (whole ++ had) (expected state)
  expects = (statements, whole, had, refl, run.spells, stands state had run.is)

  -- the lexemes end in an open statement
  open_end : (ending : Ending) → ((e : Ending) → parsed state [] e ≡ Err (missing (expected state) e)) →
      IsReading (at_stream (whole ++ had ++ []) ending) (Err (missing (expected state) ending))
  open_end (Ok place) fails =
      let same : (whole ++ had) ++ [] ≡ whole ++ had = append-nil (whole ++ had) in
      subst (λ l. IsReading (at_stream l (Ok place)) (Err (missing (expected state) (Ok place)))) (sym same)
      (at_end place (expected state) refl viable
      (λ others spelled.
      no_spelling statements others (whole ++ had) place (missing (expected state) (Ok place))
      (ap (λ l. parsed Outside l (Ok place)) (sym same) ∙ run.runs [] (Ok place)
      ∙ ap (with_front statements) (fails (Ok place))) spelled)
      expects refl)
  open_end (Err found) fails =
      subst (λ l. IsReading (at_stream l (Err found)) (Err (missing (expected state) (Err found))))
      (sym (append-nil (whole ++ had))) (at_token found refl viable refl)

-- they end where no statement is open
closed_end : (statements : List Statement) (whole : List Lexeme) {had : List Lexeme} (ending : Ending)
    → SpellsAll statements whole → had ≡ [] →
    IsReading (at_stream (whole ++ had ++ []) ending) (with_front statements (parsed Outside [] ending))
closed_end statements whole {had} ending spells none =
    subst (λ l. IsReading (at_stream l ending) (with_front statements (parsed Outside [] ending)))
    (sym (append-nil (whole ++ had) ∙ ap (λ l. whole ++ l) none ∙ append-nil whole)) (by_ending ending)
  where
    by_ending : (ending : Ending)
        → IsReading (at_stream whole ending) (with_front statements (parsed Outside [] ending))
    by_ending (Ok place) =
        (subst (λ s. SpellsAll s whole) (sym (append-nil statements)) spells, place, refl, refl)
    by_ending (Err found) =
        at_token found refl ([], statements, subst (SpellsAll statements) (sym (append-nil whole)) spells) refl

end_claim : (ending : Ending) → Claim [] ending
end_claim ending statements whole Outside had run = closed_end statements whole ending run.spells run.is
end_claim ending statements whole (TopWord place) had run = open_end run ending (λ e. refl)
end_claim ending statements whole (TopName place name) had run = open_end run ending (λ e. refl)
end_claim ending statements whole (Defined name) had run = open_end run ending (λ e. refl)
end_claim ending statements whole (GateWord name word kind) had run = open_end run ending (λ e. refl)
end_claim ending statements whole (Inputs name place kind inputs) had run = open_end run ending (λ e. refl)
end_claim ending statements whole (AttributeWord name attributes word) had run = open_end run ending (λ e. refl)
end_claim ending statements whole (AttributeEquals name attributes word) had run = open_end run ending (λ e. refl)
end_claim ending statements whole (Attributes name attributes) had run = open_end run ending (λ e. refl)

-- the lexemes so far, with one more
with_more : (whole had : List Lexeme) (lexeme : Lexeme) (rest : List Lexeme)
    → whole ++ (had ++ lexeme ∷ []) ++ rest ≡ whole ++ had ++ lexeme ∷ rest
with_more whole had lexeme rest =
    append_assoc whole (had ++ lexeme ∷ []) rest ∙ ap (λ l. whole ++ l) (append_assoc had (lexeme ∷ []) rest)
    ∙ sym (append_assoc whole had (lexeme ∷ rest))

by_step : (lexeme : Lexeme) (lexemes : List Lexeme) (ending : Ending) → Claim lexemes ending →
    {statements : List Statement} {whole : List Lexeme} {state : State} {had : List Lexeme}
    → IsRun statements whole state had → (does : Step) → step state lexeme ≡ does → Makes (had ++ lexeme ∷ []) does →
    IsReading (at_stream (whole ++ had ++ lexeme ∷ lexemes) ending)
    (with_front statements (parsed state (lexeme ∷ lexemes) ending))
by_step lexeme lexemes ending claim {statements} {whole} {state} {had} run (On later) does made =
    let longer = had ++ lexeme ∷ [] in
    subst (λ l. IsReading (at_stream l ending) (with_front statements (parsed state (lexeme ∷ lexemes) ending)))
    (with_more whole had lexeme lexemes)
    (subst (IsReading (at_stream (whole ++ longer ++ lexemes) ending))
    (ap (with_front statements) (sym (step_run state lexeme lexemes ending does)))
    (claim statements whole later longer record {
      spells = run.spells;
      is = made;
      runs = λ rest e. ap (λ l. parsed Outside l e) (with_more whole had lexeme rest) ∙ run.runs (lexeme ∷ rest) e
          ∙ ap (with_front statements) (step_run state lexeme rest e does);
    }))
by_step lexeme lexemes ending claim {statements} {whole} {state} {had} run (Whole statement) does made =
    let longer = had ++ lexeme ∷ [] in
    let more = statements ++ statement ∷ [] in
    let same : (rest : List Lexeme) → whole ++ longer ++ [] ++ rest ≡ whole ++ had ++ lexeme ∷ rest =
    λ rest. ap (λ l. l ++ rest) (append-nil (whole ++ longer)) ∙ with_more whole had lexeme rest in
    let read_same : (rest : List Lexeme) (e : Ending) → with_front statements (parsed state (lexeme ∷ rest) e)
    ≡ with_front more (parsed Outside rest e) =
    λ rest e. ap (with_front statements) (step_run state lexeme rest e does)
    ∙ with_front-push statements statement (parsed Outside rest e) in
    subst (λ l. IsReading (at_stream l ending) (with_front statements (parsed state (lexeme ∷ lexemes) ending)))
    (same lexemes)
    (subst (IsReading (at_stream (whole ++ longer ++ [] ++ lexemes) ending)) (sym (read_same lexemes ending))
    (claim more (whole ++ longer) Outside [] record {
      spells = SpellsAll-push statements statement whole longer run.spells made;
      is = refl;
      runs = λ rest e. ap (λ l. parsed Outside l e) (same rest) ∙ run.runs (lexeme ∷ rest) e ∙ read_same rest e;
    }))
by_step lexeme lexemes ending claim {statements} {whole} {state} {had} run Stop does made =
    let front = whole ++ had in
    let place : LexPlace = record { line = 1; column = 1 } in
    subst (IsReading (at_stream (front ++ lexeme ∷ lexemes) ending))
    (ap (with_front statements) (sym (step_run state lexeme lexemes ending does)))
    (at_lexeme front lexeme lexemes (expected state) refl (viable run)
    (λ viable.
    let more = viable.0 in
    no_spelling statements viable.1 (front ++ lexeme ∷ [] ++ more) place (Expected (expected state) lexeme.place)
    (ap (λ l. parsed Outside l (Ok place)) (append_assoc front (lexeme ∷ []) more)
    ∙ run.runs (lexeme ∷ more) (Ok place)
    ∙ ap (with_front statements) (step_run state lexeme more (Ok place) does))
    viable.2) (expects run) refl)

claims : (lexemes : List Lexeme) (ending : Ending) → Claim lexemes ending
claims [] ending = end_claim ending
claims (lexeme ∷ lexemes) ending = λ statements whole state had run.
    by_step lexeme lexemes ending (claims lexemes ending) run (step state lexeme) refl (makes state had lexeme run.is)

-- what a stream of lexemes gives is a reading of it
pub sound : (stream : Stream) → IsReading stream (parsed_from Outside stream)
sound stream =
    subst (IsReading stream) (sym (with_front-none (parsed_from Outside stream)))
    (claims stream.lexemes stream.ending [] [] Outside []
    record { spells = refl; is = refl; runs = λ rest e. with_front-none (parsed Outside rest e) })
