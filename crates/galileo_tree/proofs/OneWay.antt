-- Lexemes have one reading.
use Rattle.std.proofs.Common.{◌≡◌, List, [], ◌∷◌, ◌++◌, Result, Ok, Err, refl, sym, ap, ◌∙◌, subst, append_assoc}
use Rattle.std.specs.List.{flat_map}
use Rattle.std.proofs.lemmas.List.{append-nil}
use Rattle.fault_words.specs.declared.kind.GateKind.{GateKind}
use Rattle.galileo_lexer.specs.{declared.token.LexPlace.LexPlace, declared.token.LexFault.LexFault}
use Rattle.galileo_tree.specs.{declared.raw.Placed.Placed, declared.raw.Statement.Statement, declared.fault.What.What}
use Rattle.galileo_tree.specs.{declared.fault.ParseFault.ParseFault, ReadTree.ReadTree}
use Rattle.galileo_tree.specs.declared.fault.What.TheVariants as what
use Rattle.galileo_tree.specs.declared.fault.ParseFault.TheVariants.{Lex, Expected, NoMemory}
use Rattle.galileo_tree.specs.Lexeme.{Lexeme, Stream, placed, place_at}
use Rattle.galileo_tree.specs.Parsed.{Outside, Defined, GateWord, parsed, parsed_from}
use Rattle.galileo_tree.specs.Grammar.{lexemes_in, SpellsAll, IsViable, Stands, at_start, behind_top_word}
use Rattle.galileo_tree.specs.Grammar.{behind_top_name, behind_name, behind_first_word, behind_inputs, behind_equals}
use Rattle.galileo_tree.specs.Grammar.{behind_value, behind_next_word, Expects, IsFirstFault, at_lexeme, at_end}
use Rattle.galileo_tree.specs.Grammar.{at_token, IsReading}
use Rattle.galileo_tree.proofs.{LexemeKinds.bare_alone, LexemeKinds.said_alone, Parses.with_front, Sound.sound}
use Rattle.galileo_tree.proofs.Complete.{inputs_state, inputs_run, attributes_run, word_equals_run, all_run}

-- ---- what is expected is one thing

-- the row in which reading ends
abbrev row_of : Result ReadTree ParseFault → What
row_of (Ok tree) = what.Statement
row_of (Err (Expected wanted place)) = wanted
row_of (Err (Lex fault)) = what.Statement
row_of (Err NoMemory) = what.Statement

abbrev somewhere : Result LexPlace LexFault
somewhere = Ok (record { line = 1; column = 1 })

-- the row behind these lexemes
abbrev row_behind : List Lexeme → What
row_behind lexemes = row_of (parsed Outside lexemes somewhere)

row-front : (statements : List Statement) (read : Result ReadTree ParseFault)
    → row_of (with_front statements read) ≡ row_of read
row-front statements (Ok tree) = refl
row-front statements (Err (Expected wanted place)) = refl
row-front statements (Err (Lex fault)) = refl
row-front statements (Err NoMemory) = refl

inputs_row : (name : Placed) (word : Lexeme) (kind : GateKind) (inputs : List Lexeme) →
    row_of (parsed (inputs_state name word kind inputs) [] somewhere) ≡ what.Input
inputs_row name word kind [] = refl
inputs_row name word kind (input ∷ inputs) = refl

stands_row : (open_part : List Lexeme) {wanted : What} → Stands open_part wanted → row_behind open_part ≡ wanted
stands_row open_part (at_start is wants) = rw (is, wants) refl
stands_row open_part (behind_top_word word is top wants) = rw (is, wants, top) refl
stands_row open_part (behind_top_name word name is top named wants) = rw (is, wants, top, named) refl
stands_row open_part (behind_name name is defined wants) = rw (is, wants, defined.no_top, defined.named) refl
stands_row open_part (behind_first_word name word is defined bare said wants) =
    rw (is, wants, defined.no_top, defined.named, bare_alone word bare, said, bare) refl
stands_row open_part (behind_inputs name word kind inputs is defined said named wants) =
    rw (is, wants, defined.no_top, defined.named, said_alone word kind said, said)
    (ap row_of (ap (λ l. parsed (GateWord (placed name) word kind) l somewhere) (sym (append-nil inputs))
    ∙ inputs_run (placed name) word kind inputs [] somewhere named)
    ∙ inputs_row (placed name) word kind inputs)
stands_row open_part (behind_equals name attributes word equals is defined each bare equal wants) =
    rw (is, wants, defined.no_top, defined.named)
    (ap row_of (attributes_run (placed name) attributes (word ∷ equals ∷ []) somewhere each
    ∙ word_equals_run (placed name) attributes word equals [] somewhere bare equal))
stands_row open_part (behind_value name first attributes is defined each wants) =
    rw (is, wants, defined.no_top, defined.named)
    (ap row_of (ap (λ l. parsed (Defined (placed name)) l somewhere)
    (sym (append-nil (flat_map lexemes_in (first ∷ attributes))))
    ∙ attributes_run (placed name) (first ∷ attributes) [] somewhere each))
stands_row open_part (behind_next_word name first attributes word is defined each bare wants) =
    rw (is, wants, defined.no_top, defined.named)
    (ap row_of (attributes_run (placed name) (first ∷ attributes) (word ∷ []) somewhere each)
    ∙ rw (bare_alone word bare, bare) refl)

expects_row : {before : List Lexeme} {wanted : What} → Expects before wanted → row_behind before ≡ wanted
expects_row expects =
    let statements = expects.0 in
    let whole = expects.1 in
    let open_part = expects.2 in
    ap row_behind expects.3
    ∙ ap row_of (all_run statements whole open_part somewhere expects.4)
    ∙ row-front statements (parsed Outside open_part somewhere)
    ∙ stands_row open_part expects.5

one_wanted : {before : List Lexeme} {first second : What} → Expects before first → Expects before second
    → first ≡ second
one_wanted a b = sym (expects_row a) ∙ expects_row b

-- ---- the first fault is one

-- two ways to cut a list at an item
data Meets (front : List Lexeme) (lexeme : Lexeme) (other_front : List Lexeme) (other : Lexeme) : Type 0 where
  same_place : front ≡ other_front → lexeme ≡ other → Meets front lexeme other_front other
  earlier : (middle : List Lexeme) → other_front ≡ front ++ lexeme ∷ middle → Meets front lexeme other_front other
  later : (middle : List Lexeme) → front ≡ other_front ++ other ∷ middle → Meets front lexeme other_front other

one_more : {x y : Lexeme} {front : List Lexeme} {lexeme : Lexeme} {other_front : List Lexeme} {other : Lexeme} → x ≡ y →
    Meets front lexeme other_front other → Meets (x ∷ front) lexeme (y ∷ other_front) other
one_more {x} {other_front} same (same_place fronts items) =
    same_place (ap (λ l. x ∷ l) fronts ∙ ap (λ z. z ∷ other_front) same) items
one_more {x} {other_front} same (earlier middle is) =
    earlier middle (ap (λ z. z ∷ other_front) (sym same) ∙ ap (λ l. x ∷ l) is)
one_more {y} {front} same (later middle is) = later middle (ap (λ z. z ∷ front) same ∙ ap (λ l. y ∷ l) is)

meets : (front : List Lexeme) {lexeme : Lexeme} (back other_front : List Lexeme) {other : Lexeme}
    (other_back : List Lexeme) →
    front ++ lexeme ∷ back ≡ other_front ++ other ∷ other_back → Meets front lexeme other_front other
meets [] {lexeme} back [] {other} other_back same = let heads : lexeme ≡ other = cc in same_place refl heads
meets [] {lexeme} back (y ∷ other_front) other_back same =
    let heads : y ≡ lexeme = cc in earlier other_front (ap (λ z. z ∷ other_front) heads)
meets (x ∷ front) back [] {other} other_back same =
    let heads : x ≡ other = cc in later front (ap (λ z. z ∷ front) heads)
meets (x ∷ front) {lexeme} back (y ∷ other_front) {other} other_back same =
    let heads : x ≡ y = cc in
    let tails : front ++ lexeme ∷ back ≡ other_front ++ other ∷ other_back = cc in
    one_more heads (meets front back other_front other_back tails)

-- a front of a viable list is viable
viable_front : (front back : List Lexeme) → IsViable (front ++ back) → IsViable front
viable_front front back viable =
    (back ++ viable.0, viable.1, subst (SpellsAll viable.1) (append_assoc front back viable.0) viable.2)

viable_at : {lexemes : List Lexeme} (front : List Lexeme) (lexeme : Lexeme) (back : List Lexeme)
    → lexemes ≡ front ++ lexeme ∷ back
    → IsViable lexemes → IsViable (front ++ lexeme ∷ [])
viable_at front lexeme back is viable =
    viable_front (front ++ lexeme ∷ []) back (subst IsViable (is ∙ sym (append_assoc front (lexeme ∷ []) back)) viable)

spelled_viable : (lexemes : List Lexeme) (statements : List Statement) → SpellsAll statements lexemes → IsViable lexemes
spelled_viable lexemes statements spells =
    ([], statements, subst (SpellsAll statements) (sym (append-nil lexemes)) spells)

same_lexeme : {front : List Lexeme} {lexeme : Lexeme} {wanted : What} {other_front : List Lexeme} {other : Lexeme}
    {other_wanted : What} →
    IsViable front → (IsViable (front ++ lexeme ∷ []) → ⊥) → Expects front wanted →
    IsViable other_front → (IsViable (other_front ++ other ∷ []) → ⊥) → Expects other_front other_wanted →
    Meets front lexeme other_front other → Expected wanted lexeme.place ≡ Expected other_wanted other.place
same_lexeme {lexeme} {wanted} {other_wanted} _ _ expects _ _ other_expects (same_place fronts items) =
    let wants : wanted ≡ other_wanted = one_wanted (subst (λ l. Expects l wanted) fronts expects) other_expects in
    ap (λ w. Expected w lexeme.place) wants ∙ ap (λ (l : Lexeme). Expected other_wanted l.place) items
same_lexeme {front} {lexeme} _ stops _ other_viable _ _ (earlier middle is) =
    absurd (stops (viable_at front lexeme middle is other_viable))
same_lexeme {other_front} {other} viable _ _ _ other_stops _ (later middle is) =
    absurd (other_stops (viable_at other_front other middle is viable))

one_fault : {stream : Stream} {first second : ParseFault} → IsFirstFault stream first → IsFirstFault stream second
    → first ≡ second
one_fault (at_lexeme front lexeme back wanted is viable stops expects fault)
    (at_lexeme other_front other other_back other_wanted other_is other_viable other_stops other_expects other_fault) =
    fault
    ∙ same_lexeme viable stops expects other_viable other_stops other_expects
    (meets front back other_front other_back (sym is ∙ other_is))
    ∙ sym other_fault
one_fault (at_lexeme front lexeme back _ is _ stops _ _) (at_end _ _ _ whole_viable _ _ _) =
    absurd (stops (viable_at front lexeme back is whole_viable))
one_fault (at_lexeme front lexeme back _ is _ stops _ _) (at_token _ _ whole_viable _) =
    absurd (stops (viable_at front lexeme back is whole_viable))
one_fault (at_end _ _ _ whole_viable _ _ _) (at_lexeme front lexeme back _ is _ stops _ _) =
    absurd (stops (viable_at front lexeme back is whole_viable))
one_fault (at_end place wanted ends whole_viable unspelled expects fault)
    (at_end other_place other_wanted other_ends other_viable other_unspelled other_expects other_fault) =
    let wants : wanted ≡ other_wanted = one_wanted expects other_expects in
    let places : place ≡ other_place = cc in
    fault ∙ ap (λ w. Expected w (place_at place)) wants ∙ ap (λ p. Expected other_wanted (place_at p)) places
    ∙ sym other_fault
one_fault (at_end _ _ ends _ _ _ _) (at_token _ other_ends _ _) = absurd (cc)
one_fault (at_token _ _ whole_viable _) (at_lexeme front lexeme back _ is _ stops _ _) =
    absurd (stops (viable_at front lexeme back is whole_viable))
one_fault (at_token _ ends _ _) (at_end _ _ other_ends _ _ _ _) = absurd (cc)
one_fault (at_token found ends _ fault) (at_token other_found other_ends _ other_fault) =
    let founds : found ≡ other_found = cc in
    fault ∙ ap Lex founds ∙ sym other_fault

-- a text that is spelled has no fault
spelled_whole : {stream : Stream} (tree : ReadTree) {fault : ParseFault} → IsReading stream (Ok tree)
    → IsFirstFault stream fault → ⊥
spelled_whole {stream} tree reads (at_lexeme front lexeme back _ is _ stops _ _) =
    stops (viable_at front lexeme back is (spelled_viable stream.lexemes tree.statements reads.0))
spelled_whole tree reads (at_end _ _ _ _ unspelled _ _) = unspelled tree.statements reads.0
spelled_whole tree reads (at_token _ ends _ _) = let whole = reads.2 in absurd (cc)

faulty_read : {stream : Stream} {fault : ParseFault} (read : Result ReadTree ParseFault) → IsFirstFault stream fault
    → IsReading stream read → read ≡ Err fault
faulty_read (Ok tree) is reads = absurd (spelled_whole tree reads is)
faulty_read (Err other) is reads = ap (λ f. let r : Result ReadTree ParseFault = Err f in r) (one_fault reads is)

spelled_read : (stream : Stream) (tree : ReadTree) → IsReading stream (Ok tree) → parsed_from Outside stream ≡ Ok tree
spelled_read stream tree reads =
    let place = reads.1 in
    ap (λ l. parsed Outside l stream.ending) (sym (append-nil stream.lexemes))
    ∙ all_run tree.statements stream.lexemes [] stream.ending reads.0
    ∙ ap (λ e. with_front tree.statements (parsed Outside [] e)) reads.2
    ∙ ap (λ s. let r : Result ReadTree ParseFault = Ok (record { statements = s; end = place_at place }) in r)
    (append-nil tree.statements)
    ∙ ap (λ e. let r : Result ReadTree ParseFault = Ok (record { statements = tree.statements; end = e }) in r)
    (sym reads.3)

-- lexemes are read in one way
pub one_way : (stream : Stream) (read : Result ReadTree ParseFault) → IsReading stream read
    → parsed_from Outside stream ≡ read
one_way stream (Ok tree) reads = spelled_read stream tree reads
one_way stream (Err fault) reads = faulty_read (parsed_from Outside stream) reads (sound stream)
