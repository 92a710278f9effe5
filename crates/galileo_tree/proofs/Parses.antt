-- Steps of the parser, one after the other.
use Rattle.std.proofs.Common.{◌≡◌, List, [], ◌∷◌, ◌++◌, length, Result, Ok, Err, refl, sym, ap, ◌∙◌, subst, arith}
use Rattle.std.proofs.Common.{append_assoc}
use Rattle.galileo_tree.specs.{declared.raw.Statement.Statement, declared.fault.ParseFault.ParseFault}
use Rattle.galileo_tree.specs.{declared.fault.ParseFault.TheVariants.Expected, declared.raw.Placed.Placed}
use Rattle.galileo_tree.specs.{declared.raw.RawGate.RawGate, ReadTree.ReadTree, declared.raw.RawBasic.RawBasic}
use Rattle.galileo_tree.specs.{declared.raw.Statement.TheVariants.Basic}
use Rattle.std.specs.Prelude.{None, ◌&&◌, if◌then◌else◌, Bool, true, false}
use Rattle.fault_words.specs.declared.kind.GateKind.{GateKind}
use Rattle.galileo_tree.specs.declared.fault.What.TheVariants as what
use Rattle.galileo_tree.specs.Lexeme.{Lexeme, Stream, is_equals, is_semicolon, is_bare, is_name, placed}
use Rattle.galileo_tree.specs.Parsed.{State, Outside, GateWord, Inputs, AttributeEquals, Attributes, On, Whole, Stop}
use Rattle.galileo_tree.specs.Parsed.{step, expected, proceed, parsed, parsed_from, with_statement, gate_of}
use Rattle.galileo_tree.specs.Reads.{TakesFirst, GoesOn, Reads, Closes, FailsAs, NextWord, ReadsInputs, with_input}
use Rattle.galileo_tree.specs.Reads.{before}
use Rattle.galileo_tree.proofs.LexemeKinds.{name_alone}

-- a lexeme that was taken does its step
pub taken : (state : State) {old new : Stream} {lexeme : Lexeme} → TakesFirst old lexeme new →
    parsed_from state old ≡ proceed (step state lexeme) (Expected (expected state) lexeme.place)
    (λ later. parsed_from later new)
taken state {old} {new} {lexeme} takes =
    ap (λ lexemes. parsed state lexemes old.ending) takes.first
    ∙ ap (λ ending. parsed state (lexeme ∷ new.lexemes) ending) (sym takes.same_ending)

pub goes_by : {state : State} (later : State) {old new : Stream} {lexeme : Lexeme} → TakesFirst old lexeme new →
    step state lexeme ≡ On later → GoesOn state old later new
goes_by {state} later {new} {lexeme} takes does = record {
  same =
      taken state takes ∙ ap (λ s. proceed s (Expected (expected state) lexeme.place)
      (λ next. parsed_from next new)) does;
  fewer = omega (arith, ap length takes.first);
}

pub goes_then : {first second third : State} {old middle new : Stream} → GoesOn first old second middle
    → GoesOn second middle third new → GoesOn first old third new
goes_then a b = record { same = a.same ∙ b.same; fewer = omega arith }

-- statements in front of what is read behind them
abbrev pub with_front : List Statement → Result ReadTree ParseFault → Result ReadTree ParseFault
with_front front (Ok tree) = Ok (record { statements = front ++ tree.statements; end = tree.end })
with_front front (Err fault) = Err fault

pub with_front-push : (front : List Statement) (statement : Statement) (read : Result ReadTree ParseFault) →
    with_front front (with_statement statement read) ≡ with_front (front ++ statement ∷ []) read
with_front-push front statement (Ok tree) =
    ap (λ all. let t : Result ReadTree ParseFault = Ok (record { statements = all; end = tree.end }) in t)
    (sym (append_assoc front (statement ∷ []) tree.statements))
with_front-push front statement (Err fault) = refl

pub with_front-none : (read : Result ReadTree ParseFault) → read ≡ with_front [] read
with_front-none (Ok tree) = refl
with_front-none (Err fault) = refl

-- a lexeme that was taken may be put back
pub put_back : (state : State) {old new : Stream} {lexeme : Lexeme} → TakesFirst old lexeme new →
    parsed_from state old ≡ parsed_from state (before lexeme new)
put_back state {old} {new} {lexeme} takes =
    ap (λ lexemes. parsed state lexemes old.ending) takes.first
    ∙ ap (λ ending. parsed state (lexeme ∷ new.lexemes) ending) (sym takes.same_ending)

-- what is read behind a step is what is read from the step on
pub fails_after : {read then_read : Result ReadTree ParseFault} → read ≡ then_read → (fault : ParseFault)
    → FailsAs fault then_read → FailsAs fault read
fails_after same fault fails = subst (FailsAs fault) (sym same) fails

pub reads_after : {first second : State} {old middle : Stream} (new : Stream) → GoesOn first old second middle
    → (result : Result Statement ParseFault) →
    Reads second middle result new → Reads first old result new
reads_after new goes (Ok statement) reads =
    record { same = goes.same ∙ reads.same; fewer = omega arith }
reads_after new goes (Err fault) reads = fails_after goes.same fault reads

-- the last value of a basic event's attributes, and then the end
pub closes_basic : {first : State} {old : Stream} (middle : Stream) {new : Stream} (basic : RawBasic)
    → GoesOn first old (Attributes basic.name basic.attributes) middle →
    NextWord basic.name basic.attributes middle (Ok None) new → Closes first old (Basic basic) new
closes_basic middle basic goes next =
    record { same = goes.same ∙ next.0; fewer = omega (arith, goes.fewer, next.1) }

-- a gate word, and behind it no `=` of an attribute: its inputs begin
no_attribute : (equals bare : Bool) (later : State) → (equals && bare) ≡ false
    → (if equals then (if bare then On later else Stop) else Stop) ≡ Stop
no_attribute true true later none = absurd cc
no_attribute true false later none = refl
no_attribute false bare later none = refl

pub inputs_begin : (name : Placed) (word : Lexeme) (kind : GateKind) {old new : Stream} {lexeme : Lexeme}
    → TakesFirst old lexeme new → (is_equals lexeme && is_bare word) ≡ false
    → parsed_from (GateWord name word kind) old ≡ parsed_from (Inputs name word.place kind []) (before lexeme new)
inputs_begin name word kind {new} {lexeme} takes none =
    taken (GateWord name word kind) takes
    ∙ ap (λ s. proceed (if is_semicolon lexeme then Whole (gate_of name word.place kind [])
    else (if is_name lexeme then On (Inputs name word.place kind (placed lexeme ∷ [])) else s))
    (Expected what.Input lexeme.place) (λ later. parsed_from later new))
    (no_attribute (is_equals lexeme) (is_bare word) (AttributeEquals name [] word.text) none)

-- the first input of a gate, and then the others
input_goes : (gate : RawGate) (stream : Stream) (lexeme : Lexeme) → is_name lexeme ≡ true
    → GoesOn (Inputs gate.name gate.word gate.kind gate.inputs) (before lexeme stream)
    (Inputs gate.name gate.word gate.kind (gate.inputs ++ placed lexeme ∷ [])) stream
input_goes gate stream lexeme named =
    goes_by _ {lexeme = lexeme}
    (record { first = refl; same_ending = refl }) (rw (name_alone lexeme named, named) refl)

pub inputs_after : {A : Type 0} (gate whole : RawGate) (stream new : Stream) (lexeme : Lexeme)
    (result : Result A ParseFault) → is_name lexeme ≡ true
    → ReadsInputs (with_input lexeme gate) stream result whole new
    → ReadsInputs gate (before lexeme stream) result whole new
inputs_after gate whole stream new lexeme (Ok x) named reads =
    let goes = input_goes gate stream lexeme named in
    record { same = goes.same ∙ reads.same; fewer = omega (arith, goes.fewer, reads.fewer) }
inputs_after gate whole stream new lexeme (Err fault) named reads =
    fails_after (input_goes gate stream lexeme named).same fault reads

-- a statement that was read stands behind those before it
pub front_grows : {all : Result ReadTree ParseFault} (front : List Statement) {old middle new : Stream}
    {lexeme : Lexeme} {statement : Statement} →
    all ≡ with_front front (parsed_from Outside old) → TakesFirst old lexeme middle
    → Closes Outside (before lexeme middle) statement new →
    all ≡ with_front (front ++ statement ∷ []) (parsed_from Outside new)
front_grows front {new} {statement} same takes closes =
    same
    ∙ ap (with_front front) (put_back Outside takes ∙ closes.same)
    ∙ with_front-push front statement (parsed_from Outside new)
