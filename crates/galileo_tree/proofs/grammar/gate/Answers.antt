use Rattle.std.proofs.Common.{◌≡◌, false, [], length, refl, sym, ap, ◌∙◌, arith}
use Rattle.std.specs.Prelude.{◌&&◌}
use Rattle.galileo_tree.specs.{Lexeme.is_equals, Lexeme.is_bare, Reads.before}
use Rattle.galileo_tree.specs.Parsed.{GateWord, Inputs, AttributeEquals, parsed_from}
use Rattle.galileo_tree.proofs.LexemeKinds.{equals_alone}
use Rattle.galileo_tree.proofs.Parses.{fails_after, goes_by, inputs_begin, reads_after}
use Rattle.galileo_tree.proofs.grammar.gate.Goals as goal
use Rattle.galileo_tree.proofs.grammar.gate.Goals.{After-new, else-is_equals-via-else-is_equals}
use Rattle.galileo_tree.proofs.grammar.gate.Goals.{else-is_equals-via-then-is_equals+else-is_bare}

-- the gate word was the word of an attribute
pub returns-then-is_bare : goal.returns-then-is_bare
returns-then-is_bare c =
    let word = c.args.word.now in
    let first = GateWord c.args.name word c.args.kind in
    let alone = equals_alone c.in_ok-lexeme.lexeme (sym c.if-is_equals.ensures) in
    let goes = goes_by {state = first} (AttributeEquals c.args.name [] word.text) c.in_ok-lexeme.ensures
    (rw (alone.0, alone.1, sym c.if-is_equals.ensures, sym c.if-is_bare.ensures.bare) refl) in
    reads_after _ goes _ c.values.ensures

-- it was the word of a gate, whose inputs begin
begins : (c : After-new) → parsed_from (GateWord c.args.name c.args.word.now c.args.kind) c.args.reader.now
    ≡ parsed_from (Inputs c.args.name c.place.result c.args.kind c.new.result)
    (before c.in_ok-lexeme.lexeme c.want.new.self)
begins c =
    let word = c.args.word.now in
    let lexeme = c.in_ok-lexeme.lexeme in
    let none : (is_equals lexeme && is_bare word) ≡ false =
    elim c.else-is_equals.branch [
      | else-is_equals-via-then-is_equals+else-is_bare w ↦
          rw (sym w.if-is_equals.ensures, sym w.if-is_bare.ensures.bare) refl
      | else-is_equals-via-else-is_equals w ↦ rw (sym w.if-is_equals.ensures) refl
    ] in
    rw (c.place.ensures, c.new.ensures) (inputs_begin c.args.name word c.args.kind c.in_ok-lexeme.ensures none)

pub returns-in-Ok : goal.returns-in-Ok
returns-in-Ok c =
    let read = c.in-Ok.ensures in
    record {
      same = begins (goal.at.returns-in-Ok c).After-new ∙ read.same;
      fewer = omega (arith, read.fewer, ap length c.in_ok-lexeme.ensures.first);
    }

pub returns-in-Err : goal.returns-in-Err
returns-in-Err c = fails_after (begins (goal.at.returns-in-Err c).After-new) c.in-Err.fault c.in-Err.ensures
