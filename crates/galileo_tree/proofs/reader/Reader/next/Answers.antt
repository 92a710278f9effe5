use Rattle.std.proofs.Common.{subst}
use Rattle.galileo_tree.specs.{Lexeme.Stream, Reads.Nexts}
use Rattle.galileo_tree.proofs.Tokens.{stream_of, nexts_token, nexts_none, nexts_fault}
use Rattle.galileo_tree.proofs.reader.Reader.next.Goals as goal
use Rattle.galileo_tree.proofs.reader.Reader.next.Goals.{in-Ok-Some, in-Ok-None, in-Err}

pub returns : goal.returns
returns c =
    let text = c.self.inside.text.now in
    let old = c.self.inside.lexer in
    let new = c.next.new.self in
    subst (λ (s : Stream). Nexts s c.match-next.result (stream_of text new)) c.self.view_is
    (elim c.match-next.branch [
      | in-Ok-Some w ↦
          rw (w.result-is, w.lexeme.ensures)
          (nexts_token text old w.in-Ok-Some.token (rw w.in-Ok-Some.field-0-is at w.in-Ok-Some.ensures.answer)
          c.next.ensures.rest)
      | in-Ok-None w ↦
          rw w.result-is
          (nexts_none text old (rw w.in-Ok-None.field-0-is at w.in-Ok-None.ensures.answer) c.next.ensures.rest)
      | in-Err w ↦ rw w.result-is (nexts_fault text old new w.in-Err.fault w.in-Err.ensures.answer)
    ])
