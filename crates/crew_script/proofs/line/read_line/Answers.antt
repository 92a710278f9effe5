use Rattle.std.proofs.Common.{sym, ap, ◌∙◌}
use Rattle.std.proofs.lemmas.Result.{IfOk-weaker}
use Rattle.crew_script.specs.Lines.{line_of}
use Rattle.crew_script.proofs.NameLemmas.{request_step}
use Rattle.crew_script.proofs.line.read_line.Goals as goal

pub returns-else-says : goal.returns-else-says
returns-else-says c =
    let first = sym c.next.ensures.word ∙ c.in-Some.is in
    let behind = c.next.ensures.rest in
    let comment = sym c.is_comment.ensures ∙ c.if-is_comment.false in
    let crew = sym c.says.ensures ∙ c.if-says.false in
    IfOk-weaker c.request.result _ _ (λ line is. is ∙ request_step _ _ first behind comment crew
    ∙ ap line_of c.new-words.ensures) c.request.ensures
