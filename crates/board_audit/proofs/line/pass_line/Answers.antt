use Rattle.std.proofs.Common.{◌≡◌, subst}
use Rattle.std.specs.Prelude.{decimal}
use Rattle.crew_script.specs.Dockets.{crew_at, ask_at}
use Rattle.text_pieces.specs.Shown.{named}
use Rattle.board_report.specs.LogText.{ask_text, reply_text}
use Rattle.board_audit.specs.Pieces.{past}
use Rattle.board_audit.proofs.PieceLemmas.{line_past}
use Rattle.board_audit.proofs.line.pass_line.Goals as goal

pub returns : goal.returns
returns c =
    let crews = c.args.dockets.now in
    let entry = c.args.entry.now in
    line_past c.args.part.now (decimal c.args.number) (named (crew_at crews entry.crew.0).name)
    (ask_text (ask_at crews entry.crew.0 entry.place)) (reply_text crews entry.reply) c.pass_number.ensures
    (subst (λ name. c.pass_named.new.part ≡ past (named name) c.pass_number.new.part) c.crew_name.ensures
    c.pass_named.ensures)
    (subst (λ ask. c.pass_ask.new.part ≡ past (ask_text ask) c.pass_named.new.part) c.ask.ensures.ask
    c.pass_ask.ensures) c.pass.ensures c.pass_reply.ensures c.pass-2.ensures
