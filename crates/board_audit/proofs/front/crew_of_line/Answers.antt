use Rattle.std.proofs.Common.{ap, ◌∙◌}
use Rattle.outage_board.specs.Requests.{crew_from}
use Rattle.board_audit.proofs.FrontLemmas.{crew_by_front}
use Rattle.board_audit.proofs.front.crew_of_line.Goals as goal

pub returns-in_err-rest-clause-crew : goal.returns-in_err-rest-clause-crew
returns-in_err-rest-clause-crew c =
    c.from_residual.ensures
    ∙ crew_by_front c.args.dockets.now c.args.number c.args.text.now c.new-part.result c.pass_number.new.part
    c.pass.new.self c.new-part.ensures c.pass_number.ensures c.pass.ensures c.in_err-rest.ensures

pub returns-clause-crew : goal.returns-clause-crew
returns-clause-crew c =
    c.crew_named.ensures.crew ∙ ap (crew_from 0 c.args.dockets.now) c.front_name.ensures
    ∙ crew_by_front c.args.dockets.now c.args.number c.args.text.now c.new-part.result c.pass_number.new.part
    c.pass.new.self c.new-part.ensures c.pass_number.ensures c.pass.ensures c.in_ok-rest.ensures
