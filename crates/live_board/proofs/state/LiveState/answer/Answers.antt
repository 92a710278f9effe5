use Rattle.std.proofs.Common.{◌<◌, length, ap, arith}
use Rattle.live_board.specs.declared.entry.LiveEntry.{LiveEntry}
use Rattle.live_board.specs.declared.entry.Answer.TheVariants.{Answered}
use Rattle.live_board.proofs.HistoryLemmas.{answered_live, made_by-few}
use Rattle.live_board.proofs.state.LiveState.answer.Goals as goal

pub returns-clause-live : goal.returns-clause-live
returns-clause-live c =
    let state = c.args.self.now in
    let room : length state.history < state.setup.room = c.is_full.ensures.room c.if-is_full.false in
    answered_live c.args.call.now (Answered c.decided-made.result.entry.reply) c.is_full.ensures.live c.requires.place
    (ap (λ (made : LiveEntry). made.entry.reply) c.decided-made.ensures, room)

pub returns-clause-low : goal.returns-clause-low
returns-clause-low c =
    let state = c.args.self.now in
    let room : length state.history < state.setup.room = c.is_full.ensures.room c.if-is_full.false in
    let few = made_by-few c.args.call.now.pass c.args.self.now.history in
    let limit = c.is_full.ensures.live.limit in
    let at = c.requires.place in
    omega arith
