use Rattle.std.proofs.Common.{◌≡◌, ◌<◌, length, sym, subst}
use Rattle.live_board.specs.{Histories.made_by, Boards.LiveView, Boards.decision, Boards.replied}
use Rattle.live_board.proofs.StateLemmas.{decided_by, keeps_more}
use Rattle.live_board.proofs.state.LiveState.keep.Goals as goal

pub apply-requires-clause-decided : goal.apply-requires-clause-decided
apply-requires-clause-decided c =
    let is = subst (λ (s : LiveView). c.args.made.now ≡ replied c.args.call.now (decision s c.args.call.now))
    (sym c.self.view_is) c.requires.decided in
    decided_by c.args.call.now c.self.invariant is

pub invariant_of-self : goal.invariant_of-self
invariant_of-self c =
    let call = c.args.call.now in
    let is = subst (λ (s : LiveView). c.args.made.now ≡ replied call (decision s call)) (sym c.self.view_is)
    c.requires.decided in
    let at = subst (λ (s : LiveView). call.place ≡ length (made_by call.pass s.history)) (sym c.self.view_is)
    c.requires.place in
    let room = subst (λ (s : LiveView). length s.history < s.setup.room) (sym c.self.view_is) c.requires.room in
    rw (c.apply.ensures, c.push_reserved.ensures.items, c.push_reserved.ensures.capacity)
    (keeps_more call c.self.invariant is at room)
