use Rattle.live_board.proofs.{StepLemmas.allows_unite, TurnLemmas.united_idle, TurnLemmas.has_joined}
use Rattle.live_board.proofs.sharing.unite.Goals as goal

pub join_seat-requires : goal.join_seat-requires
join_seat-requires c = (
  c.requires.own,
  c.requires.its,
  c.requires.may_it.holds_none,
  c.requires.word,
  allows_unite c.args.words.now.key c.requires.may.of c.requires.may.turn c.requires.may_it.turn,
)

pub look-requires-clause-may : goal.look-requires-clause-may
look-requires-clause-may c = united_idle c.args.other.me.0 c.requires.may c.join_seat.ensures.2

pub returns-clause-joined : goal.returns-clause-joined
returns-clause-joined c = has_joined c.join_seat.ensures.2 c.look.ensures.looked
