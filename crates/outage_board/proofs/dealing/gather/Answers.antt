use Rattle.std.proofs.Common.{◌∙◌, ap}
use Rattle.outage_board.proofs.StepLemmas.{allows_join}
use Rattle.outage_board.proofs.dealing.gather.Goals as goal

pub join_seat-requires : goal.join_seat-requires
join_seat-requires c =
    let place = c.args.place.now in
    let other = c.pass.inside.seat in (
      c.requires.own,
      ap (λ p. p.board.table) c.pass.view_is ∙ ap (λ b. b.table) c.requires.pass,
      c.pass.invariant.0.holds_none,
      c.requires.word,
      allows_join c.args.words.now.key c.requires.place.opened c.requires.place.turn c.pass.invariant.0.turn,
    )
