use Rattle.std.proofs.Common.{◌≡◌, ◌<◌, length, get_or, sym, subst, arith}
use Rattle.std.specs.Prelude.{Some}
use Rattle.std.proofs.lemmas.List.{get_or_read}
use Rattle.outage_board.specs.Boards.{BoardView, next_entry}
use Rattle.outage_board.proofs.BoardLemmas.{has_room, keeps_next}
use Rattle.outage_board.proofs.state.BoardState.keep.Goals as goal

pub push_reserved-requires : goal.push_reserved-requires
push_reserved-requires c =
    let entry = c.args.entry.now in
    let within = subst (λ (b : BoardView). entry.crew.0 < length b.deck.crews) (sym c.self.view_is) c.requires.crew in
    let is = subst (λ (b : BoardView). next_entry b entry.crew ≡ Some entry) (sym c.self.view_is) c.requires.next in
    let room = has_room entry c.self.invariant within is in
    omega arith

pub invariant_of-self : goal.invariant_of-self
invariant_of-self c =
    let entry = c.args.entry.now in
    let places = c.self.inside.places.items in
    let within = subst (λ (b : BoardView). entry.crew.0 < length b.deck.crews) (sym c.self.view_is) c.requires.crew in
    let is = subst (λ (b : BoardView). next_entry b entry.crew ≡ Some entry) (sym c.self.view_is) c.requires.next in
    let kept = c.self.invariant in
    let low : entry.crew.0 < length places = let all = kept.all in let both = kept.sound.all in omega (arith, within) in
    let at : c.index_mut.result.now ≡ get_or places entry.crew.0 0 =
    get_or_read places entry.crew.0 c.index_mut.result.now low c.index_mut.ensures.value 0 in
    rw (c.apply.ensures, c.push_reserved.ensures.items, c.push_reserved.ensures.capacity, at)
    (keeps_next entry kept within is)
