use Rattle.std.proofs.Common.{◌<◌, ◌≤◌, length, arith}
use Rattle.std.specs.List.{position_or_len}
use Rattle.std.proofs.{lemmas.Grind.common_steps, lemmas.List.Splits.slice_split_first}
use Rattle.crew_script.specs.Deck.{is_feed}
use Rattle.crew_script.proofs.LineLemmas.{line_whole}
use Rattle.crew_script.proofs.text_lines.TextLines.next.Goals as goal

pub returns-then-end-rest : goal.returns-then-end-rest
returns-then-end-rest c =
    let text = c.in_ok-rest.rest.now in
    let place = c.place_of-end.ensures.place in
    let feeds : position_or_len is_feed text < length text = omega (arith, place) in
    let cut = slice_split_first is_feed text 0 feeds in
    grind (arith, common_steps, cut, place, c.self.view_is, c.in_ok-rest.was)

pub returns-else-end-rest : goal.returns-else-end-rest
returns-else-end-rest c =
    let text = c.in_ok-rest.rest.now in
    let place = c.place_of-end.ensures.place in
    let none : length text ≤ position_or_len is_feed text = omega (arith, place) in
    let whole = line_whole text none in
    grind (arith, common_steps, whole, c.self.view_is, c.in_ok-rest.was)
