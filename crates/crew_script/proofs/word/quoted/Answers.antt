use Rattle.std.proofs.Common.{◌<◌, ◌≤◌, [], length, arith}
use Rattle.std.specs.List.{position_or_len}
use Rattle.std.proofs.lemmas.Grind.{common_steps}
use Rattle.crew_script.specs.Words.{is_quote}
use Rattle.crew_script.proofs.WordLemmas.{quoted_on, quoted_open}
use Rattle.crew_script.proofs.word.quoted.Goals as goal

pub returns-then-end-bytes : goal.returns-then-end-bytes
returns-then-end-bytes c =
    let bytes = c.args.bytes.now in
    let place = c.place_of-end.ensures.place in
    let within : position_or_len is_quote bytes < length bytes = omega (arith, place) in
    let closes = quoted_on [] bytes within in
    grind (arith, common_steps, closes, place, c.closed.ensures)

pub returns-else-end-bytes : goal.returns-else-end-bytes
returns-else-end-bytes c =
    let bytes = c.args.bytes.now in
    let none : length bytes ≤ position_or_len is_quote bytes = omega (arith, c.place_of-end.ensures.place) in
    let open_word = quoted_open [] bytes none in
    grind (arith, common_steps, open_word, c.broken.ensures.word, c.broken.ensures.rest)
