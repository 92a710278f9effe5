use Rattle.std.proofs.Common.{◌≡◌, ◌∙◌, ◌++◌, ◌∷◌, [], List, ℕ, ap, arith, get_or, length, ◌<◌}
use Rattle.std.proofs.{lemmas.List.get_or_default, lemmas.Result.on_ok_weaker}
use Rattle.replay_semantics.specs.Readers.{readers_in}
use Rattle.replay_semantics.proofs.ReaderLemmas.{one_more}
use Rattle.replay_semantics.proofs.readers.add.Goals as goal

pub returns : goal.returns
returns c =
    let row : List ℕ = get_or c.args.lists.now c.number-place.result c.index-lists-place-2.result in
    on_ok_weaker c.push.result (λ (pushed : c.push.new.self ≡ row ++ c.args.reader ∷ []).
    let short : c.number-place.result < length c.args.lists.now = omega arith in
    let is : row ≡ readers_in c.args.lists.now c.args.node =
    get_or_default c.args.lists.now c.number-place.result c.index-lists-place-2.result [] short
    ∙ ap (readers_in c.args.lists.now) c.number-place.ensures in
    rw (pushed, is, c.number-place.ensures)
    (one_more c.args.lists.now c.args.node c.args.reader c.requires)) c.push.ensures.added
