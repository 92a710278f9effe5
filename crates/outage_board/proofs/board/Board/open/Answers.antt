use Rattle.std.proofs.Common.{◌≡◌, ℕ, ◌<◌, List, length, sym, ◌∙◌, ap, subst, arith, Contains}
use Rattle.outage_board.specs.Passes.{Pass, AreOf, new_passes, crews_of}
use Rattle.outage_board.specs.Dealing.{board_of}
use Rattle.outage_board.proofs.PassLemmas.{new_passes-length, new_are_of, new_have_all}
use Rattle.outage_board.proofs.board.Board.open.Goals as goal
use Rattle.outage_board.proofs.board.Board.open.Goals.{After-of}

pub of-requires-clause-few : goal.of-requires-clause-few
of-requires-clause-few c =
    let shared = c.in-Ok-laid.table.shared in
    let long =
    ap length c.dealt-passes.ensures.passes ∙ new_passes-length (board_of shared.table_id shared.key) 0
    c.crews-crews.result in
    omega arith

dealt : (c : After-of) → c.of.result.passes ≡ new_passes
    (board_of c.in-Ok-laid.table.shared.table_id c.in-Ok-laid.table.shared.key) 0 c.crews-crews.result
dealt c = ap (λ l. l.passes) c.of.ensures ∙ c.dealt-passes.ensures.passes

pub returns-in-Ok-laid-clause-own : goal.returns-in-Ok-laid-clause-own
returns-in-Ok-laid-clause-own c =
    let shared = c.in-Ok-laid.table.shared in
    let board = board_of shared.table_id shared.key in
    subst (AreOf board) (sym (dealt c)) (new_are_of board 0 c.crews-crews.result)

pub returns-in-Ok-laid-clause-all : goal.returns-in-Ok-laid-clause-all
returns-in-Ok-laid-clause-all c = λ crew low.
    let shared = c.in-Ok-laid.table.shared in
    let board = board_of shared.table_id shared.key in
    let crews : length shared.key.value.deck.crews ≡ c.crews-crews.result =
    ap (λ b. length b.deck.crews) c.in-Ok-laid.ensures.opened ∙ sym c.crews-crews.ensures in
    subst (λ (ps : List Pass). Contains (crews_of ps) crew) (sym (dealt c))
    (new_have_all board c.crews-crews.result crew (subst (λ (n : ℕ). crew < n) crews low))
