-- When a history is whole.
use Rattle.std.specs.Prelude.{◌≡◌, ℕ, ◌<◌, [], length, take}
use Rattle.std.specs.List.{enumerate_from}
use Rattle.std.proofs.Common.{◌∙◌, ap, arith, inl, inr}
use Rattle.std.proofs.{lemmas.Bool.cases_lt, lemmas.List.get_or_past}
use Rattle.outage_board.specs.Histories.{docket_of, IsWhole}
use Rattle.outage_board.specs.Boards.{BoardView, IsBoard, IsUsedUp}

-- what is no crew's has no docket
each_used_up : (board : BoardView) → IsBoard board
    → ((crew : ℕ) → crew < length board.deck.crews → IsUsedUp board crew) → (crew : ℕ) → IsUsedUp board crew
each_used_up board kept up crew = elim (cases_lt crew (length board.deck.crews)) [
  | inl one ↦ up crew one
  | inr past ↦
      let none : docket_of board.deck.dockets crew ≡ [] =
      get_or_past board.deck.dockets crew [] (let all = kept.all in omega (arith, past)) in
      let size : length (docket_of board.deck.dockets crew) ≡ 0 = ap length none in
      let few = kept.whole.within crew in
      omega arith
]

-- the history of a board is whole where the docket of each crew is used up
pub whole_where_used_up : (board : BoardView) → IsBoard board
    → ((crew : ℕ) → crew < length board.deck.crews → IsUsedUp board crew) → IsWhole board.deck.dockets board.history
whole_where_used_up board kept up = record {
  crews = kept.whole.crews;
  within = λ crew. omega arith;
  each = λ crew. kept.whole.each crew ∙ ap (λ n.
      enumerate_from 0 (take n (docket_of board.deck.dockets crew))) (each_used_up board kept up crew);
}
