-- Passes whose crews are served, and the history that they made.
use Rattle.std.proofs.Common.{◌≡◌, ℕ, ◌+◌, ◌<◌, List, [], ◌∷◌, ◌++◌, length, refl, sym, ◌∙◌, ap, subst, arith, inl, inr}
use Rattle.std.proofs.Common.{⊎_elim, Contains, length-append}
use Rattle.std.specs.Prelude.{Option, Some, None, is_some, IsNone, IfSome, IfNone, MatchBool, ◌↔◌, slice_get}
use Rattle.std.proofs.{lemmas.List.length-map, lemmas.Option.slice_get_cases}
use Rattle.std.proofs.lemmas.List.Elements.{All-head, All-tail, Contains-push_cases}
use Rattle.std.proofs.lemmas.List.Elements.{Contains-append_cases}
use Rattle.unit_sets.proofs.Sorted.{Contains-nil}
use Rattle.margin_policy.specs.declared.request.Request.{Request}
use Rattle.outage_board.specs.declared.entry.Entry.{Entry}
use Rattle.outage_board.specs.Histories.{entries_of, served, docket_of, IsWhole}
use Rattle.outage_board.specs.Boards.{BoardView, Deck, IsBoard}
use Rattle.outage_board.specs.Passes.{OpenBoard, Pass, AreOf, crews_of, HaveAll, MadeAll}
use Rattle.outage_board.proofs.Whole.{whole_where_used_up}
use Rattle.crew_workers.specs.Served.{docket_size, IsServed, AreServed}

-- ---- one request

inside : (docket : List Request) (place : ℕ) (request : Request) → slice_get docket place ≡ Some request
    → place < length docket
inside docket place request there = elim ((slice_get_cases docket place).1) [
  | inl some_there ↦ some_there.1
  | inr past ↦ absurd (clash (sym there ∙ past.1))
]
  where
    clash : Some request ≡ None → ⊥
    clash e = absurd cc

module _ (board : OpenBoard) (old new : Pass) (own : old.board ≡ board) where
  abbrev docket : List Request
  docket = docket_of board.deck.dockets old.crew.0

  size_is : length docket ≡ docket_size old
  size_is = ap (λ (b : OpenBoard). length (docket_of b.deck.dockets old.crew.0)) (sym own)

  pub next_made : (entry : Option Entry) → IsNone entry ↔ (length old.made ≡ length docket) → IfNone entry (new ≡ old)
      → IfSome entry (λ (e : Entry). new ≡ record old { made = old.made ++ e ∷ [] })
      → MatchBool (is_some entry) (length new.made ≡ length old.made + 1) (IsServed new)
  next_made None none same made = subst IsServed (sym same) (none.0 refl ∙ size_is)
  next_made (Some entry) none same made = ap (λ (p : Pass). length p.made) made ∙ length-append old.made (entry ∷ [])

  pub next_left : (entry : Option Entry) → IfNone entry (new ≡ old)
      → IfSome entry (λ (e : Entry). e.place ≡ length old.made)
      → IfSome entry (λ (e : Entry). slice_get docket e.place ≡ Some e.request)
      → MatchBool (is_some entry) (length old.made < docket_size old) (new ≡ old)
  next_left None same place request = same
  next_left (Some entry) same place request =
      let low = inside docket entry.place entry.request request in
      let size = size_is in
      omega (arith, low, place)

-- ---- passes that come back

pub same_length : (first second : List Pass) → crews_of first ≡ crews_of second → length first ≡ length second
same_length first second same =
    sym (length-map first (λ (pass : Pass). pass.crew.0)) ∙ ap length same
    ∙ length-map second (λ (pass : Pass). pass.crew.0)

-- ---- the history

-- what a crew made with its pass is its whole docket
used_by : (board : OpenBoard) (history : List Entry) (passes : List Pass) → AreOf board passes → MadeAll history passes
    → AreServed passes → (crew : ℕ) → Contains (crews_of passes) crew
    → served crew history ≡ length (docket_of board.deck.dockets crew)
used_by board history [] own made done crew has = absurd (Contains-nil crew has)
used_by board history (pass ∷ passes) own made done crew has =
    let O = λ (p : Pass). p.board ≡ board in
    let M = λ (p : Pass). entries_of p.crew.0 history ≡ p.made in
    ⊎_elim
    (λ (here : Contains (pass.crew.0 ∷ []) crew). ⊎_elim (λ (none : Contains [] crew). absurd (Contains-nil crew none))
    (λ (same : pass.crew.0 ≡ crew).
    subst (λ (n : ℕ). served n history ≡ length (docket_of board.deck.dockets n)) same
    (ap length (All-head M pass passes made) ∙ All-head IsServed pass passes done
    ∙ ap (λ (b : OpenBoard). length (docket_of b.deck.dockets pass.crew.0)) (All-head O pass passes own)))
    (Contains-push_cases [] pass.crew.0 crew here))
    (λ (later : Contains (crews_of passes) crew). used_by board history passes (All-tail O pass passes own)
    (All-tail M pass passes made) (All-tail IsServed pass passes done) crew later)
    (Contains-append_cases (pass.crew.0 ∷ []) (crews_of passes) crew has)

pub all_whole : (board : OpenBoard) (state : BoardView) (passes : List Pass) → IsBoard state → state.deck ≡ board.deck
    → AreOf board passes → MadeAll state.history passes → AreServed passes → HaveAll board.deck passes
    → IsWhole state.deck.dockets state.history
all_whole board state passes kept deck own made done all =
    whole_where_used_up state kept
    (λ crew low. used_by board state.history passes own made done crew
    (all crew (subst (λ (d : Deck). crew < length d.crews) deck low))
    ∙ ap (λ (d : Deck). length (docket_of d.dockets crew)) (sym deck))

-- the crews of passes are all, where they are those of passes that have all
pub still_all : (deck : Deck) (passes back : List Pass) → crews_of back ≡ crews_of passes → HaveAll deck passes
    → HaveAll deck back
still_all deck passes back same all crew low = subst (λ l. Contains l crew) (sym same) (all crew low)
