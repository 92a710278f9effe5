-- A pass of one crew is served in its turn.
use Rattle.std.proofs.Common.{◌≡◌, ℕ, ◌<◌, List, [], ◌∷◌, ◌++◌, length, refl, sym, ◌∙◌, ap, subst, arith, inl, inr}
use Rattle.std.specs.Prelude.{Option, Some, None, IfSome, IsNone, ◌↔◌, slice_get}
use Rattle.std.specs.List.{All}
use Rattle.std.proofs.lemmas.List.Elements.{All-head}
use Rattle.atomic_table.specs.Table.{Me, rest}
use Rattle.unit_sets.specs.declared.request.CrewNo.{CrewNo}
use Rattle.margin_policy.specs.declared.request.Request.{Request}
use Rattle.outage_board.specs.{declared.entry.Entry.Entry, declared.view.View.View, declared.view.Made.Made}
use Rattle.outage_board.specs.{Rule.times_of, Passes.entries_made, Passes.IsPass}
use Rattle.outage_board.specs.Histories.{entries_of, served, docket_of}
use Rattle.outage_board.specs.Boards.{BoardView, Deck, standing_of, next_entry, with_entry, IsUsedUp}
use Rattle.outage_board.specs.Views.{holding, settled, made_in}
use Rattle.outage_board.specs.Turns.{HasTaken, MayFollow, MayGive, HasGiven, MayTake, held, made_with}
use Rattle.outage_board.proofs.{HistoryLemmas.entries_of-own, BoardLemmas.IsEntryFor, BoardLemmas.entry_for-is}
use Rattle.outage_board.proofs.{TimesLemmas.times_of-first}

-- a pass of one crew may ask for the turn
pub may_ask : (deck : Deck) (me : Me BoardView View) (crew : CrewNo) → me.0.opened.deck ≡ deck → IsPass me crew
    → MayTake deck me
may_ask deck me crew opened pass =
    record {
      opened = opened;
      turn = pass.turn;
      crew = let e : length me.0.crews ≡ 1 = ap length pass.own in
          omega arith;
      holds_none = pass.holds_none;
    }

-- the state that a place holds, and what is left of it
pub held_first : {me : List (ℕ × BoardView)} (board : BoardView) → me ≡ (0, board) ∷ [] → me ≡ (0, board) ∷ rest me
held_first board is = is ∙ ap (λ (l : List (ℕ × BoardView)). (0, board) ∷ rest l) (sym is)

module _ (crew : CrewNo) (before taken : Me BoardView View) (pass : IsPass before crew)
    (has : HasTaken before taken) where
  abbrev made : List Entry
  made = entries_made before.0.crews

  abbrev one : Made
  one = record { crew = crew.0; entries = made }

  abbrev board : BoardView
  board = record { deck = before.0.opened.deck; history = has.history }

  pub holds_board : taken.1 ≡ (0, board) ∷ []
  holds_board = has.state ∙ ap (λ (l : List (ℕ × BoardView)). (0, board) ∷ l) pass.holds_none

  pub held_is : held taken.1 ≡ board
  held_is = ap held holds_board

  pub crew_low : crew.0 < length before.0.opened.deck.crews
  crew_low =
      All-head (λ (m : Made). m.crew < length before.0.opened.deck.crews) one []
      (subst (All (λ (m : Made). m.crew < length before.0.opened.deck.crews)) pass.own has.crews)

  all_made : entries_of crew.0 has.history ≡ made
  all_made =
      All-head (λ (m : Made). entries_of m.crew has.history ≡ m.entries) one []
      (subst (All (λ (m : Made). entries_of m.crew has.history ≡ m.entries)) pass.own has.made)

  module _ (result : Option Entry) (is : result ≡ next_entry (held taken.1) crew) where
    abbrev docket : List Request
    docket = docket_of before.0.opened.deck.dockets crew.0

    next_is : result ≡ next_entry board crew
    next_is = is ∙ ap (λ (b : BoardView). next_entry b crew) held_is

    facts : (entry : Entry) → result ≡ Some entry
        → IsEntryFor (standing_of board) crew (served crew.0 has.history) (slice_get docket (served crew.0 has.history))
        entry
    facts entry there = entry_for-is (slice_get docket (served crew.0 has.history)) (sym next_is ∙ there)

    pub none_when : IsNone result ↔ IsUsedUp (held taken.1) crew.0 → IsNone result ↔ (length made ≡ length docket)
    none_when up =
        subst (λ (n : ℕ). IsNone result ↔ (n ≡ length docket)) (ap length all_made)
        (subst (λ (b : BoardView). IsNone result ↔ IsUsedUp b crew.0) held_is up)

    pub own_crew : (entry : Entry) → result ≡ Some entry → entry.crew ≡ crew
    own_crew entry there = (facts entry there).own

    pub at_place : (entry : Entry) → result ≡ Some entry → entry.place ≡ length made
    at_place entry there = (facts entry there).at ∙ ap length all_made

    follows : (found : Option Entry) → result ≡ found
        → MayFollow (holding has.history before.0) (with_entry board found).history
    follows None same = inl refl
    follows (Some entry) same =
        inr (
          entry,
          refl,
          subst (λ (p : ℕ × List Made). 0 < times_of p.0 p.1)
              (λ i. (sym (ap (λ (c : CrewNo). c.0) (own_crew entry same)) i, sym pass.own i)) (times_of-first one []),
        )

    with_deck : (found : Option Entry) → with_entry board found
        ≡ record { deck = before.0.opened.deck; history = (with_entry board found).history }
    with_deck None = refl
    with_deck (Some entry) = refl

    -- the turn goes back with what was served
    module _ (then : Me BoardView View) (so : ◌≡◌ {A = Me BoardView View}
        then (taken.0, (0, with_entry (held taken.1) result) ∷ [])) where
      then_is : ◌≡◌ {A = Me BoardView View} then (holding has.history before.0, (0, with_entry board result) ∷ [])
      then_is = so ∙ (λ i. (has.view i, (0, with_entry (held_is i) result) ∷ []))

      pub may_give : (deck : Deck) → before.0.opened.deck ≡ deck → MayGive deck then
      may_give deck opened = subst (MayGive deck) (sym then_is) (record {
        opened = opened;
        turn = refl;
        history = (with_entry board result).history;
        state =
            ap (λ (b : BoardView). (0, b) ∷ []) (with_deck result
            ∙ ap (λ (d : Deck). record { deck = d; history = (with_entry board result).history }) opened);
        follows = follows result refl;
      })

      made_then : (found : Option Entry) → result ≡ found
          → entries_of crew.0 (with_entry board found).history ≡ made_with found made
      made_then None same = all_made
      made_then (Some entry) same =
          entries_of-own has.history entry (sym (ap (λ (c : CrewNo). c.0) (own_crew entry same)))
          ∙ ap (λ l. l ++ entry ∷ []) all_made

      module _ (after : Me BoardView View) (gave : HasGiven then after) where
        gave_board : gave.board ≡ with_entry board result
        gave_board = ap held (sym gave.state) ∙ ap (λ (m : Me BoardView View). held m.1) then_is

        view_is : after.0 ≡ settled (with_entry board result).history (holding has.history before.0)
        view_is = gave.view ∙ (λ i. settled (gave_board i).history (then_is i).0)

        crews_are : after.0.crews ≡ record { crew = crew.0; entries = made_with result made } ∷ []
        crews_are = ap (λ (v : View). v.crews) view_is ∙ ap (made_in (with_entry board result).history) pass.own
            ∙ ap (λ es. record { crew = crew.0; entries = es } ∷ []) (made_then result refl)

        pub now_made : entries_made after.0.crews ≡ made_with result made
        now_made = ap entries_made crews_are

-- a fact of an entry that there is
pub if_some : (P : Entry → Type 0) (result : Option Entry) → ((entry : Entry) → result ≡ Some entry → P entry)
    → IfSome result P
if_some P None of = tt
if_some P (Some entry) of = of entry refl
