-- From a board that was opened and served to what the words give.
use Rattle.std.specs.Prelude.{◌≡◌, ℕ, List, ◌++◌, Option, Some, None}
use Rattle.std.proofs.Common.{sym, ap, subst, ◌∙◌, refl}
use Rattle.fault_definitions.specs.{Tree.FaultTree, Cut.IsCutList, WellFormed.IsTree}
use Rattle.crew_script.specs.declared.dockets.Crew.{Crew}
use Rattle.board_words.specs.{Command.command_of, declared.command.Command.TheVariants.Board}
use Rattle.board_report.specs.BoardText.{IsDeckOf, board_text}
use Rattle.outage_board.specs.{Boards.BoardView, Boards.Deck, Histories.IsLegal, Histories.IsWhole}
use Rattle.outage_board.proofs.SafetyLemmas.{board_is_safe}
use Rattle.deck_reading.specs.{declared.deck.CrewPart.TheVariants.Needed, Faults.IsWellFormed}
use Rattle.outage_engine.specs.{declared.listing.Listing.Listing, declared.opening.Opened.Opened, Finding.Found}
use Rattle.outage_engine.specs.{Safety.BearsThroughout, Safety.IsSafeText, Store.method_by}
use Rattle.outage_engine.specs.declared.status.Status.TheVariants as status
use Rattle.outage_engine.specs.Answers.{IsListingOf, IsOfUnits, found_in, listing_text}
use Rattle.outage_engine.specs.Gives as gives
use Rattle.outage_engine.specs.Gives.{FindsSets, Gives, OfInput}
use Rattle.outage_engine.specs.Openings.{IsOpened, IsOpenedFor, IsOpenedWith, IsReady, IsServed}
use Rattle.outage_engine.specs.Texts.{board_deck, board_said, cuts_said}
use Rattle.outage_engine.proofs.Answering.{finds_ready, orders_of_listing, said_of}
use Rattle.outage_engine.proofs.{Bearing.bears_throughout, Clauses.of_input}

-- a board that was opened for a listing can be served and written
pub ready : (margin : ℕ) {listing : Listing} (crews : Option (List Crew)) (opened : Opened) → IsOfUnits listing
    → IsOpenedWith margin listing crews opened → IsReady opened
ready margin {listing} crews opened units (same, deck, passes) =
    let of_deck : IsDeckOf listing.tree opened.start.board.deck =
    subst (IsDeckOf listing.tree) (sym deck) (record { units = refl; dockets = refl }) in (
      subst IsOfUnits (sym same) units,
      passes,
      subst (λ (l : Listing). IsDeckOf l.tree opened.start.board.deck)
          (sym same) of_deck,
    )

-- a board that was opened for a tree's listing was opened for the tree
pub opened_for : (margin : ℕ) {most : ℕ} {tree : FaultTree} {listing : Listing} (crews : Option (List Crew))
    (opened : Opened)
    → IsListingOf most tree listing → IsOpenedWith margin listing crews opened
    → IsOpenedFor margin most tree crews opened
opened_for margin {most} {tree} crews opened listed (same, deck, passes) = (
  subst (IsListingOf most tree) (sym same) listed,
  deck ∙ ap (λ (l : Listing). board_deck margin (found_in l crews)) (sym same),
)

-- a board that was opened for a tree and crews was opened for the deck
pub opened_of_input : (held left : Option (List ℕ)) (margin : ℕ) {most : ℕ} {tree : FaultTree}
    (crews : Option (List Crew))
    (opened : Opened)
    → OfInput held left (λ bytes. IsWellFormed Needed bytes tree crews) → IsOpenedFor margin most tree crews opened
    → OfInput held left (λ bytes. IsOpened margin most bytes opened)
opened_of_input held left margin {most} {tree} crews opened read (is, deck) =
    of_input held left (λ bytes. IsWellFormed Needed bytes tree crews) (λ bytes. IsOpened margin most bytes opened)
    (λ bytes well. record {
      crews = crews;
      finds = finds_ready most well is;
      orders = orders_of_listing is;
      deck = deck;
      list = subst (λ t. IsCutList t opened.listing.cuts) (sym is.of_tree) is.list.all;
      kept = subst IsTree (sym is.of_tree) well.stands.kept;
    }) read

-- what is said of a board whose crews were served
module _ {margin most : ℕ} {bytes : List ℕ} {made : Opened} (opened : IsOpened margin most bytes made)
    (state : BoardView) (served : IsServed made.start state) where
  found : Found
  found = found_in made.listing opened.crews

  deck_is : state.deck ≡ board_deck margin (found_in made.listing opened.crews)
  deck_is = served.deck ∙ opened.deck

  text_is : listing_text made.listing ++ board_text made.listing.tree state
      ≡ board_said margin most (found_in made.listing opened.crews) state.history
  text_is =
      ap (λ t. t ++ board_text made.listing.tree state) (said_of most made.listing opened.crews opened.orders)
      ∙ ap (λ deck. cuts_said most (found_in made.listing opened.crews)
      ++ board_text made.listing.tree (record { deck = deck; history = state.history })) deck_is

  pub safe_text : IsSafeText margin most bytes (listing_text made.listing ++ board_text made.listing.tree state)
  safe_text = record {
    found = found_in made.listing opened.crews;
    finds = opened.finds;
    history = state.history;
    of_deck = record {
      legal = subst (λ deck. IsLegal deck.opening state.history) deck_is served.kept.legal;
      whole = subst (λ deck. IsWhole deck.dockets state.history) deck_is served.whole;
    };
    is = text_is;
    safe = subst (λ deck. BearsThroughout made.listing.tree deck state.history) deck_is
        (bears_throughout opened.kept opened.list state.deck state.history
        (ap (λ (deck : Deck). deck.opening.cuts) deck_is) (board_is_safe state served.kept));
  }

-- a root and no root are of a method that finds cut sets
pub finds_sets : (root : Option ℕ) → FindsSets (method_by root)
finds_sets (Some number) = tt
finds_sets None = tt

module _ (words : List (List ℕ)) (held left : Option (List ℕ)) (rose : Type 0) where
  pub gives_board : (margin most workers : ℕ) → command_of words ≡ Some (Board margin most workers) → (made : Opened)
      → OfInput held left (λ bytes. IsOpened margin most bytes made) → (state : BoardView) → IsServed made.start state
      → Gives words held left rose (status.Done (method_by made.listing.root))
      (listing_text made.listing ++ board_text made.listing.tree state)
  gives_board margin most workers asks made holds state served =
      gives.done (Board margin most workers) (method_by made.listing.root) asks (finds_sets made.listing.root)
      (of_input held left (λ bytes. IsOpened margin most bytes made)
      (λ bytes. IsSafeText margin most bytes (listing_text made.listing ++ board_text made.listing.tree state))
      (λ bytes opened. safe_text opened state served) holds) refl
