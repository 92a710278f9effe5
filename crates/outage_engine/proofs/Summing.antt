-- From a made deck that was read, searched and served to its summary.
use Rattle.std.specs.Prelude.{◌≡◌, ℕ, ◌+◌, ◌-◌, ◌<◌, List, [], ◌∷◌, ◌++◌, length, Option, Some, None}
use Rattle.std.specs.Prelude.{Bool, true, false, nat_lt, if◌then◌else◌, Result}
use Rattle.std.specs.Prelude.{Ok, MatchBool, IsNone, is_some, ◌↔◌, slice_get}
use Rattle.std.proofs.Common.{sym, ap, subst, ◌∙◌, refl, inl, inr, arith}
use Rattle.std.proofs.lemmas.Option.{slice_get_cases}
use Rattle.unit_sets.specs.{CutOrder.weight, CutOrder.weight_limit, declared.request.CrewNo.CrewNo}
use Rattle.fault_definitions.specs.Tree.{FaultTree}
use Rattle.crew_script.specs.{declared.dockets.Crew.Crew, declared.fault.CrewFault.CrewFault}
use Rattle.margin_policy.specs.declared.request.Request.{Request}
use Rattle.outage_board.specs.Boards.{BoardView, Deck, IsUsedUp, next_entry, standing_of, with_entry}
use Rattle.outage_board.specs.Histories.{IsLegal, IsWhole, docket_of, served}
use Rattle.outage_board.specs.declared.entry.Entry.{Entry}
use Rattle.outage_board.proofs.{BoardLemmas.entry_for-is, HistoryLemmas.served-own}
use Rattle.cut_sequences.specs.Orders.{order_limit, order_lists, order_total}
use Rattle.deck_reading.specs.{declared.fault.DeckFault.DeckFault, Deck.crew_part}
use Rattle.deck_reading.specs.{declared.deck.CrewPart.TheVariants.Needed, Faults.IsWellFormed, Faults.crews_said}
use Rattle.cut_texts.specs.OrdersOfUnits.{AreOrdersOf}
use Rattle.board_report.specs.SummaryText.{summary_text}
use Rattle.tree_maker.specs.{MadeDeck.made_deck, WellMade.IsWellMade, WellMade.made_crew}
use Rattle.outage_engine.specs.{declared.listing.Listing.Listing, declared.summary.Summary.Summary}
use Rattle.outage_engine.specs.{Summaries.IsServedFor, Summaries.IsSummaryOf}
use Rattle.outage_engine.specs.Answers.{IsListingOf, found_in, summed_text}
use Rattle.outage_engine.specs.Finding.{Faulty, Finds, Found, Ready, TooHeavy, TooManyOrders, bad_deck, well_formed}
use Rattle.outage_engine.specs.Texts.{IsSummaryText, board_deck, for_summary, summary_said, summed_margin, summed_most}
use Rattle.deck_reading.proofs.OneDeck.{no_deck_and_fault}
use Rattle.outage_engine.proofs.Answering.{finds_ready, orders_of_listing}

-- ---- the deck

same_ok : {said : Result (Option (List Crew)) CrewFault} {one two : Option (List Crew)} → said ≡ Ok one → said ≡ Ok two
    → one ≡ two
same_ok is is' = let same = sym is ∙ is' in cc

-- the crews that are read of a crew part
pub crews_are : {bytes : List ℕ} {tree : FaultTree} {crews : Option (List Crew)} (said : List Crew)
    → crew_part bytes ≡ Some (Ok said) → IsWellFormed Needed bytes tree crews → crews ≡ Some said
crews_are said part deck = same_ok deck.said (ap crews_said part)

-- a judgement is no fault
not_faulty : (heavy many : Bool) (found : Found) (fault : DeckFault)
    → Faulty fault ≡ (if heavy then TooHeavy else (if many then TooManyOrders else Ready found)) → ⊥
not_faulty true many found fault is = absurd cc
not_faulty false true found fault is = absurd cc
not_faulty false false found fault is = absurd cc

-- a made deck has no fault
pub never_faulty : {number : ℕ} {tree : FaultTree} → IsWellMade number (made_deck number) tree → (fault : DeckFault)
    → Finds for_summary (made_deck number) (Faulty fault) → ⊥
never_faulty {number} {tree} made fault (bad_deck other refused is) =
    no_deck_and_fault Needed (made_deck number) tree (Some (made_crew number ∷ [])) other (record {
      has_crews = λ lacks. let clash = sym made.crews ∙ lacks.1 in absurd cc;
      stands = made.stands;
      said = ap crews_said made.crews;
    }) refused
never_faulty made fault (well_formed found deck cuts is) =
    not_faulty (nat_lt weight_limit (weight found.cuts))
    (nat_lt order_limit (order_total (order_lists found.tree found.cuts summed_most))) found fault is

-- ---- one request

within : (docket : List Request) (place : ℕ) (request : Request) → slice_get docket place ≡ Some request
    → place < length docket
within docket place request there = elim ((slice_get_cases docket place).1) [
  | inl some_there ↦ some_there.1
  | inr past ↦ absurd (clash (sym there ∙ past.1))
]
  where
    clash : Some request ≡ None → ⊥
    clash e = absurd cc

module _ (board : BoardView) (crew : CrewNo) where
  abbrev docket : List Request
  docket = docket_of board.deck.dockets crew.0

  abbrev place : ℕ
  place = served crew.0 board.history

  abbrev left : BoardView → ℕ
  left b = length (docket_of b.deck.dockets crew.0) - served crew.0 b.history

  one_less : (entry : Entry) → next_entry board crew ≡ Some entry → left (with_entry board (Some entry)) < left board
  one_less entry is =
      let facts = entry_for-is {standing = standing_of board} {crew = crew} {place = place} (slice_get docket place)
      {entry = entry} is in
      let short = within docket place entry.request facts.asked in
      let more : served crew.0 (board.history ++ entry ∷ []) ≡ place + 1 =
      served-own board.history entry crew.0 (ap (λ (c : CrewNo). c.0) (sym facts.own)) in
      omega (arith, short, more)

  -- one request fewer is left, or none was
  next_served : (entry : Option Entry) {after : BoardView} → entry ≡ next_entry board crew
      → after ≡ with_entry board entry → IsNone entry ↔ IsUsedUp board crew.0
      → MatchBool (is_some entry) (left after < left board) (IsUsedUp after crew.0)
  next_served None is same up = subst (λ (b : BoardView). IsUsedUp b crew.0) (sym same) (up.0 refl)
  next_served (Some entry) is same up =
      subst (λ (b : BoardView). left b < left board) (sym same) (one_less entry (sym is))

  pub next_told : {entry : Option Entry} {after : BoardView} (told : Bool) → told ≡ is_some entry
      → entry ≡ next_entry board crew → after ≡ with_entry board entry → IsNone entry ↔ IsUsedUp board crew.0
      → MatchBool told (left after < left board) (IsUsedUp after crew.0)
  next_told {entry} {after} told says is same up =
      subst (λ b. MatchBool b (left after < left board) (IsUsedUp after crew.0)) (sym says)
      (next_served entry is same up)

pub same_deck : (board : BoardView) (entry : Option Entry) {after : BoardView} → after ≡ with_entry board entry
    → after.deck ≡ board.deck
same_deck board None same = ap (λ (b : BoardView). b.deck) same
same_deck board (Some entry) same = ap (λ (b : BoardView). b.deck) same

-- ---- all requests of the one crew

-- ---- the summary

module _ (number : ℕ) (tree : FaultTree) (crews : List Crew) (summary : Summary) where
  pub summary_of : {listing : Listing} → IsListingOf summed_most tree listing
      → IsServedFor number listing crews summary → IsSummaryOf number tree crews summary
  summary_of {listing} listed served =
      let same = served.of_listing in
      let cuts : summary.board.deck.opening.cuts ≡ listing.cuts =
      ap (λ (d : Deck). d.opening.cuts) served.deck in
      record {
        listed = subst (IsListingOf summed_most tree) (sym same) listed;
        orders = subst (λ (l : Listing). AreOrdersOf l.tree summary.board.deck.opening.cuts l.orders) (sym same)
            (subst (λ c. AreOrdersOf listing.tree c listing.orders) (sym cuts) listed.units.1);
        served = record {
          of_number = served.of_number;
          of_listing = refl;
          deck = subst (λ (l : Listing). summary.board.deck ≡ board_deck summed_margin (found_in l (Some crews)))
              (sym same) served.deck;
          legal = served.legal;
          whole = served.whole;
        };
      }

  module _ (of : IsSummaryOf number tree crews summary) where
    text_is : summed_text summary
        ≡ summary_said number (found_in summary.listing (Some crews)) summary.board.history
    text_is =
        ap (λ n. summary_text n summary.listing.tree summary.listing.orders summary.board) of.served.of_number
        ∙ ap (λ orders. summary_text number summary.listing.tree orders summary.board) (orders_of_listing of.listed)
        ∙ ap (λ deck. summary_text number summary.listing.tree
        (order_lists summary.listing.tree summary.listing.cuts summed_most)
        (record { deck = deck; history = summary.board.history })) of.served.deck

    pub summary_is_text : IsWellFormed Needed (made_deck number) tree (Some crews)
        → IsSummaryText number (summed_text summary)
    summary_is_text deck = record {
      found = found_in summary.listing (Some crews);
      finds = finds_ready summed_most deck of.listed;
      history = summary.board.history;
      of_deck = record {
        legal = subst (λ d. IsLegal d.opening summary.board.history) of.served.deck of.served.legal;
        whole = subst (λ d. IsWhole d.dockets summary.board.history) of.served.deck of.served.whole;
      };
      is = text_is;
    }
