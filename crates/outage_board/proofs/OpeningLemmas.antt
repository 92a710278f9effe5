-- The board that a deck opens.
use Rattle.std.proofs.Common.{◌≡◌, ℕ, ◌<◌, ◌≤◌, List, [], ◌∷◌, length, map, get_or, replicate, refl, sym, ◌∙◌, ap}
use Rattle.std.proofs.Common.{subst, arith}
use Rattle.std.specs.Prelude.{Option, Some, None}
use Rattle.std.specs.List.{All}
use Rattle.std.proofs.lemmas.List.{length-map, length-replicate, get_or-replicate}
use Rattle.std.proofs.lemmas.List.Elements.{All-nil, All-head, All-tail, All-cons}
use Rattle.unit_sets.specs.declared.request.CrewNo.{CrewNo}
use Rattle.fault_definitions.specs.Tree.{FaultTree, unit_count}
use Rattle.crew_script.specs.{declared.dockets.TheConstants.MOST_REQUESTS, declared.dockets.Ask.Ask}
use Rattle.crew_script.specs.{declared.dockets.Crew.Crew}
use Rattle.crew_script.specs.Dockets.{IsDockets, HasMargin, HasMargins, request_count}
use Rattle.crew_script.specs.declared.dockets.Ask.TheVariants as asks
use Rattle.margin_policy.specs.{Holders.NamesCrewBelow, declared.request.Request.Request}
use Rattle.margin_policy.proofs.HoldersLemmas.{none_held_below}
use Rattle.margin_policy.specs.Standing.{StandingView, IsRequestFor, nothing_held}
use Rattle.outage_board.specs.{declared.entry.Entry.Entry, Histories.docket_of}
use Rattle.outage_board.specs.Requests.{unit_of, with_unit, units_of, request_of, requests_of, supervisor_of}
use Rattle.outage_board.specs.Boards.{deck_of, BoardView, IsBoard}
use Rattle.outage_board.specs.Kept.{KeepsBoard, left_in, emptied}
use Rattle.outage_board.proofs.NameLemmas.{named_by}

units_fit : (tree : FaultTree) (names : List (List ℕ)) → All (λ unit. unit ≤ unit_count tree) (units_of tree names)
units_fit tree [] = All-nil (λ unit. unit ≤ unit_count tree)
units_fit tree (name ∷ names) = by_unit (unit_of tree name) refl (units_fit tree names)
  where
    by_unit : (found : Option ℕ) → unit_of tree name ≡ found
        → All (λ unit. unit ≤ unit_count tree) (units_of tree names)
        → All (λ unit. unit ≤ unit_count tree) (with_unit found (units_of tree names))
    by_unit None at later = later
    by_unit (Some unit) at later =
        All-cons (λ u. u ≤ unit_count tree) unit (units_of tree names) (named_by tree name unit at).0 later

request_fits : (tree : FaultTree) (ask : Ask) → HasMargin ask → IsRequestFor (unit_count tree) (request_of tree ask)
request_fits tree (asks.Take names) small = units_fit tree names
request_fits tree (asks.Return name) small = by_unit (unit_of tree name) (λ unit at. (named_by tree name unit at).0)
  where
    by_unit : (found : Option ℕ) → ((unit : ℕ) → found ≡ Some unit → unit ≤ unit_count tree)
        → IsRequestFor (unit_count tree) (Rattle.margin_policy.specs.declared.request.Request.TheVariants.Return found)
    by_unit None fits = tt
    by_unit (Some unit) fits = fits unit refl
request_fits tree (asks.Margin number) small = small

docket_fits : (tree : FaultTree) (docket : List Ask) → All HasMargin docket
    → All (IsRequestFor (unit_count tree)) (map (request_of tree) docket)
docket_fits tree [] small = All-nil (IsRequestFor (unit_count tree))
docket_fits tree (ask ∷ docket) small =
    All-cons (IsRequestFor (unit_count tree)) (request_of tree ask) (map (request_of tree) docket)
    (request_fits tree ask (All-head HasMargin ask docket small))
    (docket_fits tree docket (All-tail HasMargin ask docket small))

all_fit : (tree : FaultTree) (crews : List Crew) → All HasMargins crews
    → All (All (IsRequestFor (unit_count tree))) (map (requests_of tree) crews)
all_fit tree [] small = All-nil (All (IsRequestFor (unit_count tree)))
all_fit tree (crew ∷ crews) small =
    All-cons (All (IsRequestFor (unit_count tree))) (requests_of tree crew) (map (requests_of tree) crews)
    (docket_fits tree crew.docket (All-head HasMargins crew crews small))
    (all_fit tree crews (All-tail HasMargins crew crews small))

short_dockets : (tree : FaultTree) (crews : List Crew) (most : ℕ) → request_count crews ≤ most
    → All (λ (docket : List Request). length docket ≤ most) (map (requests_of tree) crews)
short_dockets tree [] most few = All-nil (λ (docket : List Request). length docket ≤ most)
short_dockets tree (crew ∷ crews) most few =
    All-cons (λ (docket : List Request). length docket ≤ most) (requests_of tree crew) (map (requests_of tree) crews)
    (let e = length-map crew.docket (request_of tree) in omega arith) (short_dockets tree crews most (omega arith))

left_at_first : (tree : FaultTree) (crews : List Crew)
    → left_in (map (requests_of tree) crews) (replicate (length crews) 0) ≡ request_count crews
left_at_first tree [] = refl
left_at_first tree (crew ∷ crews) =
    let later = left_at_first tree crews in let e = length-map crew.docket (request_of tree) in omega arith

abbrev zeros : ℕ → List ℕ
zeros count = replicate count 0

first_places : (count crew : ℕ) → crew < length (zeros count) → get_or (zeros count) crew 0 ≡ 0
first_places count crew low =
    get_or-replicate count crew 0 0 (subst (λ (n : ℕ). crew < n) (length-replicate count 0) low)

module _ (tree : FaultTree) (cuts : List (List ℕ)) {crews : List Crew} (margin room : ℕ) (kept : IsDockets crews)
    (roomy : request_count crews ≤ room) where
  abbrev opened : BoardView
  opened = record { deck = deck_of tree cuts crews margin; history = [] }

  sound : IsBoard opened
  sound = record {
    legal = tt;
    whole = record {
      crews = All-nil (λ (entry : Entry). entry.crew.0 < length (map (requests_of tree) crews));
      within = λ crew. omega arith;
      each = λ crew. refl;
    };
    all = length-map crews (requests_of tree);
    nothing_out = refl;
    places = All-nil (λ (entry : Entry). entry.place < length (docket_of (map (requests_of tree) crews) entry.crew.0));
    requests = All-nil (λ (entry : Entry). IsRequestFor (unit_count tree) entry.request);
    replies = All-nil (λ (entry : Entry). NamesCrewBelow (length crews) entry.reply);
    holders = none_held_below (length crews) (unit_count tree);
    few = omega arith;
  }

  keeps : KeepsBoard opened (deck_of tree cuts crews margin).opening (replicate (length crews) 0) room
  keeps = record {
    sound = sound;
    leaves = refl;
    all = length-replicate (length crews) 0 ∙ sym (length-map crews (requests_of tree));
    places = first_places (length crews);
    fits = all_fit tree crews kept.margins;
    total = let e = left_at_first tree crews in omega arith;
    room = roomy;
    short = short_dockets tree crews MOST_REQUESTS kept.few_requests;
    few = let e = length-map crews (requests_of tree) in let f = kept.few_crews in omega arith;
  }

  -- of the parts that `open` makes
  pub opens : {standing : StandingView} {dockets : List (List Request)} {history : List Entry} {next : List ℕ}
      {units : ℕ} {supervisor : Option CrewNo} {copy : List Crew}
      → copy ≡ crews → units ≡ unit_count tree → supervisor ≡ supervisor_of crews
      → standing ≡ record {
        units = units;
        cuts = cuts;
        margin = margin;
        supervisor = supervisor;
        held =
            nothing_held units;
      }
      → dockets ≡ map (requests_of tree) crews → history ≡ [] → next ≡ replicate (length crews) 0
      → KeepsBoard (record {
        deck = record { opening = emptied margin standing; crews = copy; dockets = dockets };
        history = history;
      }) standing next room
  opens {standing} {dockets} {history} {units} {supervisor} copied units_are supervisor_is standing_is dockets_are
      history_is next_is =
      let same : standing ≡ (deck_of tree cuts crews margin).opening =
      standing_is ∙ ap (λ (p : ℕ × Option CrewNo). record {
        units = p.0;
        cuts = cuts;
        margin = margin;
        supervisor = p.1;
        held = nothing_held p.0;
      }) (λ i. (units_are i, supervisor_is i)) in
      let P : StandingView × List (List Request) × List Entry × List ℕ × List Crew → Type 0 =
      λ p. KeepsBoard (record {
        deck = record { opening = emptied margin p.0; crews = p.4; dockets = p.1 };
        history = p.2;
      }) p.0 p.3 room in
      subst P (λ i. (sym same i, sym dockets_are i, sym history_is i, sym next_is i, sym copied i)) keeps
