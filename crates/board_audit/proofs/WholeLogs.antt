-- A history of the deck is whole exactly where it is as long as all requests are many.
use Rattle.std.specs.Prelude.{◌≡◌, ℕ, zero, suc, ◌+◌, ◌<◌, ◌≤◌, List, [], ◌∷◌, ◌++◌, length, take, replicate, set}
use Rattle.std.specs.Prelude.{get_or, Some}
use Rattle.std.proofs.Common.{refl, sym, ap, subst, ◌∙◌, arith, append-nil, append_assoc}
use Rattle.std.proofs.lemmas.{List.length-map, List.length-take, List.FromFn.length-enumerate_from}
use Rattle.fault_definitions.specs.Tree.{FaultTree, unit_count}
use Rattle.crew_script.specs.{Dockets.IsDockets, Dockets.request_count, declared.dockets.Crew.Crew}
use Rattle.margin_policy.specs.{Standing.StandingView, Standing.after, declared.request.Request.Request}
use Rattle.outage_board.specs.declared.entry.Entry.{Entry}
use Rattle.outage_board.specs.{Requests.supervisor_of, Kept.KeepsBoard, Kept.left_in}
use Rattle.outage_board.specs.Histories.{IsWhole, asked_by, entries_of, docket_of, served}
use Rattle.outage_board.specs.Boards.{Deck, BoardView, deck_of, next_entry}
use Rattle.outage_board.proofs.{OpeningLemmas.opens, BoardLemmas.keeps_next, Whole.whole_where_used_up}
use Rattle.board_report.specs.LogText.{entry_lines, log_head}
use Rattle.board_audit.specs.Verdicts.{Agrees, IsHistory, IsWholeLog, deck_head}
use Rattle.board_audit.proofs.Beginnings.{parted, is_next, is_low}

-- ---- how many requests are left

none_left : (dockets : List (List Request)) (next : List ℕ) → length next ≡ length dockets → left_in dockets next ≡ 0
    → (crew : ℕ) → crew < length dockets → length (docket_of dockets crew) ≤ get_or next crew 0
none_left [] next all none crew low = absurd (omega (arith, low))
none_left (docket ∷ dockets) [] all none crew low = absurd (omega (arith, all))
none_left (docket ∷ dockets) (place ∷ next) all none zero low = omega (arith, none)
none_left (docket ∷ dockets) (place ∷ next) all none (suc crew) low =
    none_left dockets next (omega (arith, all)) (omega (arith, none)) crew (omega (arith, low))

all_served : (dockets : List (List Request)) (next : List ℕ) → length next ≡ length dockets
    → ((crew : ℕ) → crew < length dockets → length (docket_of dockets crew) ≤ get_or next crew 0)
    → left_in dockets next ≡ 0
all_served [] next all served = refl
all_served (docket ∷ dockets) [] all served = refl
all_served (docket ∷ dockets) (place ∷ next) all served =
    let first : length docket ≤ place = served 0 (omega arith) in
    let later = all_served dockets next (omega (arith, all)) (λ crew low. served (suc crew) (omega (arith, low))) in
    omega arith

-- ---- a board that has come about

pub record HasCome (board : BoardView) : Type 0 where
  pub standing : StandingView
  pub next : List ℕ
  pub keeps : KeepsBoard board standing next (request_count board.deck.crews)

-- one entry more, which is made for its crew
pub comes_on_one : (deck : Deck) (history : List Entry) (entry : Entry)
    → HasCome (record { deck = deck; history = history }) → entry.crew.0 < length deck.crews
    → next_entry (record { deck = deck; history = history }) entry.crew ≡ Some entry
    → HasCome (record { deck = deck; history = history ++ entry ∷ [] })
comes_on_one deck history entry come low due = record {
  standing = after come.standing entry.crew entry.request entry.reply;
  next = set come.next entry.crew.0 (get_or come.next entry.crew.0 0 + 1);
  keeps = keeps_next entry come.keeps low due;
}

comes_on : (deck : Deck) (front more : List Entry) → HasCome (record { deck = deck; history = front })
    → IsHistory deck (front ++ more) → HasCome (record { deck = deck; history = front ++ more })
comes_on deck front [] come of_deck =
    subst (λ es. HasCome (record { deck = deck; history = es })) (sym (append-nil front)) come
comes_on deck front (entry ∷ more) come of_deck =
    let low : entry.crew.0 < length deck.crews =
    (let l = is_low front entry more of_deck in let both = come.keeps.sound.all in omega arith) in
    subst (λ es. HasCome (record { deck = deck; history = es })) (append_assoc front (entry ∷ []) more)
    (comes_on deck (front ++ entry ∷ []) more (comes_on_one deck front entry come low
    (is_next front entry more of_deck)) (parted front entry more of_deck))

module _ (tree : FaultTree) (cuts : List (List ℕ)) (crews : List Crew) (margin : ℕ) (kept : IsDockets crews) where
  abbrev deck : Deck
  deck = deck_of tree cuts crews margin

  pub opened : HasCome (record { deck = deck; history = [] })
  opened = record {
    standing = deck.opening;
    next = replicate (length crews) 0;
    keeps =
        opens tree cuts margin (request_count crews) kept (omega arith) {standing = deck.opening}
        {dockets = deck.dockets}
        {history = []} {next = replicate (length crews) 0} {units = unit_count tree} {supervisor = supervisor_of crews}
        {copy = crews} refl refl refl refl refl refl refl;
  }

  module _ (history : List Entry) (of_deck : IsHistory deck history) where
    abbrev board : BoardView
    board = record { deck = deck; history = history }

    come : HasCome board
    come = comes_on deck [] history opened of_deck

    -- it is whole
    pub whole_when_long : length history ≡ request_count crews → IsWhole deck.dockets history
    whole_when_long long =
        whole_where_used_up board come.keeps.sound (λ crew low.
        let one : crew < length deck.dockets = (let both = come.keeps.sound.all in omega (arith, low)) in
        let there : crew < length come.next = (let all = come.keeps.all in omega (arith, one)) in
        let past =
        none_left deck.dockets come.next come.keeps.all (let total = come.keeps.total in omega arith) crew one in
        let at = come.keeps.places crew there in
        let within = come.keeps.sound.whole.within crew in
        omega arith)

    -- it is as long
    pub long_when_whole : IsWhole deck.dockets history → length history ≡ request_count crews
    long_when_whole whole =
        let none =
        all_served deck.dockets come.next come.keeps.all (λ crew low.
        let there : crew < length come.next = (let all = come.keeps.all in omega (arith, low)) in
        let at = come.keeps.places crew there in
        let asked : length (asked_by (entries_of crew history)) ≡ served crew history =
        length-map (entries_of crew history) (λ (e : Entry). (e.place, e.request)) in
        let each = ap length (whole.each crew) in
        let numbered =
        length-enumerate_from 0 (take (length (docket_of deck.dockets crew)) (docket_of deck.dockets crew)) in
        let taken = length-take (length (docket_of deck.dockets crew)) (docket_of deck.dockets crew) in
        omega arith) in
        let total = come.keeps.total in
        omega arith

  -- the log of a legal and whole history
  pub log_when_agreed : (log : List ℕ) → Agrees deck log (request_count crews) [] → IsWholeLog deck log
  log_when_agreed log agrees = record {
    history = agrees.history;
    legal = agrees.of_deck.legal;
    whole = whole_when_long agrees.history agrees.of_deck agrees.long;
    text =
        agrees.text ∙ ap (λ l. deck_head deck ++ l) (append-nil (entry_lines crews 1 agrees.history))
        ∙ ap (λ n. log_head n ++ entry_lines crews 1 agrees.history) (sym agrees.long);
  }

  pub agreed_when_log : (log : List ℕ) → IsWholeLog deck log → Agrees deck log (request_count crews) []
  agreed_when_log log whole =
      let of_deck : IsHistory deck whole.history = record {
        legal = whole.legal;
        counts = λ crew. length (docket_of deck.dockets crew);
        whole = whole.whole;
      } in
      let long = long_when_whole whole.history of_deck whole.whole in
      record {
        history = whole.history;
        long = long;
        of_deck = of_deck;
        text =
            whole.text ∙ ap (λ n. log_head n ++ entry_lines crews 1 whole.history) long
            ∙ ap (λ l. deck_head deck ++ l) (sym (append-nil (entry_lines crews 1 whole.history)));
      }
