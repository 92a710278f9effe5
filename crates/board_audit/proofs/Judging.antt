-- The verdict that comes of reading a log's lines one after another.
use Rattle.std.specs.Prelude.{◌≡◌, ◌≢◌, ℕ, ◌+◌, ◌<◌, List, [], ◌∷◌, ◌++◌, length, Option, Some, None}
use Rattle.std.specs.Prelude.{slice_get}
use Rattle.std.specs.Borrow.{Bor}
use Rattle.std.proofs.Common.{refl, sym, ap, subst, ◌∙◌, arith, append_assoc, append-nil}
use Rattle.std.proofs.lemmas.{Option.same_Some, Option.slice_get_within, List.length-append}
use Rattle.unit_sets.specs.declared.request.CrewNo.{CrewNo}
use Rattle.crew_script.specs.Dockets.{IsDockets, crew_at, request_count}
use Rattle.crew_script.specs.declared.dockets.Crew.{Crew}
use Rattle.margin_policy.specs.Holders.{NamesCrewBelow}
use Rattle.margin_policy.proofs.HoldersLemmas.{reply_names_below}
use Rattle.outage_board.specs.declared.entry.Entry.{Entry}
use Rattle.outage_board.specs.Histories.{served, docket_of}
use Rattle.outage_board.specs.Boards.{Deck, BoardView, IsBoard, next_entry, standing_of}
use Rattle.outage_board.proofs.BoardLemmas.{entry_for-is, IsEntryFor}
use Rattle.board_report.specs.{LogText.entry_line, LogText.entry_lines, Logged.IsLogged}
use Rattle.board_audit.specs.declared.verdict.Verdict.TheVariants.{Yes, Header, Entry as EntryVerdict, Rest}
use Rattle.board_audit.specs.{Front.crew_of_line, Pieces.behind, Pieces.lent}
use Rattle.board_audit.specs.Reading.{HasAsks, Reads, ReadsEntry, ShowsNext, ShowsNone}
use Rattle.board_audit.specs.Verdicts.{Agrees, AgreesUpTo, IsHistory, IsVerdict, deck_head}
use Rattle.board_audit.proofs.PieceLemmas.{behind-self, behind_is}
use Rattle.board_audit.proofs.FrontLemmas.{line_tells}
use Rattle.board_audit.proofs.Beginnings.{is_next, is_low}
use Rattle.board_audit.proofs.Agreeing.{agreeing, entry_lines-append}

none_some : {P X : Type 0} {x : X} → None ≡ Some x → P
none_some e = absurd cc

-- ---- the entry that is made

pub made_fact : (board : BoardView) (crew : CrewNo) {entry : Entry} → next_entry board crew ≡ Some entry
    → IsEntryFor (standing_of board) crew (served crew.0 board.history)
    (slice_get (docket_of board.deck.dockets crew.0) (served crew.0 board.history)) entry
made_fact board crew due =
    entry_for-is (slice_get (docket_of board.deck.dockets crew.0) (served crew.0 board.history)) due

-- a log can show it
pub made_logged : (board : BoardView) (crew : CrewNo) (entry : Entry) → IsBoard board → HasAsks board.deck
    → crew.0 < length board.deck.crews → next_entry board crew ≡ Some entry → IsLogged board.deck.crews entry
made_logged board crew entry kept asks low due =
    let fact = made_fact board crew due in
    let within =
    slice_get_within (docket_of board.deck.dockets crew.0) (served crew.0 board.history) entry.request fact.asked in
    let crews = board.deck.crews in
    record {
      crew = subst (λ (c : CrewNo). c.0 < length crews) (sym fact.own) low;
      place =
          subst (λ (c : CrewNo). entry.place < length (crew_at crews c.0).docket) (sym fact.own)
          (let at = fact.at in let size = asks crew.0 in omega arith);
      reply =
          subst (NamesCrewBelow (length crews)) (sym fact.decided)
          (reply_names_below (length crews) (standing_of board) crew entry.request kept.holders);
    }

-- ---- the line that a text begins with

-- the crew that was found, by the board
pub named_is : (board : BoardView) (text : List ℕ) {crews : List Crew} {number : ℕ} {found : Option CrewNo}
    → found ≡ crew_of_line crews number text → crews ≡ board.deck.crews → number ≡ length board.history + 1
    → crew_of_line board.deck.crews (length board.history + 1) text ≡ found
named_is board text {crews} {number} is same count =
    sym (is ∙ (λ i. crew_of_line (same i) (count i) text))

module _ (board : BoardView) (text : List ℕ) (kept : IsDockets board.deck.crews) where
  abbrev number : ℕ
  number = length board.history + 1

  -- whose it is
  whose : (entry : Entry) (rest : List ℕ) → entry.crew.0 < length board.deck.crews → ShowsNext board text entry rest
      → crew_of_line board.deck.crews number text ≡ Some entry.crew
  whose entry rest low shown =
      ap (crew_of_line board.deck.crews number) shown ∙ line_tells board.deck.crews number entry rest kept low

  -- it names no crew
  pub shows_no_crew : crew_of_line board.deck.crews number text ≡ None → ShowsNone board text
  shows_no_crew none = λ entry rest low due shown. none_some (sym none ∙ whose entry rest low shown)

  module _ {crew : CrewNo} (named : crew_of_line board.deck.crews number text ≡ Some crew) where
    made_too : (entry : Entry) (rest : List ℕ) → entry.crew.0 < length board.deck.crews
        → next_entry board entry.crew ≡ Some entry → ShowsNext board text entry rest
        → next_entry board crew ≡ Some entry
    made_too entry rest low due shown =
        ap (next_entry board) (same_Some crew entry.crew (sym named ∙ whose entry rest low shown)) ∙ due

    -- it names a crew whose requests are used up
    pub shows_used_up : next_entry board crew ≡ None → ShowsNone board text
    shows_used_up none = λ entry rest low due shown. none_some (sym none ∙ made_too entry rest low due shown)

    -- it is not the line of the entry that is made for the crew
    pub shows_another : {made : Entry} → next_entry board crew ≡ Some made
        → behind (entry_line board.deck.crews number made) text ≡ None → ShowsNone board text
    shows_another {made} next none = λ entry rest low due shown.
        let same : made ≡ entry = same_Some made entry (sym next ∙ made_too entry rest low due shown) in
        none_some (sym none ∙ ap (λ e. behind (entry_line board.deck.crews number e) text) same
        ∙ ap (behind (entry_line board.deck.crews number entry)) shown
        ∙ behind-self (entry_line board.deck.crews number entry) rest)

-- what is left behind the line of the entry that is made for the crew that a text names
pub reads_by : (old : BoardView) {new : BoardView} (text : List ℕ) (kept : IsDockets old.deck.crews) {crew : CrewNo}
    {entry : Entry} (found : Option (Bor (List ℕ)))
    → crew_of_line old.deck.crews (length old.history + 1) text ≡ Some crew → next_entry old crew ≡ Some entry
    → new ≡ record old { history = old.history ++ entry ∷ [] }
    → lent found ≡ behind (entry_line old.deck.crews (length old.history + 1) entry) text → Reads old new text found
reads_by old text kept None named due board is = shows_another old text kept named due (sym is)
reads_by old {new} text kept {crew} {entry} (Some rest) named due board is = record {
  entry = entry;
  due = ap (next_entry old) (made_fact old crew due).own ∙ due;
  shown = behind_is (entry_line old.deck.crews (length old.history + 1) entry) text (sym is);
  board = board;
}

-- ---- the head

pub no_head : (deck : Deck) (log : List ℕ) → None ≡ behind (deck_head deck) log → IsVerdict deck log Header
no_head deck log none =
    λ has. none_some (none ∙ ap (behind (deck_head deck)) has.1 ∙ behind-self (deck_head deck) has.0)

-- ---- lines that were read

-- so far the lines are those of a board's history, and this is left of them
pub record HasRead (old : BoardView) (lines : List ℕ) (board : BoardView) (rest : List ℕ) : Type 0 where
  pub deck : board.deck ≡ old.deck
  pub shown : lines ≡ entry_lines board.deck.crews 1 board.history ++ rest

pub read_none : {old : BoardView} {lines : List ℕ} → old.history ≡ [] → HasRead old lines old lines
read_none {old} {lines} none = record {
  deck = refl;
  shown = sym (ap (λ es. entry_lines old.deck.crews 1 es ++ lines) none);
}

pub read_one : {old board new : BoardView} {lines rest more : List ℕ} → HasRead old lines board rest
    → ReadsEntry board new rest more → HasRead old lines new more
read_one {old} {board} {new} {lines} {rest} {more} has reads =
    let crews = board.deck.crews in
    let line = entry_line crews (length board.history + 1) reads.entry in
    let longer : entry_lines crews 1 board.history ++ line
    ≡ entry_lines crews 1 (board.history ++ reads.entry ∷ []) =
    ap (λ l. entry_lines crews 1 board.history ++ l) (sym (append-nil line)
    ∙ ap (λ n. entry_line crews n reads.entry ++ [])
    (let e : length board.history + 1 ≡ 1 + length board.history = omega arith in e))
    ∙ sym (entry_lines-append crews 1 board.history (reads.entry ∷ [])) in
    subst (λ b. HasRead old lines b more) (sym reads.board) (record {
      deck = has.deck;
      shown =
          has.shown ∙ ap (λ l. entry_lines crews 1 board.history ++ l) reads.shown
          ∙ sym (append_assoc (entry_lines crews 1 board.history) line more) ∙ ap (λ l. l ++ more) longer;
    })

pub read_length : {board new : BoardView} {text rest : List ℕ} → ReadsEntry board new text rest
    → length new.history ≡ length board.history + 1
read_length {board} reads =
    ap (λ (b : BoardView). length b.history) reads.board ∙ length-append board.history (reads.entry ∷ [])

-- ---- the verdict

module _ {board : BoardView} {lines rest : List ℕ} (kept : IsBoard board)
    (has : lines ≡ entry_lines board.deck.crews 1 board.history ++ rest) where
  agrees_now : (count : ℕ) → length board.history ≡ count
      → Agrees board.deck (deck_head board.deck ++ lines) count rest
  agrees_now count long = record {
    history = board.history;
    long = long;
    of_deck = record {
      legal = kept.legal;
      counts = λ crew. served crew board.history;
      whole = kept.whole;
    };
    text = ap (λ l. deck_head board.deck ++ l) has;
  }

  -- no history of the deck is longer by an entry and has these lines
  no_longer : (place : ℕ) → length board.history ≡ place → IsDockets board.deck.crews → ShowsNone board rest
      → AgreesUpTo board.deck (deck_head board.deck ++ lines) (place + 1) → ⊥
  unfolding agrees_now
  no_longer place long named none up =
      let on = agreeing board.deck named kept.all (agrees_now place long) up.1 (omega arith) in
      by_more on.more on.is on.text (let e = ap length on.is in let a = length-append board.history on.more in
      let l = up.1.long in omega arith)
    where
      by_more : (more : List Entry) → up.1.history ≡ board.history ++ more
          → rest ≡ entry_lines board.deck.crews (place + 1) more ++ up.0 → length more ≡ 1 → ⊥
      by_more [] is text one = absurd (omega (arith, one))
      by_more (entry ∷ more) is text one =
          let of_deck : IsHistory board.deck (board.history ++ entry ∷ more) =
          subst (IsHistory board.deck) is up.1.of_deck in
          let low : entry.crew.0 < length board.deck.crews =
          (let l = is_low board.history entry more of_deck in let both = kept.all in omega arith) in
          none entry (entry_lines board.deck.crews (place + 1 + 1) more ++ up.0) low
          (is_next board.history entry more of_deck)
          (text ∙ append_assoc (entry_line board.deck.crews (place + 1) entry)
          (entry_lines board.deck.crews (place + 1 + 1) more) up.0
          ∙ ap (λ n. entry_line board.deck.crews (n + 1) entry
          ++ (entry_lines board.deck.crews (place + 1 + 1) more ++ up.0)) (sym long))

module _ {old board : BoardView} {lines rest : List ℕ} (has : HasRead old lines board rest) (kept : IsBoard board) where
  to_old : (P : Deck → Type 0) → P board.deck → P old.deck
  to_old P at = subst P has.deck at

  pub stops_at : (place : ℕ) → length board.history ≡ place → IsDockets old.deck.crews
      → place < request_count old.deck.crews → ShowsNone board rest
      → IsVerdict old.deck (deck_head old.deck ++ lines) (EntryVerdict (place + 1))
  stops_at place long named low none =
      let counts : request_count board.deck.crews ≡ request_count old.deck.crews =
      ap (λ (d : Deck). request_count d.crews) has.deck in
      to_old (λ d. IsVerdict d (deck_head d ++ lines) (EntryVerdict (place + 1))) (record {
        before = place;
        next = refl;
        within = omega (arith, counts, low);
        agrees = (rest, agrees_now kept has.shown place long);
        stops =
            no_longer kept has.shown place long
            (subst (λ (d : Deck). IsDockets d.crews) (sym has.deck) named) none;
      })

  agrees_to_end : length board.history ≡ request_count old.deck.crews
      → Agrees old.deck (deck_head old.deck ++ lines) (request_count old.deck.crews) rest
  agrees_to_end long =
      to_old (λ d. Agrees d (deck_head d ++ lines) (request_count d.crews) rest)
      (agrees_now kept has.shown (request_count board.deck.crews)
      (long ∙ sym (ap (λ (d : Deck). request_count d.crews) has.deck)))

  pub ends_there : length board.history ≡ request_count old.deck.crews → rest ≡ []
      → IsVerdict old.deck (deck_head old.deck ++ lines) Yes
  ends_there long none =
      subst (λ l. Agrees old.deck (deck_head old.deck ++ lines) (request_count old.deck.crews) l) none
      (agrees_to_end long)

  pub goes_on : length board.history ≡ request_count old.deck.crews → rest ≢ []
      → IsVerdict old.deck (deck_head old.deck ++ lines) Rest
  goes_on long some = record { rest = rest; agrees = agrees_to_end long; more = some }
