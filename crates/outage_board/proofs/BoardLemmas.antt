-- What a board keeps, from its opening on.
use Rattle.std.proofs.Common.{◌≡◌, ℕ, zero, suc, ◌+◌, ◌<◌, ◌≤◌, List, [], ◌∷◌, ◌++◌, length, get_or, set, refl, sym}
use Rattle.std.proofs.Common.{◌∙◌, ap, subst, arith, inl, inr, length-append, length-set, get_or-set_same}
use Rattle.std.proofs.Common.{get_or-set_other}
use Rattle.std.specs.Prelude.{Option, Some, None, IsNone, slice_get, ◌↔◌}
use Rattle.std.specs.List.{All}
use Rattle.std.proofs.{lemmas.Bool.cases_eq, lemmas.List.Elements.All-push, lemmas.Option.get_or_from_slice_get}
use Rattle.std.proofs.{lemmas.Option.slice_get_cases}
use Rattle.unit_sets.specs.declared.request.CrewNo.{CrewNo}
use Rattle.margin_policy.specs.{Holders.HoldersBelow, Holders.NamesCrewBelow, declared.request.Request.Request}
use Rattle.margin_policy.proofs.HoldersLemmas.{reply_names_below, holders_after_below}
use Rattle.margin_policy.specs.Standing.{StandingView, IsRequestFor, reply_of, after}
use Rattle.outage_board.specs.{declared.entry.Entry.Entry, Histories.served, Histories.docket_of, Kept.KeepsBoard}
use Rattle.outage_board.specs.{Kept.left_in}
use Rattle.outage_board.specs.Boards.{BoardView, IsBoard, standing_of, next_entry, entry_for, IsUsedUp}
use Rattle.outage_board.proofs.HistoryLemmas.{standing_after-push, units_stay, IsLegal-push, entries_of-other}
use Rattle.outage_board.proofs.HistoryLemmas.{served-own, IsWholeUpTo-push}

-- ---- the next entry

pub record IsEntryFor (standing : StandingView) (crew : CrewNo) (place : ℕ) (found : Option Request)
    (entry : Entry) : Type 0 where
  pub own : entry.crew ≡ crew
  pub at : entry.place ≡ place
  pub asked : found ≡ Some entry.request
  pub decided : entry.reply ≡ reply_of standing crew entry.request

entry_is : {entry : Entry} (other : Entry) → Some entry ≡ Some other → entry ≡ other
entry_is other e = cc

pub entry_for-is : {standing : StandingView} {crew : CrewNo} {place : ℕ} (found : Option Request) {entry : Entry}
    → entry_for standing crew place found ≡ Some entry → IsEntryFor standing crew place found entry
entry_for-is None is = absurd cc
entry_for-is {standing} {crew} {place} (Some request) {entry} is =
    subst (IsEntryFor standing crew place (Some request)) (entry_is entry is)
    (record { own = refl; at = refl; asked = refl; decided = refl })

past_end : (docket : List Request) (count : ℕ) → slice_get docket count ≡ None → length docket ≤ count
past_end docket count none = elim ((slice_get_cases docket count).1) [
  | inl there ↦ absurd (some_none there.0 (sym there.2 ∙ none))
  | inr past ↦ past.0
]
  where
    some_none : (request : Request) → Some request ≡ None → ⊥
    some_none request e = absurd cc

inside_end : (docket : List Request) (count : ℕ) (request : Request) → slice_get docket count ≡ Some request
    → count < length docket
inside_end docket count request some = elim ((slice_get_cases docket count).1) [
  | inl there ↦ there.1
  | inr past ↦ absurd (some_none (sym some ∙ past.1))
]
  where
    some_none : Some request ≡ None → ⊥
    some_none e = absurd cc

-- there is no next entry exactly where the docket is used up
pub no_next : (board : BoardView) (crew : CrewNo) {found : Option Entry} → IsBoard board → found ≡ next_entry board crew
    → IsNone found ↔ IsUsedUp board crew.0
no_next board crew kept is =
    subst (λ f. IsNone f ↔ IsUsedUp board crew.0) (sym is)
    (by_request (slice_get (docket_of board.deck.dockets crew.0) (served crew.0 board.history)) refl)
  where
    by_request : (request : Option Request) → slice_get (docket_of board.deck.dockets crew.0)
        (served crew.0 board.history) ≡ request → IsNone
        (entry_for (standing_of board) crew (served crew.0 board.history) request) ↔ IsUsedUp board crew.0
    by_request None at = (
      λ none. let past = past_end (docket_of board.deck.dockets crew.0) (served crew.0 board.history) at in
          let within = kept.whole.within crew.0 in omega arith,
      λ up. refl,
    )
    by_request (Some request) at = (
      λ none. absurd cc,
      λ up. let short = inside_end (docket_of board.deck.dockets crew.0)
          (served crew.0 board.history) request at in absurd (omega arith),
    )

-- ---- the requests that are left

pub left_in-served : (dockets : List (List Request)) (next : List ℕ) (crew : ℕ) → length next ≡ length dockets
    → crew < length next → get_or next crew 0 < length (docket_of dockets crew)
    → left_in dockets next ≡ left_in dockets (set next crew (get_or next crew 0 + 1)) + 1
left_in-served [] [] crew all short some = absurd (omega arith)
left_in-served [] (place ∷ next) crew all short some = absurd (omega arith)
left_in-served (docket ∷ dockets) [] crew all short some = absurd (omega arith)
left_in-served (docket ∷ dockets) (place ∷ next) zero all short some = omega arith
left_in-served (docket ∷ dockets) (place ∷ next) (suc crew) all short some =
    let later = left_in-served dockets next crew (omega arith) (omega arith) some in
    omega arith

-- ---- a crew is served

module _ {board : BoardView} {standing : StandingView} {next : List ℕ} {room : ℕ} (entry : Entry)
    (kept : KeepsBoard board standing next room)
    (within : entry.crew.0 < length board.deck.crews) (is : next_entry board entry.crew ≡ Some entry) where
  fact : IsEntryFor (standing_of board) entry.crew (served entry.crew.0 board.history)
      (slice_get (docket_of board.deck.dockets entry.crew.0) (served entry.crew.0 board.history)) entry
  fact =
      entry_for-is (slice_get (docket_of board.deck.dockets entry.crew.0) (served entry.crew.0 board.history)) is

  short : served entry.crew.0 board.history < length (docket_of board.deck.dockets entry.crew.0)
  short =
      inside_end (docket_of board.deck.dockets entry.crew.0) (served entry.crew.0 board.history) entry.request
      fact.asked

  inside : entry.crew.0 < length next
  inside = let all = kept.all in let both = kept.sound.all in omega (arith, within)

  pub at_place : get_or next entry.crew.0 0 ≡ served entry.crew.0 board.history
  at_place = kept.places entry.crew.0 inside

  fewer : left_in board.deck.dockets next ≡ left_in board.deck.dockets
      (set next entry.crew.0 (get_or next entry.crew.0 0 + 1)) + 1
  fewer =
      left_in-served board.deck.dockets next entry.crew.0 kept.all inside
      (let e = at_place in let s = short in omega arith)

  pub has_room : length board.history < room
  has_room = let f = fewer in let t = kept.total in let r = kept.room in omega arith

  -- what is asked is of the crew's docket
  asked_fits : IsRequestFor board.deck.opening.units entry.request
  asked_fits =
      let crew_low : entry.crew.0 < length board.deck.dockets = let both = kept.sound.all in omega (arith, within) in
      let docket_all : All (IsRequestFor standing.units) (docket_of board.deck.dockets entry.crew.0) =
      kept.fits entry.crew.0 [] crew_low in
      let at : get_or (docket_of board.deck.dockets entry.crew.0) (served entry.crew.0 board.history) entry.request
      ≡ entry.request =
      get_or_from_slice_get (docket_of board.deck.dockets entry.crew.0) (served entry.crew.0 board.history)
      entry.request entry.request fact.asked in
      let units : standing.units ≡ board.deck.opening.units =
      ap (λ (s : StandingView). s.units) kept.leaves ∙ units_stay board.deck.opening board.history in
      subst (λ (p : ℕ × Request). IsRequestFor p.0 p.1) (λ i. (units i, at i))
      (docket_all (served entry.crew.0 board.history) entry.request short)

  sound_next : IsBoard (record board { history = board.history ++ entry ∷ [] })
  sound_next = record {
    legal = IsLegal-push board.deck.opening board.history entry kept.sound.legal fact.decided;
    whole =
        IsWholeUpTo-push entry kept.sound.whole (let both = kept.sound.all in omega (arith, within)) fact.at short
        (get_or_from_slice_get (docket_of board.deck.dockets entry.crew.0) (served entry.crew.0 board.history)
        entry.request entry.request fact.asked);
    all = kept.sound.all;
    nothing_out = kept.sound.nothing_out;
    places =
        All-push (λ (e : Entry). e.place < length (docket_of board.deck.dockets e.crew.0)) board.history entry
        kept.sound.places
        (subst (λ (p : ℕ). p < length (docket_of board.deck.dockets entry.crew.0)) (sym fact.at) short);
    requests =
        All-push (λ (e : Entry). IsRequestFor board.deck.opening.units e.request) board.history entry
        kept.sound.requests asked_fits;
    replies =
        All-push (λ (e : Entry). NamesCrewBelow (length board.deck.crews) e.reply) board.history entry
        kept.sound.replies
        (subst (NamesCrewBelow (length board.deck.crews)) (sym fact.decided)
        (reply_names_below (length board.deck.crews) (standing_of board) entry.crew entry.request
        kept.sound.holders));
    holders =
        subst (λ (s : StandingView). HoldersBelow (length board.deck.crews) s.held)
        (sym (standing_after-push board.deck.opening board.history entry))
        (holders_after_below (length board.deck.crews) entry.crew entry.request entry.reply (standing_of board).held
        within kept.sound.holders);
    few = let f = fewer in let t = kept.total in let l = length-append board.history (entry ∷ []) in omega arith;
  }

  places_next : (other : ℕ) → other < length (set next entry.crew.0 (get_or next entry.crew.0 0 + 1))
      → get_or (set next entry.crew.0 (get_or next entry.crew.0 0 + 1)) other 0
      ≡ served other (board.history ++ entry ∷ [])
  places_next other low = elim (cases_eq other entry.crew.0) [
    | inl same ↦
        ap (λ c. get_or (set next entry.crew.0 (get_or next entry.crew.0 0 + 1)) c 0) same
        ∙ get_or-set_same next entry.crew.0 (get_or next entry.crew.0 0 + 1) 0 inside
        ∙ ap (λ n. n + 1) at_place
        ∙ sym (served-own board.history entry entry.crew.0 refl)
        ∙ ap (λ c. served c (board.history ++ entry ∷ [])) (sym same)
    | inr apart ↦
        get_or-set_other next entry.crew.0 other (get_or next entry.crew.0 0 + 1) 0 apart
        ∙ kept.places other (let e = length-set next entry.crew.0 (get_or next entry.crew.0 0 + 1) in omega arith)
        ∙ sym (ap length (entries_of-other board.history entry apart))
  ]

  pub keeps_next : KeepsBoard (record board { history = board.history ++ entry ∷ [] })
      (after standing entry.crew entry.request entry.reply) (set next entry.crew.0 (get_or next entry.crew.0 0 + 1))
      room
  keeps_next = record {
    sound = sound_next;
    leaves =
        ap (λ s. after s entry.crew entry.request entry.reply) kept.leaves
        ∙ sym (standing_after-push board.deck.opening board.history entry);
    all = length-set next entry.crew.0 (get_or next entry.crew.0 0 + 1) ∙ kept.all;
    places = places_next;
    fits = kept.fits;
    total = let f = fewer in let t = kept.total in let l = length-append board.history (entry ∷ []) in omega arith;
    room = kept.room;
    short = kept.short;
    few = kept.few;
  }
