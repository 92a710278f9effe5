-- What the beginning of a history has, and which entry comes behind it.
use Rattle.std.specs.Prelude.{◌≡◌, ℕ, zero, suc, ◌+◌, ◌<◌, ◌≤◌, Bool, true, false, ◌==◌, if◌then◌else◌, List, [], ◌∷◌}
use Rattle.std.specs.Prelude.{◌++◌, length, take, drop, get_or, Some, slice_get}
use Rattle.std.specs.List.{All, enumerate_from}
use Rattle.std.proofs.Common.{refl, sym, ap, subst, ◌∙◌, arith, append_assoc, add-zero, eq-eqb}
use Rattle.std.proofs.lemmas.List.{map-append, length-map, length-append, length-take, take-take, take_at, get_or_at}
use Rattle.std.proofs.lemmas.{List.FromFn.length-enumerate_from, List.Elements.All-take}
use Rattle.margin_policy.specs.{Standing.reply_of, declared.request.Request.Request}
use Rattle.outage_board.specs.declared.entry.Entry.{Entry}
use Rattle.outage_board.specs.Histories.{standing_after, entries_of, served, docket_of, asked_by, IsWholeUpTo}
use Rattle.outage_board.specs.Boards.{Deck, entry_for, next_entry}
use Rattle.outage_board.proofs.HistoryLemmas.{IsLegal-parts}
use Rattle.board_audit.specs.Verdicts.{IsHistory}

-- ---- lists of requests

take-enumerate : (count number : ℕ) (requests : List Request)
    → take count (enumerate_from number requests) ≡ enumerate_from number (take count requests)
take-enumerate zero number requests = refl
take-enumerate (suc count) number [] = refl
take-enumerate (suc count) number (request ∷ requests) =
    ap (λ l. (number, request) ∷ l) (take-enumerate count (number + 1) requests)

taken_at : (count : ℕ) (requests : List Request) (place : ℕ) {request : Request}
    → slice_get (take count requests) place ≡ Some request → slice_get requests place ≡ Some request
taken_at zero requests place there = absurd cc
taken_at (suc count) [] place there = absurd cc
taken_at (suc count) (first ∷ requests) zero there = there
taken_at (suc count) (first ∷ requests) (suc place) there = taken_at count requests place there

-- what stands at a place among requests with their places
numbered_at : (number : ℕ) (requests : List Request) (front more : List (ℕ × Request)) (place : ℕ) (request : Request)
    → front ++ (place, request) ∷ more ≡ enumerate_from number requests
    → (place ≡ number + length front) × (slice_get requests (length front) ≡ Some request)
numbered_at number [] [] more place request is = absurd cc
numbered_at number [] (first ∷ front) more place request is = absurd cc
numbered_at number (asked ∷ requests) [] more place request is =
    let first : (place, request) ≡ (number, asked) = ap (λ l. get_or l 0 (place, request)) is in (
      ap (λ (p : ℕ × Request). p.0) first ∙ sym (add-zero number),
      ap (λ (p : ℕ × Request). Some p.1) (sym first),
    )
numbered_at number (asked ∷ requests) (first ∷ front) more place request is =
    let later = numbered_at (number + 1) requests front more place request (ap (drop 1) is) in (
      later.0 ∙ (let e : number + 1 + length front ≡ number + suc (length front) = omega arith in e),
      later.1,
    )

-- ---- a history in two parts

entries_of-append : (crew : ℕ) (front more : List Entry)
    → entries_of crew (front ++ more) ≡ entries_of crew front ++ entries_of crew more
entries_of-append crew [] more = refl
entries_of-append crew (entry ∷ front) more = by_same (entry.crew.0 == crew) (entries_of-append crew front more)
  where
    by_same : (same : Bool) → entries_of crew (front ++ more) ≡ entries_of crew front ++ entries_of crew more
        → (if same then entry ∷ entries_of crew (front ++ more) else entries_of crew (front ++ more))
        ≡ (if same then entry ∷ entries_of crew front else entries_of crew front) ++ entries_of crew more
    by_same true later = ap (λ es. entry ∷ es) later
    by_same false later = later

module _ {dockets : List (List Request)} {counts : ℕ → ℕ} (front more : List Entry)
    (whole : IsWholeUpTo dockets counts (front ++ more)) where
  asked_parts : (crew : ℕ) → asked_by (entries_of crew front) ++ asked_by (entries_of crew more)
      ≡ enumerate_from 0 (take (counts crew) (docket_of dockets crew))
  asked_parts crew =
      sym (map-append (λ (e : Entry). (e.place, e.request)) (entries_of crew front) (entries_of crew more))
      ∙ ap asked_by (sym (entries_of-append crew front more)) ∙ whole.each crew

  asked_length : (crew : ℕ) → length (asked_by (entries_of crew front)) ≡ served crew front
  asked_length crew = length-map (entries_of crew front) (λ (e : Entry). (e.place, e.request))

  served_within : (crew : ℕ) → served crew front ≤ counts crew
  served_within crew =
      let own = asked_length crew in
      let both = length-append (asked_by (entries_of crew front)) (asked_by (entries_of crew more)) in
      let all = ap length (asked_parts crew) in
      let numbered = length-enumerate_from 0 (take (counts crew) (docket_of dockets crew)) in
      let taken = length-take (counts crew) (docket_of dockets crew) in
      omega arith

  whole_front : IsWholeUpTo dockets (λ crew. served crew front) front
  whole_front = record {
    crews =
        subst (All (λ (e : Entry). e.crew.0 < length dockets)) (take_at front more (length front) refl)
        (All-take (λ (e : Entry). e.crew.0 < length dockets) (length front) (front ++ more) whole.crews);
    within = λ crew. let few = served_within crew in let all = whole.within crew in omega arith;
    each = λ crew.
        sym (take_at (asked_by (entries_of crew front)) (asked_by (entries_of crew more)) (served crew front)
        (asked_length crew))
        ∙ ap (take (served crew front)) (asked_parts crew)
        ∙ take-enumerate (served crew front) 0 (take (counts crew) (docket_of dockets crew))
        ∙ ap (enumerate_from 0) (take-take (served crew front) (counts crew) (docket_of dockets crew)
        (served_within crew));
  }

-- a beginning of a history of the deck is one
pub is_front : {deck : Deck} (front more : List Entry) → IsHistory deck (front ++ more) → IsHistory deck front
is_front {deck} front more of_deck = record {
  legal = (IsLegal-parts deck.opening front more of_deck.legal).0;
  counts = λ crew. served crew front;
  whole = whole_front front more of_deck.whole;
}

-- the same history, parted behind the next entry
pub parted : {deck : Deck} (front : List Entry) (entry : Entry) (more : List Entry)
    → IsHistory deck (front ++ entry ∷ more)
    → IsHistory deck ((front ++ entry ∷ []) ++ more)
parted {deck} front entry more of_deck = subst (IsHistory deck) (sym (append_assoc front (entry ∷ []) more)) of_deck

-- ---- the entry behind a beginning

module _ {deck : Deck} (front : List Entry) (entry : Entry) (more : List Entry)
    (of_deck : IsHistory deck (front ++ entry ∷ more)) where
  abbrev crew : ℕ
  crew = entry.crew.0

  own_first : entries_of crew (entry ∷ more) ≡ entry ∷ entries_of crew more
  own_first = ap (λ b. if b then entry ∷ entries_of crew more else entries_of crew more) (eq-eqb crew crew refl)

  abbrev own : List (ℕ × Request)
  own = asked_by (entries_of crew front)

  abbrev docket : List Request
  docket = docket_of deck.dockets crew

  asked : (entry.place ≡ 0 + length own)
      × (slice_get (take (of_deck.counts crew) docket) (length own) ≡ Some entry.request)
  asked =
      numbered_at 0 (take (of_deck.counts crew) docket) own (asked_by (entries_of crew more)) entry.place entry.request
      (ap (λ es. own ++ asked_by es) (sym own_first)
      ∙ asked_parts front (entry ∷ more) of_deck.whole crew)

  count : length own ≡ served crew front
  count = asked_length front (entry ∷ more) of_deck.whole crew

  place_is : entry.place ≡ served crew front
  place_is = asked.0 ∙ (let e = count in let n : 0 + length own ≡ served crew front = omega arith in n)

  request_is : slice_get docket (served crew front) ≡ Some entry.request
  request_is =
      taken_at (of_deck.counts crew) docket (served crew front)
      (subst (λ n. slice_get (take (of_deck.counts crew) docket) n ≡ Some entry.request) count asked.1)

  decided : entry.reply ≡ reply_of (standing_after deck.opening front) entry.crew entry.request
  decided = (IsLegal-parts deck.opening front (entry ∷ more) of_deck.legal).1.0

  -- it is the one that is made for its crew
  pub is_next : next_entry (record { deck = deck; history = front }) entry.crew ≡ Some entry
  is_next =
      ap (entry_for (standing_after deck.opening front) entry.crew (served crew front)) request_is
      ∙ (λ i. Some (record {
        crew = entry.crew;
        place = sym place_is i;
        request = entry.request;
        reply = sym decided i;
      }))

  -- and its crew is one of those of the deck
  pub is_low : entry.crew.0 < length deck.dockets
  is_low =
      subst (λ (e : Entry). e.crew.0 < length deck.dockets) (get_or_at front entry more entry (length front) refl)
      (of_deck.whole.crews (length front) entry (let e = length-append front (entry ∷ more) in omega arith))
