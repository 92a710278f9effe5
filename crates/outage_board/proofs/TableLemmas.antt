-- A board that is opened keeps its rule, and one that is closed gives its history back.
use Rattle.std.proofs.Common.{◌≡◌, ◌≢◌, ℕ, zero, suc, ◌+◌, ◌<◌, ◌≤◌, ◌==◌, false, List, [], ◌∷◌}
use Rattle.std.proofs.Common.{length, refl, sym, ◌∙◌, ap, subst, arith, inl, inr, eq-eqb}
use Rattle.std.specs.{List.All, declared.snapshot.Snapshot.Snapshot}
use Rattle.std.proofs.lemmas.Bool.{cases_eq, ne_eqb}
use Rattle.std.proofs.lemmas.List.Elements.{All-nil, All-head, All-cons}
use mathlib.Core.Option.{Option, some, some-injective, some-ne-none}
use lib.ListN.{get_elem?}
use Rattle.atomic_table.specs.Table.{State, opening, Final, Seen}
use Rattle.outage_board.specs.{declared.view.View.View, declared.view.Made.Made, Histories.entries_of, Boards.BoardView}
use Rattle.outage_board.specs.{Boards.Deck, Views.nothing_made, Views.first_view}
use Rattle.outage_board.specs.Rule.{one_if, times_of, Busy, Knows, KeepsTurns}
use Rattle.outage_board.proofs.StepLemmas.{clash_turn}
use Rattle.outage_board.proofs.TimesLemmas.{times_of-first, times_in-two, AreMade}

crews_from : (number count most : ℕ) → number + count ≤ most
    → All (λ (m : Made). m.crew < most) (nothing_made number count)
crews_from number zero most few = All-nil (λ (m : Made). m.crew < most)
crews_from number (suc count) most few =
    All-cons (λ (m : Made). m.crew < most) (record { crew = number; entries = [] }) (nothing_made (suc number) count)
    (omega (arith, few)) (crews_from (suc number) count most (omega (arith, few)))

none_made : (number count : ℕ) → AreMade [] (nothing_made number count)
none_made number zero = All-nil (λ (m : Made). entries_of m.crew [] ≡ m.entries)
none_made number (suc count) =
    All-cons (λ (m : Made). entries_of m.crew [] ≡ m.entries) (record { crew = number; entries = [] })
    (nothing_made (suc number) count) refl (none_made (suc number) count)

times_from : (crew number count : ℕ) → crew < number → times_of crew (nothing_made number count) ≡ 0
times_from crew number zero low = refl
times_from crew number (suc count) low =
    let e : one_if (number == crew) ≡ 0 = ap one_if (ne_eqb number crew (λ same. absurd (omega arith))) in
    let later = times_from crew (suc number) count (omega arith) in omega arith

times_once : (crew number count : ℕ) → times_of crew (nothing_made number count) ≤ 1
times_once crew number zero = omega arith
times_once crew number (suc count) = elim (cases_eq number crew) [
  | inl same ↦
      let e : one_if (number == crew) ≡ 1 = ap one_if (eq-eqb number crew same) in
      let later = times_from crew (suc number) count (omega arith) in omega arith
  | inr apart ↦
      let e : one_if (number == crew) ≡ 0 = ap one_if (ne_eqb number crew apart) in
      let later = times_once crew (suc number) count in omega arith
]

pub opens_table : (about : Snapshot BoardView) (board : BoardView) → about.value ≡ board → board.history ≡ []
    → KeepsTurns about (opening (0 ∷ []) (board ∷ []) (first_view about.value))
opens_table about board same empty =
    let opened = about.value in
    let first = first_view opened in
    let home : some board ∷ [] ≡ some (record { deck = opened.deck; history = [] }) ∷ [] =
    ap (λ (b : BoardView). some b ∷ []) (ap (λ h. record board { history = h }) empty)
    ∙ ap (λ (b : BoardView). some (record { deck = b.deck; history = [] }) ∷ []) (sym same) in
    record {
      history = [];
      stands = inl (record {
        word = refl;
        home = home;
        none_turned = λ seat v at. subst (λ (x : View). x.turn ≡ false) (only seat v at) refl;
      });
      views = λ seat v at. subst (Knows opened.deck []) (only seat v at)
          (record {
            opened = λ _. refl;
            crews = crews_from 0 (length opened.deck.crews) (length opened.deck.crews)
                (omega arith);
            made = none_made 0 (length opened.deck.crews);
          });
      once = λ crew. let o = times_once crew 0 (length opened.deck.crews) in omega arith;
    }
  where
    only : (seat : ℕ) (v : View) → get_elem? (first_view about.value ∷ []) seat ≡ some v → first_view about.value ≡ v
    only zero v at = some-injective (first_view about.value) v at
    only (suc seat) v at = absurd (some-ne-none v (sym at))

-- what the state is that comes back at the end, to a pass that has all crews
pub record IsClosed (deck : Deck) (v : View) (board : BoardView) : Type 0 where
  pub own : board.deck ≡ deck
  pub made : AreMade board.history v.crews

pub closes_table : (about : Snapshot BoardView) (seat : ℕ) (v : View) (words : List ℕ) (slots : List BoardView)
    (board : BoardView)
    → Final (Seen (KeepsTurns about) seat v) words slots → get_elem? slots 0 ≡ some board → v.turn ≡ false
    → ((crew : ℕ) → crew < length about.value.deck.crews → 0 < times_of crew v.crews)
    → IsClosed about.value.deck v board
closes_table about seat v words slots board final at off all =
    let s = final.0 in
    let rule = final.1.0 in
    let mine = final.1.1 in
    elim rule.stands [
      | inl free ↦
          let home : get_elem? s.homes 0 ≡ some (some (record { deck = about.value.deck; history = rule.history })) =
          ap (λ (hs : List (Option BoardView)). get_elem? hs 0) free.home in
          let is : board ≡ record { deck = about.value.deck; history = rule.history } =
          some-injective board _ (sym at ∙ final.4 0 _ home) in
          record {
            own = ap (λ (b : BoardView). b.deck) is;
            made =
                subst (λ h. AreMade h v.crews) (sym (ap (λ (b : BoardView). b.history) is))
                (rule.views seat v mine).made;
          }
      | inr busy ↦ absurd (nobody s rule mine busy)
    ]
  where
    first_crew : (crews : List Made) → 0 < length crews
        → All (λ (m : Made). m.crew < length about.value.deck.crews) crews
        → (crew : ℕ) × (crew < length about.value.deck.crews) × (0 < times_of crew crews)
    first_crew [] full below = absurd (omega arith)
    first_crew (made ∷ crews) full below = (
      made.crew,
      All-head (λ (m : Made). m.crew < length about.value.deck.crews) made crews below,
      times_of-first made crews,
    )

    nobody : (s : State BoardView View) (rule : KeepsTurns about s) → get_elem? s.views seat ≡ some v
        → Busy rule.history s → ⊥
    nobody s rule mine busy =
        let apart : seat ≢ busy.seat =
        λ same. clash_turn v.turn (ap (λ (u : View). u.turn)
        (some-injective v busy.view (sym mine ∙ ap (get_elem? s.views) same ∙ busy.at)) ∙ busy.turned) off in
        let held = first_crew busy.view.crews busy.crew (rule.views busy.seat busy.view busy.at).crews in
        let own = all held.0 held.1 in
        let its = held.2 in
        let two = times_in-two held.0 s.views seat busy.seat v busy.view apart mine busy.at in
        let one = rule.once held.0 in
        omega arith
