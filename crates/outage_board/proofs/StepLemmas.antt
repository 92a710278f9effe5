-- Each kind of step keeps the rule of a board, whatever the other passes did before.
use Rattle.std.proofs.Common.{◌≡◌, ◌≢◌, ◌⊎◌, ℕ, ◌<◌, ◌≤◌, ◌==◌, Bool, true, false, List, [], ◌∷◌, ◌++◌}
use Rattle.std.proofs.Common.{length, set, refl, sym, ◌∙◌, ap, subst, arith, inl, inr, ⊎_elim}
use Rattle.std.specs.{Prelude.MatchBool, Prelude.slice_index, List.All, declared.snapshot.Snapshot.Snapshot}
use Rattle.std.proofs.lemmas.Bool.{cases_eq}
use Rattle.std.proofs.lemmas.List.Elements.{All-nil, All-head, All-tail, All-cons, All-append}
use mathlib.Core.Option.{Option, some, none, some-injective}
use lib.ListN.{get_elem?}
use prog.Atomic.{either}
use Rattle.atomic_table.specs.Table.{State, Me, Act, keeps, takes, gives, stepped, Valid, carried_after, Allows, Splits}
use Rattle.atomic_table.specs.Table.{Joins, Enters}
use Rattle.atomic_table.proofs.Lists.{at_snoc, at_longer, set_here, set_else, set_again}
use Rattle.outage_board.specs.{declared.entry.Entry.Entry, declared.view.View.View, declared.view.Made.Made}
use Rattle.outage_board.specs.{Histories.entries_of, Boards.BoardView, Boards.Deck}
use Rattle.outage_board.specs.Views.{first_view, spent, bare, holding, settled, first_of, rest_of}
use Rattle.outage_board.specs.Views.{of_first, of_others, together}
use Rattle.outage_board.specs.Rule.{times_of, times_in, Free, Busy, Knows, KeepsTurns}
use Rattle.outage_board.specs.Turns.{MayTake, HasTaken, MayFollow, MayGive, HasGiven}
use Rattle.outage_board.proofs.Replaced.{each_after, inside_at}
use Rattle.outage_board.proofs.TimesLemmas.{times_of-append, times_of-parts, times_of-made_in}
use Rattle.outage_board.proofs.TimesLemmas.{times_in-set, times_in-push, times_in-two, AreMade, made_as_before}
use Rattle.outage_board.proofs.TimesLemmas.{settled_made, settled_crews}

abbrev Table : Type 0
Table = State BoardView View

pub clash_turn : (b : Bool) → b ≡ true → b ≡ false → ⊥
clash_turn true on off = absurd cc
clash_turn false on off = absurd cc

-- ---- one view is put in place of another

-- the number of crews stays where the new view has as many of each
once_after : (views : List View) (seat : ℕ) (v w : View) → get_elem? views seat ≡ some v
    → ((crew : ℕ) → times_of crew w.crews ≤ times_of crew v.crews) → ((crew : ℕ) → times_in crew views ≤ 1) → (crew : ℕ)
    → times_in crew (set views seat w) ≤ 1
once_after views seat v w at fewer once crew =
    let e = times_in-set crew views seat v w at in let f = fewer crew in let o = once crew in omega arith

-- ---- the turn is taken

module _ {about : Snapshot BoardView} (slots seat : ℕ) (v : View) (may : MayTake about.value.deck (v, [])) {s : Table}
    (rule : KeepsTurns about s) (mine : get_elem? s.views seat ≡ some v) where
  abbrev Took : List ℕ × List (Option BoardView) → Type 0
  Took p = (w : View) × (a : Act BoardView) × Valid p.1 [] a
      × KeepsTurns about (stepped (record { words = p.0; homes = p.1; views = s.views }) 0
      (either (slice_index p.0 0 == 0) 1 (slice_index p.0 0)) seat [] w a)
      × MatchBool (slice_index p.0 0 == 0) (HasTaken (v, []) (w, carried_after [] a))
      (◌≡◌ {A = Me BoardView View} (w, carried_after [] a) (v, []))

  mine_knows : Knows about.value.deck rule.history v
  mine_knows = rule.views seat v mine

  won : Free about.value.deck rule.history s → Took
      (0 ∷ [], some (record { deck = about.value.deck; history = rule.history }) ∷ [])
  won free =
      let w = holding rule.history v in
      let after : Table = record { words = 1 ∷ []; homes = none ∷ []; views = set s.views seat w } in
      let busy : Busy rule.history after = record {
        word = refl;
        home = refl;
        seat = seat;
        view = w;
        at = set_here s.views seat w (inside_at s.views seat v mine);
        turned = refl;
        took = refl;
        crew = may.crew;
        others = λ other u apart at. free.none_turned other u (sym (set_else s.views seat other w apart) ∙ at);
      } in
      let kept : KeepsTurns about after = record {
        history = rule.history;
        stands = inr busy;
        views =
            each_after (λ _ u. Knows about.value.deck rule.history u) s.views seat w
            (record { opened = λ _. may.opened; crews = mine_knows.crews; made = mine_knows.made })
            (λ other u apart at. rule.views other u at);
        once = once_after s.views seat v w mine (λ crew. omega arith) rule.once;
      } in (
        w,
        takes 0 (record { deck = about.value.deck; history = rule.history }),
        refl,
        kept,
        record {
          history = rule.history;
          view = refl;
          state = ap (λ (d : Deck). (0, record { deck = d; history = rule.history }) ∷ []) (sym may.opened);
          crews =
              subst (λ (d : Deck). All (λ (made : Made). made.crew < length d.crews) v.crews) (sym may.opened)
              mine_knows.crews;
          made = mine_knows.made;
        },
      )

  lost : Busy rule.history s → Took (1 ∷ [], none ∷ [])
  lost busy =
      let after : Table = record { words = 1 ∷ []; homes = none ∷ []; views = set s.views seat v } in
      let same : s ≡ after =
      ap (λ (p : List ℕ × List (Option BoardView) × List View). record { words = p.0; homes = p.1; views = p.2 })
      (λ i. (busy.word i, busy.home i, sym (set_again s.views seat v mine) i)) in
      (v, keeps, tt, subst (KeepsTurns about) same rule, refl)

  took : (w : View) × (a : Act BoardView) × Valid s.homes [] a
      × KeepsTurns about (stepped s 0 (either (slice_index s.words 0 == 0) 1 (slice_index s.words 0)) seat [] w a)
      × MatchBool (slice_index s.words 0 == 0) (HasTaken (v, []) (w, carried_after [] a))
      (◌≡◌ {A = Me BoardView View} (w, carried_after [] a) (v, []))
  took = elim rule.stands [
    | inl free ↦ subst Took (λ i. (sym free.word i, sym free.home i)) (won free)
    | inr busy ↦ subst Took (λ i. (sym busy.word i, sym busy.home i)) (lost busy)
  ]

pub allows_take : (about : Snapshot BoardView) (slots seat : ℕ) {me : Me BoardView View} → MayTake about.value.deck me
    → Allows (KeepsTurns about) slots seat me 0 (λ n. either (n == 0) 1 n)
    (λ found after. MatchBool (found == 0) (HasTaken me after) (after ≡ me))
allows_take about slots seat {me} may =
    let P : List (ℕ × BoardView) → Type 0 =
    λ c. Allows (KeepsTurns about) slots seat (me.0, c) 0 (λ n. either (n == 0) 1 n)
    (λ found after. MatchBool (found == 0) (HasTaken (me.0, c) after) (after ≡ (me.0, c))) in
    subst P (sym may.holds_none) (λ s rule homes mine in_range. took slots seat me.0
    (record { opened = may.opened; turn = may.turn; crew = may.crew; holds_none = refl }) rule mine)

-- ---- the turn is given back

module _ {about : Snapshot BoardView} (seat : ℕ) (v : View) {history : List Entry}
    (opened : v.opened.deck ≡ about.value.deck) (turn : v.turn ≡ true) (follows : MayFollow v history)
    {s : Table} (rule : KeepsTurns about s) (mine : get_elem? s.views seat ≡ some v) where
  mine_busy : (busy : Busy rule.history s) → seat ≡ busy.seat
  mine_busy busy = elim (cases_eq seat busy.seat) [
    | inl same ↦ same
    | inr apart ↦ absurd (clash_turn v.turn turn (busy.others seat v apart mine))
  ]

  took_all : (busy : Busy rule.history s) → v.taken ≡ rule.history
  took_all busy =
      let at : get_elem? s.views seat ≡ some busy.view = ap (get_elem? s.views) (mine_busy busy) ∙ busy.at in
      ap (λ (u : View). u.taken) (some-injective v busy.view (sym mine ∙ at)) ∙ busy.took

  -- what another pass knows stays
  others_know : v.taken ≡ rule.history → (other : ℕ) (u : View) → other ≢ seat → get_elem? s.views other ≡ some u
      → Knows about.value.deck history u
  others_know all other u apart at =
      let knows = rule.views other u at in
      ⊎_elim
      (λ (same : history ≡ v.taken). record {
        opened = knows.opened;
        crews = knows.crews;
        made =
            subst (λ h. AreMade h u.crews) (sym (same ∙ all)) knows.made;
      })
      (λ (more : (entry : Entry) × (history ≡ v.taken ++ entry ∷ []) × (0 < times_of entry.crew.0 v.crews)).
      let two = times_in-two more.0.crew.0 s.views other seat u v apart at mine in
      let one = rule.once more.0.crew.0 in
      let own = more.2 in
      let none' : times_of more.0.crew.0 u.crews ≡ 0 = omega arith in
      let e : rule.history ++ more.0 ∷ [] ≡ history = ap (λ h. h ++ more.0 ∷ []) (sym all) ∙ sym more.1 in
      record {
        opened = knows.opened;
        crews = knows.crews;
        made =
            subst (λ h. AreMade h u.crews) e (made_as_before rule.history more.0 u.crews none' knows.made);
      })
      follows

  gave : KeepsTurns about (stepped s 0 0 seat ((0, record { deck = about.value.deck; history = history }) ∷ [])
      (settled history v) gives)
  gave = elim rule.stands [
    | inl free ↦ absurd (clash_turn v.turn turn (free.none_turned seat v mine))
    | inr busy ↦
        let w = settled history v in
        let after : Table =
        record {
          words = 0 ∷ [];
          homes = some (record { deck = about.value.deck; history = history }) ∷ [];
          views =
              set s.views seat w;
        } in
        let free : Free about.value.deck history after = record {
          word = refl;
          home = refl;
          none_turned =
              each_after (λ _ u. u.turn ≡ false) s.views seat w refl
              (λ other u apart at. busy.others other u (λ e. apart (e ∙ sym (mine_busy busy))) at);
        } in
        let knows = rule.views seat v mine in
        let kept : KeepsTurns about after = record {
          history = history;
          stands = inl free;
          views = each_after (λ _ u. Knows about.value.deck history u) s.views seat w
              (record {
                opened = λ _. opened;
                crews = settled_crews (length about.value.deck.crews) history v.crews
                    knows.crews;
                made = settled_made history v.crews;
              })
              (others_know (took_all busy));
          once =
              once_after s.views seat v w mine (λ crew. let e = times_of-made_in crew history v.crews in omega arith)
              rule.once;
        } in
        let Q : List ℕ × List (Option BoardView) → Type 0 =
        λ p. KeepsTurns about (stepped (record { words = p.0; homes = p.1; views = s.views }) 0 0 seat
        ((0, record { deck = about.value.deck; history = history }) ∷ []) w gives) in
        subst Q (λ i. (sym busy.word i, sym busy.home i)) kept
  ]

pub allows_give : (about : Snapshot BoardView) (slots seat : ℕ) {me : Me BoardView View} → MayGive about.value.deck me
    → Allows (KeepsTurns about) slots seat me 0 (λ _. 0) (λ found after. HasGiven me after)
allows_give about slots seat {me} may =
    let board : BoardView = record { deck = about.value.deck; history = may.history } in
    let P : List (ℕ × BoardView) → Type 0 =
    λ c. Allows (KeepsTurns about) slots seat (me.0, c) 0 (λ _. 0) (λ found after. HasGiven (me.0, c) after) in
    subst P (sym may.state) (λ s rule homes mine in_range. (
      settled may.history me.0,
      gives,
      tt,
      gave seat me.0 may.opened may.turn may.follows rule mine,
      record { board = board; state = refl; view = refl; holds_none = refl },
    ))

-- ---- passes are dealt and gathered

-- where a pass without the turn changes its crews alone, the board stands as before
stands_set : (deck : Deck) {history : List Entry} {s : Table} (seat : ℕ) (v w : View) → get_elem? s.views seat ≡ some v
    → v.turn ≡ false → w.turn ≡ false → Free deck history s ⊎ Busy history s
    → Free deck history (record s { views = set s.views seat w })
    ⊎ Busy history (record s { views = set s.views seat w })
stands_set deck {s} seat v w mine off off' stands = elim stands [
  | inl free ↦ inl (record {
    word = free.word;
    home = free.home;
    none_turned =
        each_after (λ _ u. u.turn ≡ false) s.views seat w off' (λ other u apart at. free.none_turned other u at);
  })
  | inr busy ↦
      let apart : busy.seat ≢ seat =
      λ same. clash_turn v.turn (ap (λ (u : View). u.turn)
      (some-injective v busy.view (sym mine ∙ ap (get_elem? s.views) (sym same) ∙ busy.at)) ∙ busy.turned)
      off in
      inr (record {
        word = busy.word;
        home = busy.home;
        seat = busy.seat;
        view = busy.view;
        at = set_else s.views seat busy.seat w apart ∙ busy.at;
        turned = busy.turned;
        took = busy.took;
        crew = busy.crew;
        others =
            λ other u differ at. each_after (λ n u. n ≢ busy.seat → u.turn ≡ false) s.views seat w (λ _. off')
            (λ other u _ at differ. busy.others other u differ at) other u at differ;
      })
]

stands_push : (deck : Deck) {history : List Entry} {s : Table} (w : View) → w.turn ≡ false
    → Free deck history s ⊎ Busy history s
    → Free deck history (record s { views = s.views ++ w ∷ [] }) ⊎ Busy history (record s { views = s.views ++ w ∷ [] })
stands_push deck {s} w off stands = elim stands [
  | inl free ↦ inl (record {
    word = free.word;
    home = free.home;
    none_turned =
        λ other u at. ⊎_elim (free.none_turned other u)
        (λ (same : w ≡ u). subst (λ (x : View). x.turn ≡ false) same off) (at_snoc s.views w u other at);
  })
  | inr busy ↦ inr (record {
    word = busy.word;
    home = busy.home;
    seat = busy.seat;
    view = busy.view;
    at = at_longer s.views (w ∷ []) busy.seat busy.view busy.at;
    turned = busy.turned;
    took = busy.took;
    crew = busy.crew;
    others =
        λ other u differ at. ⊎_elim (busy.others other u differ)
        (λ (same : w ≡ u). subst (λ (x : View). x.turn ≡ false) same off) (at_snoc s.views w u other at);
  })
]

first_all : (P : Made → Type 0) (crews : List Made) → All P crews → All P (first_of crews)
first_all P [] all = All-nil P
first_all P (made ∷ crews) all = All-cons P made [] (All-head P made crews all) (All-nil P)

rest_all : (P : Made → Type 0) (crews : List Made) → All P crews → All P (rest_of crews)
rest_all P [] all = All-nil P
rest_all P (made ∷ crews) all = All-tail P made crews all

pub allows_split : (about : Snapshot BoardView) (seat : ℕ) (v : View) → v.opened.deck ≡ about.value.deck
    → v.turn ≡ false → Splits (KeepsTurns about) seat v (of_others v) (of_first v)
allows_split about seat v opened off s rule mine =
    let deck = about.value.deck in
    let knows = rule.views seat v mine in
    let left : Table = record s { views = set s.views seat (of_others v) } in
    record {
      history = rule.history;
      stands =
          stands_push deck (of_first v) off (stands_set deck seat v (of_others v) mine off off rule.stands);
      views = λ other u at. ⊎_elim
          (each_after (λ _ x. Knows deck rule.history x) s.views seat (of_others v)
          (record {
            opened = λ _. opened;
            crews = rest_all (λ (m : Made). m.crew < length deck.crews) v.crews
                knows.crews;
            made = rest_all (λ (m : Made). entries_of m.crew rule.history ≡ m.entries) v.crews
                knows.made;
          })
          (λ other u apart at. rule.views other u at) other u)
          (λ (same : of_first v ≡ u). subst (Knows deck rule.history) same
          (record {
            opened = λ _. opened;
            crews = first_all (λ (m : Made). m.crew < length deck.crews) v.crews
                knows.crews;
            made = first_all (λ (m : Made). entries_of m.crew rule.history ≡ m.entries) v.crews
                knows.made;
          }))
          (at_snoc (set s.views seat (of_others v)) (of_first v) u other at);
      once = λ crew.
          let e = times_in-set crew s.views seat v (of_others v) mine in
          let p = times_in-push crew (set s.views seat (of_others v)) (of_first v) in
          let t = times_of-parts crew v.crews in
          let o = rule.once crew in omega arith;
    }

pub allows_join : (about : Snapshot BoardView) {seat : ℕ} {v : View} {other : ℕ} {w : View}
    → v.opened.deck ≡ about.value.deck → v.turn ≡ false → w.turn ≡ false
    → Joins (KeepsTurns about) seat v other w (together v w) spent
allows_join about {seat} {v} {other} {w} opened off off' s rule mine differ theirs =
    let deck = about.value.deck in
    let at : get_elem? s.views other ≡ some w = sym (set_else s.views seat other (together v w) differ) ∙ theirs in
    let knows = rule.views seat v mine in
    let knows' = rule.views other w at in
    let one : Table = record s { views = set s.views seat (together v w) } in
    record {
      history = rule.history;
      stands =
          stands_set deck other w spent theirs off' refl
          (stands_set deck seat v (together v w) mine off off rule.stands);
      views = each_after (λ _ u. Knows deck rule.history u) (set s.views seat (together v w)) other spent
          (record {
            opened = λ not. absurd (not refl);
            crews = All-nil (λ (m : Made). m.crew < length deck.crews);
            made = All-nil (λ (m : Made). entries_of m.crew rule.history ≡ m.entries);
          })
          (λ n u apart there. each_after (λ _ x. Knows deck rule.history x) s.views seat (together v w)
          (record {
            opened = λ _. opened;
            crews = All-append (λ (m : Made). m.crew < length deck.crews) v.crews w.crews knows.crews knows'.crews;
            made =
                All-append (λ (m : Made). entries_of m.crew rule.history ≡ m.entries) v.crews w.crews knows.made
                knows'.made;
          })
          (λ n u apart there. rule.views n u there) n u there);
      once = λ crew.
          let e = times_in-set crew s.views seat v (together v w) mine in
          let f = times_in-set crew (set s.views seat (together v w)) other w spent theirs in
          let t = times_of-append crew v.crews w.crews in
          let o = rule.once crew in omega arith;
    }

pub allows_enter : (about : Snapshot BoardView) (slots : ℕ)
    → Enters (KeepsTurns about) slots 0 (λ n w. w ≡ bare (first_view about.value))
allows_enter about slots s rule homes in_range =
    let deck = about.value.deck in
    let w = bare (first_view about.value) in (
      w,
      record {
        history = rule.history;
        stands = stands_push deck w refl rule.stands;
        views = λ other u at. ⊎_elim (rule.views other u)
            (λ (same : w ≡ u). subst (Knows deck rule.history) same
            (record {
              opened = λ _. refl;
              crews = All-nil (λ (m : Made). m.crew < length deck.crews);
              made =
                  All-nil (λ (m : Made). entries_of m.crew rule.history ≡ m.entries);
            }))
            (at_snoc s.views w u other at);
        once = λ crew. let p = times_in-push crew s.views w in let o = rule.once crew in omega arith;
      },
      refl,
    )
