-- Each kind of step keeps the rule of a live board, whatever the other passes did before.
use Rattle.std.proofs.Common.{◌≡◌, ◌≢◌, ◌⊎◌, ℕ, ◌<◌, ◌≤◌, ◌==◌, true, false, List, [], ◌∷◌, ◌++◌, length}
use Rattle.std.proofs.Common.{set, refl, sym, ◌∙◌, ap, subst, arith, inl, inr, ⊎_elim}
use Rattle.std.specs.{Prelude.MatchBool, Prelude.slice_index, Prelude.slice_set, declared.snapshot.Snapshot.Snapshot}
use Rattle.std.proofs.lemmas.Bool.{cases_eq}
use Rattle.std.proofs.lemmas.List.Elements.{All-nil, All-append}
use mathlib.Core.Option.{Option, some, none, some-injective}
use lib.ListN.{get_elem?}
use prog.Atomic.{either}
use Rattle.atomic_table.specs.Table.{State, Me, Act, keeps, takes, gives, stepped, Valid, carried_after, Allows, Splits}
use Rattle.atomic_table.specs.Table.{Joins}
use Rattle.atomic_table.proofs.Lists.{at_snoc, at_longer, set_here, set_else, set_again}
use Rattle.outage_board.proofs.{Replaced.each_after, Replaced.inside_at, StepLemmas.clash_turn}
use Rattle.live_board.specs.declared.entry.LiveEntry.{LiveEntry}
use Rattle.live_board.specs.{declared.view.View.View, declared.view.Own.Own, Histories.made_by}
use Rattle.live_board.specs.{Boards.Setup, Boards.LiveView}
use Rattle.live_board.specs.Views.{spent, holding, settled, of_new, of_old, together, looked}
use Rattle.live_board.specs.Views.{AreUnused}
use Rattle.live_board.specs.Rule.{times_among, numbers_of, times_of, times_in, IsOf, Free, Busy, Knows, KeepsHistory}
use Rattle.live_board.specs.Turns.{IsIdle, HasTaken, MayFollow, MayGive, HasGiven, HasLooked}
use Rattle.live_board.proofs.HistoryLemmas.{begins_itself, begins_nothing, begins_more}
use Rattle.live_board.proofs.LongerLemmas.{longer_begins, shorter_begins}
use Rattle.live_board.proofs.OwnLemmas.{numbers_of-append, numbers_of-own_in, times_of-parts, first_named, settled_of}
use Rattle.live_board.proofs.OwnLemmas.{times_in-set, times_in-push, times_in-one, times_in-two, own_as_before}
use Rattle.live_board.proofs.OwnLemmas.{spare_as_before, own_of_first, others_unused, own_in-agrees}

abbrev Table : Type 0
Table = State LiveView View

-- ---- one view is put in place of another

-- no number comes to stand twice where the new view has no more of each
once_after : (views : List View) (seat : ℕ) (v w : View) → get_elem? views seat ≡ some v
    → ((number : ℕ) → times_of number w ≤ times_of number v) → ((number : ℕ) → times_in number views ≤ 1)
    → (number : ℕ) → times_in number (set views seat w) ≤ 1
once_after views seat v w at fewer once number =
    let e = times_in-set number views seat v w at in let f = fewer number in let o = once number in omega arith

-- where a pass without the turn stays without it, the board stands as before
stands_set : (setup : Setup) {history : List LiveEntry} {s : Table} (seat : ℕ) (v w : View)
    → get_elem? s.views seat ≡ some v → v.turn ≡ false → w.turn ≡ false → Free setup history s ⊎ Busy history s
    → Free setup history (record s { views = set s.views seat w })
    ⊎ Busy history (record s { views = set s.views seat w })
stands_set setup {s} seat v w mine off off' stands = elim stands [
  | inl free ↦ inl (record {
    word = free.word;
    home = free.home;
    none_turned =
        each_after (λ _ u. u.turn ≡ false) s.views seat w off' (λ other u apart at. free.none_turned other u at);
  })
  | inr busy ↦
      let apart : busy.seat ≢ seat =
      λ same. clash_turn v.turn (ap (λ (u : View). u.turn)
      (some-injective v busy.view (sym mine ∙ ap (get_elem? s.views) (sym same) ∙ busy.at)) ∙ busy.turned)
      off in
      inr (record {
        word = busy.word;
        home = busy.home;
        seat = busy.seat;
        view = busy.view;
        at = set_else s.views seat busy.seat w apart ∙ busy.at;
        turned = busy.turned;
        sees = busy.sees;
        others =
            λ other u differ at. each_after (λ n u. n ≢ busy.seat → u.turn ≡ false) s.views seat w (λ _. off')
            (λ other u _ at differ. busy.others other u differ at) other u at differ;
      })
]

-- so it does where a pass without the turn comes to the others
stands_push : (setup : Setup) {history : List LiveEntry} {s : Table} (w : View) → w.turn ≡ false
    → Free setup history s ⊎ Busy history s
    → Free setup history (record s { views = s.views ++ w ∷ [] })
    ⊎ Busy history (record s { views = s.views ++ w ∷ [] })
stands_push setup {s} w off stands = elim stands [
  | inl free ↦ inl (record {
    word = free.word;
    home = free.home;
    none_turned =
        λ other u at. ⊎_elim (free.none_turned other u)
        (λ (same : w ≡ u). subst (λ (x : View). x.turn ≡ false) same off) (at_snoc s.views w u other at);
  })
  | inr busy ↦ inr (record {
    word = busy.word;
    home = busy.home;
    seat = busy.seat;
    view = busy.view;
    at = at_longer s.views (w ∷ []) busy.seat busy.view busy.at;
    turned = busy.turned;
    sees = busy.sees;
    others =
        λ other u differ at. ⊎_elim (busy.others other u differ)
        (λ (same : w ≡ u). subst (λ (x : View). x.turn ≡ false) same off) (at_snoc s.views w u other at);
  })
]

-- ---- the turn is taken

module _ {about : Snapshot LiveView} (slots seat : ℕ) (v : View) (may : IsIdle about.value.setup (v, [])) {s : Table}
    (rule : KeepsHistory about s) (mine : get_elem? s.views seat ≡ some v) where
  abbrev Took : List ℕ × List (Option LiveView) → Type 0
  Took p = (w : View) × (a : Act LiveView) × Valid p.1 [] a
      × KeepsHistory about (stepped (record { words = p.0; homes = p.1; views = s.views }) 0
      (either (slice_index p.0 0 == 0) 1 (slice_index p.0 0)) seat [] w a)
      × MatchBool (slice_index p.0 0 == 0) (HasTaken (v, []) (w, carried_after [] a))
      (◌≡◌ {A = Me LiveView View} (w, carried_after [] a) (v, []))

  mine_knows : Knows about.value.setup rule.history v
  mine_knows = rule.views seat v mine

  won : Free about.value.setup rule.history s → Took
      (0 ∷ [], some (record { setup = about.value.setup; history = rule.history }) ∷ [])
  won free =
      let w = holding rule.history v in
      let after : Table = record { words = 1 ∷ []; homes = none ∷ []; views = set s.views seat w } in
      let busy : Busy rule.history after = record {
        word = refl;
        home = refl;
        seat = seat;
        view = w;
        at = set_here s.views seat w (inside_at s.views seat v mine);
        turned = refl;
        sees = refl;
        others = λ other u apart at. free.none_turned other u (sym (set_else s.views seat other w apart) ∙ at);
      } in
      let kept : KeepsHistory about after = record {
        history = rule.history;
        stands = inr busy;
        views =
            each_after (λ _ u. Knows about.value.setup rule.history u) s.views seat w
            (record {
              of = λ _. record { opened = may.of.opened; named = may.of.named };
              seen = begins_itself rule.history;
              told = begins_nothing rule.history;
              own = mine_knows.own;
              spare = mine_knows.spare;
            })
            (λ other u apart at. rule.views other u at);
        once = once_after s.views seat v w mine (λ number. omega arith) rule.once;
      } in (
        w,
        takes 0 (record { setup = about.value.setup; history = rule.history }),
        refl,
        kept,
        record {
          history = rule.history;
          view = refl;
          state =
              ap (λ (setup : Setup). (0, record { setup = setup; history = rule.history }) ∷ []) (sym may.of.opened);
          begins = mine_knows.seen;
          own = mine_knows.own;
        },
      )

  lost : Busy rule.history s → Took (1 ∷ [], none ∷ [])
  lost busy =
      let after : Table = record { words = 1 ∷ []; homes = none ∷ []; views = set s.views seat v } in
      let same : s ≡ after =
      ap (λ (p : List ℕ × List (Option LiveView) × List View). record { words = p.0; homes = p.1; views = p.2 })
      (λ i. (busy.word i, busy.home i, sym (set_again s.views seat v mine) i)) in
      (v, keeps, tt, subst (KeepsHistory about) same rule, refl)

  took : (w : View) × (a : Act LiveView) × Valid s.homes [] a
      × KeepsHistory about (stepped s 0 (either (slice_index s.words 0 == 0) 1 (slice_index s.words 0)) seat [] w a)
      × MatchBool (slice_index s.words 0 == 0) (HasTaken (v, []) (w, carried_after [] a))
      (◌≡◌ {A = Me LiveView View} (w, carried_after [] a) (v, []))
  took = elim rule.stands [
    | inl free ↦ subst Took (λ i. (sym free.word i, sym free.home i)) (won free)
    | inr busy ↦ subst Took (λ i. (sym busy.word i, sym busy.home i)) (lost busy)
  ]

pub allows_take : (about : Snapshot LiveView) (slots seat : ℕ) {me : Me LiveView View} → IsIdle about.value.setup me
    → Allows (KeepsHistory about) slots seat me 0 (λ n. either (n == 0) 1 n)
    (λ found after. MatchBool (found == 0) (HasTaken me after) (after ≡ me))
allows_take about slots seat {me} may =
    let P : List (ℕ × LiveView) → Type 0 =
    λ c. Allows (KeepsHistory about) slots seat (me.0, c) 0 (λ n. either (n == 0) 1 n)
    (λ found after. MatchBool (found == 0) (HasTaken (me.0, c) after) (after ≡ (me.0, c))) in
    subst P (sym may.holds_none) (λ s rule homes mine in_range. took slots seat me.0
    (record { of = may.of; turn = may.turn; holds_none = refl }) rule mine)

-- ---- the turn is given back

module _ {about : Snapshot LiveView} (seat : ℕ) (v : View) {history : List LiveEntry} (of : IsOf about.value.setup v)
    (turn : v.turn ≡ true) (follows : MayFollow v history) {s : Table} (rule : KeepsHistory about s)
    (mine : get_elem? s.views seat ≡ some v) where
  abbrev setup : Setup
  setup = about.value.setup

  mine_busy : (busy : Busy rule.history s) → seat ≡ busy.seat
  mine_busy busy = elim (cases_eq seat busy.seat) [
    | inl same ↦ same
    | inr apart ↦ absurd (clash_turn v.turn turn (busy.others seat v apart mine))
  ]

  saw_all : (busy : Busy rule.history s) → v.seen ≡ rule.history
  saw_all busy =
      let at : get_elem? s.views seat ≡ some busy.view = ap (get_elem? s.views) (mine_busy busy) ∙ busy.at in
      ap (λ (u : View). u.seen) (some-injective v busy.view (sym mine ∙ at)) ∙ busy.sees

  -- what another pass knows stays
  others_know : v.seen ≡ rule.history → (other : ℕ) (u : View) → other ≢ seat → get_elem? s.views other ≡ some u
      → Knows setup history u
  others_know all other u apart at =
      let knows = rule.views other u at in
      ⊎_elim
      (λ (same : history ≡ v.seen). subst (λ h. Knows setup h u) (sym (same ∙ all)) knows)
      (λ (more : (made : LiveEntry) × (history ≡ v.seen ++ made ∷ []) × (made.pass ≡ v.number)).
      let made = more.0 in
      let two = times_in-two made.pass s.views other seat u v apart at mine in
      let one = rule.once made.pass in
      let named : 0 < times_among made.pass (numbers_of v.own) =
      subst (λ (n : ℕ). 0 < times_among n (numbers_of v.own)) (sym more.2) of.named in
      let e : rule.history ++ made ∷ [] ≡ history = ap (λ h. h ++ made ∷ []) (sym all) ∙ sym more.1 in
      subst (λ h. Knows setup h u) e (record {
        of = knows.of;
        seen = begins_more (made ∷ []) knows.seen;
        told = knows.told;
        own = own_as_before rule.history made u.own (omega arith) knows.own;
        spare = spare_as_before rule.history made u.spare (omega arith) knows.spare;
      }))
      follows

  -- no entry has a number that is still to spare
  still_spare : v.seen ≡ rule.history → AreUnused history v.spare
  still_spare all =
      let knows = rule.views seat v mine in
      ⊎_elim
      (λ (same : history ≡ v.seen). subst (λ h. AreUnused h v.spare) (sym (same ∙ all)) knows.spare)
      (λ (more : (made : LiveEntry) × (history ≡ v.seen ++ made ∷ []) × (made.pass ≡ v.number)).
      let made = more.0 in
      let mine_once = times_in-one made.pass s.views seat v mine in
      let one = rule.once made.pass in
      let named : 0 < times_among made.pass (numbers_of v.own) =
      subst (λ (n : ℕ). 0 < times_among n (numbers_of v.own)) (sym more.2) of.named in
      let e : rule.history ++ made ∷ [] ≡ history = ap (λ h. h ++ made ∷ []) (sym all) ∙ sym more.1 in
      subst (λ h. AreUnused h v.spare) e (spare_as_before rule.history made v.spare (omega arith) knows.spare))
      follows

  gave : KeepsHistory about (stepped s 0 0 seat ((0, record { setup = setup; history = history }) ∷ [])
      (settled history v) gives)
  gave = elim rule.stands [
    | inl free ↦ absurd (clash_turn v.turn turn (free.none_turned seat v mine))
    | inr busy ↦
        let w = settled history v in
        let after : Table =
        record {
          words = 0 ∷ [];
          homes = some (record { setup = setup; history = history }) ∷ [];
          views = set s.views seat w;
        } in
        let free : Free setup history after = record {
          word = refl;
          home = refl;
          none_turned =
              each_after (λ _ u. u.turn ≡ false) s.views seat w refl
              (λ other u apart at. busy.others other u (λ e. apart (e ∙ sym (mine_busy busy))) at);
        } in
        let kept : KeepsHistory about after = record {
          history = history;
          stands = inl free;
          views = each_after (λ _ u. Knows setup history u) s.views seat w
              (record {
                of = λ _. settled_of history of;
                seen = begins_itself history;
                told = begins_nothing history;
                own = own_in-agrees history v.own;
                spare = still_spare (saw_all busy);
              })
              (others_know (saw_all busy));
          once =
              once_after s.views seat v w mine
              (λ number. let e = ap (times_among number) (numbers_of-own_in history v.own) in omega arith) rule.once;
        } in
        let Q : List ℕ × List (Option LiveView) → Type 0 =
        λ p. KeepsHistory about (stepped (record { words = p.0; homes = p.1; views = s.views }) 0 0 seat
        ((0, record { setup = setup; history = history }) ∷ []) w gives) in
        subst Q (λ i. (sym busy.word i, sym busy.home i)) kept
  ]

pub allows_give : (about : Snapshot LiveView) (slots seat : ℕ) {me : Me LiveView View} → MayGive about.value.setup me
    → Allows (KeepsHistory about) slots seat me 0 (λ _. 0) (λ found after. HasGiven me after)
allows_give about slots seat {me} may =
    let state : LiveView = record { setup = about.value.setup; history = may.history } in
    let P : List (ℕ × LiveView) → Type 0 =
    λ c. Allows (KeepsHistory about) slots seat (me.0, c) 0 (λ _. 0) (λ found after. HasGiven (me.0, c) after) in
    subst P (sym may.state) (λ s rule homes mine in_range. (
      settled may.history me.0,
      gives,
      tt,
      gave seat me.0 may.of may.turn may.follows rule mine,
      record { left = state; state = refl; view = refl; holds_none = refl },
    ))

-- ---- a pass finds out what it was told

-- a load leaves the words
words_stay : {setup : Setup} {history : List LiveEntry} {s : Table} → Free setup history s ⊎ Busy history s
    → slice_set s.words 0 (slice_index s.words 0) ≡ s.words
words_stay {s} stands = elim stands [
  | inl free ↦ subst (λ (ws : List ℕ). slice_set ws 0 (slice_index ws 0) ≡ ws) (sym free.word) refl
  | inr busy ↦ subst (λ (ws : List ℕ). slice_set ws 0 (slice_index ws 0) ≡ ws) (sym busy.word) refl
]

pub allows_look : (about : Snapshot LiveView) (slots seat : ℕ) {me : Me LiveView View} → IsIdle about.value.setup me
    → Allows (KeepsHistory about) slots seat me 0 (λ n. n) (λ found after. HasLooked me after)
allows_look about slots seat {me} may s rule homes mine in_range =
    let v = me.0 in
    let w = looked v in
    let knows = rule.views seat v mine in
    let kept : KeepsHistory about (record s { views = set s.views seat w }) = record {
      history = rule.history;
      stands = stands_set about.value.setup seat v w mine may.turn may.turn rule.stands;
      views =
          each_after (λ _ u. Knows about.value.setup rule.history u) s.views seat w
          (record {
            of = λ _. record { opened = may.of.opened; named = may.of.named };
            seen = knows.seen;
            told = begins_nothing v.seen;
            own = knows.own;
            spare = knows.spare;
          })
          (λ other u apart at. rule.views other u at);
      once = once_after s.views seat v w mine (λ number. omega arith) rule.once;
    } in (
      w,
      keeps,
      tt,
      subst (λ (ws : List ℕ). KeepsHistory about (record { words = ws; homes = s.homes; views = set s.views seat w }))
          (sym (words_stay rule.stands)) kept,
      record {
        view = refl;
        holds = refl;
        begins = knows.told;
        once = λ number. let one = times_in-one number s.views seat v mine in let o = rule.once number in omega arith;
      },
    )

-- ---- passes are divided and united

pub allows_divide : (about : Snapshot LiveView) (seat : ℕ) {v : View} → IsOf about.value.setup v → v.turn ≡ false
    → 0 < length v.spare → Splits (KeepsHistory about) seat v (of_old v) (of_new v)
allows_divide about seat {v} of off some_spare s rule mine =
    let setup = about.value.setup in
    let knows = rule.views seat v mine in
    record {
      history = rule.history;
      stands = stands_push setup (of_new v) off (stands_set setup seat v (of_old v) mine off off rule.stands);
      views = λ other u at. ⊎_elim
          (each_after (λ _ x. Knows setup rule.history x) s.views seat (of_old v)
          (record {
            of = λ _. record { opened = of.opened; named = of.named };
            seen = knows.seen;
            told = knows.told;
            own = knows.own;
            spare = others_unused rule.history v.spare knows.spare;
          })
          (λ other u apart at. rule.views other u at) other u)
          (λ (same : of_new v ≡ u). subst (Knows setup rule.history) same
          (record {
            of = λ _. record { opened = of.opened; named = first_named v.spare some_spare };
            seen = knows.seen;
            told = begins_nothing v.seen;
            own = own_of_first rule.history v.spare knows.spare;
            spare = All-nil (λ (number : ℕ). made_by number rule.history ≡ []);
          }))
          (at_snoc (set s.views seat (of_old v)) (of_new v) u other at);
      once = λ number.
          let e = times_in-set number s.views seat v (of_old v) mine in
          let p = times_in-push number (set s.views seat (of_old v)) (of_new v) in
          let t = times_of-parts number v.spare in
          let o = rule.once number in omega arith;
    }

pub allows_unite : (about : Snapshot LiveView) {seat : ℕ} {v : View} {other : ℕ} {w : View} → IsOf about.value.setup v
    → v.turn ≡ false → w.turn ≡ false → Joins (KeepsHistory about) seat v other w (together v w) spent
allows_unite about {seat} {v} {other} {w} of off off' s rule mine differ theirs =
    let setup = about.value.setup in
    let at : get_elem? s.views other ≡ some w = sym (set_else s.views seat other (together v w) differ) ∙ theirs in
    let knows = rule.views seat v mine in
    let knows' = rule.views other w at in
    record {
      history = rule.history;
      stands =
          stands_set setup other w spent theirs off' refl
          (stands_set setup seat v (together v w) mine off off rule.stands);
      views = each_after (λ _ u. Knows setup rule.history u) (set s.views seat (together v w)) other spent
          (record {
            of = λ not. absurd (not refl);
            seen = begins_nothing rule.history;
            told = begins_nothing [];
            own = All-nil (λ (o : Own). made_by o.pass rule.history ≡ o.entries);
            spare = All-nil (λ (number : ℕ). made_by number rule.history ≡ []);
          })
          (λ n u apart there. each_after (λ _ x. Knows setup rule.history x) s.views seat (together v w)
          (record {
            of = λ _. record {
              opened = of.opened;
              named = let e = numbers_of-append v.number v.own w.own in let named = of.named in omega arith;
            };
            seen = longer_begins knows.seen knows'.seen;
            told = shorter_begins knows.seen knows'.seen;
            own =
                All-append (λ (o : Own). made_by o.pass rule.history ≡ o.entries) v.own w.own knows.own knows'.own;
            spare = knows.spare;
          })
          (λ n u apart there. rule.views n u there) n u there);
      once = λ number.
          let e = times_in-set number s.views seat v (together v w) mine in
          let f = times_in-set number (set s.views seat (together v w)) other w spent theirs in
          let t = numbers_of-append number v.own w.own in
          let o = rule.once number in omega arith;
    }
