-- What a pass knows around its turn.
use Rattle.std.proofs.Common.{◌≡◌, ℕ, ◌≤◌, List, [], ◌∷◌, length, refl, sym, ◌∙◌, ap, subst, arith, inl, inr}
use Rattle.std.proofs.lemmas.List.Elements.{All-head}
use Rattle.atomic_table.specs.Table.{Me, rest}
use Rattle.margin_policy.specs.Standing.{IsRequestFor}
use Rattle.live_board.specs.declared.entry.LiveEntry.{LiveEntry}
use Rattle.live_board.specs.declared.entry.Call.{Call}
use Rattle.live_board.specs.declared.entry.Answer.{Answer}
use Rattle.live_board.specs.declared.entry.Answer.TheVariants.{Answered, HistoryFull}
use Rattle.live_board.specs.{declared.view.View.View, declared.view.Own.Own, Histories.made_by}
use Rattle.live_board.specs.Boards.{Setup, LiveView, IsLive, replied, IsAnswer, after_answer}
use Rattle.live_board.specs.{Views.holding, Views.settled, Views.together, Views.AreOwn, Passes.IsFirst}
use Rattle.live_board.specs.Turns.{IsIdle, state_of, HasTaken, MayFollow, MayGive, HasGiven, held, HasHadTurn, HasAsked}
use Rattle.live_board.specs.Turns.{HasLooked, HasJoined}
use Rattle.live_board.proofs.OwnLemmas.{numbers_of-append}

-- the state that a place holds, and what is left of it
pub held_first : {me : List (ℕ × LiveView)} (state : LiveView) → me ≡ (0, state) ∷ [] → me ≡ (0, state) ∷ rest me
held_first state is = is ∙ ap (λ (l : List (ℕ × LiveView)). (0, state) ∷ rest l) (sym is)

module _ {before taken : Me LiveView View} {setup : Setup} (idle : IsIdle setup before)
    (has : HasTaken before taken) where
  abbrev state : LiveView
  state = state_of before.0 has.history

  pub holds_state : taken.1 ≡ (0, state) ∷ []
  holds_state = has.state ∙ ap (λ (l : List (ℕ × LiveView)). (0, state) ∷ l) idle.holds_none

  pub held_is : held taken.1 ≡ state
  held_is = ap held holds_state

  pub holds_held : taken.1 ≡ (0, held taken.1) ∷ []
  holds_held = holds_state ∙ ap (λ (s : LiveView). (0, s) ∷ []) (sym held_is)

  -- how many entries the history has of the pass's number
  pub counted : (call : Call) → IsFirst before.0.own call.pass call.place
      → call.place ≡ length (made_by call.pass (held taken.1).history)
  counted call first =
      let agrees = subst (λ (own : List Own). AreOwn has.history own) first.is has.own in
      first.long
      ∙ ap length (sym (All-head (λ (o : Own). made_by o.pass has.history ≡ o.entries)
      (record { pass = call.pass; entries = first.entries }) first.others agrees))
      ∙ ap (λ (s : LiveView). length (made_by call.pass s.history)) (sym held_is)

  pub asked_of_held : (call : Call) → IsRequestFor before.0.opened.setup.opening.units call.request
      → IsRequestFor (held taken.1).setup.opening.units call.request
  asked_of_held call asked =
      subst (λ (s : LiveView). IsRequestFor s.setup.opening.units call.request) (sym held_is) asked

  pub room_of_held : (reserved : ℕ) → before.0.opened.setup.room ≤ reserved → (held taken.1).setup.room ≤ reserved
  room_of_held reserved room = subst (λ (s : LiveView). s.setup.room ≤ reserved) (sym held_is) room

  -- the turn goes back with a state whose history follows
  module _ (then : Me LiveView View) (left : List LiveEntry) (follows : MayFollow (holding has.history before.0) left)
      (so : ◌≡◌ {A = Me LiveView View} then (taken.0, (0, state_of before.0 left) ∷ [])) where
    then_is : ◌≡◌ {A = Me LiveView View} then (holding has.history before.0, (0, state_of before.0 left) ∷ [])
    then_is = so ∙ (λ i. (has.view i, (0, state_of before.0 left) ∷ []))

    pub may_give : MayGive setup then
    may_give = subst (MayGive setup) (sym then_is) (record {
      of = record { opened = idle.of.opened; named = idle.of.named };
      turn = refl;
      history = left;
      state = ap (λ (d : Setup). (0, record { setup = d; history = left }) ∷ []) idle.of.opened;
      follows = follows;
    })

    pub had_turn : {after : Me LiveView View} → HasGiven then after → HasHadTurn before has.history left after
    had_turn {after} gave =
        let left_is : gave.left ≡ state_of before.0 left =
        ap held (sym gave.state) ∙ ap (λ (m : Me LiveView View). held m.1) then_is in
        record {
          begins = has.begins;
          own = has.own;
          view = gave.view ∙ (λ i. settled (left_is i).history (then_is i).0);
          holds_none = gave.holds_none;
        }

  -- what an answer leaves follows
  answer_follows : (call : Call) (answer : Answer) → call.pass ≡ before.0.number
      → MayFollow (holding has.history before.0) (after_answer state call answer).history
  answer_follows call (Answered reply) same = inr (replied call reply, refl, same)
  answer_follows call HistoryFull same = inl refl

  answer_setup : (call : Call) (answer : Answer)
      → after_answer state call answer ≡ state_of before.0 (after_answer state call answer).history
  answer_setup call (Answered reply) = refl
  answer_setup call HistoryFull = refl

  -- a call is answered
  module _ (call : Call) (answer : Answer) (same : call.pass ≡ before.0.number) (then : Me LiveView View)
      (so : ◌≡◌ {A = Me LiveView View} then (taken.0, (0, after_answer (held taken.1) call answer) ∷ [])) where
    answered_so : ◌≡◌ {A = Me LiveView View} then
        (taken.0, (0, state_of before.0 (after_answer state call answer).history) ∷ [])
    answered_so =
        so ∙ (λ i. (taken.0, (0, after_answer (held_is i) call answer) ∷ []))
        ∙ (λ i. (taken.0, (0, answer_setup call answer i) ∷ []))

    pub may_give_answered : MayGive setup then
    may_give_answered =
        may_give then (after_answer state call answer).history (answer_follows call answer same) answered_so

    pub has_asked : {after : Me LiveView View} → HasGiven then after → IsAnswer (held taken.1) call answer
        → IsLive (after_answer (held taken.1) call answer) → HasAsked before call answer after
    has_asked gave right live = record {
      found = has.history;
      right = subst (λ (s : LiveView). IsAnswer s call answer) held_is right;
      live = subst (λ (s : LiveView). IsLive (after_answer s call answer)) held_is live;
      turn =
          had_turn then (after_answer state call answer).history (answer_follows call answer same) answered_so gave;
    }

  pub read_live : {entries : List LiveEntry} → IsLive (held taken.1) → entries ≡ (held taken.1).history
      → IsLive (state_of before.0 entries)
  read_live {entries} live are =
      subst (λ (h : List LiveEntry). IsLive (state_of before.0 h))
      (sym (are ∙ ap (λ (s : LiveView). s.history) held_is)) (subst IsLive held_is live)

  -- the history is only looked at
  module _ (then : Me LiveView View) (so : ◌≡◌ {A = Me LiveView View} then taken) where
    read_so : ◌≡◌ {A = Me LiveView View} then (taken.0, (0, state_of before.0 has.history) ∷ [])
    read_so = so ∙ (λ i. (taken.0, holds_state i))

    pub may_give_read : MayGive setup then
    may_give_read = may_give then has.history (inl refl) read_so

    pub has_read : {after : Me LiveView View} {entries : List LiveEntry} → HasGiven then after
        → entries ≡ (held taken.1).history → HasHadTurn before entries entries after
    has_read {after} {entries} gave are =
        subst (λ (h : List LiveEntry). HasHadTurn before h h after)
        (sym (are ∙ ap (λ (s : LiveView). s.history) held_is))
        (had_turn then has.history (inl refl) read_so gave)

-- two passes that are united, and what is then found out
pub has_joined : {before other united after : Me LiveView View}
    → ◌≡◌ {A = Me LiveView View} united (together before.0 other.0, before.1) → HasLooked united after
    → HasJoined before other after
has_joined {before} {other} {united} {after} is looks =
    let l = subst (λ (m : Me LiveView View). HasLooked m after) is looks in
    record { view = l.view; holds = l.holds; begins = l.begins; once = l.once }

-- the pass that took another in may step
pub united_idle : {setup : Setup} {before united : Me LiveView View} (other : View) → IsIdle setup before
    → ◌≡◌ {A = Me LiveView View} united (together before.0 other, before.1) → IsIdle setup united
united_idle {setup} {before} {united} other idle is = subst (IsIdle setup) (sym is) (record {
  of = record {
    opened = idle.of.opened;
    named =
        let e = numbers_of-append before.0.number before.0.own other.own in let named = idle.of.named in omega arith;
  };
  turn = idle.turn;
  holds_none = idle.holds_none;
})
