-- A pass before and after the calls of its board.
use Rattle.std.proofs.Common.{◌≡◌, ℕ, zero, suc, ◌+◌, ◌<◌, ◌≤◌, List, [], ◌∷◌, ◌++◌, length, refl, sym, ◌∙◌, ap}
use Rattle.std.proofs.Common.{subst, arith, eq-eqb, length-append}
use Rattle.std.specs.Prelude.{if◌then◌else◌}
use Rattle.std.proofs.lemmas.List.Elements.{All-head}
use Rattle.atomic_table.specs.{Table.Me, Seated.TableId}
use Rattle.margin_policy.specs.{declared.request.Reply.Reply}
use Rattle.live_board.specs.declared.entry.LiveEntry.{LiveEntry}
use Rattle.live_board.specs.declared.entry.Call.{Call}
use Rattle.live_board.specs.declared.entry.Answer.{Answer}
use Rattle.live_board.specs.declared.entry.Answer.TheVariants.{Answered, HistoryFull}
use Rattle.live_board.specs.{declared.view.View.View, declared.view.Own.Own}
use Rattle.live_board.specs.Histories.{made_by, IsLiveHistory, BeginsWith, EndsWith}
use Rattle.live_board.specs.Boards.{Setup, LiveView, IsLive, replied, IsAnswer, after_answer, next_place, IfAnswered}
use Rattle.live_board.specs.Boards.{IfFull}
use Rattle.live_board.specs.Views.{numbers_from, own_in}
use Rattle.live_board.specs.Views.{AreOwn, gained, made_under}
use Rattle.live_board.specs.Rule.{times_among, numbers_of}
use Rattle.live_board.specs.Passes.{OpenLive, LivePass, pass_of, call_made, IsPass}
use Rattle.live_board.specs.Turns.{IsIdle, state_of, HasHadTurn, HasAsked}
use Rattle.live_board.proofs.HistoryLemmas.{made_by-push, begins_more}
use Rattle.live_board.proofs.OwnLemmas.{times_among-first, own_in-agrees, own_in-same, own_in-more, made_under-first}

-- a pass may step
pub idle_of : {me : Me LiveView View} {name next first left : ℕ} {setup : Setup} → IsPass me name next first left
    → me.0.opened.setup ≡ setup → IsIdle setup me
idle_of {me} {name} pass opened = record {
  of = record {
    opened = opened;
    named =
        subst (λ (p : ℕ × List Own). 0 < times_among p.0 (numbers_of p.1))
        (λ i. (sym pass.number i, sym pass.own.is i))
        (times_among-first name (numbers_of pass.own.others));
  };
  turn = pass.turn;
  holds_none = pass.holds_none;
}

-- a pass of a board may step at its table
module _ {me : Me LiveView View} {name next first left : ℕ} {table own : TableId} {setup : Setup} {old : LivePass}
    {board : OpenLive} (pass : IsPass me name next first left) (is : pass_of table me.0 ≡ old) (of : old.board ≡ board)
    (board_is : record { table = own; setup = setup } ≡ board) where
  same_setup : me.0.opened.setup ≡ setup
  same_setup =
      ap (λ (p : LivePass). p.board.setup) is ∙ ap (λ (b : OpenLive). b.setup) (of ∙ sym board_is)

  pub may_step : IsIdle setup me
  may_step = idle_of pass same_setup

-- ---- spare numbers

numbers_from-long : (first left : ℕ) → length (numbers_from first left) ≡ left
numbers_from-long first zero = refl
numbers_from-long first (suc left) = let e = numbers_from-long (suc first) left in omega arith

-- how many passes may be split off
pub spare_left : {me : Me LiveView View} {name next first left : ℕ} {table : TableId} {old : LivePass}
    → IsPass me name next first left → pass_of table me.0 ≡ old → left ≡ length old.spare
spare_left {me} {name} {next} {first} {left} pass is =
    sym (numbers_from-long first left) ∙ ap length (sym pass.spare) ∙ ap (λ (p : LivePass). length p.spare) is

-- ---- a pass asks

live_after : (state : LiveView) (call : Call) (answer : Answer) → IsLive (after_answer state call answer)
    → IsLiveHistory state.setup.opening (after_answer state call answer).history
live_after state call (Answered reply) live = live.live
live_after state call HistoryFull live = live.live

few_after : (state : LiveView) (call : Call) (answer : Answer) → IsLive (after_answer state call answer)
    → length (after_answer state call answer).history ≤ state.setup.room
few_after state call (Answered reply) live = live.few
few_after state call HistoryFull live = live.few

begins_after : (state : LiveView) (call : Call) (answer : Answer) {seen : List LiveEntry}
    → BeginsWith state.history seen → BeginsWith (after_answer state call answer).history seen
begins_after state call (Answered reply) begins = begins_more (replied call reply ∷ []) begins
begins_after state call HistoryFull begins = begins

ends_after : (state : LiveView) (call : Call) (answer : Answer) {seen : List LiveEntry} → IsAnswer state call answer
    → BeginsWith state.history seen
    → IfAnswered answer (λ reply. EndsWith state.setup.room seen (replied call reply)
    (after_answer state call answer).history)
ends_after state call (Answered reply) right begins =
    record { found = state.history; begins = begins; is = refl; few = right.1 }
ends_after state call HistoryFull right begins = tt

gains_after : (state : LiveView) (call : Call) (answer : Answer) (own : List Own) → AreOwn state.history own
    → IfAnswered answer (λ reply. own_in (after_answer state call answer).history own ≡ gained (replied call reply) own)
gains_after state call (Answered reply) own agrees = own_in-more state.history (replied call reply) own agrees
gains_after state call HistoryFull own agrees = tt

unchanged_after : (state : LiveView) (call : Call) (answer : Answer) (own : List Own) → AreOwn state.history own
    → IfFull answer (own_in (after_answer state call answer).history own ≡ own)
unchanged_after state call (Answered reply) own agrees = tt
unchanged_after state call HistoryFull own agrees = own_in-same state.history own agrees

full_after : (state : LiveView) (call : Call) (answer : Answer) → IsAnswer state call answer
    → IfFull answer (length (after_answer state call answer).history ≡ state.setup.room)
full_after state call (Answered reply) right = tt
full_after state call HistoryFull right = right

counts_after : (state : LiveView) (call : Call) (answer : Answer) (count : ℕ)
    → count ≡ length (made_by call.pass state.history)
    → next_place answer count ≡ length (made_by call.pass (after_answer state call answer).history)
counts_after state call (Answered reply) count is =
    let made = replied call reply in
    let here : made_by call.pass (state.history ++ made ∷ []) ≡ made_by call.pass state.history ++ made.entry ∷ [] =
    made_by-push call.pass state.history made
    ∙ ap (λ b. made_by call.pass state.history ++ (if b then made.entry ∷ [] else []))
    (eq-eqb call.pass call.pass refl) in
    ap (λ n. n + 1) is
    ∙ sym (length-append (made_by call.pass state.history) (made.entry ∷ []))
    ∙ ap length (sym here)
counts_after state call HistoryFull count is = is

-- a fact of the reply is another, where there is one
if_answered : (answer : Answer) (P Q : Reply → Type 0) → ((reply : Reply) → P reply → Q reply) → IfAnswered answer P
    → IfAnswered answer Q
if_answered (Answered reply) P Q weaker fact = weaker reply fact
if_answered HistoryFull P Q weaker fact = tt

if_full : (answer : Answer) (P Q : Type 0) → (P → Q) → IfFull answer P → IfFull answer Q
if_full (Answered reply) P Q weaker fact = tt
if_full HistoryFull P Q weaker fact = weaker fact

-- a pass that makes a call
pub record IsCaller (table : TableId) (before : Me LiveView View) (call : Call) (first left : ℕ) (old : LivePass)
    (board : OpenLive) : Type 0 where
  pub pass : IsPass before call.pass call.place first left
  pub is : pass_of table before.0 ≡ old
  pub of : old.board ≡ board

module _ {table : TableId} {before after : Me LiveView View} {call : Call} {first left : ℕ} {old : LivePass}
    {board : OpenLive} (answer : Answer) (caller : IsCaller table before call first left old board)
    (asked : HasAsked before call answer after) where
  abbrev history : List LiveEntry
  history = (after_answer (state_of before.0 asked.found) call answer).history

  setup_is : before.0.opened.setup ≡ board.setup
  setup_is = ap (λ (p : LivePass). p.board.setup) caller.is ∙ ap (λ (b : OpenLive). b.setup) caller.of

  seen_after : after.0.seen ≡ history
  seen_after = ap (λ (v : View). v.seen) asked.turn.view

  own_after : after.0.own ≡ own_in history before.0.own
  own_after = ap (λ (v : View). v.own) asked.turn.view

  -- the entry of the call, as contracts see it
  made_is : (reply : Reply) → replied call reply ≡ call_made old call.crew call.request reply
  made_is reply =
      let pass = caller.pass in
      let place : call.place ≡ length (made_under before.0.number before.0.own) =
      pass.own.long
      ∙ ap length (sym (made_under-first call.pass pass.own.entries pass.own.others))
      ∙ (λ i. length (made_under (sym pass.number i) (sym pass.own.is i))) in
      (λ i. record {
        pass = sym pass.number i;
        entry = record { crew = call.crew; place = place i; request = call.request; reply = reply };
      })
      ∙ ap (λ (p : LivePass). call_made p call.crew call.request reply) caller.is

  pub asked_live : IsLiveHistory board.setup.opening after.0.seen
  asked_live =
      subst (λ (p : Setup × List LiveEntry). IsLiveHistory p.0.opening p.1) (λ i. (setup_is i, sym seen_after i))
      (live_after (state_of before.0 asked.found) call answer asked.live)

  pub asked_within : length after.0.seen ≤ board.setup.room
  asked_within =
      subst (λ (p : Setup × List LiveEntry). length p.1 ≤ p.0.room) (λ i. (setup_is i, sym seen_after i))
      (few_after (state_of before.0 asked.found) call answer asked.live)

  pub asked_begins : BeginsWith after.0.seen old.seen
  asked_begins =
      subst (λ (p : List LiveEntry × LivePass). BeginsWith p.0 p.1.seen) (λ i. (sym seen_after i, caller.is i))
      (begins_after (state_of before.0 asked.found) call answer asked.turn.begins)

  pub asked_ends : IfAnswered answer
      (λ reply. EndsWith board.setup.room old.seen (call_made old call.crew call.request reply) after.0.seen)
  asked_ends =
      if_answered answer
      (λ reply. EndsWith before.0.opened.setup.room before.0.seen (replied call reply) history)
      (λ reply. EndsWith board.setup.room old.seen (call_made old call.crew call.request reply) after.0.seen)
      (λ reply ends. subst
      (λ (p : Setup × List LiveEntry × LiveEntry × List LiveEntry). EndsWith p.0.room p.1 p.2 p.3)
      (λ i. (setup_is i, (caller.is i).seen, made_is reply i, sym seen_after i)) ends)
      (ends_after (state_of before.0 asked.found) call answer asked.right asked.turn.begins)

  pub asked_gains : IfAnswered answer
      (λ reply. after.0.own ≡ gained (call_made old call.crew call.request reply) old.own)
  asked_gains =
      if_answered answer
      (λ reply. own_in history before.0.own ≡ gained (replied call reply) before.0.own)
      (λ reply. after.0.own ≡ gained (call_made old call.crew call.request reply) old.own)
      (λ reply gains. own_after ∙ gains ∙ (λ i. gained (made_is reply i) (caller.is i).own))
      (gains_after (state_of before.0 asked.found) call answer before.0.own asked.turn.own)

  pub asked_full : IfFull answer (length after.0.seen ≡ board.setup.room)
  asked_full =
      if_full answer
      (length history ≡ before.0.opened.setup.room)
      (length after.0.seen ≡ board.setup.room)
      (λ full. ap length seen_after ∙ full ∙ ap (λ (s : Setup). s.room) setup_is)
      (full_after (state_of before.0 asked.found) call answer asked.right)

  pub asked_unchanged : IfFull answer (after.0.own ≡ old.own)
  asked_unchanged =
      if_full answer
      (own_in history before.0.own ≡ before.0.own)
      (after.0.own ≡ old.own)
      (λ same. own_after ∙ same ∙ ap (λ (p : LivePass). p.own) caller.is)
      (unchanged_after (state_of before.0 asked.found) call answer before.0.own asked.turn.own)

  pub asked_agrees : AreOwn after.0.seen after.0.own
  asked_agrees =
      subst (λ (p : List LiveEntry × List Own). AreOwn p.0 p.1) (λ i. (sym seen_after i, sym own_after i))
      (own_in-agrees history before.0.own)

  pub asked_is_pass : IsPass after call.pass (next_place answer call.place) first left
  asked_is_pass =
      let pass = caller.pass in
      let view = asked.turn.view in
      let agrees = subst (AreOwn asked.found) pass.own.is asked.turn.own in
      let found : call.place ≡ length (made_by call.pass asked.found) =
      pass.own.long
      ∙ ap length (sym (All-head (λ (o : Own). made_by o.pass asked.found ≡ o.entries)
      (record { pass = call.pass; entries = pass.own.entries }) pass.own.others agrees)) in
      record {
        number = ap (λ (v : View). v.number) view ∙ pass.number;
        own = record {
          entries = made_by call.pass history;
          others = own_in history pass.own.others;
          is = own_after ∙ ap (own_in history) pass.own.is;
          long = counts_after (state_of before.0 asked.found) call answer call.place found;
        };
        spare = ap (λ (v : View). v.spare) view ∙ pass.spare;
        few = pass.few;
        told = ap (λ (v : View). v.told) view;
        turn = ap (λ (v : View). v.turn) view;
        holds_none = asked.turn.holds_none;
      }

-- ---- a pass looks at the history

module _ {before after : Me LiveView View} {name next first left : ℕ} {entries : List LiveEntry}
    (pass : IsPass before name next first left) (turn : HasHadTurn before entries entries after) where
  pub read_seen : after.0.seen ≡ entries
  read_seen = ap (λ (v : View). v.seen) turn.view

  pub read_own : after.0.own ≡ before.0.own
  read_own = ap (λ (v : View). v.own) turn.view ∙ own_in-same entries before.0.own turn.own

  pub read_agrees : AreOwn after.0.seen after.0.own
  read_agrees =
      subst (λ (p : List LiveEntry × List Own). AreOwn p.0 p.1) (λ i. (sym read_seen i, sym read_own i)) turn.own

  -- as contracts see it, nothing else changes
  pub read_stays : {table table' : TableId} {old : LivePass} → table' ≡ table → pass_of table before.0 ≡ old
      → pass_of table' after.0 ≡ record old { seen = after.0.seen }
  read_stays {table} {table'} {old} same is =
      (λ i. pass_of (same i) (turn.view i))
      ∙ (λ i. record (pass_of table before.0) {
        seen = sym read_seen i;
        own = own_in-same entries before.0.own turn.own i;
      })
      ∙ ap (λ (p : LivePass). record p { seen = after.0.seen }) is

  pub read_is_pass : IsPass after name next first left
  read_is_pass = record {
    number = ap (λ (v : View). v.number) turn.view ∙ pass.number;
    own = record {
      entries = pass.own.entries;
      others = pass.own.others;
      is = read_own ∙ pass.own.is;
      long = pass.own.long;
    };
    spare = ap (λ (v : View). v.spare) turn.view ∙ pass.spare;
    few = pass.few;
    told = ap (λ (v : View). v.told) turn.view;
    turn = ap (λ (v : View). v.turn) turn.view;
    holds_none = turn.holds_none;
  }
