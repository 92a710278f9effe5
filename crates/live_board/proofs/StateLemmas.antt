-- What the fields of a state keep, from its opening on.
use Rattle.std.proofs.Common.{◌≡◌, ℕ, ◌<◌, ◌≤◌, List, [], ◌∷◌, ◌++◌, length, refl, sym, ◌∙◌, ap, subst, arith}
use Rattle.std.specs.Prelude.{Option}
use Rattle.unit_sets.specs.declared.request.CrewNo.{CrewNo}
use Rattle.margin_policy.specs.Standing.{StandingView, reply_of, after}
use Rattle.outage_board.specs.Kept.{emptied}
use Rattle.live_board.specs.declared.entry.LiveEntry.{LiveEntry}
use Rattle.live_board.specs.declared.entry.Call.{Call}
use Rattle.live_board.specs.declared.entry.Answer.TheVariants.{Answered}
use Rattle.live_board.specs.declared.entry.TheConstants.{MOST_ENTRIES}
use Rattle.live_board.specs.{Histories.made_by, Kept.KeepsState}
use Rattle.live_board.specs.Boards.{LiveView, setup_of, decision, replied}
use Rattle.live_board.proofs.HistoryLemmas.{standing_left-push, answered_live}

-- of the parts that `open` makes
pub opens : (units : ℕ) (cuts : List (List ℕ)) (margin : ℕ) (supervisor : Option CrewNo) (passes room reserved : ℕ)
    {standing : StandingView} {history : List LiveEntry}
    → standing ≡ (setup_of units cuts margin supervisor passes room).opening → history ≡ [] → room ≤ reserved
    → room ≤ MOST_ENTRIES
    → KeepsState (record {
      setup = record { opening = emptied margin standing; passes = passes; room = room };
      history = history;
    }) standing reserved
opens units cuts margin supervisor passes room reserved {standing} {history} standing_is history_is roomy limit =
    let P : StandingView × List LiveEntry → Type 0 =
    λ p. KeepsState (record {
      setup = record { opening = emptied margin p.0; passes = passes; room = room };
      history = p.1;
    }) p.0 reserved in
    subst P (λ i. (sym standing_is i, sym history_is i)) (record {
      sound = record {
        live = record { legal = tt; places = tt };
        few = omega arith;
        limit = limit;
      };
      leaves = refl;
      room = roomy;
    })

module _ {state : LiveView} {standing : StandingView} {reserved : ℕ} (call : Call)
    (kept : KeepsState state standing reserved) where
  -- the reply is the decision of the standing that is kept
  pub decided_by : {made : LiveEntry} → made ≡ replied call (decision state call)
      → made.entry.reply ≡ reply_of standing made.entry.crew made.entry.request
  decided_by {made} is =
      subst (λ (m : LiveEntry). m.entry.reply ≡ reply_of standing m.entry.crew m.entry.request) (sym is)
      (ap (λ s. reply_of s call.crew call.request) (sym kept.leaves))

  -- the entry is kept
  pub keeps_more : {made : LiveEntry} → made ≡ replied call (decision state call)
      → call.place ≡ length (made_by call.pass state.history) → length state.history < state.setup.room
      → KeepsState (record state { history = state.history ++ made ∷ [] })
      (after standing made.entry.crew made.entry.request made.entry.reply) reserved
  keeps_more {made} is at room =
      let reply = decision state call in
      let P : LiveEntry → Type 0 =
      λ m. KeepsState (record state { history = state.history ++ m ∷ [] })
      (after standing m.entry.crew m.entry.request m.entry.reply) reserved in
      subst P (sym is) (record {
        sound = answered_live call (Answered reply) kept.sound at (refl, room);
        leaves =
            ap (λ s. after s call.crew call.request reply) kept.leaves
            ∙ sym (standing_left-push state.setup.opening state.history (replied call reply));
        room = kept.room;
      })
