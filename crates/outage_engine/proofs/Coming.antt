-- What came of a command, of words and of a run.
use Rattle.std.specs.Prelude.{◌≡◌, ℕ, List, Option, Some, None, Ok, Err}
use Rattle.std.proofs.Common.{sym, ap, subst, ◌∙◌, refl, inl, inr}
use Rattle.fault_definitions.specs.Tree.{FaultTree}
use Rattle.board_words.specs.{Command.command_of, declared.command.Command.Command}
use Rattle.board_words.specs.declared.command.Command.TheVariants as said
use Rattle.board_words.specs.declared.command.Show.TheVariants as shown
use Rattle.tree_maker.specs.MadeDeck.{made_deck}
use Rattle.zdd_shared_table.specs.Seats.{Seated}
use Rattle.outage_engine.specs.{declared.answer.Answer.Answer, declared.listing.Listing.Listing}
use Rattle.outage_engine.specs.{declared.refusal.Refusal.Refusal, declared.refusal.RunEnd.RunEnd}
use Rattle.outage_engine.specs.{declared.refusal.RunEnd.TheVariants.Refused}
use Rattle.outage_engine.specs.{declared.refusal.RunEnd.TheVariants.NoMemory, declared.sizes.Counts.Counts}
use Rattle.outage_engine.specs.{declared.status.Method.TheVariants.Plain, declared.status.Status.Status}
use Rattle.outage_engine.specs.{declared.status.Status.TheVariants.Done, declared.summary.Summary.Summary}
use Rattle.outage_engine.specs.{Openings.HasRun, Runs.Tells, StoreAfter.BearsOut, StoreAfter.IsLeftBy}
use Rattle.outage_engine.specs.declared.answer.Answer.TheVariants as answer
use Rattle.deck_reading.specs.declared.deck.CrewPart.TheVariants.{IfAny, Unread}
use Rattle.deck_reading.specs.declared.deck.DeckParts.{DeckParts}
use Rattle.outage_engine.specs.declared.refusal.Refusal.TheVariants as refusal
use Rattle.outage_engine.specs.declared.status.Status.TheVariants as status
use Rattle.outage_engine.specs.Answers.{AreCountsOf, HasCome, HasOrders, IfRefused, IsLimitOf, IsListingOf}
use Rattle.outage_engine.specs.Answers.{IsReadRefusal, IsRefusalFor, IsRefusalOf, IsWeightLimitOf}
use Rattle.outage_engine.specs.Answers.{refusal_line, refusal_status, status_of, summed_text, text_of}
use Rattle.deck_reading.specs.Faults.{IsWellFormed}
use Rattle.outage_engine.specs.Finding.{Faulty, Finding, Finds, TooHeavy, TooManyOrders, Wants}
use Rattle.outage_engine.specs.Gives as gives
use Rattle.outage_engine.specs.Gives.{Gives, OfDeck, OfDeckOr, OfInput, own_deck, wants_of}
use Rattle.outage_engine.specs.Store.{IsFoundBy, IsLeftFor, method_by}
use Rattle.outage_engine.specs.Texts.{IsSummaryText, for_cuts, for_diagram, for_summary}
use Rattle.outage_engine.proofs.Answering.{check_of_input, cuts_of_input, diagram_of_input, limit_for, made_for}
use Rattle.outage_engine.proofs.Answering.{print_of_input, refused_for, weight_limit_for}
use Rattle.outage_engine.proofs.SeatLemmas.{bears_made, bears_out, left_by, refusal_bears_out, told_bears_out}
use Rattle.outage_engine.proofs.Serving.{finds_sets}

-- ---- of a command

module _ (held left : Option (List ℕ)) (rose : Type 0) where
  of_wants : (command : Command) (wants : Wants) (end : RunEnd) → wants_of (Some command) ≡ Some wants
      → IfRefused (IsRefusalFor (own_deck (Some command)) wants held left rose) end
      → IfRefused (IsRefusalOf command held left rose) end
  of_wants command wants (Refused why) at holds = (wants, at, holds)
  of_wants command wants NoMemory at free = tt

module _ {held left : Option (List ℕ)} {rose : Type 0} {before after : Seated} where
  pub refused_came : {command : Command} (wants : Wants) (end : RunEnd) → wants_of (Some command) ≡ Some wants
      → IfRefused (IsRefusalFor (own_deck (Some command)) wants held left rose) end
      → IsLeftBy (own_deck (Some command)) held left before after
      → HasCome command held left rose before after (Err end)
  refused_came {command} wants end at holds is_left =
      record { answer = tt; refusal = of_wants held left rose command wants end at holds; seat = is_left }

  -- of a tree that was read and searched
  module _ {tree : FaultTree} (read : OfInput held left (λ bytes. IsWellFormed Unread bytes tree None))
      (left_for : IsLeftFor tree before after) where
    module _ (most workers : ℕ) where
      pub cuts_came : {listing : Listing} → IsListingOf most tree listing
          → IsFoundBy before after tree (method_by listing.root)
          → HasCome (said.Cuts most workers) held left rose before after (Ok (answer.Cuts listing))
      cuts_came {listing} listed found = record {
        answer = record {
          method = method_by listing.root;
          is_done = refl;
          of_command = finds_sets listing.root;
          text = cuts_of_input held left tree None read listed;
          writable = listed.units;
          bears = bears_out None held left before after Unread tree None read (method_by listing.root) found;
        };
        refusal = tt;
        seat = left_by None held left before after Unread tree None read left_for;
      }

      pub cuts_refused : (end : RunEnd) → IfRefused (IsLimitOf most tree) end
          → HasCome (said.Cuts most workers) held left rose before after (Err end)
      cuts_refused end limit =
          refused_came (for_cuts most) end refl (limit_for None held left rose tree None Unread most end read limit)
          (left_by None held left before after Unread tree None read left_for)

    module _ (workers : ℕ) where
      pub sizes_came : {counts : Counts} → AreCountsOf tree counts
          → IsFoundBy before after tree (method_by counts.nodes)
          → HasCome (said.Diagram workers) held left rose before after
          (Ok (answer.Diagram (record { tree = tree; counts = counts })))
      sizes_came {counts} are found = record {
        answer = record {
          method = method_by counts.nodes;
          is_done = refl;
          of_command = finds_sets counts.nodes;
          text = diagram_of_input held left tree None read are;
          writable = tt;
          bears = bears_out None held left before after Unread tree None read (method_by counts.nodes) found;
        };
        refusal = tt;
        seat = left_by None held left before after Unread tree None read left_for;
      }

      pub sizes_refused : (end : RunEnd) → IfRefused (IsWeightLimitOf tree) end
          → HasCome (said.Diagram workers) held left rose before after (Err end)
      sizes_refused end limit =
          refused_came for_diagram end refl (weight_limit_for None held left rose tree None end read limit)
          (left_by None held left before after Unread tree None read left_for)

  -- of a summary
  module _ (number : ℕ) (is_left : IsLeftBy (Some (made_deck number)) None None before after) where
    pub summed_came : (summary : Summary) → IsSummaryText number (summed_text summary) → HasOrders summary
        → BearsOut (Some (made_deck number)) None None before after (Done (method_by summary.listing.root))
        → HasCome (said.Make number shown.Summary) held left rose before after (Ok (answer.Summed summary))
    summed_came summary is_text orders bears = record {
      answer = record {
        method = method_by summary.listing.root;
        is_done = refl;
        of_command = finds_sets summary.listing.root;
        text = is_text;
        writable = orders;
        bears = bears_made (made_deck number) held left before after (method_by summary.listing.root) bears;
      };
      refusal = tt;
      seat = is_left;
    }

    pub sum_refused : (end : RunEnd) → IfRefused (IsRefusalFor (Some (made_deck number)) for_summary None None ⊥) end
        → HasCome (said.Make number shown.Summary) held left rose before after (Err end)
    sum_refused end holds =
        refused_came for_summary end refl (made_for held left rose (made_deck number) for_summary end holds) is_left

-- ---- of a command that leaves the seat as it was

module _ {held left : Option (List ℕ)} {rose : Type 0} {seat : Seated} where
  -- its deck was refused
  pub unread_came : {command : Command} (wants : Wants) (end : RunEnd) → wants_of (Some command) ≡ Some wants
      → own_deck (Some command) ≡ None → IfRefused (IsReadRefusal wants.crews held left rose) end
      → HasCome command held left rose seat seat (Err end)
  unread_came wants end at none holds =
      refused_came wants end at (subst (λ own. IfRefused (IsRefusalFor own wants held left rose) end) (sym none)
      (refused_for held left rose wants end holds)) (inl refl, refl)

  pub checked_came : (deck : DeckParts) → OfInput held left (λ bytes. IsWellFormed IfAny bytes deck.tree deck.crews)
      → HasCome said.Check held left rose seat seat (Ok (answer.Checked deck))
  checked_came deck read = record {
    answer = record {
      method = Plain;
      is_done = refl;
      of_command = refl;
      text = check_of_input held left deck.tree deck.crews read;
      writable = tt;
      bears = tt;
    };
    refusal = tt;
    seat = (inl refl, refl);
  }

  pub printed_came : (tree : FaultTree) → OfInput held left (λ bytes. IsWellFormed Unread bytes tree None)
      → HasCome said.Print held left rose seat seat (Ok (answer.Printed tree))
  printed_came tree read = record {
    answer = record {
      method = Plain;
      is_done = refl;
      of_command = refl;
      text = print_of_input held left tree None read;
      writable = tt;
      bears = tt;
    };
    refusal = tt;
    seat = (inl refl, refl);
  }

  pub helped_came : HasCome said.Help held left rose seat seat (Ok answer.Help)
  helped_came = record {
    answer = record { method = Plain; is_done = refl; of_command = refl; text = refl; writable = tt; bears = tt };
    refusal = tt;
    seat = (inl refl, refl);
  }

  pub made_came : (number : ℕ) (deck : List ℕ) → deck ≡ made_deck number
      → HasCome (said.Make number shown.Deck) held left rose seat seat (Ok (answer.Made deck))
  made_came number deck is = record {
    answer = record { method = Plain; is_done = refl; of_command = refl; text = is; writable = tt; bears = tt };
    refusal = tt;
    seat = (inl refl, refl);
  }

-- ---- of words

-- why words are refused
abbrev pub IsRefusalBy : List (List ℕ) → Option (List ℕ) → Option (List ℕ) → Type 0 → Refusal → Type 0
IsRefusalBy words held left rose refusal = Gives words held left rose (refusal_status refusal) (refusal_line refusal)

module _ (words : List (List ℕ)) (held left : Option (List ℕ)) (command : Command)
    (says : command_of words ≡ Some command) where
  pub left_by_words : {before after : Seated} → IsLeftBy (own_deck (Some command)) held left before after
      → IsLeftBy (own_deck (command_of words)) held left before after
  left_by_words {before} {after} is_left = subst (λ c. IsLeftBy (own_deck c) held left before after) (sym says) is_left

  pub bears_by_words : (before after : Seated) (status : Status)
      → BearsOut (own_deck (Some command)) held left before after status
      → BearsOut (own_deck (command_of words)) held left before after status
  bears_by_words before after status bears =
      subst (λ c. BearsOut (own_deck c) held left before after status) (sym says) bears

  module _ (rose : Type 0) where
    finds_by_words : (wants : Wants) (finding : Finding)
        → OfDeckOr (own_deck (Some command)) held left (λ bytes. Finds wants bytes finding)
        → OfDeck words held left (λ bytes. Finds wants bytes finding)
    finds_by_words wants finding found =
        subst (λ c. OfDeckOr (own_deck c) held left (λ bytes. Finds wants bytes finding)) (sym says) found

    pub refused_by : (why : Refusal) → IsRefusalOf command held left rose why → IsRefusalBy words held left rose why
    refused_by (refusal.Fault fault) (wants, at, holds) =
        gives.refused wants fault (ap wants_of says ∙ at) (finds_by_words wants (Faulty fault) holds) refl refl
    refused_by refusal.ReadFault (wants, at, fails) =
        gives.read_fault (wants, ap wants_of says ∙ at, ap own_deck says ∙ fails.0) fails.1 refl refl
    refused_by refusal.TooLong (wants, at, long) =
        gives.too_long (wants, ap wants_of says ∙ at, ap own_deck says ∙ long.0) long.1 refl refl
    refused_by refusal.ListLimit (wants, at, holds) =
        gives.list_limit wants (ap wants_of says ∙ at) (finds_by_words wants TooHeavy holds) refl refl
    refused_by refusal.OrderLimit (wants, at, holds) =
        gives.order_limit wants (ap wants_of says ∙ at) (finds_by_words wants TooManyOrders holds) refl refl
    refused_by refusal.Usage (wants, at, never) = absurd never

-- ---- of a run

module _ {K : Type 0} {words : List (List ℕ)} {held left : Option (List ℕ)} {rose : Type 0}
    {taken : K → Option (List ℕ)} {faults : K → ℕ} {old new : K} {before after : Seated}
    (is_left : IsLeftBy (own_deck (command_of words)) held left before after) where
  pub told_run : {result : Status} {status : Status} {text : List ℕ} → Gives words held left rose status text
      → BearsOut (own_deck (command_of words)) held left before after status
      → Tells taken faults old new status text result
      → HasRun words held left rose taken faults old new before after result
  told_run {result = result} {status} {text} gives bears told = record {
    runs = inr (record { status = status; text = text; gives = gives; told = told });
    bears = told_bears_out (own_deck (command_of words)) held left before after taken faults old new status text result
        bears told;
    seat = is_left;
  }

  pub refused_run : {result : Status} (why : Refusal) → IsRefusalBy words held left rose why
      → Tells taken faults old new (refusal_status why) (refusal_line why) result
      → HasRun words held left rose taken faults old new before after result
  refused_run why is told =
      told_run is (refusal_bears_out (own_deck (command_of words)) held left before after why) told

  pub idle_run : new ≡ old → HasRun words held left rose taken faults old new before after status.NoMemory
  idle_run same = record { runs = inl (refl, same); bears = tt; seat = is_left }

-- of a run whose words are a command
module _ {K : Type 0} {held left : Option (List ℕ)} {rose : Type 0} {taken : K → Option (List ℕ)} {faults : K → ℕ}
    {old new : K} {before after : Seated} (words : List (List ℕ)) (command : Command)
    (says : command_of words ≡ Some command) where
  pub answered_run : {result : Status} (answer : Answer) → HasCome command held left rose before after (Ok answer)
      → Tells taken faults old new (status_of answer) (text_of answer) result
      → HasRun words held left rose taken faults old new before after result
  answered_run answer came told =
      let is = came.answer in
      told_run (left_by_words words held left command says came.seat)
      (gives.done command is.method says is.of_command is.text is.is_done)
      (bears_by_words words held left command says before after (status_of answer)
      (subst (BearsOut (own_deck (Some command)) held left before after) (sym is.is_done) is.bears))
      told

  pub declined_run : {result : Status} (why : Refusal)
      → HasCome command held left rose before after (Err (Refused why))
      → Tells taken faults old new (refusal_status why) (refusal_line why) result
      → HasRun words held left rose taken faults old new before after result
  declined_run why came told =
      refused_run (left_by_words words held left command says came.seat) why
      (refused_by words held left command says rose why came.refusal) told
