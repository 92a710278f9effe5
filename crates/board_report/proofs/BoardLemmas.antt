-- What the board at the end of a history has, and what a log can show of it.
use Rattle.std.specs.Prelude.{◌≡◌, ℕ, zero, suc, ◌+◌, ◌<◌, ◌≤◌, Bool, true, false, if◌then◌else◌, List, [], ◌∷◌, ◌++◌}
use Rattle.std.specs.Prelude.{length, drop, get_or, All, Option, Some, None, is_some, codes, cond}
use Rattle.std.specs.List.{flat_map}
use Rattle.std.proofs.Common.{refl, sym, ap, ◌∙◌, subst, arith, inl, inr, append-nil, append_assoc, add-one}
use Rattle.std.proofs.{lemmas.Bool.cases_lt, lemmas.List.drop_more, lemmas.List.drop_all}
use Rattle.std.proofs.{lemmas.List.Concat.flat_map-append}
use Rattle.edge_io.specs.Out.{Output, Puts, has_failed}
use Rattle.edge_io.proofs.OutLemmas.{Puts-none, Puts-trans}
use Rattle.unit_sets.specs.{Unit.IsUnit, Words.passing_below, declared.request.CrewNo.CrewNo}
use Rattle.unit_sets.proofs.UnitListLemmas.{Contains-from_among}
use Rattle.residual_ledger.proofs.Passing.{passing-more, passing-none, length-passing-more}
use Rattle.residual_ledger.specs.Residual.{residual, cut_at}
use Rattle.fault_definitions.specs.Tree.{FaultTree, name_of, unit_count}
use Rattle.crew_script.specs.declared.dockets.Crew.{Crew}
use Rattle.margin_policy.specs.Held.{Held, holder_of, units_out}
use Rattle.margin_policy.proofs.HeldLaws.{is_held, among-units_out}
use Rattle.margin_policy.specs.Standing.{StandingView}
use Rattle.outage_board.specs.{declared.entry.Entry.Entry, Histories.standing_after, Histories.after_entry}
use Rattle.outage_board.specs.{Boards.BoardView, Boards.standing_of}
use Rattle.text_pieces.specs.Shown.{show}
use Rattle.board_report.specs.BoardText.{IsDeckOf, holder_text, left_line, left_lines, out_line}
use Rattle.board_report.specs.LogText.{entry_line, entry_lines}
use Rattle.text_pieces.proofs.Putting.{first_short}

-- ---- the entries of a board

units_after : (standing : StandingView) (history : List Entry)
    → (standing_after standing history).units ≡ standing.units
units_after standing [] = refl
units_after standing (entry ∷ entries) = units_after (after_entry standing entry) entries

pub units_at_end : {tree : FaultTree} (board : BoardView) → IsDeckOf tree board.deck
    → (standing_of board).units ≡ unit_count tree
units_at_end board deck = units_after board.deck.opening board.history ∙ deck.units

-- ---- the units that are out

pub none_first : (held : Held) → holder_of held 0 ≡ None → passing_below (is_held held) 1 ≡ []
none_first held none =
    passing-more (is_held held) 0 ∙ ap (λ l. l ++ (if is_held held 0 then 0 ∷ [] else [])) (passing-none (is_held held))
    ∙ ap (λ o. if is_some o then 0 ∷ [] else []) none

-- a number that is no unit's has no holder, where each number that has one is a unit's
zero_held : (held : Held) → All IsUnit (units_out held) → is_held held 0 ≡ true → ⊥
zero_held held all e =
    let has = Contains-from_among (units_out held) 0 (among-units_out held 0 ∙ e) in
    let unit : IsUnit (get_or (units_out held) has.0 0) = all has.0 0 has.1 in
    omega (arith, unit, has.2)

pub zero_free : (held : Held) → All IsUnit (units_out held) → holder_of held 0 ≡ None
zero_free held all = by_holder (holder_of held 0) (zero_held held all)
  where
    by_holder : (holder : Option CrewNo) → (is_some holder ≡ true → ⊥) → holder ≡ None
    by_holder None never = refl
    by_holder (Some crew) never = absurd (never refl)

-- counted below 1
pub none_counted : (held : Held) → holder_of held 0 ≡ None → 0 ≡ length (passing_below (is_held held) 1)
none_counted held none = sym (ap length (none_first held none))

-- the rest of those below an end, behind those below a number
pub record Behind (test : ℕ → Bool) (number end : ℕ) : Type 0 where
  pub rest : List ℕ
  pub is : passing_below test number ++ rest ≡ passing_below test end

pub behind : (test : ℕ → Bool) (number end : ℕ) → number ≤ end → Behind test number end
behind test number zero within =
    record { rest = []; is = append-nil (passing_below test number) ∙ ap (passing_below test) (omega (arith, within)) }
behind test number (suc end) within = elim (cases_lt number (suc end)) [
  | inl less ↦
      (let before = behind test number end (omega (arith, less)) in
      record {
        rest = before.rest ++ (if test end then end ∷ [] else []);
        is = sym (append_assoc (passing_below test number) before.rest (if test end then end ∷ [] else []))
            ∙ ap (λ l. l ++ (if test end then end ∷ [] else [])) before.is ∙ sym (passing-more test end);
      })
  | inr all ↦ record {
    rest = [];
    is = append-nil (passing_below test number)
        ∙ ap (passing_below test) (omega (arith, within, all));
  }
]

-- the line of a unit that is out
pub out_line_is : (tree : FaultTree) (crews : List Crew) (held : Held) (number : ℕ) (holder : CrewNo)
    → holder_of held number ≡ Some holder
    → flat_map (out_line tree crews held) (if is_some (holder_of held number) then number ∷ [] else [])
    ≡ show (name_of tree number) ++ (holder_text crews (Some holder) ++ codes "\n")
out_line_is tree crews held number holder is =
    ap (λ o. flat_map (out_line tree crews held) (if is_some o then number ∷ [] else [])) is
    ∙ append-nil (out_line tree crews held number)
    ∙ ap (λ o. show (name_of tree number) ++ (holder_text crews o ++ codes "\n")) is

-- ---- what is left of cut sets

pub next_left : (out : List ℕ) (cuts : List (List ℕ)) (i : ℕ) → i < length cuts
    → left_lines out (i + 1) (drop i cuts) ≡ left_line (i + 1) (residual out (cut_at cuts i)) (length (cut_at cuts i))
    ++ left_lines out (i + 1 + 1) (drop (i + 1) cuts)
next_left out cuts i short = ap (left_lines out (i + 1)) (drop_more cuts i [] short)

pub next_entry : (crews : List Crew) (history : List Entry) (i : ℕ) {entry : Entry} → i < length history
    → entry ≡ get_or history i entry
    → entry_lines crews (i + 1) (drop i history) ≡ entry_line crews (i + 1) entry
    ++ entry_lines crews (i + 1 + 1) (drop (i + 1) history)
next_entry crews history i {entry} short is =
    ap (entry_lines crews (i + 1)) (drop_more history i entry short)
    ∙ ap (λ e. entry_line crews (i + 1) e ++ entry_lines crews (i + 1 + 1) (drop (i + 1) history)) (sym is)

pub one_at_most : (b : Bool) → (if b then 1 else 0) ≤ 1
one_at_most true = omega arith
one_at_most false = omega arith

-- one more number is counted
pub counted_more : (held : Held) (number : ℕ) {count one : ℕ} → count ≡ length (passing_below (is_held held) number)
    → one ≡ cond (is_held held number) 1 0
    → count + one ≡ length (passing_below (is_held held) (number + 1))
counted_more held number was is =
    let more = length-passing-more (is_held held) number in
    let next : length (passing_below (is_held held) (number + 1)) ≡ length (passing_below (is_held held) (suc number)) =
    ap (λ n. length (passing_below (is_held held) n)) (add-one number) in
    omega (arith, was, is, more, next)

pub none_left : (out : List ℕ) (cuts : List (List ℕ)) (i : ℕ) → length cuts ≤ i
    → left_lines out (i + 1) (drop i cuts) ≡ []
none_left out cuts i all = ap (left_lines out (i + 1)) (drop_all i cuts all)

-- ---- lines of numbers that pass a test

module _ {K : Type 0} (taken : K → Option (List ℕ)) (faults : K → ℕ) (line : ℕ → List ℕ) (test : ℕ → Bool) where
  abbrev here : ℕ → List ℕ
  here number = if test number then number ∷ [] else []

  abbrev pub lines_below : ℕ → List ℕ
  lines_below number = flat_map line (passing_below test number)

  one_more_line : (number : ℕ) → lines_below number ++ flat_map line (here number) ≡ lines_below (number + 1)
  one_more_line number =
      sym (flat_map-append line (passing_below test number) (here number))
      ∙ ap (flat_map line) (sym (passing-more test number)) ∙ ap lines_below (sym (add-one number))

  -- the line of a number behind those of the numbers below it
  pub line_put : {old mid now : Output K} (number : ℕ) → Puts taken faults old mid (lines_below number)
      → Puts taken faults mid now (flat_map line (here number))
      → Puts taken faults old now (lines_below (number + 1))
  line_put {old} {now} number before one =
      subst (Puts taken faults old now) (one_more_line number) (Puts-trans before one)

  -- and then a write has failed
  pub line_short : {old mid now : Output K} (number end : ℕ) → number + 1 ≤ end
      → Puts taken faults old mid (lines_below number) → Puts taken faults mid now (flat_map line (here number))
      → has_failed now ≡ true → Puts taken faults old now (lines_below end)
  line_short {old} {now} number end within before one failed =
      let rest = behind test (number + 1) end within in
      subst (Puts taken faults old now) (sym (flat_map-append line (passing_below test (number + 1)) rest.rest)
      ∙ ap (flat_map line) rest.is) (first_short taken faults (flat_map line rest.rest)
      (line_put number before one) failed)

  pub no_line : {old : Output K} → passing_below test 1 ≡ [] → Puts taken faults old old (lines_below 1)
  no_line {old} none =
      subst (λ numbers. Puts taken faults old old (flat_map line numbers)) (sym none)
      (Puts-none {taken = taken} {faults = faults} {out = old})
