-- The margin rule along a legal history.
use Rattle.std.proofs.Common.{◌≡◌, ◌⊎◌, ℕ, ◌+◌, false, List, [], ◌∷◌, ◌++◌, length, refl, sym, ◌∙◌, ap, subst, inl, inr}
use Rattle.std.specs.{Prelude.Option, Prelude.None, List.All}
use Rattle.std.proofs.lemmas.List.{length-replicate}
use Rattle.std.proofs.lemmas.List.Elements.{All-nil, All-head, All-tail, All-cons}
use Rattle.unit_sets.specs.declared.request.CrewNo.{CrewNo}
use Rattle.margin_policy.specs.{declared.request.Reply.Reply, declared.request.Reply.TheVariants.Granted}
use Rattle.margin_policy.specs.{Decide.is_granted, Guard.KeepsMore, Guard.HasAllUnits}
use Rattle.margin_policy.proofs.GuardLemmas.{granted_keeps_more, decided_keeps_more, first_kept}
use Rattle.margin_policy.proofs.GuardLemmas.{all_units_after}
use Rattle.margin_policy.specs.Standing.{StandingView, IsRequestFor, reply_of, after, nothing_held}
use Rattle.outage_board.specs.{declared.entry.Entry.Entry, Boards.BoardView, Boards.IsBoard}
use Rattle.outage_board.specs.Histories.{after_entry, standing_after, IsLegal}
use Rattle.outage_board.specs.Safety.{IsSafe, IsJudgedGrant, GrantsNothing}
use Rattle.outage_board.proofs.HistoryLemmas.{standing_after-push, IsLegal-parts, units_stay}

abbrev Fits : ℕ → List Entry → Type 0
Fits units history = All (λ (entry : Entry). IsRequestFor units entry.request) history

-- ---- the places of all units stand

all_units_stay : (standing : StandingView) (history : List Entry) → HasAllUnits standing
    → HasAllUnits (standing_after standing history)
all_units_stay standing [] all = all
all_units_stay standing (first ∷ history) all =
    all_units_stay (after_entry standing first) history
    (all_units_after standing first.crew first.request first.reply all)

opening_all : (standing : StandingView) → standing.held ≡ nothing_held standing.units → HasAllUnits standing
opening_all standing empty = ap length empty ∙ length-replicate {A = Option CrewNo} (standing.units + 1) None

-- ---- what every entry leaves

kept_on : (standing : StandingView) (history : List Entry) → HasAllUnits standing → KeepsMore standing
    → Fits standing.units history → IsLegal standing history → KeepsMore (standing_after standing history)
kept_on standing [] all more fits legal = more
kept_on standing (first ∷ history) all more fits legal =
    let P = λ (entry : Entry). IsRequestFor standing.units entry.request in
    let next : KeepsMore (after_entry standing first) =
    subst (λ (r : Reply). KeepsMore (after standing first.crew first.request r)) (sym legal.0)
    (decided_keeps_more standing first.crew first.request all (All-head P first history fits) more) in
    kept_on (after_entry standing first) history (all_units_after standing first.crew first.request first.reply all)
    next (All-tail P first history fits) legal.1

pub keeps_more : (standing : StandingView) (history : List Entry) → standing.held ≡ nothing_held standing.units
    → Fits standing.units history → IsLegal standing history
    → KeepsMore (standing_after standing history)
    ⊎ (GrantsNothing history × (standing_after standing history ≡ standing))
keeps_more standing [] empty fits legal = inr (All-nil (λ (entry : Entry). is_granted entry.reply ≡ false), refl)
keeps_more standing (first ∷ history) empty fits legal =
    let P = λ (entry : Entry). IsRequestFor standing.units entry.request in
    let G = λ (entry : Entry). is_granted entry.reply ≡ false in
    elim (first_kept standing first.crew first.request empty (All-head P first history fits)) [
      | inl more ↦ inl (kept_on (after_entry standing first) history
          (all_units_after standing first.crew first.request first.reply (opening_all standing empty))
          (subst (λ (r : Reply). KeepsMore (after standing first.crew first.request r)) (sym legal.0) more)
          (All-tail P first history fits) legal.1)
      | inr none ↦
          let same : after_entry standing first ≡ standing =
          ap (after standing first.crew first.request) legal.0 ∙ none.1 in
          let stays : standing_after standing (first ∷ history) ≡ standing_after standing history =
          ap (λ s. standing_after s history) same in
          elim (keeps_more standing history empty (All-tail P first history fits)
          (subst (λ s. IsLegal s history) same legal.1)) [
            | inl more ↦ inl (subst KeepsMore (sym stays) more)
            | inr still ↦ inr (All-cons G first history (ap is_granted legal.0 ∙ none.0) still.0, stays ∙ still.1)
          ]
    ]

-- ---- what was granted

fits_parts : (units : ℕ) (before : List Entry) (entry : Entry) (rest : List Entry) → Fits units (before ++ entry ∷ rest)
    → IsRequestFor units entry.request
fits_parts units [] entry rest fits = All-head (λ (e : Entry). IsRequestFor units e.request) entry rest fits
fits_parts units (first ∷ before) entry rest fits =
    fits_parts units before entry rest (All-tail (λ (e : Entry). IsRequestFor units e.request) first
    (before ++ entry ∷ rest) fits)

safe_at : (opening : StandingView) (before : List Entry) (entry : Entry) (rest : List Entry) → HasAllUnits opening
    → Fits opening.units (before ++ entry ∷ rest) → IsLegal opening (before ++ entry ∷ rest)
    → IsJudgedGrant entry → KeepsMore (standing_after opening (before ++ entry ∷ []))
safe_at opening before entry rest all fits legal granted =
    let there = standing_after opening before in
    let decided : entry.reply ≡ reply_of there entry.crew entry.request =
    (IsLegal-parts opening before (entry ∷ rest) legal).1.0 in
    let asked : IsRequestFor there.units entry.request =
    subst (λ (n : ℕ). IsRequestFor n entry.request) (sym (units_stay opening before))
    (fits_parts opening.units before entry rest fits) in
    let more : KeepsMore (after there entry.crew entry.request Granted) =
    granted_keeps_more there entry.crew entry.request (all_units_stay opening before all) asked granted.0
    (sym decided ∙ granted.1) in
    subst KeepsMore (sym (standing_after-push opening before entry))
    (subst (λ (r : Reply). KeepsMore (after there entry.crew entry.request r)) (sym granted.1) more)

pub board_is_safe : (board : BoardView) → IsBoard board → IsSafe board.deck.opening board.history
board_is_safe board kept before entry rest split granted =
    safe_at board.deck.opening before entry rest (opening_all board.deck.opening kept.nothing_out)
    (subst (Fits board.deck.opening.units) split kept.requests) (subst (IsLegal board.deck.opening) split kept.legal)
    granted
