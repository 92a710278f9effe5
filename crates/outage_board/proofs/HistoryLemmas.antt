-- A history with one entry more.
use Rattle.std.proofs.Common.{◌≡◌, ◌≢◌, ℕ, suc, ◌+◌, ◌<◌, ◌≤◌, ◌==◌, Bool, true, false, List, [], ◌∷◌, ◌++◌, length}
use Rattle.std.proofs.Common.{take, get_or, refl, sym, ◌∙◌, ap, subst, arith, inl, inr, eq-eqb, length-append}
use Rattle.std.specs.Prelude.{if◌then◌else◌}
use Rattle.std.specs.List.{enumerate_from}
use Rattle.std.proofs.{lemmas.Bool.cases_eq, lemmas.Bool.ne_eqb, lemmas.List.map-append, lemmas.List.length-take-le}
use Rattle.std.proofs.{lemmas.List.Elements.All-push, Math.Seq.take-suc}
use Rattle.margin_policy.specs.{Standing.StandingView, Standing.reply_of, declared.request.Request.Request}
use Rattle.outage_board.specs.declared.entry.Entry.{Entry}
use Rattle.outage_board.specs.Histories.{after_entry, standing_after, IsLegal, entries_of, served, docket_of, asked_by}
use Rattle.outage_board.specs.Histories.{IsWholeUpTo}

pub standing_after-push : (standing : StandingView) (history : List Entry) (entry : Entry)
    → standing_after standing (history ++ entry ∷ []) ≡ after_entry (standing_after standing history) entry
standing_after-push standing [] entry = refl
standing_after-push standing (first ∷ history) entry = standing_after-push (after_entry standing first) history entry

-- no entry changes how many units there are
pub units_stay : (standing : StandingView) (history : List Entry)
    → (standing_after standing history).units ≡ standing.units
units_stay standing [] = refl
units_stay standing (first ∷ history) = units_stay (after_entry standing first) history

pub IsLegal-push : (standing : StandingView) (history : List Entry) (entry : Entry) → IsLegal standing history
    → entry.reply ≡ reply_of (standing_after standing history) entry.crew entry.request
    → IsLegal standing (history ++ entry ∷ [])
IsLegal-push standing [] entry legal decided = (decided, tt)
IsLegal-push standing (first ∷ history) entry legal decided =
    (legal.0, IsLegal-push (after_entry standing first) history entry legal.1 decided)

entries_of-push : (crew : ℕ) (history : List Entry) (entry : Entry)
    → entries_of crew (history ++ entry ∷ []) ≡ entries_of crew history
    ++ (if entry.crew.0 == crew then entry ∷ [] else [])
entries_of-push crew [] entry = refl
entries_of-push crew (first ∷ history) entry = by_same (first.crew.0 == crew) (entries_of-push crew history entry)
  where
    by_same : (same : Bool) → entries_of crew (history ++ entry ∷ [])
        ≡ entries_of crew history ++ (if entry.crew.0 == crew then entry ∷ [] else [])
        → (if same then first ∷ entries_of crew (history ++ entry ∷ []) else entries_of crew (history ++ entry ∷ []))
        ≡ (if same then first ∷ entries_of crew history else entries_of crew history)
        ++ (if entry.crew.0 == crew then entry ∷ [] else [])
    by_same true later = ap (λ es. first ∷ es) later
    by_same false later = later

append_none : (entries : List Entry) → entries ++ [] ≡ entries
append_none [] = refl
append_none (first ∷ entries) = ap (λ es. first ∷ es) (append_none entries)

pub entries_of-own : (history : List Entry) (entry : Entry) {crew : ℕ} → crew ≡ entry.crew.0
    → entries_of crew (history ++ entry ∷ []) ≡ entries_of crew history ++ entry ∷ []
entries_of-own history entry {crew} same =
    entries_of-push crew history entry
    ∙ ap (λ b. entries_of crew history ++ (if b then entry ∷ [] else [])) (eq-eqb entry.crew.0 crew (sym same))

pub entries_of-other : (history : List Entry) (entry : Entry) {crew : ℕ} → crew ≢ entry.crew.0
    → entries_of crew (history ++ entry ∷ []) ≡ entries_of crew history
entries_of-other history entry {crew} apart =
    entries_of-push crew history entry
    ∙ ap (λ b. entries_of crew history ++ (if b then entry ∷ [] else []))
    (ne_eqb entry.crew.0 crew (λ e. apart (sym e)))
    ∙ append_none (entries_of crew history)

pub served-own : (history : List Entry) (entry : Entry) (crew : ℕ) → crew ≡ entry.crew.0
    → served crew (history ++ entry ∷ []) ≡ served crew history + 1
served-own history entry crew same =
    ap length (entries_of-own history entry same) ∙ length-append (entries_of crew history) (entry ∷ [])

enumerate_from-push : (number : ℕ) (requests : List Request) (request : Request)
    → enumerate_from number (requests ++ request ∷ [])
    ≡ enumerate_from number requests ++ (number + length requests, request) ∷ []
enumerate_from-push number [] request = ap (λ n. (n, request) ∷ []) (omega arith)
enumerate_from-push number (first ∷ requests) request =
    ap (λ more. (number, first) ∷ more) (enumerate_from-push (number + 1) requests request
    ∙ ap (λ n. enumerate_from (number + 1) requests ++ (n, request) ∷ []) (omega arith))

-- one request more is taken from a docket
taken_more : (docket : List Request) (count : ℕ) {request : Request} → count < length docket
    → get_or docket count request ≡ request
    → enumerate_from 0 (take (count + 1) docket) ≡ enumerate_from 0 (take count docket) ++ (count, request) ∷ []
taken_more docket count {request} short at =
    let more : count + 1 ≡ suc count = omega arith in
    ap (λ n. enumerate_from 0 (take n docket)) more
    ∙ ap (λ l. enumerate_from 0 l) (take-suc docket count request short)
    ∙ ap (λ r. enumerate_from 0 (take count docket ++ r ∷ [])) at
    ∙ enumerate_from-push 0 (take count docket) request
    ∙ ap (λ n. enumerate_from 0 (take count docket) ++ (n, request) ∷ [])
    (from_zero (length (take count docket)) (length-take-le count docket (omega arith)))
  where
    from_zero : (taken : ℕ) → taken ≡ count → 0 + taken ≡ count
    from_zero taken e = omega arith

module _ {dockets : List (List Request)} {history : List Entry} (entry : Entry)
    (whole : IsWholeUpTo dockets (λ crew. served crew history) history)
    (within : entry.crew.0 < length dockets) (place : entry.place ≡ served entry.crew.0 history)
    (short : served entry.crew.0 history < length (docket_of dockets entry.crew.0))
    (at : get_or (docket_of dockets entry.crew.0) (served entry.crew.0 history) entry.request ≡ entry.request) where
  within_own : {crew : ℕ} → crew ≡ entry.crew.0 → served crew (history ++ entry ∷ []) ≤ length (docket_of dockets crew)
  within_own {crew} same =
      let e = served-own history entry crew same in
      let e' : served crew history ≡ served entry.crew.0 history = ap (λ c. served c history) same in
      let d : length (docket_of dockets crew) ≡ length (docket_of dockets entry.crew.0) =
      ap (λ c. length (docket_of dockets c)) same in
      omega (arith, short)

  within_other : {crew : ℕ} → crew ≢ entry.crew.0
      → served crew (history ++ entry ∷ []) ≤ length (docket_of dockets crew)
  within_other {crew} apart =
      let e : served crew (history ++ entry ∷ []) ≡ served crew history =
      ap length (entries_of-other history entry apart) in
      let was = whole.within crew in
      omega arith

  abbrev Each : ℕ → Type 0
  Each crew =
      asked_by (entries_of crew (history ++ entry ∷ []))
      ≡ enumerate_from 0 (take (served crew (history ++ entry ∷ [])) (docket_of dockets crew))

  each_here : Each entry.crew.0
  each_here =
      let crew = entry.crew.0 in
      ap asked_by (entries_of-own history entry {crew = crew} refl)
      ∙ map-append (λ (e : Entry). (e.place, e.request)) (entries_of crew history) (entry ∷ [])
      ∙ ap (λ l. l ++ (entry.place, entry.request) ∷ []) (whole.each crew)
      ∙ ap (λ n. enumerate_from 0 (take (served crew history) (docket_of dockets crew)) ++ (n, entry.request) ∷ [])
      place
      ∙ sym (taken_more (docket_of dockets crew) (served crew history) short at)
      ∙ ap (λ n. enumerate_from 0 (take n (docket_of dockets crew))) (sym (served-own history entry crew refl))

  each_other : {crew : ℕ} → crew ≢ entry.crew.0 → Each crew
  each_other {crew} apart =
      let e = entries_of-other history entry apart in
      ap asked_by e ∙ whole.each crew ∙ ap (λ n. enumerate_from 0 (take n (docket_of dockets crew))) (sym (ap length e))

  pub IsWholeUpTo-push : IsWholeUpTo dockets (λ crew. served crew (history ++ entry ∷ [])) (history ++ entry ∷ [])
  IsWholeUpTo-push = record {
    crews = All-push (λ (e : Entry). e.crew.0 < length dockets) history entry whole.crews within;
    within = λ crew. elim (cases_eq crew entry.crew.0) [
      | inl same ↦ within_own same
      | inr apart ↦ within_other apart
    ];
    each = λ crew. elim (cases_eq crew entry.crew.0) [
      | inl same ↦ subst Each (sym same) each_here
      | inr apart ↦ each_other apart
    ];
  }

pub IsLegal-parts : (standing : StandingView) (history more : List Entry) → IsLegal standing (history ++ more)
    → IsLegal standing history × IsLegal (standing_after standing history) more
IsLegal-parts standing [] more legal = (tt, legal)
IsLegal-parts standing (first ∷ history) more legal =
    let later = IsLegal-parts (after_entry standing first) history more legal.1 in
    ((legal.0, later.0), later.1)
