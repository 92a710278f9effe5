-- How often a crew is among those of passes.
use Rattle.std.proofs.Common.{◌≡◌, ◌≢◌, ℕ, ◌+◌, ◌<◌, ◌≤◌, ◌==◌, List, [], ◌∷◌, ◌++◌, set, refl, ◌∙◌, ap}
use Rattle.std.proofs.Common.{arith, eq-eqb}
use Rattle.std.specs.List.{All}
use Rattle.std.proofs.lemmas.List.Elements.{All-nil, All-head, All-tail, All-cons}
use mathlib.Core.Option.{some}
use lib.ListN.{get_elem?}
use Rattle.outage_board.specs.{declared.entry.Entry.Entry, declared.view.View.View, declared.view.Made.Made}
use Rattle.outage_board.specs.{Histories.entries_of}
use Rattle.outage_board.specs.Views.{made_in, first_of, rest_of}
use Rattle.outage_board.specs.Rule.{one_if, times_of, times_in}
use Rattle.outage_board.proofs.HistoryLemmas.{entries_of-other}
use Rattle.outage_board.proofs.Replaced.{all-push, all-set, all-two}

-- ---- in one pass

pub times_of-append : (crew : ℕ) (front more : List Made)
    → times_of crew (front ++ more) ≡ times_of crew front + times_of crew more
times_of-append crew [] more = omega arith
times_of-append crew (made ∷ front) more = let e = times_of-append crew front more in omega arith

pub times_of-parts : (crew : ℕ) (crews : List Made)
    → times_of crew (rest_of crews) + times_of crew (first_of crews) ≡ times_of crew crews
times_of-parts crew [] = refl
times_of-parts crew (made ∷ crews) = omega arith

pub times_of-made_in : (crew : ℕ) (history : List Entry) (crews : List Made)
    → times_of crew (made_in history crews) ≡ times_of crew crews
times_of-made_in crew history [] = refl
times_of-made_in crew history (made ∷ crews) =
    ap (λ n. one_if (made.crew == crew) + n) (times_of-made_in crew history crews)

pub times_of-first : (made : Made) (crews : List Made) → 0 < times_of made.crew (made ∷ crews)
times_of-first made crews =
    let e : one_if (made.crew == made.crew) ≡ 1 = ap one_if (eq-eqb made.crew made.crew refl) in omega arith

-- ---- in all passes

pub times_in-set : (crew : ℕ) (views : List View) (seat : ℕ) (v w : View) → get_elem? views seat ≡ some v
    → times_in crew (set views seat w) + times_of crew v.crews ≡ times_in crew views + times_of crew w.crews
times_in-set crew = all-set (λ (v : View). times_of crew v.crews) (times_in crew) (λ v views. refl)

pub times_in-push : (crew : ℕ) (views : List View) (w : View)
    → times_in crew (views ++ w ∷ []) ≡ times_in crew views + times_of crew w.crews
times_in-push crew = all-push (λ (v : View). times_of crew v.crews) (times_in crew) (λ v views. refl)

pub times_in-two : (crew : ℕ) (views : List View) (seat other : ℕ) (v w : View) → seat ≢ other
    → get_elem? views seat ≡ some v → get_elem? views other ≡ some w
    → times_of crew v.crews + times_of crew w.crews ≤ times_in crew views
times_in-two crew = all-two (λ (v : View). times_of crew v.crews) (times_in crew) (λ v views. refl)

-- ---- what was made, in a longer history

abbrev pub AreMade : List Entry → List Made → Type 0
AreMade history crews = All (λ (made : Made). entries_of made.crew history ≡ made.entries) crews

-- an entry of another crew changes nothing
pub made_as_before : (history : List Entry) (entry : Entry) (crews : List Made) → times_of entry.crew.0 crews ≡ 0
    → AreMade history crews → AreMade (history ++ entry ∷ []) crews
made_as_before history entry [] none made =
    All-nil (λ (m : Made). entries_of m.crew (history ++ entry ∷ []) ≡ m.entries)
made_as_before history entry (first ∷ crews) none made =
    let P = λ (m : Made). entries_of m.crew history ≡ m.entries in
    let Q = λ (m : Made). entries_of m.crew (history ++ entry ∷ []) ≡ m.entries in
    let apart : first.crew ≢ entry.crew.0 =
    λ same. let e : one_if (first.crew == entry.crew.0) ≡ 1 = ap one_if (eq-eqb first.crew entry.crew.0 same) in
    absurd (omega arith) in
    All-cons Q first crews (entries_of-other history entry apart ∙ All-head P first crews made)
    (made_as_before history entry crews (omega arith) (All-tail P first crews made))

pub settled_made : (history : List Entry) (crews : List Made) → AreMade history (made_in history crews)
settled_made history [] = All-nil (λ (m : Made). entries_of m.crew history ≡ m.entries)
settled_made history (made ∷ crews) =
    All-cons (λ (m : Made). entries_of m.crew history ≡ m.entries)
    (record { crew = made.crew; entries = entries_of made.crew history }) (made_in history crews) refl
    (settled_made history crews)

pub settled_crews : (count : ℕ) (history : List Entry) (crews : List Made)
    → All (λ (made : Made). made.crew < count) crews → All (λ (made : Made). made.crew < count) (made_in history crews)
settled_crews count history [] below = All-nil (λ (m : Made). m.crew < count)
settled_crews count history (made ∷ crews) below =
    All-cons (λ (m : Made). m.crew < count) (record { crew = made.crew; entries = entries_of made.crew history })
    (made_in history crews)
    (All-head (λ (m : Made). m.crew < count) made crews below)
    (settled_crews count history crews (All-tail (λ (m : Made). m.crew < count) made crews below))
