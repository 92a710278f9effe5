-- Passes as they are dealt and gathered.
use Rattle.std.proofs.Common.{◌≡◌, ℕ, zero, suc, ◌+◌, ◌<◌, ◌==◌, List, [], ◌∷◌, ◌++◌, length, refl, sym, ◌∙◌, ap, subst}
use Rattle.std.proofs.Common.{arith, inl, inr, ⊎_elim, Contains, eq-eqb}
use Rattle.std.specs.List.{All}
use Rattle.std.proofs.{lemmas.Bool.cases_eq, lemmas.List.map-append}
use Rattle.std.proofs.lemmas.List.Elements.{All-nil, All-head, All-tail, All-cons, Contains-push, Contains-push_cases}
use Rattle.std.proofs.lemmas.List.Elements.{Contains-append_left, Contains-append_cases}
use Rattle.unit_sets.proofs.Sorted.{Contains-nil}
use Rattle.outage_board.specs.{declared.entry.Entry.Entry, declared.view.Made.Made, Histories.entries_of, Rule.one_if}
use Rattle.outage_board.specs.{Rule.times_of, Dealing.made_back}
use Rattle.outage_board.specs.Passes.{OpenBoard, Pass, new_pass, new_passes, AreOf, crews_of, MadeAll}
use Rattle.outage_board.proofs.TimesLemmas.{times_of-append, AreMade}

-- ---- new passes

new_passes-from : (board : OpenBoard) (number count : ℕ)
    → new_passes board number (suc count) ≡ new_passes board number count ++ new_pass board (number + count) ∷ []
new_passes-from board number zero = ap (λ n. new_pass board n ∷ []) (let e : number ≡ number + 0 = omega arith in e)
new_passes-from board number (suc count) =
    ap (λ ps. new_pass board number ∷ ps) (new_passes-from board (suc number) count)
    ∙ ap (λ n. new_pass board number ∷ (new_passes board (suc number) count ++ new_pass board n ∷ []))
    (let e : suc number + count ≡ number + suc count = omega arith in e)

pub new_passes-more : (board : OpenBoard) (count : ℕ)
    → new_passes board 0 (count + 1) ≡ new_passes board 0 count ++ new_pass board count ∷ []
new_passes-more board count =
    ap (new_passes board 0) (let e : count + 1 ≡ suc count = omega arith in e) ∙ new_passes-from board 0 count
    ∙ ap (λ n. new_passes board 0 count ++ new_pass board n ∷ []) (let e : 0 + count ≡ count = omega arith in e)

pub new_passes-length : (board : OpenBoard) (number count : ℕ) → length (new_passes board number count) ≡ count
new_passes-length board number zero = refl
new_passes-length board number (suc count) = let e = new_passes-length board (suc number) count in omega arith

pub new_are_of : (board : OpenBoard) (number count : ℕ) → AreOf board (new_passes board number count)
new_are_of board number zero = All-nil (λ (pass : Pass). pass.board ≡ board)
new_are_of board number (suc count) =
    All-cons (λ (pass : Pass). pass.board ≡ board) (new_pass board number) (new_passes board (suc number) count) refl
    (new_are_of board (suc number) count)

pub new_have_all : (board : OpenBoard) (count crew : ℕ) → crew < count
    → Contains (crews_of (new_passes board 0 count)) crew
new_have_all board zero crew low = absurd (omega arith)
new_have_all board (suc count) crew low =
    let more : crews_of (new_passes board 0 (suc count)) ≡ crews_of (new_passes board 0 count) ++ count ∷ [] =
    ap crews_of (new_passes-from board 0 count) ∙ map-append (λ (pass : Pass). pass.crew.0) (new_passes board 0 count)
    (new_pass board (0 + count) ∷ [])
    ∙ ap (λ n. crews_of (new_passes board 0 count) ++ n ∷ []) (let e : 0 + count ≡ count = omega arith in e) in
    subst (λ l. Contains l crew) (sym more) (elim (cases_eq crew count) [
      | inl last ↦ subst (λ n. Contains (crews_of (new_passes board 0 count) ++ count ∷ []) n) (sym last)
          (Contains-push (crews_of (new_passes board 0 count)) count)
      | inr before ↦ Contains-append_left (crews_of (new_passes board 0 count)) (count ∷ []) crew
          (new_have_all board count crew (omega arith))
    ])

-- ---- gathered passes

pub made_back-last : (passes : List Pass) (pass : Pass)
    → made_back (passes ++ pass ∷ []) ≡ record { crew = pass.crew.0; entries = pass.made } ∷ made_back passes
made_back-last [] pass = refl
made_back-last (first ∷ passes) pass =
    ap (λ l. l ++ record { crew = first.crew.0; entries = first.made } ∷ []) (made_back-last passes pass)

last_of : {X : Type 0} (P : X → Type 0) (xs : List X) (x : X) → All P (xs ++ x ∷ []) → All P xs × P x
last_of P [] x all = (All-nil P, All-head P x [] all)
last_of P (y ∷ xs) x all =
    let later = last_of P xs x (All-tail P y (xs ++ x ∷ []) all) in
    (All-cons P y xs (All-head P y (xs ++ x ∷ []) all) later.0, later.1)

pub pop_of : (board : OpenBoard) {passes : List Pass} (before : List Pass) (pass : Pass) → passes ≡ before ++ pass ∷ []
    → AreOf board passes → AreOf board before × (pass.board ≡ board)
pop_of board before pass are of = last_of (λ (p : Pass). p.board ≡ board) before pass (subst (AreOf board) are of)

pub made_all : (history : List Entry) (passes : List Pass) → AreMade history (made_back passes) → MadeAll history passes
made_all history [] made = All-nil (λ (pass : Pass). entries_of pass.crew.0 history ≡ pass.made)
made_all history (pass ∷ passes) made =
    let parts =
    last_of (λ (m : Made). entries_of m.crew history ≡ m.entries) (made_back passes)
    (record { crew = pass.crew.0; entries = pass.made }) made in
    All-cons (λ (p : Pass). entries_of p.crew.0 history ≡ p.made) pass passes parts.1 (made_all history passes parts.0)

pub times_back : (passes : List Pass) (crew : ℕ) → Contains (crews_of passes) crew
    → 0 < times_of crew (made_back passes)
times_back [] crew has = absurd (Contains-nil crew has)
times_back (pass ∷ passes) crew has =
    let m : Made = record { crew = pass.crew.0; entries = pass.made } in
    let e = times_of-append crew (made_back passes) (m ∷ []) in
    ⊎_elim
    (λ (here : Contains (pass.crew.0 ∷ []) crew). ⊎_elim (λ (none : Contains [] crew). absurd (Contains-nil crew none))
    (λ (same : pass.crew.0 ≡ crew). let one : one_if (pass.crew.0 == crew) ≡ 1 =
    ap one_if (eq-eqb pass.crew.0 crew same) in omega arith)
    (Contains-push_cases [] pass.crew.0 crew here))
    (λ (later : Contains (crews_of passes) crew). let more = times_back passes crew later in omega arith)
    (Contains-append_cases (pass.crew.0 ∷ []) (crews_of passes) crew has)
