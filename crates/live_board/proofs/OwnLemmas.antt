-- How often a number is among those of passes, and what was made under each, in a longer history.
use Rattle.std.proofs.Common.{◌≡◌, ◌≢◌, ℕ, zero, suc, ◌+◌, ◌<◌, ◌≤◌, ◌==◌, List, [], ◌∷◌, ◌++◌, length, set, refl, sym}
use Rattle.std.proofs.Common.{◌∙◌, ap, subst, arith, eq-eqb, inl, inr}
use Rattle.std.specs.Prelude.{if◌then◌else◌}
use Rattle.std.proofs.{lemmas.List.map-append, lemmas.Bool.cases_eq, lemmas.Bool.ne_eqb}
use Rattle.std.proofs.lemmas.List.Elements.{All-nil, All-head, All-tail, All-cons}
use mathlib.Core.Option.{some}
use lib.ListN.{get_elem?}
use Rattle.outage_board.specs.{declared.entry.Entry.Entry, Rule.one_if}
use Rattle.outage_board.proofs.Replaced.{all-one, all-push, all-set, all-two}
use Rattle.live_board.specs.declared.entry.LiveEntry.{LiveEntry}
use Rattle.live_board.specs.{declared.view.View.View, declared.view.Own.Own, Histories.made_by, Boards.Setup}
use Rattle.live_board.specs.Views.{numbers_from, nothing_under, own_in, settled, first_number, first_own}
use Rattle.live_board.specs.Views.{other_numbers, AreOwn, AreUnused, gained, made_under}
use Rattle.live_board.specs.Rule.{times_among, numbers_of, times_of, times_in, IsOf}
use Rattle.live_board.proofs.HistoryLemmas.{made_by-push, made_by-other}

-- ---- in one pass

pub times_among-append : (number : ℕ) (front more : List ℕ)
    → times_among number (front ++ more) ≡ times_among number front + times_among number more
times_among-append number [] more = omega arith
times_among-append number (other ∷ front) more = let e = times_among-append number front more in omega arith

pub numbers_of-append : (number : ℕ) (front more : List Own)
    → times_among number (numbers_of (front ++ more))
    ≡ times_among number (numbers_of front) + times_among number (numbers_of more)
numbers_of-append number front more =
    ap (times_among number) (map-append (λ (o : Own). o.pass) front more)
    ∙ times_among-append number (numbers_of front) (numbers_of more)

pub numbers_of-own_in : (history : List LiveEntry) (own : List Own) → numbers_of (own_in history own) ≡ numbers_of own
numbers_of-own_in history [] = refl
numbers_of-own_in history (o ∷ own) = ap (λ l. o.pass ∷ l) (numbers_of-own_in history own)

pub times_among-first : (number : ℕ) (numbers : List ℕ) → 0 < times_among number (number ∷ numbers)
times_among-first number numbers =
    let e : one_if (number == number) ≡ 1 = ap one_if (eq-eqb number number refl) in omega arith

-- the first of the spare numbers, and the others
pub times_of-parts : (number : ℕ) (spare : List ℕ)
    → times_among number (other_numbers spare) + times_among number (numbers_of (first_own spare))
    ≡ times_among number spare
times_of-parts number [] = refl
times_of-parts number (other ∷ spare) = omega arith

pub first_named : (spare : List ℕ) → 0 < length spare
    → 0 < times_among (first_number spare) (numbers_of (first_own spare))
first_named [] has = absurd (omega arith)
first_named (number ∷ spare) has = times_among-first number []

pub settled_of : {setup : Setup} {v : View} (history : List LiveEntry) → IsOf setup v → IsOf setup (settled history v)
settled_of {setup} {v} history of = record {
  opened = of.opened;
  named =
      subst (λ (numbers : List ℕ). 0 < times_among v.number numbers) (sym (numbers_of-own_in history v.own)) of.named;
}

-- ---- numbers from one on

times_from : (number first count : ℕ) → number < first → times_among number (numbers_from first count) ≡ 0
times_from number first zero low = refl
times_from number first (suc count) low =
    let e : one_if (first == number) ≡ 0 = ap one_if (ne_eqb first number (λ same. absurd (omega arith))) in
    let later = times_from number (suc first) count (omega arith) in omega arith

pub times_once : (number first count : ℕ) → times_among number (numbers_from first count) ≤ 1
times_once number first zero = omega arith
times_once number first (suc count) = elim (cases_eq first number) [
  | inl same ↦
      let e : one_if (first == number) ≡ 1 = ap one_if (eq-eqb first number same) in
      let later = times_from number (suc first) count (omega arith) in omega arith
  | inr apart ↦
      let e : one_if (first == number) ≡ 0 = ap one_if (ne_eqb first number apart) in
      let later = times_once number (suc first) count in omega arith
]

-- ---- in all passes

pub times_in-set : (number : ℕ) (views : List View) (seat : ℕ) (v w : View) → get_elem? views seat ≡ some v
    → times_in number (set views seat w) + times_of number v ≡ times_in number views + times_of number w
times_in-set number = all-set (times_of number) (times_in number) (λ v views. refl)

pub times_in-push : (number : ℕ) (views : List View) (w : View)
    → times_in number (views ++ w ∷ []) ≡ times_in number views + times_of number w
times_in-push number = all-push (times_of number) (times_in number) (λ v views. refl)

pub times_in-one : (number : ℕ) (views : List View) (seat : ℕ) (v : View) → get_elem? views seat ≡ some v
    → times_of number v ≤ times_in number views
times_in-one number = all-one (times_of number) (times_in number) (λ v views. refl)

pub times_in-two : (number : ℕ) (views : List View) (seat other : ℕ) (v w : View) → seat ≢ other
    → get_elem? views seat ≡ some v → get_elem? views other ≡ some w
    → times_of number v + times_of number w ≤ times_in number views
times_in-two number = all-two (times_of number) (times_in number) (λ v views. refl)

-- ---- what was made, in a longer history

apart_of : (number other : ℕ) (numbers : List ℕ) → times_among number (other ∷ numbers) ≡ 0 → other ≢ number
apart_of number other numbers none =
    λ same. let e : one_if (other == number) ≡ 1 = ap one_if (eq-eqb other number same) in absurd (omega arith)

-- an entry with another number changes nothing
pub own_as_before : (history : List LiveEntry) (made : LiveEntry) (own : List Own)
    → times_among made.pass (numbers_of own) ≡ 0 → AreOwn history own → AreOwn (history ++ made ∷ []) own
own_as_before history made [] none agrees = All-nil (λ (o : Own). made_by o.pass (history ++ made ∷ []) ≡ o.entries)
own_as_before history made (first ∷ own) none agrees =
    let P = λ (o : Own). made_by o.pass history ≡ o.entries in
    let Q = λ (o : Own). made_by o.pass (history ++ made ∷ []) ≡ o.entries in
    let apart = apart_of made.pass first.pass (numbers_of own) none in
    All-cons Q first own (made_by-other history made apart ∙ All-head P first own agrees)
    (own_as_before history made own (omega arith) (All-tail P first own agrees))

pub spare_as_before : (history : List LiveEntry) (made : LiveEntry) (spare : List ℕ)
    → times_among made.pass spare ≡ 0 → AreUnused history spare → AreUnused (history ++ made ∷ []) spare
spare_as_before history made [] none unused = All-nil (λ number. made_by number (history ++ made ∷ []) ≡ [])
spare_as_before history made (first ∷ spare) none unused =
    let P = λ (number : ℕ). made_by number history ≡ [] in
    let Q = λ (number : ℕ). made_by number (history ++ made ∷ []) ≡ [] in
    let apart = apart_of made.pass first spare none in
    All-cons Q first spare (made_by-other history made apart ∙ All-head P first spare unused)
    (spare_as_before history made spare (omega arith) (All-tail P first spare unused))

pub nothing_made : (spare : List ℕ) → AreUnused [] spare
nothing_made [] = All-nil (λ (number : ℕ). made_by number [] ≡ [])
nothing_made (first ∷ spare) =
    All-cons (λ (number : ℕ). made_by number [] ≡ []) first spare refl (nothing_made spare)

pub own_of_first : (history : List LiveEntry) (spare : List ℕ) → AreUnused history spare
    → AreOwn history (first_own spare)
own_of_first history [] unused = All-nil (λ (o : Own). made_by o.pass history ≡ o.entries)
own_of_first history (number ∷ spare) unused =
    All-cons (λ (o : Own). made_by o.pass history ≡ o.entries) (nothing_under number) []
    (All-head (λ (n : ℕ). made_by n history ≡ []) number spare unused)
    (All-nil (λ (o : Own). made_by o.pass history ≡ o.entries))

pub others_unused : (history : List LiveEntry) (spare : List ℕ) → AreUnused history spare
    → AreUnused history (other_numbers spare)
others_unused history [] unused = All-nil (λ (number : ℕ). made_by number history ≡ [])
others_unused history (number ∷ spare) unused =
    All-tail (λ (n : ℕ). made_by n history ≡ []) number spare unused

-- ---- what a pass has once it gave the turn back

pub own_in-agrees : (history : List LiveEntry) (own : List Own) → AreOwn history (own_in history own)
own_in-agrees history [] = All-nil (λ (o : Own). made_by o.pass history ≡ o.entries)
own_in-agrees history (first ∷ own) =
    All-cons (λ (o : Own). made_by o.pass history ≡ o.entries)
    (record { pass = first.pass; entries = made_by first.pass history }) (own_in history own) refl
    (own_in-agrees history own)

pub own_in-same : (history : List LiveEntry) (own : List Own) → AreOwn history own → own_in history own ≡ own
own_in-same history [] agrees = refl
own_in-same history (first ∷ own) agrees =
    let P = λ (o : Own). made_by o.pass history ≡ o.entries in
    let here = All-head P first own agrees in
    let later = own_in-same history own (All-tail P first own agrees) in
    λ i. record { pass = first.pass; entries = here i } ∷ later i

pub own_in-more : (history : List LiveEntry) (made : LiveEntry) (own : List Own) → AreOwn history own
    → own_in (history ++ made ∷ []) own ≡ gained made own
own_in-more history made [] agrees = refl
own_in-more history made (first ∷ own) agrees =
    let P = λ (o : Own). made_by o.pass history ≡ o.entries in
    let here : made_by first.pass (history ++ made ∷ [])
    ≡ first.entries ++ (if made.pass == first.pass then made.entry ∷ [] else []) =
    made_by-push first.pass history made
    ∙ ap (λ es. es ++ (if made.pass == first.pass then made.entry ∷ [] else [])) (All-head P first own agrees) in
    let later = own_in-more history made own (All-tail P first own agrees) in
    λ i. record { pass = first.pass; entries = here i } ∷ later i

-- the first number's entries are found first
pub made_under-first : (number : ℕ) (entries : List Entry) (others : List Own)
    → made_under number (record { pass = number; entries = entries } ∷ others) ≡ entries
made_under-first number entries others =
    ap (λ b. if b then entries else made_under number others) (eq-eqb number number refl)
