-- Each kind of step leaves a view that fits the words.
use Rattle.std.proofs.Common.{◌≡◌, ◌≢◌, ℕ, ◌+◌, ◌<◌, ◌==◌, List, [], ◌∷◌, ◌++◌, get_or, sym, ◌∙◌, ap, subst, arith}
use Rattle.std.proofs.Common.{Contains, ⊎_elim, inl, inr, if◌then◌else◌, eq-eqb, ne_eqb}
use Rattle.std.proofs.lemmas.List.Elements.{Contains-append_right, Contains-append_cases}
use Rattle.std.proofs.lemmas.List.Elements.{Contains-push, Contains-push_cases}
use Rattle.unit_sets.proofs.Sorted.{Contains-nil}
use mathlib.Core.Logic.{dite}
use native.Mathlib.Decide.{dec_lt, ℕ_discrete}
use Rattle.zdd_families.specs.Map.{IsNode, Grown}
use Rattle.zdd_families.proofs.MapLemmas.{IsNode-grown}
use Rattle.zdd_shared_table.specs.{Known.find, Known.placed, Rule.round, Rule.Fits, declared.view.View.View}
use Rattle.zdd_shared_table.specs.Views.{spent, learned, filled, searching, searched_all, passed_on, kept_back}
use Rattle.zdd_shared_table.specs.Views.{split_off, joined}
use Rattle.zdd_shared_table.proofs.Rounds.{round-onto}
use Rattle.zdd_shared_table.proofs.Filling.{IsNode-filled, HasPassed, IsOf-known}
use Rattle.zdd_shared_table.proofs.Maps.{IsOf-both, find-front, find-standing, find-grown, placed-slot}

-- one of two by a test of two numbers
pub by_test : {X : Type 0} (P : X → Type 0) (a b : ℕ) (x y : X) → (a ≡ b → P x) → (a ≢ b → P y)
    → P (if a == b then x else y)
by_test P a b x y is other =
    dite (ℕ_discrete a b)
    (λ same. rw (eq-eqb a b same) (is same))
    (λ differ. rw (ne_eqb a b differ) (other differ))

-- what becomes of a view in a search, by what the slot has: nothing, the word or another
pub by_slot : (P : View → Type 0) (word before slot found : ℕ) (v start : View) → (found ≡ 0 → P start)
    → (found ≢ 0 → found ≡ word → P (learned word slot v)) → (found ≢ 0 → found ≢ word → P (passed_on word before v))
    → P (if found == 0 then start else (if found == word then learned word slot v else passed_on word before v))
by_slot P word before slot found v start none here past =
    by_test P found 0 start (if found == word then learned word slot v else passed_on word before v) none
    (λ some. by_test P found word (learned word slot v) (passed_on word before v) (here some) (past some))

-- and where it passes the slot, by whether that was the last
pub by_passed : (P : View → Type 0) (word before : ℕ) (v : View) → (before + 1 ≡ v.size → P (searched_all word v))
    → P (searching word (before + 1) v) → P (passed_on word before v)
by_passed P word before v all more =
    by_test P (before + 1) v.size (searched_all word v) (searching word (before + 1) v) all (λ _. more)

module _ {home : ℕ → ℕ} {size : ℕ} {words : List ℕ} {v : View} (fits : Fits home size words v) where
  -- a view that knows one more slot
  module _ {word : ℕ} (slot : ℕ) (at : get_or words slot 0 ≡ word) (node : IsNode (find v.known) word) where
    abbrev more : List (ℕ × ℕ)
    more = v.known ++ (slot + 2, word) ∷ []

    grown : Grown (find v.known) (find more)
    grown = find-front v.known ((slot + 2, word) ∷ [])

    pub Fits-learned : Fits home size words (learned word slot v)
    Fits-learned = record {
      known = λ reference w h. ⊎_elim
          (λ (h : Contains v.known (reference, w)). let old = fits.known reference w h in
          (old.0, IsNode-grown _ _ _ grown old.1))
          (λ (is : (slot + 2, word) ≡ (reference, w)).
          subst (λ (p : ℕ × ℕ). (placed words p.0 ≡ p.1) × IsNode (find more) p.1) is
          (placed-slot words slot ∙ at, IsNode-grown _ _ _ grown node))
          (Contains-push_cases v.known (slot + 2, word) (reference, w) h);
      fills = λ reference h none. fits.fills reference h (sym (grown reference (fits.fills reference h)) ∙ none);
      missed = λ other h. IsNode-grown _ _ _ grown (fits.missed other h);
      passed = λ place none. absurd (omega arith);
      full = fits.full;
    }

    pub found : find more (slot + 2) ≡ word
    found = find-standing more (slot + 2) (IsOf-known Fits-learned) (Contains-push v.known (slot + 2, word))

    pub Fits-filling : Fits home size words (filled word slot v)
    Fits-filling = record {
      known = Fits-learned.known;
      fills = λ reference h. ⊎_elim (Fits-learned.fills reference)
          (λ (new : slot + 2 ≡ reference). λ none. IsNode-filled node (sym found ∙ (ap (find more) new ∙ none)))
          (Contains-push_cases v.fills (slot + 2) reference h);
      missed = Fits-learned.missed;
      passed = Fits-learned.passed;
      full = fits.full;
    }

  -- a view whose search has passed one more slot
  module _ {word : ℕ} (before : ℕ) (home_below : home word < size) (sized : v.size ≡ size)
      (node : IsNode (find v.known) word)
      (passed : HasPassed home size words word before)
      (differs : (get_or words (round size (home word + before)) 0 ≢ 0)
      × (get_or words (round size (home word + before)) 0 ≢ word)) where
    passed' : HasPassed home size words word (before + 1)
    passed' place short =
        dite (dec_lt place before)
        (λ earlier. passed place earlier)
        (λ later. let now : before ≡ place = omega arith in
        subst (λ (k : ℕ). (get_or words (round size (home word + k)) 0 ≢ 0)
        × (get_or words (round size (home word + k)) 0 ≢ word)) now differs)

    all_filled : before + 1 ≡ size → (slot : ℕ) → slot < size → get_or words slot 0 ≢ 0
    all_filled whole slot inside =
        let at = round-onto size (home word) slot home_below inside in
        let short : at.0 < before + 1 = let s = at.1 in omega arith in
        subst (λ (k : ℕ). get_or words k 0 ≢ 0) at.2 (passed' at.0 short).0

    pub Fits-passed : Fits home size words (passed_on word before v)
    Fits-passed =
        by_passed (Fits home size words) word before v
        (λ whole. record {
          known = fits.known;
          fills = fits.fills;
          missed = λ sought h. ⊎_elim (fits.missed sought)
              (λ (same : word ≡ sought). subst (IsNode (find v.known)) same node)
              (Contains-push_cases v.missed word sought h);
          passed = subst (HasPassed home size words word) whole passed';
          full = λ _. all_filled (whole ∙ sized);
        })
        record { known = fits.known; fills = fits.fills; missed = fits.missed; passed = passed'; full = fits.full }

  pub Fits-kept : (share : ℕ) → Fits home size words (kept_back share v)
  Fits-kept share =
      record { known = fits.known; fills = fits.fills; missed = fits.missed; passed = fits.passed; full = fits.full }

  pub Fits-split : (share : ℕ) → Fits home size words (split_off share v)
  Fits-split share = record {
    known = fits.known;
    fills = λ reference none. Contains-nil reference none;
    missed = λ word none. Contains-nil word none;
    passed = λ place none. absurd (omega arith);
    full = λ none. absurd (omega arith);
  }

  module _ {w : View} (fits' : Fits home size words w) where
    left : Grown (find v.known) (find (v.known ++ w.known))
    left = find-front v.known w.known

    pub right : Grown (find w.known) (find (v.known ++ w.known))
    right =
        find-grown w.known (IsOf-both (IsOf-known fits) (IsOf-known fits'))
        (λ pair h. Contains-append_right v.known w.known pair h)

    pub Fits-joined : Fits home size words (joined v w)
    Fits-joined = record {
      known = λ reference word h. elim (Contains-append_cases v.known w.known (reference, word) h) [
        | inl l ↦ let old = fits.known reference word l in (old.0, IsNode-grown _ _ _ left old.1)
        | inr r ↦ let old = fits'.known reference word r in (old.0, IsNode-grown _ _ _ right old.1)
      ];
      fills = λ reference h. elim (Contains-append_cases v.fills w.fills reference h) [
        | inl l ↦ λ none. fits.fills reference l (sym (left reference (fits.fills reference l)) ∙ none)
        | inr r ↦ λ none. fits'.fills reference r (sym (right reference (fits'.fills reference r)) ∙ none)
      ];
      missed = λ word h. elim (Contains-append_cases v.missed w.missed word h) [
        | inl l ↦ IsNode-grown _ _ _ left (fits.missed word l)
        | inr r ↦ IsNode-grown _ _ _ right (fits'.missed word r)
      ];
      passed = fits.passed;
      full = λ some. dite (dec_lt 0 v.fulls) fits.full (λ none. fits'.full (omega arith));
    }

pub Fits-spent : (home : ℕ → ℕ) (size : ℕ) (words : List ℕ) → Fits home size words spent
Fits-spent home size words = record {
  known = λ reference word none. Contains-nil (reference, word) none;
  fills = λ reference none. Contains-nil reference none;
  missed = λ word none. Contains-nil word none;
  passed = λ place none. absurd (omega arith);
  full = λ none. absurd (omega arith);
}
