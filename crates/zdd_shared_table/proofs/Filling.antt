-- What a word that is filled leaves of the rule, and what it brings.
use Rattle.std.proofs.Common.{◌≡◌, ◌≢◌, ℕ, ◌+◌, ◌<◌, ◌⊎◌, List, length, get_or, set, sym, ◌∙◌, ap, subst, arith, inl}
use Rattle.std.proofs.Common.{inr, get_or-set_other, get_or-set_same, length-set}
use mathlib.Core.Logic.{dite}
use native.Mathlib.Decide.{dec_lt, ℕ_discrete}
use Rattle.zdd_words.specs.Word.{level_of}
use Rattle.zdd_words.proofs.WordLemmas.{level_of-zero}
use Rattle.zdd_families.specs.Map.{IsNode, Grown}
use Rattle.zdd_families.proofs.MapLemmas.{IsNode-grown}
use Rattle.zdd_shared_table.specs.{Known.find, Known.placed, declared.view.View.View}
use Rattle.zdd_shared_table.specs.Rule.{round, HoldsNodes, Fits}
use Rattle.zdd_shared_table.proofs.Rounds.{round-below, round-same, round-onto}
use Rattle.zdd_shared_table.proofs.Maps.{IsOf, find-says, inside-slot, filled-stays, placed-grown}

-- a node's word isn't 0
pub IsNode-filled : {known : ℕ → ℕ} {word : ℕ} → IsNode known word → word ≢ 0
IsNode-filled {word} node none =
    let z : level_of word ≡ 0 = ap level_of none ∙ level_of-zero in let u = node.unit.0 in omega arith

-- a table that has each word that this one has, where it stands
abbrev pub HasAll : List ℕ → List ℕ → Type 0
HasAll words more = (slot : ℕ) → get_or words slot 0 ≢ 0 → get_or more slot 0 ≡ get_or words slot 0

HasAll-filled : (words more : List ℕ) (slot : ℕ) → HasAll words more → get_or words slot 0 ≢ 0 → get_or more slot 0 ≢ 0
HasAll-filled words more slot all some none = some (sym (all slot some) ∙ none)

-- the slots before a place of a search are filled with other words
abbrev pub HasPassed : (ℕ → ℕ) → ℕ → List ℕ → ℕ → ℕ → Type 0
HasPassed home size words word before =
    (place : ℕ) → place < before → (get_or words (round size (home word + place)) 0 ≢ 0)
    × (get_or words (round size (home word + place)) 0 ≢ word)

module _ {home : ℕ → ℕ} {size : ℕ} where
  -- what holds of a view holds while other slots are filled
  pub Fits-filled : {words more : List ℕ} {v : View} → HasAll words more → Fits home size words v
      → Fits home size more v
  Fits-filled {words} {more} {v} all fits = record {
    known = λ reference word h. let old = fits.known reference word h in
        (placed-grown words more all reference (λ none. IsNode-filled old.1 (sym old.0 ∙ none)) ∙ old.0, old.1);
    fills = fits.fills;
    missed = fits.missed;
    passed = λ place h. let old = fits.passed place h in let slot : ℕ = round size (home v.probe.word + place) in
        (HasAll-filled words more slot all old.0, λ same. old.1 (sym (all slot old.0) ∙ same));
    full = λ some slot inside. HasAll-filled words more slot all (fits.full some slot inside);
  }

  -- what a view knows is what the table has
  pub IsOf-known : {words : List ℕ} {v : View} → Fits home size words v → IsOf (placed words) v.known
  IsOf-known fits = record {
    says = λ reference word h. (fits.known reference word h).0;
    filled = λ reference word h. IsNode-filled (fits.known reference word h).1;
  }

  pub IsGrown-placed : {words : List ℕ} {v : View} → Fits home size words v → Grown (find v.known) (placed words)
  IsGrown-placed fits reference some = find-says reference (IsOf-known fits) some

  module _ {words : List ℕ} {word : ℕ} (before : ℕ) {slot : ℕ} (home_below : home word < size)
      (rule : HoldsNodes home size words)
      (node : IsNode (placed words) word)
      (inside : before < size) (here : slot ≡ round size (home word + before))
      (passed : HasPassed home size words word before)
      (empty : get_or words slot 0 ≡ 0) where
    abbrev more : List ℕ
    more = set words slot word

    slot_inside : slot < length words
    slot_inside =
        let b = round-below size (home word) before home_below inside in let s = rule.sized in omega (arith, here)

    stays : HasAll words more
    stays other some = filled-stays words slot word other empty some

    -- the word stands nowhere in the table
    stands_nowhere : (other : ℕ) → get_or words other 0 ≢ word
    stands_nowhere other same =
        let some : get_or words other 0 ≢ 0 = λ none. IsNode-filled node (sym same ∙ none) in
        let in_table : other < length words = inside-slot words other some in
        let in_size : other < size = let s = rule.sized in omega arith in
        let at = round-onto size (home word) other home_below in_size in
        let place : ℕ =
        at.0 in let short : place < size = at.1 in let is : round size (home word + place) ≡ other = at.2 in
        let stands : get_or words (round size (home word + place)) 0 ≡ word =
        ap (λ (k : ℕ). get_or words k 0) is ∙ same in
        dite (dec_lt place before)
        (λ earlier. (passed place earlier).1 stands)
        (λ later. dite (ℕ_discrete place before)
        (λ now. some (ap (λ (k : ℕ). get_or words k 0)
        (sym is ∙ (ap (λ (k : ℕ). round size (home word + k)) now ∙ sym here)) ∙ empty))
        (λ other_place. let more : before < place = omega arith in
        rule.reached word place before (IsNode-filled node) short stands more
        (ap (λ (k : ℕ). get_or words k 0) (sym here) ∙ empty)))

    there : get_or more slot 0 ≡ word
    there = get_or-set_same words slot word 0 slot_inside

    -- each filled slot afterwards is the one that was filled, or it was filled before
    each_slot : (other : ℕ) → get_or more other 0 ≢ 0
        → ((other ≡ slot) × (get_or more other 0 ≡ word))
        ⊎ ((get_or words other 0 ≢ 0) × (get_or more other 0 ≡ get_or words other 0))
    each_slot other some =
        dite (ℕ_discrete other slot)
        (λ is. inl (is, ap (λ (k : ℕ). get_or more k 0) is ∙ there))
        (λ elsewhere. let e = get_or-set_other words slot other word 0 elsewhere in inr ((λ none. some (e ∙ none)), e))

    filled_nodes : (other : ℕ) → get_or more other 0 ≢ 0
        → IsNode (placed more) (get_or more other 0)
    filled_nodes other some =
        let grown = placed-grown words more stays in
        elim (each_slot other some) [
          | inl new ↦ subst (IsNode (placed more)) (sym new.1) (IsNode-grown _ _ _ grown node)
          | inr old ↦ subst (IsNode (placed more)) (sym old.1) (IsNode-grown _ _ _ grown (rule.nodes other old.0))
        ]

    filled_reached : (sought place at : ℕ) → sought ≢ 0 → place < size
        → get_or more (round size (home sought + place)) 0 ≡ sought → at < place
        → get_or more (round size (home sought + at)) 0 ≢ 0
    filled_reached sought place at some short stands earlier =
        elim (each_slot (round size (home sought + place)) (λ none. some (sym stands ∙ none))) [
          | inl new ↦
              let same : sought ≡ word = sym stands ∙ new.1 in
              let from : round size (home word + place) ≡ round size (home word + before) =
              ap (λ (w : ℕ). round size (home w + place)) (sym same) ∙ (new.0 ∙ here) in
              let at_once : place ≡ before = round-same size (home word) place before home_below short inside from in
              let old : get_or words (round size (home word + at)) 0 ≢ 0 = (passed at (omega arith)).0 in
              let P : ℕ → Type 0 = λ w. get_or more (round size (home w + at)) 0 ≢ 0 in
              subst P (sym same) (HasAll-filled words more (round size (home word + at)) stays
              old)
          | inr old ↦
              HasAll-filled words more (round size (home sought + at)) stays
              (rule.reached sought place at some short (sym old.1 ∙ stands) earlier)
        ]

    filled_once : (a b : ℕ) → get_or more a 0 ≢ 0
        → get_or more a 0 ≡ get_or more b 0 → a ≡ b
    filled_once a b some same =
        elim (each_slot a some) [
          | inl new ↦ elim (each_slot b (λ none. some (same ∙ none))) [
            | inl new' ↦ new.0 ∙ sym new'.0
            | inr old' ↦ absurd (stands_nowhere b (sym old'.1 ∙ (sym same ∙ new.1)))
          ]
          | inr old ↦ elim (each_slot b (λ none. some (same ∙ none))) [
            | inl new' ↦ absurd (stands_nowhere a (sym old.1 ∙ (same ∙ new'.1)))
            | inr old' ↦ rule.once a b old.0 (sym old.1 ∙ (same ∙ old'.1))
          ]
        ]

    -- where the seat fills the slot, the other words stay, it holds the word, and the words keep the rule
    pub filled_words : HasAll words more × (get_or more slot 0 ≡ word) × HoldsNodes home size more
    filled_words = (
      stays,
      there,
      record {
        sized = length-set words slot word ∙ rule.sized;
        nodes = filled_nodes;
        reached = filled_reached;
        once = filled_once;
      },
    )
