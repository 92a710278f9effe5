-- What a list of references and the words of the table say as maps.
use Rattle.std.proofs.Common.{◌≡◌, ◌≢◌, ℕ, zero, suc, ◌+◌, ◌-◌, ◌<◌, ◌≤◌, List, [], ◌∷◌, length, get_or, set, sym, ◌∙◌}
use Rattle.std.proofs.Common.{ap, subst, refl, arith, ◌++◌, Contains, ⊎_elim, get_or-set_other}
use Rattle.std.proofs.lemmas.List.Elements.{Contains-append_cases}
use Rattle.unit_sets.proofs.Sorted.{Contains-cons_cases, Contains-cons_first, Contains-cons_other, Contains-nil}
use mathlib.Core.Logic.{dite}
use native.Mathlib.Decide.{ℕ_discrete}
use Rattle.std.proofs.Common.{eq-eqb, ne_eqb}
use Rattle.zdd_families.specs.Map.{Grown}
use Rattle.zdd_shared_table.specs.Known.{find, placed}

-- the pairs of a list are those of a map, and each has a word
pub record IsOf (known : ℕ → ℕ) (pairs : List (ℕ × ℕ)) : Type 0 where
  pub says : (reference word : ℕ) → Contains pairs (reference, word) → known reference ≡ word
  pub filled : (reference word : ℕ) → Contains pairs (reference, word) → word ≢ 0

pub find-first : (pair : ℕ × ℕ) (pairs : List (ℕ × ℕ)) {reference : ℕ} → pair.0 ≡ reference
    → find (pair ∷ pairs) reference ≡ pair.1
find-first pair pairs {reference} is = rw (eq-eqb pair.0 reference is) refl

pub find-later : (pair : ℕ × ℕ) (pairs : List (ℕ × ℕ)) {reference : ℕ} → pair.0 ≢ reference
    → find (pair ∷ pairs) reference ≡ find pairs reference
find-later pair pairs {reference} other = rw (ne_eqb pair.0 reference other) refl

-- what is found stands in the list
pub find-stands : (pairs : List (ℕ × ℕ)) (reference : ℕ) → find pairs reference ≢ 0
    → Contains pairs (reference, find pairs reference)
find-stands [] reference some = absurd (some refl)
find-stands (pair ∷ pairs) reference some =
    dite (ℕ_discrete pair.0 reference) (λ is. let e = find-first pair pairs is in
    subst (λ (p : ℕ × ℕ). Contains (pair ∷ pairs) p) (λ i. (is i, sym e i)) (Contains-cons_first pair pairs))
    (λ other. let e = find-later pair pairs other in
    subst (λ (w : ℕ). Contains (pair ∷ pairs) (reference, w)) (sym e)
    (Contains-cons_other pair (reference, find pairs reference) pairs
    (find-stands pairs reference (λ none. some (e ∙ none)))))

IsOf-tail : {known : ℕ → ℕ} {pair : ℕ × ℕ} {pairs : List (ℕ × ℕ)} → IsOf known (pair ∷ pairs) → IsOf known pairs
IsOf-tail {pair} {pairs} of = record {
  says = λ reference word h. of.says reference word (Contains-cons_other pair (reference, word) pairs h);
  filled = λ reference word h. of.filled reference word (Contains-cons_other pair (reference, word) pairs h);
}

-- what stands in the list of a map is found
pub find-standing : {known : ℕ → ℕ} (pairs : List (ℕ × ℕ)) (reference : ℕ) {word : ℕ} → IsOf known pairs
    → Contains pairs (reference, word) → find pairs reference ≡ word
find-standing [] reference {word} of in_list = Contains-nil (reference, word) in_list
find-standing {known} (pair ∷ pairs) reference {word} of in_list =
    dite (ℕ_discrete pair.0 reference) (λ is. find-first pair pairs is
    ∙ (sym (of.says pair.0 pair.1 (Contains-cons_first pair pairs)) ∙ (ap known is ∙ of.says reference word in_list)))
    (λ other. find-later pair pairs other
    ∙ find-standing pairs reference {word = word} (IsOf-tail of)
    (⊎_elim (λ (same : pair ≡ (reference, word)). absurd (other (ap (λ (p : ℕ × ℕ). p.0) same))) (λ later. later)
    (Contains-cons_cases pair (reference, word) pairs in_list)))

-- what more at the end leaves found
pub find-front : (pairs more : List (ℕ × ℕ)) → Grown (find pairs) (find (pairs ++ more))
find-front [] more reference known = absurd (known refl)
find-front (pair ∷ pairs) more reference known =
    dite (ℕ_discrete pair.0 reference) (λ is. find-first pair (pairs ++ more) is ∙ sym (find-first pair pairs is))
    (λ other. let later = find-later pair pairs other in
    find-later pair (pairs ++ more) other
    ∙ (find-front pairs more reference (λ none. known (later ∙ none)) ∙ sym later))

-- of two lists of a map's pairs both together
pub IsOf-both : {known : ℕ → ℕ} {pairs more : List (ℕ × ℕ)} → IsOf known pairs → IsOf known more
    → IsOf known (pairs ++ more)
IsOf-both {pairs} {more} one two = record {
  says = λ reference word h. ⊎_elim (one.says reference word) (two.says reference word)
      (Contains-append_cases pairs more (reference, word) h);
  filled = λ reference word h. ⊎_elim (one.filled reference word) (two.filled reference word)
      (Contains-append_cases pairs more (reference, word) h);
}

-- a map whose pairs the list has
pub find-says : {known : ℕ → ℕ} {pairs : List (ℕ × ℕ)} (reference : ℕ) → IsOf known pairs → find pairs reference ≢ 0
    → known reference ≡ find pairs reference
find-says {pairs} reference of some = of.says reference (find pairs reference) (find-stands pairs reference some)

-- A list of a map's pairs that another such list has too is a smaller map.
pub find-grown : {known : ℕ → ℕ} (pairs : List (ℕ × ℕ)) {more : List (ℕ × ℕ)} → IsOf known more
    → ((pair : ℕ × ℕ) → Contains pairs pair → Contains more pair) → Grown (find pairs) (find more)
find-grown pairs {more} of within reference some =
    find-standing more reference of (within (reference, find pairs reference) (find-stands pairs reference some))

pub placed-slot : (words : List ℕ) (slot : ℕ) → placed words (slot + 2) ≡ get_or words slot 0
unfolding placed
placed-slot words slot = let e : slot + 2 ≡ suc (suc slot) = omega arith in rw e refl

-- a reference that is placed has a slot
pub placed-inside : (words : List ℕ) (reference : ℕ) → placed words reference ≢ 0
    → (2 ≤ reference) × (placed words reference ≡ get_or words (reference - 2) 0)
unfolding placed
placed-inside words zero some = absurd (some refl)
placed-inside words (suc zero) some = absurd (some refl)
placed-inside words (suc (suc slot)) some = (omega arith, let e : suc (suc slot) - 2 ≡ slot = omega arith in rw e refl)

pub inside-slot : (words : List ℕ) (slot : ℕ) → get_or words slot 0 ≢ 0 → slot < length words
inside-slot [] slot some = absurd (some refl)
inside-slot (w ∷ words) zero some = omega arith
inside-slot (w ∷ words) (suc slot) some = let h = inside-slot words slot some in omega arith

-- filling an empty slot leaves the words that were there
pub filled-stays : (words : List ℕ) (slot word other : ℕ) → get_or words slot 0 ≡ 0 → get_or words other 0 ≢ 0
    → get_or (set words slot word) other 0 ≡ get_or words other 0
filled-stays words slot word other empty some =
    get_or-set_other words slot other word 0 (λ same. some (ap (λ (k : ℕ). get_or words k 0) same ∙ empty))

pub placed-grown : (words more : List ℕ) → ((slot : ℕ) → get_or words slot 0 ≢ 0
    → get_or more slot 0 ≡ get_or words slot 0) → Grown (placed words) (placed more)
unfolding placed
placed-grown words more stays zero some = refl
placed-grown words more stays (suc zero) some = refl
placed-grown words more stays (suc (suc slot)) some = stays slot some
