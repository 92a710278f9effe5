-- Names that all differ: each goes into the table once, and is found at its own place.
use Rattle.std.proofs.Common.{◌≡◌, ◌≢◌, ℕ, ◌<◌, Bool, false, not, List, [], ◌∷◌, ◌++◌, length, get_or}
use Rattle.std.proofs.Common.{All, AllPairs, refl, sym, ◌∙◌, ap, subst, arith, append_assoc, length-append}
use Rattle.std.specs.Prelude.{if◌then◌else◌}
use Rattle.std.proofs.lemmas.Bool.{or_from, false_from_ne_true, not_from_false, cond-true}
use Rattle.std.proofs.{lemmas.List.get_or_append_left, lemmas.List.Elements.All-head, lemmas.List.Elements.All-tail}
use lib.Pointwise.{bytes_decides}
use Rattle.fault_words.specs.Names.{has_name, same_name}

-- no two are equal
abbrev pub Differ : List (List ℕ) → Type 0
Differ names = AllPairs (λ earlier later. earlier ≢ later) names

no_such : (name : List ℕ) (names : List (List ℕ)) → All (λ other. other ≢ name) names
    → has_name names name ≡ false
no_such name [] apart = refl
no_such name (other ∷ names) apart =
    or_from (same_name name other) (has_name names name)
    (false_from_ne_true (same_name name other)
    (λ same. All-head (λ o. o ≢ name) other names apart (sym ((bytes_decides name other).0 same))))
    (no_such name names (All-tail (λ o. o ≢ name) other names apart))

earlier_differ : (names : List (List ℕ)) (name : List ℕ) (rest : List (List ℕ)) → Differ (names ++ name ∷ rest)
    → All (λ other. other ≢ name) names
earlier_differ names name rest differ k d short =
    let long : length names < length (names ++ name ∷ rest) = omega (arith, length-append names (name ∷ rest)) in
    let at_last : get_or (names ++ name ∷ rest) (length names) d ≡ name = get_or_middle names name rest d in
    let at_k : get_or (names ++ name ∷ rest) k d ≡ get_or names k d =
    get_or_append_left names (name ∷ rest) d k short in
    λ same. differ k (length names) d short long (at_k ∙ same ∙ sym at_last)
  where
    get_or_middle : (xs : List (List ℕ)) (x : List ℕ) (ys : List (List ℕ)) (e : List ℕ)
        → get_or (xs ++ x ∷ ys) (length xs) e ≡ x
    get_or_middle [] x ys e = refl
    get_or_middle (y ∷ xs) x ys e = get_or_middle xs x ys e

-- the next name goes to the end of the table
pub insert_next : {names : List (List ℕ)} (keys : List (List ℕ)) {rest keys' rest' : List (List ℕ)} {name : List ℕ}
    {added : Bool} → Differ names
    → keys ++ rest ≡ names → rest ≡ name ∷ rest' → added ≡ not (has_name keys name)
    → keys' ≡ (if added then keys ++ name ∷ [] else keys) → keys' ++ rest' ≡ names
insert_next {names} keys {keys'} {rest'} {name} {added} differ before next new inserted =
    let whole : keys ++ name ∷ rest' ≡ names = ap (λ r. keys ++ r) (sym next) ∙ before in
    let fresh : has_name keys name ≡ false =
    no_such name keys (earlier_differ keys name rest' (subst Differ (sym whole) differ)) in
    let pushed : keys' ≡ keys ++ name ∷ [] =
    inserted ∙ cond-true added (keys ++ name ∷ []) keys (new ∙ not_from_false (has_name keys name) fresh) in
    ap (λ k. k ++ rest') pushed ∙ append_assoc keys (name ∷ []) rest' ∙ whole
