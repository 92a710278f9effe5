-- Names that differ, and what a take says.
use Rattle.std.proofs.Common.{◌≡◌, ℕ, ◌<◌, true, false, not, List, [], ◌∷◌, ◌++◌, length, drop, refl, sym, subst}
use Rattle.std.proofs.Common.{◌∙◌, arith, true≢false}
use Rattle.std.specs.Prelude.{Some, None, codes}
use Rattle.std.proofs.lemmas.Bool.{and_parts, or_from, or_left, or_parts, or_right, not-true}
use Rattle.std.proofs.lemmas.Bool.{false_from_ne_true}
use Rattle.std.proofs.{lemmas.List.Folds.list_any-append, lemmas.Grind.common_steps}
use lib.Pointwise.{bytes_decides}
use Rattle.fault_words.specs.Names.{same_name, has_name, all_differ}
use Rattle.crew_script.specs.{Words.Word, Words.first_of, declared.line.Line.Line}
use Rattle.crew_script.specs.Lines.{take_line, name_in, is_comment, says, line_of, request_line}

other_way : (name other : List ℕ) → same_name name other ≡ false → same_name other name ≡ false
other_way name other apart =
    false_from_ne_true (same_name other name)
    (λ same. true≢false (sym ((bytes_decides name other).1 (sym ((bytes_decides other name).0 same))) ∙ apart))

-- one more name, which is none of those before it
pub differ_push : (names : List (List ℕ)) (name : List ℕ) → all_differ names ≡ true → has_name names name ≡ false
    → all_differ (names ++ name ∷ []) ≡ true
differ_push [] name differ new = refl
differ_push (first ∷ names) name differ new =
    let (alone, rest) = and_parts (not (has_name names first)) (all_differ names) differ in
    let (apart, later) = or_parts (same_name name first) (has_name names name) new in
    rw (
      list_any-append (same_name first) names (name ∷ []),
      not-true (has_name names first) alone,
      other_way name first apart,
    ) (differ_push names name rest later)

-- a name that stands among names that differ is none of those before it
pub differ_at : (names : List (List ℕ)) (name : List ℕ) (more : List (List ℕ))
    → all_differ (names ++ name ∷ more) ≡ true → has_name names name ≡ false
differ_at [] name more differ = refl
differ_at (first ∷ names) name more differ =
    let (alone, rest) =
    and_parts (not (has_name (names ++ name ∷ more) first)) (all_differ (names ++ name ∷ more)) differ in
    let there : has_name (names ++ name ∷ more) name ≡ true =
    list_any-append (same_name name) names (name ∷ more)
    ∙ or_right (has_name names name) (has_name (name ∷ more) name)
    (or_left (same_name name name) (has_name more name) ((bytes_decides name name).1 refl)) in
    or_from (same_name name first) (has_name names name)
    (false_from_ne_true (same_name name first)
    (λ same. true≢false
    (sym (subst (λ n. has_name (names ++ name ∷ more) n ≡ true) ((bytes_decides name first).0 same) there)
    ∙ not-true (has_name (names ++ name ∷ more) first) alone)))
    (differ_at names name more rest)

pub none_left : (words : List Word) → first_of words ≡ None → words ≡ []
none_left [] none = refl
none_left (word ∷ words) none = absurd cc

-- one more name is taken
pub take_step : {said : Line} (names : List (List ℕ)) (words : List Word) {rest : List Word} (word : Word)
    (name : List ℕ)
    → said ≡ take_line names words → first_of words ≡ Some word → rest ≡ drop 1 words → name_in word ≡ Some name
    → length names < 16 → has_name names name ≡ false → said ≡ take_line (names ++ name ∷ []) rest
take_step names [] word name same first behind is few new = absurd cc
take_step names (next ∷ words) word name same first behind is few new = grind (arith, common_steps)

-- a line that says no crew and begins no comment
pub request_step : (words : List Word) {rest : List Word} (first : Word) → first_of words ≡ Some first
    → rest ≡ drop 1 words
    → is_comment first ≡ false → says first (codes "crew") ≡ false → request_line first rest ≡ line_of words
request_step [] first begins behind comment crew = absurd cc
request_step (next ∷ words) first begins behind comment crew =
    let same : next ≡ first = grind (arith, begins) in
    rw (same, behind, comment, crew) refl
