-- What the lines of the made deck's crew part say.
use Rattle.std.proofs.Common.{inl, inr, ◌≡◌, ◌≢◌, ℕ, zero, suc, ◌+◌, ◌*◌, ◌≤◌, Bool, true, false, not, List, [], ◌∷◌}
use Rattle.std.proofs.Common.{◌++◌, map, refl, sym, ap, subst, ◌∙◌, arith, append_assoc, append-nil}
use Rattle.std.specs.Prelude.{◌&&◌, ◌||◌, All, codes, Some, slice_index_or}
use Rattle.std.specs.List.{flat_map, list_all, list_any, range_with_len}
use Rattle.std.proofs.{lemmas.Bool.cases_Bool, lemmas.List.Elements.All-cons, lemmas.List.Elements.All-nil}
use Rattle.std.proofs.{lemmas.List.Splits.slice_split_at}
use Rattle.fault_words.specs.Name.{is_bare_byte}
use Rattle.crew_script.specs.Words.{Spells, bare, bare_word, begins_bare, is_blank, no_word, word_on}
use Rattle.crew_script.specs.Deck.{is_feed, lines_of}
use Rattle.crew_script.specs.Lines.{crew_line, is_name_word, line_of, says}
use Rattle.crew_script.specs.Says.{Says, says_blank, says_crew, says_return, says_take}
use Rattle.crew_script.specs.CrewsOf.{Say, lines_for, say_next, say_none, say_nothing}
use Rattle.crew_script.specs.declared.dockets.Ask.{Ask}
use Rattle.crew_script.specs.declared.dockets.Ask.TheVariants.{Take, Return}
use Rattle.tree_maker.specs.{Names.unit_name, Names.units_in, MadeDeck.return_line, MadeDeck.take_line}
use Rattle.tree_maker.proofs.Gates.{item_of}
use Rattle.tree_maker.proofs.GoodNames.{IsRest, is_name-made, rest_a, rest_b, rest_c}

-- what a line says: nothing, or a request
abbrev pub Line : Type 0
Line = item_of (lines_for (record { name = []; docket = [] }))

abbrev nothing_said : Line
nothing_said = line_of []

abbrev pub request_of : Ask → Line
request_of ask = slice_index_or (lines_for (record { name = []; docket = ask ∷ [] })) 1 (line_of [])

-- bytes that all pass the opposite of a test
none_any : (test : ℕ → Bool) (xs : List ℕ) → list_all (λ x. not (test x)) xs ≡ true → list_any test xs ≡ false
none_any test [] passes = refl
none_any test (x ∷ xs) passes = elim (cases_Bool (test x)) [
  | inl hit ↦ let clash : false ≡ true = sym (ap (λ b. not b && list_all (λ y. not (test y)) xs) hit)
      ∙ passes in absurd cc
  | inr miss ↦
      ap (λ b. b || list_any test xs) miss
      ∙ none_any test xs (sym (ap (λ b. not b && list_all (λ y. not (test y)) xs) miss) ∙ passes)
]

none_each : (test : ℕ → Bool) (xs : List ℕ) → list_any test xs ≡ false → All (λ x. test x ≡ false) xs
none_each test [] none = All-nil (λ x. test x ≡ false)
none_each test (x ∷ xs) none = elim (cases_Bool (test x)) [
  | inl hit ↦ let clash : true ≡ false = sym (ap (λ b. b || list_any test xs) hit) ∙ none in absurd cc
  | inr miss ↦ All-cons (λ y. test y ≡ false) x xs miss
      (none_each test xs (sym (ap (λ b. b || list_any test xs) miss) ∙ none))
]

-- a line, and the lines behind its line feed
one_line : (line rest : List ℕ) → list_any is_feed line ≡ false → lines_of (line ++ 10 ∷ rest) ≡ line ∷ lines_of rest
one_line line rest inside = slice_split_at is_feed line 10 rest (none_each is_feed line inside) refl

-- a line that says something, in front of others
next_says : {text : List ℕ} (rest : List ℕ) {said : Line} {more : List Line} → list_any is_feed text ≡ false
    → Says text said
    → said ≢ nothing_said → Say (lines_of rest) more → Say (lines_of (text ++ 10 ∷ rest)) (said ∷ more)
next_says {text} rest {said} {more} inside says some behind =
    subst (λ ls. Say ls (said ∷ more)) (sym (one_line text rest inside))
    (say_next text said (lines_of rest) more says some behind)

-- two bare words with a blank between them
two_words : (first second : List ℕ) → begins_bare first ≡ true → list_any is_blank first ≡ false
    → begins_bare second ≡ true → list_any is_blank second ≡ false
    → Spells (bare first ∷ bare second ∷ []) (first ++ 32 ∷ second)
unfolding is_blank
two_words first second begins solid begins' solid' =
    word_on [] first (32 ∷ second) (bare first) (bare second ∷ []) refl (bare_word first begins solid) refl
    (subst (λ l. Spells (bare second ∷ []) (32 ∷ l)) (append-nil second)
    (word_on (32 ∷ []) second [] (bare second) [] refl (bare_word second begins' solid') refl (no_word [] refl)))

-- ---- names of units

-- a unit's name is a word, and a name
pub record IsUnitWord (name : List ℕ) : Type 0 where
  pub begins : begins_bare name ≡ true
  pub solid : list_any is_blank name ≡ false
  pub inside : list_any is_feed name ≡ false
  pub named : is_name_word (bare name) ≡ true

solid_u : is_blank 117 ≡ false
unfolding is_blank
solid_u = refl

unit_word : {rest : List ℕ} → IsRest rest → IsUnitWord (117 ∷ rest)
unit_word {rest} good = record {
  begins = refl;
  solid = ap (λ b. b || list_any is_blank rest) solid_u ∙ none_any is_blank rest good.solid;
  inside = none_any is_feed rest good.inside;
  named = ap (λ b. b && list_all is_bare_byte rest) (is_name-made 117 refl good) ∙ good.bare;
}

-- ---- takes

take_solid : list_any is_blank (codes "take") ≡ false
unfolding is_blank
take_solid = refl

return_solid : list_any is_blank (codes "return") ≡ false
unfolding is_blank
return_solid = refl

abbrev pub take_ask : List ℕ → Ask
take_ask name = Take (name ∷ [])

take_says : {name : List ℕ} → IsUnitWord name → Says (codes "take " ++ name) (request_of (take_ask name))
take_says {name} word =
    says_take (codes "take " ++ name) (bare (codes "take")) (bare name ∷ [])
    (two_words (codes "take") name refl take_solid word.begins word.solid) refl
    (ap (λ b. b && true) word.named) refl

take_next : {name : List ℕ} (rest : List ℕ) {more : List Line} → IsUnitWord name → Say (lines_of rest) more
    → Say (lines_of (take_line name ++ rest)) (request_of (take_ask name) ∷ more)
take_next {name} rest {more} word behind =
    subst (λ l. Say (lines_of (codes "take " ++ l)) (request_of (take_ask name) ∷ more))
    (sym (append_assoc name (codes "\n") rest)) (next_says rest word.inside (take_says word) (λ same. cc) behind)

abbrev pub takes_of : ℕ → List ℕ
takes_of group = flat_map take_line (units_in group)

abbrev pub asks_of : ℕ → List Ask
asks_of group = map take_ask (units_in group)

three_lines : (a b c behind rest : List ℕ) → ((a ++ (b ++ (c ++ []))) ++ behind) ++ rest
    ≡ a ++ (b ++ (c ++ (behind ++ rest)))
three_lines a b c behind rest = simp (append-nil, append_assoc)

pub takes_say : (s n : ℕ) (rest : List ℕ) {more : List Line} → s + n ≤ 200 → Say (lines_of rest) more
    → Say (lines_of (flat_map takes_of (range_with_len s n) ++ rest))
    (map request_of (flat_map asks_of (range_with_len s n)) ++ more)
takes_say s zero rest within behind = behind
takes_say s (suc n) rest {more} within behind =
    let later : List ℕ = flat_map takes_of (range_with_len (s + 1) n) ++ rest in
    let said : List Line = map request_of (flat_map asks_of (range_with_len (s + 1) n)) ++ more in
    let a : List ℕ = unit_name s (codes "a") in
    let b : List ℕ = unit_name s (codes "b") in
    let c : List ℕ = unit_name s (codes "c") in
    subst (λ l. Say (lines_of l) (request_of (take_ask a) ∷ request_of (take_ask b) ∷ request_of (take_ask c) ∷ said))
    (sym (three_lines (take_line a) (take_line b) (take_line c) (flat_map takes_of (range_with_len (s + 1) n)) rest))
    (take_next (take_line b ++ (take_line c ++ later)) (unit_word (rest_a s (omega arith)))
    (take_next (take_line c ++ later) (unit_word (rest_b s (omega arith)))
    (take_next later (unit_word (rest_c s (omega arith))) (takes_say (s + 1) n rest (omega arith) behind))))

-- ---- returns

abbrev pub return_ask : ℕ → Ask
return_ask k = Return (unit_name (2 * k) (codes "a"))

return_says : {name : List ℕ} → IsUnitWord name → Says (codes "return " ++ name) (request_of (Return name))
return_says {name} word =
    says_return (codes "return " ++ name) (bare (codes "return")) (bare name)
    (two_words (codes "return") name refl return_solid word.begins word.solid) refl word.named

pub returns_say : (s n : ℕ) → s + n ≤ 100 → Say (lines_of (flat_map return_line (range_with_len s n)))
    (map request_of (map return_ask (range_with_len s n)))
returns_say s zero within = say_nothing [] [] [] (says_blank [] refl) say_none
returns_say s (suc n) within =
    let name : List ℕ = unit_name (2 * s) (codes "a") in
    let rest : List ℕ = flat_map return_line (range_with_len (s + 1) n) in
    let said : List Line = map request_of (map return_ask (range_with_len (s + 1) n)) in
    let word : IsUnitWord name = unit_word (rest_a (2 * s) (omega arith)) in
    subst (λ l. Say (lines_of (codes "return " ++ l)) (request_of (return_ask s) ∷ said))
    (sym (append_assoc name (codes "\n") rest)) (next_says rest word.inside (return_says word)
    (λ same. cc) (returns_say (s + 1) n (omega arith)))

-- ---- the crew

crew_solid : list_any is_blank (codes "crew") ≡ false
unfolding is_blank
crew_solid = refl

maker_solid : list_any is_blank (codes "maker") ≡ false
unfolding is_blank
maker_solid = refl

abbrev pub crew_said : Line
crew_said = crew_line (Some (codes "maker"))

pub crew_says : (rest : List ℕ) {more : List Line} → Say (lines_of rest) more
    → Say (lines_of (codes "crew maker\n" ++ rest)) (crew_said ∷ more)
crew_says rest behind =
    next_says rest refl (says_crew (codes "crew maker") (bare (codes "crew")) (bare (codes "maker"))
    (two_words (codes "crew") (codes "maker") refl crew_solid refl maker_solid) refl refl)
    (λ same. cc) behind
