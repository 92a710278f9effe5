-- What the text of waves says: the crew `planner` and its requests.
use Rattle.std.specs.Prelude.{◌≡◌, ◌≢◌, ℕ, zero, suc, ◌+◌, ◌*◌, ◌≤◌, Bool, true, false, not, cond, ◌&&◌, ◌||◌, ◌==◌}
use Rattle.std.specs.Prelude.{List, [], ◌∷◌, ◌++◌, map, length, All, Some, codes, nat_le, slice_index_or}
use Rattle.std.specs.List.{flat_map, list_all, list_any}
use Rattle.std.proofs.Common.{refl, sym, ◌∙◌, ap, subst, arith, inl, inr, append-nil, append_assoc, eqb-true, eq-eqb}
use Rattle.std.proofs.Common.{lit≤}
use Rattle.std.proofs.lemmas.Bool.{and_parts, cases_Bool, cases_eq, or_from, or_parts}
use Rattle.std.proofs.lemmas.List.Folds.{list_any-append}
use Rattle.std.proofs.lemmas.List.{length-append, length-map, map-append}
use Rattle.std.proofs.lemmas.List.Elements.{All-cons, All-head, All-nil, All-tail}
use Rattle.std.proofs.lemmas.List.Splits.{slice_split_at}
use Rattle.unit_sets.specs.UnitList.{among, without_unit}
use Rattle.unit_sets.proofs.UnitListLemmas.{among-without_unit}
use Rattle.fault_words.specs.Name.{is_bare_byte, is_bare_name, is_bare_start, is_name, is_name_byte}
use Rattle.fault_definitions.specs.Tree.{FaultTree, IsUnitOf, name_of, unit_count}
use Rattle.fault_definitions.specs.WellFormed.{IsTree}
use Rattle.crew_script.specs.Words.{Spells, Word, Writes, bare, bare_word, begins_bare, is_blank, is_quote}
use Rattle.crew_script.specs.Words.{no_word, quoted, quoted_word, word_on}
use Rattle.crew_script.specs.Deck.{is_feed, lines_of}
use Rattle.crew_script.specs.Lines.{crew_line, is_name_word, line_of, says}
use Rattle.crew_script.specs.Says.{Says, says_blank, says_crew, says_return, says_take}
use Rattle.crew_script.specs.CrewsOf.{Say, lines_for, say_next, say_none, say_nothing}
use Rattle.crew_script.specs.{Dockets.request_count, declared.dockets.Ask.Ask}
use Rattle.crew_script.specs.declared.dockets.Ask.TheVariants.{Take, Return}
use Rattle.crew_script.specs.declared.dockets.TheConstants.{MOST_REQUESTS}
use Rattle.text_pieces.specs.Shown.{show}
use Rattle.margin_policy.specs.Asked.{has_repeat}
use Rattle.wave_planner.specs.WavesText.{HaveNames, SaysPlanner, planner, unit_line, unit_lines, wave_asks}
use Rattle.wave_planner.specs.WavesText.{wave_lines, waves_text}
use Rattle.wave_planner.specs.Waves.{AreFirstFit, IsAsWanted, of_wave, waves_with}
use Rattle.wave_planner.proofs.KeptLemmas.{all_among, behind, itself, once_kept}

-- the type of a list's items
abbrev item_of : {X : Type 0} → List X → Type 0
item_of {X} xs = X

-- what a line says: nothing, a crew or a request
abbrev Line : Type 0
Line = item_of (lines_for (record { name = []; docket = [] }))

abbrev nothing_said : Line
nothing_said = line_of []

abbrev crew_said : Line
crew_said = crew_line (Some (codes "planner"))

abbrev request_said : Ask → Line
request_said ask = slice_index_or (lines_for (record { name = []; docket = ask ∷ [] })) 1 (line_of [])

-- ---- the bytes of names

none_where : (test other : ℕ → Bool) → ((x : ℕ) → test x ≡ true → other x ≡ false) → (xs : List ℕ)
    → list_all test xs ≡ true → list_any other xs ≡ false
none_where test other never [] all = refl
none_where test other never (x ∷ xs) all =
    let parts = and_parts (test x) (list_all test xs) all in
    or_from (other x) (list_any other xs) (never x parts.0) (none_where test other never xs parts.1)

name_bytes : (name : List ℕ) → is_name name ≡ true → list_all is_name_byte name ≡ true
name_bytes name is =
    (and_parts (nat_le 1 (length name) && nat_le (length name) 255) (list_all is_name_byte name) is).1

no_feed : (byte : ℕ) → is_name_byte byte ≡ true → is_feed byte ≡ false
no_feed byte is = grind arith

no_quote : (byte : ℕ) → is_name_byte byte ≡ true → is_quote byte ≡ false
no_quote byte is = grind arith

bare_no_blank : (byte : ℕ) → is_bare_byte byte ≡ true → is_blank byte ≡ false
unfolding is_blank
bare_no_blank byte is = grind arith

start_no_blank : (byte : ℕ) → is_bare_start byte ≡ true → is_blank byte ≡ false
unfolding is_blank
start_no_blank byte is = grind arith

start_no_quote : (byte : ℕ) → is_bare_start byte ≡ true → not (is_quote byte) ≡ true
start_no_quote byte is = grind arith

bare_begins : (name : List ℕ) → is_bare_name name ≡ true → begins_bare name ≡ true
bare_begins [] is = absurd cc
bare_begins (byte ∷ name) is =
    start_no_quote byte (and_parts (is_bare_start byte) (list_all is_bare_byte name) is).0

bare_solid : (name : List ℕ) → is_bare_name name ≡ true → list_any is_blank name ≡ false
bare_solid [] is = absurd cc
bare_solid (byte ∷ name) is =
    let parts = and_parts (is_bare_start byte) (list_all is_bare_byte name) is in
    or_from (is_blank byte) (list_any is_blank name) (start_no_blank byte parts.0)
    (none_where is_bare_byte is_blank bare_no_blank name parts.1)

-- ---- a name as a word of a line

-- the word of a name as it is shown: it is written so, says the name, and has no line feed
record IsShown (name : List ℕ) : Type 0 where
  word : Word
  writes : Writes word (show name)
  says_it : word.text ≡ name
  is_word : is_name_word word ≡ true
  inside : list_any is_feed (show name) ≡ false

shown : (name : List ℕ) → is_name name ≡ true → IsShown name
shown name is = elim (cases_Bool (is_bare_name name)) [
  | inl hit ↦ record {
    word = bare name;
    writes = rw hit (bare_word name (bare_begins name hit) (bare_solid name hit));
    says_it = refl;
    is_word = rw (is, hit) refl;
    inside = rw hit (none_where is_name_byte is_feed no_feed name (name_bytes name is));
  }
  | inr miss ↦ record {
    word = quoted name;
    writes = rw miss (quoted_word name (none_where is_name_byte is_quote no_quote name (name_bytes name is)));
    says_it = refl;
    is_word = rw is refl;
    inside = rw miss (list_any-append is_feed name (34 ∷ [])
        ∙ ap (λ b. b || false) (none_where is_name_byte is_feed no_feed name (name_bytes name is)));
  }
]

-- ---- lines

none_each : (test : ℕ → Bool) (xs : List ℕ) → list_any test xs ≡ false → All (λ x. test x ≡ false) xs
none_each test [] none = All-nil (λ x. test x ≡ false)
none_each test (x ∷ xs) none =
    let parts = or_parts (test x) (list_any test xs) none in
    All-cons (λ y. test y ≡ false) x xs parts.0 (none_each test xs parts.1)

-- a line that says something, in front of others
next_says : {text : List ℕ} (rest : List ℕ) {said : Line} {more : List Line} → list_any is_feed text ≡ false
    → Says text said → said ≢ nothing_said → Say (lines_of rest) more
    → Say (lines_of (text ++ 10 ∷ rest)) (said ∷ more)
next_says {text} rest {said} {more} inside says some behind =
    subst (λ ls. Say ls (said ∷ more)) (sym (slice_split_at is_feed text 10 rest (none_each is_feed text inside) refl))
    (say_next text said (lines_of rest) more says some behind)

-- a bare word and a name with a blank between them
two_words : (first : List ℕ) {name : List ℕ} (second : IsShown name) → begins_bare first ≡ true
    → list_any is_blank first ≡ false
    → Spells (bare first ∷ second.word ∷ []) (first ++ 32 ∷ show name)
unfolding is_blank
two_words first {name} second begins solid =
    word_on [] first (32 ∷ show name) (bare first) (second.word ∷ []) refl (bare_word first begins solid) refl
    (subst (λ l. Spells (second.word ∷ []) (32 ∷ l)) (append-nil (show name))
    (word_on (32 ∷ []) (show name) [] second.word [] refl second.writes refl (no_word [] refl)))

take_solid : list_any is_blank (codes "take") ≡ false
unfolding is_blank
take_solid = refl

return_solid : list_any is_blank (codes "return") ≡ false
unfolding is_blank
return_solid = refl

crew_solid : list_any is_blank (codes "crew") ≡ false
unfolding is_blank
crew_solid = refl

planner_solid : list_any is_blank (codes "planner") ≡ false
unfolding is_blank
planner_solid = refl

crew_spelled : Spells (bare (codes "crew") ∷ bare (codes "planner") ∷ []) (codes "crew planner")
unfolding is_blank
crew_spelled =
    word_on [] (codes "crew") (32 ∷ codes "planner") (bare (codes "crew")) (bare (codes "planner") ∷ []) refl
    (bare_word (codes "crew") refl crew_solid) refl
    (word_on (32 ∷ []) (codes "planner") [] (bare (codes "planner")) [] refl
    (bare_word (codes "planner") refl planner_solid) refl (no_word [] refl))

-- what a line with a word and a name says
record IsLine (word name : List ℕ) (ask : Ask) : Type 0 where
  says : Says (word ++ 32 ∷ show name) (request_said ask)
  inside : list_any is_feed (word ++ 32 ∷ show name) ≡ false

take_says : (name : List ℕ) → is_name name ≡ true → IsLine (codes "take") name (Take (name ∷ []))
take_says name is =
    let second = shown name is in
    record {
      says =
          subst (λ text. Says (codes "take" ++ 32 ∷ show name) (request_said (Take (text ∷ [])))) second.says_it
          (says_take (codes "take" ++ 32 ∷ show name) (bare (codes "take")) (second.word ∷ [])
          (two_words (codes "take") second refl take_solid) refl (ap (λ b. b && true) second.is_word) refl);
      inside = second.inside;
    }

return_says : (name : List ℕ) → is_name name ≡ true → IsLine (codes "return") name (Return name)
return_says name is =
    let second = shown name is in
    record {
      says =
          subst (λ text. Says (codes "return" ++ 32 ∷ show name) (request_said (Return text))) second.says_it
          (says_return (codes "return" ++ 32 ∷ show name) (bare (codes "return")) second.word
          (two_words (codes "return") second refl return_solid) refl second.is_word);
      inside = second.inside;
    }

line_split : (word name rest : List ℕ) → (word ++ ((32 ∷ name) ++ 10 ∷ [])) ++ rest ≡ (word ++ 32 ∷ name) ++ 10 ∷ rest
line_split word name rest =
    append_assoc word ((32 ∷ name) ++ 10 ∷ []) rest
    ∙ ap (λ l. word ++ l) (append_assoc (32 ∷ name) (10 ∷ []) rest)
    ∙ sym (append_assoc word (32 ∷ name) (10 ∷ rest))

module _ (tree : FaultTree) where
  abbrev IsNamedUnit : ℕ → Type 0
  IsNamedUnit unit = is_name (name_of tree unit) ≡ true

  lines_say : (word : List ℕ) (ask : List ℕ → Ask)
      → ((name : List ℕ) → is_name name ≡ true → IsLine word name (ask name))
      → (wave rest : List ℕ) {more : List Line} → All IsNamedUnit wave → Say (lines_of rest) more
      → Say (lines_of (unit_lines word tree wave ++ rest))
      (map request_said (map (λ unit. ask (name_of tree unit)) wave) ++ more)
  lines_say word ask one [] rest good behind = behind
  lines_say word ask one (unit ∷ wave) rest {more} good behind =
      let name : List ℕ = name_of tree unit in
      let line = one name (All-head IsNamedUnit unit wave good) in
      let others = lines_say word ask one wave rest (All-tail IsNamedUnit unit wave good) behind in
      subst (λ l. Say (lines_of l)
      (request_said (ask name) ∷ (map request_said (map (λ u. ask (name_of tree u)) wave) ++ more)))
      (sym (append_assoc (unit_line word tree unit) (unit_lines word tree wave) rest
      ∙ line_split word (show name) (unit_lines word tree wave ++ rest)))
      (next_says (unit_lines word tree wave ++ rest) line.inside line.says (λ same. cc) others)

  waves_say : (waves : List (List ℕ)) → All (HaveNames tree) waves
      → Say (lines_of (flat_map (wave_lines tree) waves)) (map request_said (flat_map (wave_asks tree) waves))
  waves_say [] good = say_nothing [] [] [] (says_blank [] refl) say_none
  waves_say (wave ∷ waves) good =
      let here = All-head (HaveNames tree) wave waves good in
      let rest : List ℕ = flat_map (wave_lines tree) waves in
      let takes : List Ask = map (λ unit. Take (name_of tree unit ∷ [])) wave in
      let returns : List Ask = map (λ unit. Return (name_of tree unit)) wave in
      let asked : List Ask = flat_map (wave_asks tree) waves in
      let others = waves_say waves (All-tail (HaveNames tree) wave waves good) in
      subst (λ l. Say (lines_of l) (map request_said ((takes ++ returns) ++ asked)))
      (sym (append_assoc (unit_lines (codes "take") tree wave) (unit_lines (codes "return") tree wave) rest))
      (subst (Say (lines_of (unit_lines (codes "take") tree wave ++ (unit_lines (codes "return") tree wave ++ rest))))
      (said_apart takes returns asked)
      (lines_say (codes "take") (λ name. Take (name ∷ [])) take_says wave
      (unit_lines (codes "return") tree wave ++ rest) here
      (lines_say (codes "return") Return return_says wave rest here others)))
    where
      said_apart : (takes returns asked : List Ask)
          → map request_said takes ++ (map request_said returns ++ map request_said asked)
          ≡ map request_said ((takes ++ returns) ++ asked)
      said_apart takes returns asked =
          sym (map-append request_said (takes ++ returns) asked
          ∙ ap (λ l. l ++ map request_said asked) (map-append request_said takes returns)
          ∙ append_assoc (map request_said takes) (map request_said returns) (map request_said asked))

  text_says : (waves : List (List ℕ)) → All (HaveNames tree) waves
      → Say (lines_of (waves_text tree waves)) (crew_said ∷ map request_said (flat_map (wave_asks tree) waves))
  text_says waves good =
      next_says (flat_map (wave_lines tree) waves) refl
      (says_crew (codes "crew planner") (bare (codes "crew")) (bare (codes "planner")) crew_spelled refl refl)
      (λ same. cc) (waves_say waves good)

-- ---- how many requests there are

-- how many units all waves have together
abbrev units_in : List (List ℕ) → ℕ
units_in [] = 0
units_in (wave ∷ waves) = length wave + units_in waves

length-asked : (tree : FaultTree) (waves : List (List ℕ))
    → length (flat_map (wave_asks tree) waves) ≡ 2 * units_in waves
length-asked tree [] = refl
length-asked tree (wave ∷ waves) =
    let takes : List Ask = map (λ unit. Take (name_of tree unit ∷ [])) wave in
    let returns : List Ask = map (λ unit. Return (name_of tree unit)) wave in
    omega (
      arith,
      length-append (takes ++ returns) (flat_map (wave_asks tree) waves),
      length-append takes returns,
      length-map wave (λ unit. Take (name_of tree unit ∷ [])),
      length-map wave (λ unit. Return (name_of tree unit)),
      length-asked tree waves,
    )

-- the units of each wave among some, counted
abbrev kept_in : List (List ℕ) → List ℕ → ℕ
kept_in [] units = 0
kept_in (wave ∷ waves) units = length (of_wave wave units) + kept_in waves units

none_kept : (waves : List (List ℕ)) → kept_in waves [] ≡ 0
none_kept [] = refl
none_kept (wave ∷ waves) = omega (arith, none_kept waves)

one_kept : (waves : List (List ℕ)) (unit : ℕ) (units : List ℕ)
    → kept_in waves (unit ∷ units) ≡ waves_with waves unit + kept_in waves units
one_kept [] unit units = refl
one_kept (wave ∷ waves) unit units = omega (arith, one_kept waves unit units, counted (among wave unit))
  where
    counted : (has : Bool) → length (cond has (unit ∷ of_wave wave units) (of_wave wave units))
        ≡ cond has 1 0 + length (of_wave wave units)
    counted true = omega arith
    counted false = omega arith

each_kept : (waves : List (List ℕ)) (units : List ℕ) → ((unit : ℕ) → among units unit ≡ true
    → waves_with waves unit ≡ 1) → kept_in waves units ≡ length units
each_kept waves [] once = none_kept waves
each_kept waves (unit ∷ units) once =
    omega (
      arith,
      one_kept waves unit units,
      once unit (itself unit units),
      each_kept waves units (λ other has. once other (behind unit other units has)),
    )

all_kept : (wanted : List ℕ) (waves : List (List ℕ)) → All (IsAsWanted wanted) waves
    → units_in waves ≡ kept_in waves wanted
all_kept wanted [] ordered = refl
all_kept wanted (wave ∷ waves) ordered =
    omega (
      arith,
      ap (λ l. length l) (All-head (IsAsWanted wanted) wave waves ordered),
      all_kept wanted waves (All-tail (IsAsWanted wanted) wave waves ordered),
    )

-- different numbers up to one are no more than that

without_none : (v : ℕ) (xs : List ℕ) → among xs v ≡ false → length xs ≤ length (without_unit v xs)
without_none v [] none = omega arith
without_none v (x ∷ xs) none =
    let parts = or_parts (x == v) (among xs v) none in
    let others = without_none v xs parts.1 in
    rw parts.0 (omega arith)

without_one : (v : ℕ) (xs : List ℕ) → has_repeat xs ≡ false → length xs ≤ length (without_unit v xs) + 1
without_one v [] once = omega arith
without_one v (x ∷ xs) once =
    let parts = or_parts (among xs x) (has_repeat xs) once in
    elim (cases_Bool (x == v)) [
      | inl same ↦
          let none : among xs v ≡ false = rw (← eqb-true x v same) parts.0 in
          let others = without_none v xs none in
          rw same (omega arith)
      | inr other ↦ let others = without_one v xs parts.1 in rw other (omega arith)
    ]

few_numbers : (n : ℕ) (xs : List ℕ) → has_repeat xs ≡ false
    → ((x : ℕ) → among xs x ≡ true → (1 ≤ x) × (x ≤ n)) → length xs ≤ n
few_numbers zero [] once within = omega arith
few_numbers zero (x ∷ xs) once within = let bounds = within x (itself x xs) in absurd (omega arith)
few_numbers (suc n) xs once within =
    let one = without_one (suc n) xs once in
    let rest =
    few_numbers n (without_unit (suc n) xs) (once_kept (λ member. not (member == suc n)) xs once)
    (λ x has. below x (and_parts (among xs x) (not (x == suc n)) (sym (among-without_unit (suc n) xs x) ∙ has))) in
    omega arith
  where
    below : (x : ℕ) → (among xs x ≡ true) × (not (x == suc n) ≡ true) → (1 ≤ x) × (x ≤ n)
    below x (has, other) =
        let bounds = within x has in
        elim (cases_eq x (suc n)) [
          | inl same ↦ absurd (cc (other, ap not (eq-eqb x (suc n) same)))
          | inr apart ↦ (omega arith, omega arith)
        ]

-- ---- the crew

pub text_read : (tree : FaultTree) (cuts : List (List ℕ)) (margin : ℕ) (wanted : List ℕ) (waves : List (List ℕ))
    → IsTree tree → All (HaveNames tree) waves → AreFirstFit cuts margin wanted waves → has_repeat wanted ≡ false
    → All (IsUnitOf tree) wanted → SaysPlanner tree waves
text_read tree cuts margin wanted waves kept names fit once known number = record {
  say = subst (Say (lines_of (waves_text tree waves))) (sym (append-nil (lines_for (planner tree waves))))
      (text_says tree waves names);
  differ = refl;
  few_crews = lit≤ tt;
  few_requests = few;
}
  where
    few_wanted : length wanted ≤ unit_count tree
    few_wanted = few_numbers (unit_count tree) wanted once (all_among (IsUnitOf tree) wanted known)

    few : request_count (planner tree waves ∷ []) ≤ MOST_REQUESTS
    few =
        omega (
          arith,
          length-asked tree waves,
          all_kept wanted waves fit.ordered,
          each_kept waves wanted fit.once,
          few_wanted,
          kept.few_units,
        )
