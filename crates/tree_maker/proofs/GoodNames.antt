-- The made deck's names can be written, and each of its statements too.
use Rattle.std.proofs.Common.{◌≡◌, ℕ, zero, suc, ◌+◌, ◌*◌, ◌%◌, ◌^◌, ◌<◌, ◌≤◌, Bool, true, not, List, [], ◌∷◌, ◌++◌}
use Rattle.std.proofs.Common.{length, map, refl, sym, ap, ◌∙◌, arith, lit≤, lit<, inl, inr}
use Rattle.std.specs.Prelude.{◌&&◌, All, codes, decimal, nat_le, slice_index_or}
use Rattle.std.specs.List.{list_all, range_with_len}
use Rattle.std.proofs.lemmas.Bool.{and_parts, cases_lt, le-leb}
use Rattle.std.proofs.{lemmas.Fmt.decimal_by_steps, lemmas.Fmt.length-decimal-le, lemmas.List.length-append}
use Rattle.std.proofs.{lemmas.List.Folds.list_all-append}
use Rattle.std.proofs.lemmas.List.Elements.{All-append, All-cons, All-nil}
use Rattle.fault_words.specs.Name.{is_bare_byte, is_name, is_name_byte}
use Rattle.fault_words.specs.{declared.kind.GateKind.GateKind, declared.kind.GateKind.TheVariants.And}
use Rattle.galileo_tree.specs.ReadTree.{HasShortNumbers}
use Rattle.crew_script.specs.{Words.is_blank, Deck.is_feed}
use Rattle.deck_reading.specs.Written.{Bare, Top, IsGood, WrittenStatement, is_good_definition, is_good_name}
use Rattle.tree_maker.specs.Names.{top_name, gate_name, trigger_name, unit_name, units_in}
use Rattle.tree_maker.specs.MadeDeck.{fdep_gate, unit_line}
use Rattle.tree_maker.specs.MadeDeck as made
use Rattle.tree_maker.proofs.{FineGates.seven_kinds, Ranges.All-flat_range, Ranges.All-range}
use Rattle.tree_maker.proofs.Statements.{fdep_lines, group_line, group_lines, lines, lines_behind, top_line}
use Rattle.tree_maker.proofs.Statements.{trigger_lines, unit_lines}

-- ---- digits

-- the bytes of the ten digits
abbrev pub ten_digits : List ℕ
ten_digits = map (λ k. 48 + k) (range_with_len 0 10)

all_at : (test : ℕ → Bool) (s n i : ℕ) → list_all test (map (λ k. 48 + k) (range_with_len s n)) ≡ true → s ≤ i
    → i < s + n → test (48 + i) ≡ true
all_at test s zero i passes low high = absurd (omega arith)
all_at test s (suc n) i passes low high =
    let (here, later) = and_parts (test (48 + s))
    (list_all test (map (λ k. 48 + k) (range_with_len (s + 1) n))) passes in
    elim (cases_lt s i) [
      | inl above ↦ all_at test (s + 1) n i later (omega arith) (omega arith)
      | inr under ↦
          let same : s ≡ i = omega arith in
          ap (λ k. test (48 + k)) (sym same) ∙ here
    ]

-- the digits of a number pass a test that the ten digits pass
pub digits-pass : (test : ℕ → Bool) → list_all test ten_digits ≡ true → (n : ℕ) → n < 2 ^ 64
    → list_all test (decimal n) ≡ true
digits-pass test passes n small =
    decimal_by_steps (λ m ds. list_all test ds ≡ true)
    (λ m few. ap (λ b. b && true) (all_at test 0 10 m passes (omega arith) (omega arith)))
    (λ m ds many before.
    let digit : m % 10 < 10 = omega arith in
    list_all-append test ds ((48 + m % 10) ∷ [])
    ∙ ap (λ b. b && (test (48 + m % 10) && true)) before
    ∙ ap (λ b. b && true) (all_at test 0 10 (m % 10) passes (omega arith) (omega arith)))
    n small

abbrev pub is_solid : ℕ → Bool
is_solid byte = not (is_blank byte)

abbrev pub is_inside : ℕ → Bool
is_inside byte = not (is_feed byte)

-- what stands behind the first letter of a name
pub record IsRest (rest : List ℕ) : Type 0 where
  pub bare : list_all is_bare_byte rest ≡ true
  pub named : list_all is_name_byte rest ≡ true
  pub solid : list_all is_solid rest ≡ true
  pub inside : list_all is_inside rest ≡ true
  pub short : length rest ≤ 20

solid_digits : list_all is_solid ten_digits ≡ true
unfolding is_blank
solid_digits = refl

pub digits_are : (n : ℕ) → n < 1000 → IsRest (decimal n)
digits_are n few =
    let small : n < 2 ^ 64 = omega arith in
    let long : length (decimal n) ≤ 3 = length-decimal-le 3 n (lit< tt) few small in
    record {
      bare = digits-pass is_bare_byte refl n small;
      named = digits-pass is_name_byte refl n small;
      solid = digits-pass is_solid solid_digits n small;
      inside = digits-pass is_inside refl n small;
      short = omega arith;
    }

both : (test : ℕ → Bool) (xs ys : List ℕ) → list_all test xs ≡ true → list_all test ys ≡ true
    → list_all test (xs ++ ys) ≡ true
both test xs ys one two = list_all-append test xs ys ∙ ap (λ b. b && list_all test ys) one ∙ two

-- the same with a letter of a unit behind it
pub with_letter : (n letter : ℕ) → n < 1000 → is_bare_byte letter ≡ true → is_name_byte letter ≡ true
    → is_solid letter ≡ true → is_inside letter ≡ true → IsRest (decimal n ++ letter ∷ [])
with_letter n letter few bare named solid inside =
    let digits = digits_are n few in
    let small : n < 2 ^ 64 = omega arith in
    let long : length (decimal n) ≤ 3 = length-decimal-le 3 n (lit< tt) few small in
    record {
      bare = both is_bare_byte (decimal n) (letter ∷ []) digits.bare (ap (λ b. b && true) bare);
      named = both is_name_byte (decimal n) (letter ∷ []) digits.named (ap (λ b. b && true) named);
      solid = both is_solid (decimal n) (letter ∷ []) digits.solid (ap (λ b. b && true) solid);
      inside = both is_inside (decimal n) (letter ∷ []) digits.inside (ap (λ b. b && true) inside);
      short = omega (arith, length-append (decimal n) (letter ∷ []), long);
    }

solid_a : is_solid 97 ≡ true
unfolding is_blank
solid_a = refl

solid_b : is_solid 98 ≡ true
unfolding is_blank
solid_b = refl

solid_c : is_solid 99 ≡ true
unfolding is_blank
solid_c = refl

pub rest_a : (n : ℕ) → n < 1000 → IsRest (decimal n ++ codes "a")
rest_a n few = with_letter n 97 few refl refl solid_a refl

pub rest_b : (n : ℕ) → n < 1000 → IsRest (decimal n ++ codes "b")
rest_b n few = with_letter n 98 few refl refl solid_b refl

pub rest_c : (n : ℕ) → n < 1000 → IsRest (decimal n ++ codes "c")
rest_c n few = with_letter n 99 few refl refl solid_c refl

-- ---- names

pub is_name-made : (first : ℕ) {rest : List ℕ} → is_name_byte first ≡ true → IsRest rest → is_name (first ∷ rest) ≡ true
is_name-made first {rest} begins good =
    let some : nat_le 1 (suc (length rest)) ≡ true = le-leb 1 (suc (length rest)) (omega arith) in
    let few : nat_le (suc (length rest)) 255 ≡ true = le-leb (suc (length rest)) 255 (omega (arith, good.short)) in
    let named : list_all is_name_byte rest ≡ true = good.named in
    ap (λ b. (b && nat_le (suc (length rest)) 255) && (is_name_byte first && list_all is_name_byte rest)) some
    ∙ ap (λ b. b && (is_name_byte first && list_all is_name_byte rest)) few
    ∙ ap (λ b. b && list_all is_name_byte rest) begins
    ∙ named

pub good_gate : {rest : List ℕ} → IsRest rest → is_good_definition (Bare (103 ∷ rest)) ≡ true
good_gate {rest} good = ap (λ b. b && list_all is_bare_byte rest && true) (is_name-made 103 refl good)
    ∙ ap (λ b. b && true) good.bare

pub good_fdep : {rest : List ℕ} → IsRest rest → is_good_definition (Bare (102 ∷ rest)) ≡ true
good_fdep {rest} good = ap (λ b. b && list_all is_bare_byte rest && true) (is_name-made 102 refl good)
    ∙ ap (λ b. b && true) good.bare

pub good_unit : {rest : List ℕ} → IsRest rest → is_good_definition (Bare (117 ∷ rest)) ≡ true
good_unit {rest} good = ap (λ b. b && list_all is_bare_byte rest && true) (is_name-made 117 refl good)
    ∙ ap (λ b. b && true) good.bare

pub good_trigger : {rest : List ℕ} → IsRest rest → is_good_definition (Bare (120 ∷ rest)) ≡ true
good_trigger {rest} good = ap (λ b. b && list_all is_bare_byte rest && true) (is_name-made 120 refl good)
    ∙ ap (λ b. b && true) good.bare

named_gate : {rest : List ℕ} → IsRest rest → is_good_name (Bare (103 ∷ rest)) ≡ true
named_gate {rest} good = ap (λ b. b && list_all is_bare_byte rest) (is_name-made 103 refl good) ∙ good.bare

pub named_unit : {rest : List ℕ} → IsRest rest → is_good_name (Bare (117 ∷ rest)) ≡ true
named_unit {rest} good = ap (λ b. b && list_all is_bare_byte rest) (is_name-made 117 refl good) ∙ good.bare

named_trigger : {rest : List ℕ} → IsRest rest → is_good_name (Bare (120 ∷ rest)) ≡ true
named_trigger {rest} good = ap (λ b. b && list_all is_bare_byte rest) (is_name-made 120 refl good) ∙ good.bare

-- ---- statements

module _ (count fdeps : ℕ) (place : ℕ → ℕ) (few : count ≤ 200) (fits : (q : ℕ) → q < fdeps → 5 * q < count) where
  abbrev kind_here : ℕ → GateKind
  kind_here group = slice_index_or made.kinds (place group) And

  top_inputs_good : (s n : ℕ) → s + n ≤ 200
      → list_all is_good_name (map (λ group. Bare (gate_name group)) (range_with_len s n)) ≡ true
  top_inputs_good s zero within = refl
  top_inputs_good s (suc n) within =
      ap (λ b. b && list_all is_good_name (map (λ group. Bare (gate_name group)) (range_with_len (s + 1) n)))
      (named_gate (digits_are s (omega arith)))
      ∙ top_inputs_good (s + 1) n (omega arith)

  short_numbers : (i : ℕ) → HasShortNumbers (slice_index_or made.kinds i And)
  short_numbers i = seven_kinds HasShortNumbers tt tt (lit≤ tt, lit≤ tt) tt tt tt tt i

  three_good : (group : ℕ) → group < 200 → list_all is_good_name (map Bare (units_in group)) ≡ true
  three_good group within =
      ap (λ b. b && (is_good_name
      (Bare (unit_name group (codes "b"))) && (is_good_name (Bare (unit_name group (codes "c"))) && true)))
      (named_unit (rest_a group (omega arith)))
      ∙ ap (λ b. b && (is_good_name (Bare (unit_name group (codes "c"))) && true))
      (named_unit (rest_b group (omega arith)))
      ∙ ap (λ b. b && true) (named_unit (rest_c group (omega arith)))

  fdep_good : (q : ℕ) → q < fdeps → IsGood (fdep_gate q)
  fdep_good q within =
      let group : 5 * q < count = fits q within in
      let digit : q % 10 < 10 = omega arith in (
        good_fdep (digits_are (5 * q) (omega arith)),
        tt,
        ap (λ b. b && (is_good_name (Bare (unit_name (5 * q) (codes "b"))) && true))
            (named_trigger (digits_are (q % 10) (omega arith)))
            ∙ ap (λ b. b && true) (named_unit (rest_b (5 * q) (omega arith))),
      )

  units_good : (group : ℕ) → group < 200 → All IsGood (map unit_line (units_in group))
  units_good group within =
      let a : WrittenStatement = unit_line (unit_name group (codes "a")) in
      let b : WrittenStatement = unit_line (unit_name group (codes "b")) in
      let c : WrittenStatement = unit_line (unit_name group (codes "c")) in
      All-cons IsGood a (b ∷ c ∷ []) (good_unit (rest_a group (omega arith)), refl)
      (All-cons IsGood b (c ∷ []) (good_unit (rest_b group (omega arith)), refl)
      (All-cons IsGood c [] (good_unit (rest_c group (omega arith)), refl) (All-nil IsGood)))

  -- each statement can be written
  pub all_good : All IsGood (lines count fdeps kind_here)
  all_good =
      let groups_here : List WrittenStatement = group_lines count fdeps kind_here in
      let fdeps_here : List WrittenStatement = fdep_lines count fdeps kind_here in
      let units_here : List WrittenStatement = unit_lines count fdeps kind_here in
      let triggers_here : List WrittenStatement = trigger_lines count fdeps kind_here in
      All-cons IsGood (Top (Bare top_name)) (top_line count fdeps kind_here ∷ lines_behind count fdeps kind_here) refl
      (All-cons IsGood (top_line count fdeps kind_here) (lines_behind count fdeps kind_here)
      (refl, tt, top_inputs_good 0 count (omega arith))
      (All-append IsGood groups_here (fdeps_here ++ (units_here ++ triggers_here))
      (All-range IsGood (group_line count fdeps kind_here) 0 count
      (λ group low high. (
        good_gate (digits_are group (omega arith)),
        short_numbers (place group),
        three_good group (omega arith),
      )))
      (All-append IsGood fdeps_here (units_here ++ triggers_here)
      (All-range IsGood fdep_gate 0 fdeps (λ q low high. fdep_good q (omega arith)))
      (All-append IsGood units_here triggers_here
      (All-flat_range IsGood (λ group. map unit_line (units_in group)) 0 count
      (λ group low high. units_good group (omega arith)))
      (All-range IsGood (λ trigger. unit_line (trigger_name trigger)) 0 10
      (λ trigger low high. (good_trigger (digits_are trigger (omega arith)), refl)))))))
