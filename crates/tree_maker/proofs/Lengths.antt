-- A made deck is no longer than an input may be.
use Rattle.std.proofs.Common.{◌≡◌, ℕ, zero, suc, ◌+◌, ◌*◌, ◌%◌, ◌<◌, ◌≤◌, List, [], ◌∷◌, ◌++◌, length, map, sym}
use Rattle.std.proofs.Common.{subst, arith, lit≤, lit<, refl}
use Rattle.std.specs.Prelude.{All, codes, decimal, slice_index_or}
use Rattle.std.specs.List.{flat_map, range_with_len}
use Rattle.std.proofs.{lemmas.Fmt.length-decimal-le, lemmas.List.length-append}
use Rattle.std.proofs.{lemmas.List.FromFn.length-map-range_with_len}
use Rattle.std.proofs.lemmas.List.Elements.{All-append, All-cons, All-head, All-nil, All-tail}
use Rattle.fault_words.specs.declared.kind.GateKind.TheVariants.{And}
use Rattle.edge_io.specs.declared.reading.TheConstants.{INPUT_LIMIT}
use Rattle.deck_reading.specs.Written.{Bare, Top, WrittenStatement, input_text, statement_text, written}
use Rattle.text_pieces.specs.GateWords.{gate_word}
use Rattle.tree_maker.specs.Names.{gate_name, top_name, trigger_name, unit_name, units_in}
use Rattle.tree_maker.specs.MadeDeck.{crew_lines, fdep_count, fdep_gate, group_count, group_gate, groups, kind_in}
use Rattle.tree_maker.specs.MadeDeck.{kinds}
use Rattle.tree_maker.specs.MadeDeck.{made_deck, made_statements, return_count, return_line, take_line, top_gate}
use Rattle.tree_maker.specs.MadeDeck.{triggers, unit_line}
use Rattle.tree_maker.proofs.{FineGates.seven_kinds, Ranges.All-flat_range, Ranges.All-range, Texts.two_of_three}

-- ---- texts that are joined

both_short : (xs ys : List ℕ) (a b : ℕ) → length xs ≤ a → length ys ≤ b → length (xs ++ ys) ≤ a + b
both_short xs ys a b one two = omega (arith, length-append xs ys, one, two)

-- of a number below a thousand
digits_short : (n : ℕ) → n < 1000 → length (decimal n) ≤ 3
digits_short n few = length-decimal-le 3 n (lit< tt) few (omega arith)

unit_short : (group letter : ℕ) → group < 1000 → length (unit_name group (letter ∷ [])) ≤ 5
unit_short group letter few =
    let number = both_short (decimal group) (letter ∷ []) 3 1 (digits_short group few) (lit≤ tt) in
    both_short (codes "u") (decimal group ++ letter ∷ []) 1 4 (lit≤ tt) number

gate_short : (group : ℕ) → group < 1000 → length (gate_name group) ≤ 4
gate_short group few = both_short (codes "g") (decimal group) 1 3 (lit≤ tt) (digits_short group few)

-- ---- statements

abbrev IsShort : WrittenStatement → Type 0
IsShort statement = length (statement_text statement) ≤ 2000

joined_short : (statements : List WrittenStatement) → All IsShort statements
    → length (written statements) ≤ 2000 * length statements
joined_short [] all = omega arith
joined_short (statement ∷ others) all =
    let first : length (statement_text statement) ≤ 2000 = All-head IsShort statement others all in
    let rest = joined_short others (All-tail IsShort statement others all) in
    omega (arith, length-append (statement_text statement) (written others), first, rest)

inputs_short : (s n : ℕ) → s + n ≤ 200
    → length (flat_map input_text (map (λ group. Bare (gate_name group)) (range_with_len s n))) ≤ 5 * n
inputs_short s zero within = omega arith
inputs_short s (suc n) within =
    let rest = inputs_short (s + 1) n (omega arith) in
    let name = gate_short s (omega arith) in
    let first : length (input_text (Bare (gate_name s))) ≤ 5 =
    both_short (codes " ") (gate_name s) 1 4 (lit≤ tt) name in
    omega (
      arith,
      length-append (input_text (Bare (gate_name s)))
          (flat_map input_text (map (λ group. Bare (gate_name group)) (range_with_len (s + 1) n))),
      first,
      rest,
    )

-- the inputs of a gate and the end of its line
end_short : (inputs : List ℕ) (most : ℕ) → length inputs ≤ most → length (inputs ++ codes ";\n") ≤ most + 2
end_short inputs most few = both_short inputs (codes ";\n") most 2 few (lit≤ tt)

gate_line_short : (name word inputs : List ℕ) → length name ≤ 5 → length word ≤ 4 → length inputs ≤ 1000
    → length (name ++ (codes " " ++ (word ++ (inputs ++ codes ";\n")))) ≤ 2000
gate_line_short name word inputs few short some =
    let end = end_short inputs 1000 some in
    let behind = both_short word (inputs ++ codes ";\n") 4 1002 short end in
    let blank = both_short (codes " ") (word ++ (inputs ++ codes ";\n")) 1 1006 (lit≤ tt) behind in
    omega (arith, length-append name (codes " " ++ (word ++ (inputs ++ codes ";\n"))), few, blank)

input_short : (name : List ℕ) → length name ≤ 5 → length (input_text (Bare name)) ≤ 6
input_short name few = both_short (codes " ") name 1 5 (lit≤ tt) few

two_inputs_short : (one two : List ℕ) → length one ≤ 5 → length two ≤ 5
    → length (flat_map input_text (Bare one ∷ Bare two ∷ [])) ≤ 1000
two_inputs_short one two few few' =
    let last = both_short (input_text (Bare two)) [] 6 0 (input_short two few') (lit≤ tt) in
    let all = both_short (input_text (Bare one)) (input_text (Bare two) ++ []) 6 6 (input_short one few) last in
    omega (arith, all)

three_inputs_short : (one two three : List ℕ) → length one ≤ 5 → length two ≤ 5 → length three ≤ 5
    → length (flat_map input_text (Bare one ∷ Bare two ∷ Bare three ∷ [])) ≤ 1000
three_inputs_short one two three few few' few'' =
    let last = both_short (input_text (Bare three)) [] 6 0 (input_short three few'') (lit≤ tt) in
    let more = both_short (input_text (Bare two)) (input_text (Bare three) ++ []) 6 6 (input_short two few') last in
    let all =
    both_short (input_text (Bare one)) (input_text (Bare two) ++ (input_text (Bare three) ++ [])) 6 12
    (input_short one few) more in
    omega (arith, all)

unit_line_short : (name : List ℕ) → length name ≤ 5 → IsShort (unit_line name)
unit_line_short name few =
    let all = both_short name (codes ";\n") 5 2 few (lit≤ tt) in
    omega (arith, all)

module _ (number : ℕ) where
  few_groups : group_count number ≤ 200
  few_groups = omega arith

  few_fdeps : fdep_count number ≤ 40
  few_fdeps = let few = few_groups in omega arith

  word_short : (place : ℕ) → length (gate_word (slice_index_or kinds place And)) ≤ 4
  word_short place =
      seven_kinds (λ kind. length (gate_word kind) ≤ 4) (lit≤ tt) (lit≤ tt)
      (subst (λ word. length word ≤ 4) (sym two_of_three) (lit≤ tt)) (lit≤ tt) (lit≤ tt) (lit≤ tt) (lit≤ tt) place

  group_short : (group : ℕ) → group < 1000 → IsShort (group_gate number group)
  group_short group few =
      let name = gate_short group few in
      gate_line_short (gate_name group) (gate_word (kind_in number group))
      (flat_map input_text (map Bare (units_in group)))
      (omega (arith, name)) (word_short ((group + number) % 7))
      (three_inputs_short (unit_name group (codes "a")) (unit_name group (codes "b")) (unit_name group (codes "c"))
      (unit_short group 97 few) (unit_short group 98 few) (unit_short group 99 few))

  fdep_short : (q : ℕ) → q < 100 → IsShort (fdep_gate q)
  fdep_short q few =
      let name = both_short (codes "f") (decimal (5 * q)) 1 3 (lit≤ tt) (digits_short (5 * q) (omega arith)) in
      let trigger =
      both_short (codes "x") (decimal (q % 10)) 1 3 (lit≤ tt) (digits_short (q % 10) (omega arith)) in
      gate_line_short (codes "f" ++ decimal (5 * q)) (codes "fdep")
      (flat_map input_text (Bare (trigger_name (q % 10)) ∷ Bare (unit_name (5 * q) (codes "b")) ∷ []))
      (omega (arith, name)) (lit≤ tt)
      (two_inputs_short (trigger_name (q % 10)) (unit_name (5 * q) (codes "b")) (omega (arith, trigger))
      (unit_short (5 * q) 98 (omega arith)))

  units_short : (group : ℕ) → group < 1000 → All IsShort (map unit_line (units_in group))
  units_short group few =
      let a : WrittenStatement = unit_line (unit_name group (codes "a")) in
      let b : WrittenStatement = unit_line (unit_name group (codes "b")) in
      let c : WrittenStatement = unit_line (unit_name group (codes "c")) in
      All-cons IsShort a (b ∷ c ∷ []) (unit_line_short (unit_name group (codes "a")) (unit_short group 97 few))
      (All-cons IsShort b (c ∷ []) (unit_line_short (unit_name group (codes "b")) (unit_short group 98 few))
      (All-cons IsShort c [] (unit_line_short (unit_name group (codes "c")) (unit_short group 99 few))
      (All-nil IsShort)))

  trigger_short : (trigger : ℕ) → trigger < 10 → IsShort (unit_line (trigger_name trigger))
  trigger_short trigger few =
      let name =
      both_short (codes "x") (decimal trigger) 1 3 (lit≤ tt) (digits_short trigger (omega arith)) in
      unit_line_short (trigger_name trigger) (omega (arith, name))

  top_short : IsShort (top_gate number)
  top_short =
      let few = few_groups in
      let inputs = inputs_short 0 (group_count number) (omega arith) in
      gate_line_short top_name (codes "or")
      (flat_map input_text (map (λ group. Bare (gate_name group)) (groups number)))
      (lit≤ tt) (lit≤ tt) (omega (arith, inputs, few))

  -- the parts of the tree
  abbrev group_gates : List WrittenStatement
  group_gates = map (group_gate number) (groups number)

  abbrev fdep_gates : List WrittenStatement
  fdep_gates = map fdep_gate (range_with_len 0 (fdep_count number))

  abbrev unit_lines : List WrittenStatement
  unit_lines = flat_map (λ group. map unit_line (units_in group)) (groups number)

  abbrev trigger_lines : List WrittenStatement
  trigger_lines = map (λ trigger. unit_line (trigger_name trigger)) triggers

  all_short : All IsShort (made_statements number)
  all_short =
      let few = few_groups in
      let few' = few_fdeps in
      All-cons IsShort (Top (Bare top_name)) (top_gate number ∷ (group_gates ++ (fdep_gates ++ (unit_lines
      ++ trigger_lines)))) (lit≤ tt)
      (All-cons IsShort (top_gate number) (group_gates ++ (fdep_gates ++ (unit_lines ++ trigger_lines))) top_short
      (All-append IsShort group_gates (fdep_gates ++ (unit_lines ++ trigger_lines))
      (All-range IsShort (group_gate number) 0 (group_count number)
      (λ group low high. group_short group (omega arith)))
      (All-append IsShort fdep_gates (unit_lines ++ trigger_lines)
      (All-range IsShort fdep_gate 0 (fdep_count number) (λ q low high. fdep_short q (omega arith)))
      (All-append IsShort unit_lines trigger_lines
      (All-flat_range IsShort (λ group. map unit_line (units_in group)) 0 (group_count number)
      (λ group low high. units_short group (omega arith)))
      (All-range IsShort (λ trigger. unit_line (trigger_name trigger)) 0 10
      (λ trigger low high. trigger_short trigger (omega arith)))))))

  count_units : (s n : ℕ) → length (flat_map (λ group. map unit_line (units_in group)) (range_with_len s n)) ≡ 3 * n
  count_units s zero = refl
  count_units s (suc n) = let ih = count_units (s + 1) n in omega arith

  few_statements : length (made_statements number) ≤ 852
  few_statements =
      let few = few_groups in
      let few' = few_fdeps in
      omega (
        arith,
        length-append group_gates (fdep_gates ++ (unit_lines ++ trigger_lines)),
        length-append fdep_gates (unit_lines ++ trigger_lines),
        length-append unit_lines trigger_lines,
        length-map-range_with_len (group_gate number) 0 (group_count number),
        length-map-range_with_len fdep_gate 0 (fdep_count number),
        count_units 0 (group_count number),
        length-map-range_with_len (λ trigger. unit_line (trigger_name trigger)) 0 10,
      )

-- ---- the crew part

take_short : (name : List ℕ) → length name ≤ 5 → length (take_line name) ≤ 11
take_short name few =
    both_short (codes "take ") (name ++ codes "\n") 5 6 (lit≤ tt) (both_short name (codes "\n") 5 1 few (lit≤ tt))

takes_short : (s n : ℕ) → s + n ≤ 200
    → length (flat_map (λ group. flat_map take_line (units_in group)) (range_with_len s n)) ≤ 33 * n
takes_short s zero within = omega arith
takes_short s (suc n) within =
    let few : s < 1000 = omega arith in
    let a = take_short (unit_name s (codes "a")) (unit_short s 97 few) in
    let b = take_short (unit_name s (codes "b")) (unit_short s 98 few) in
    let c = take_short (unit_name s (codes "c")) (unit_short s 99 few) in
    let last = both_short (take_line (unit_name s (codes "c"))) [] 11 0 c (lit≤ tt) in
    let two =
    both_short (take_line (unit_name s (codes "b"))) (take_line (unit_name s (codes "c")) ++ []) 11 11 b last in
    let three =
    both_short (take_line (unit_name s (codes "a")))
    (take_line (unit_name s (codes "b")) ++ (take_line (unit_name s (codes "c")) ++ [])) 11 22 a two in
    omega (
      arith,
      length-append (flat_map take_line (units_in s))
          (flat_map (λ group. flat_map take_line (units_in group)) (range_with_len (s + 1) n)),
      three,
      takes_short (s + 1) n (omega arith),
    )

returns_short : (s n : ℕ) → s + n ≤ 100 → length (flat_map return_line (range_with_len s n)) ≤ 13 * n
returns_short s zero within = omega arith
returns_short s (suc n) within =
    let name = unit_short (2 * s) 97 (omega arith) in
    let end = both_short (unit_name (2 * s) (codes "a")) (codes "\n") 5 1 name (lit≤ tt) in
    let line = both_short (codes "return ") (unit_name (2 * s) (codes "a") ++ codes "\n") 7 6 (lit≤ tt) end in
    omega (
      arith,
      length-append (return_line s) (flat_map return_line (range_with_len (s + 1) n)),
      line,
      returns_short (s + 1) n (omega arith),
    )

crew_short : (number : ℕ) → length (crew_lines number) ≤ 8000
crew_short number =
    let few = few_groups number in
    let takes = takes_short 0 (group_count number) (omega arith) in
    let returns = returns_short 0 (return_count number) (omega arith) in
    let lines =
    length-append (flat_map (λ group. flat_map take_line (units_in group)) (groups number))
    (flat_map return_line (range_with_len 0 (return_count number))) in
    let all =
    length-append (codes "crew maker\n") (flat_map (λ group. flat_map take_line (units_in group)) (groups number)
    ++ flat_map return_line (range_with_len 0 (return_count number))) in
    omega (arith, takes, returns, lines, all, few)

-- ---- the deck

within_limit : (size limit : ℕ) → size ≤ 1712007 → 1712007 ≤ limit → size ≤ limit
within_limit size limit few below = omega (arith, few, below)

pub made_short : (number : ℕ) → length (made_deck number) ≤ INPUT_LIMIT
made_short number =
    let tree = joined_short (made_statements number) (all_short number) in
    let count = few_statements number in
    let crew = crew_short number in
    let behind = length-append (codes "@crews\n") (crew_lines number) in
    let all = length-append (written (made_statements number)) (codes "@crews\n" ++ crew_lines number) in
    within_limit (length (made_deck number)) INPUT_LIMIT (omega (arith, tree, count, crew, behind, all)) (lit≤ tt)
