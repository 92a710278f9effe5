-- What the statements of the made deck define and use, part by part.
use Rattle.std.proofs.Common.{◌≡◌, ℕ, zero, suc, ◌+◌, ◌*◌, ◌%◌, List, [], ◌∷◌, ◌++◌, map, refl, sym, ap, ◌∙◌}
use Rattle.std.specs.{Prelude.codes, List.flat_map, List.range_with_len}
use Rattle.std.proofs.lemmas.List.{append-nil, map-append, map-id}
use Rattle.deck_reading.specs.Unplaced.{named}
use Rattle.std.proofs.{lemmas.List.Concat.flat_map-append, lemmas.Simd.map-map}
use Rattle.fault_words.specs.declared.kind.GateKind.{GateKind}
use Rattle.fault_words.specs.declared.kind.GateKind.TheVariants.{Or, Fdep}
use Rattle.galileo_tree.specs.{declared.raw.Placed.Placed, declared.raw.RawBasic.RawBasic, declared.raw.RawGate.RawGate}
use Rattle.galileo_tree.specs.{declared.raw.Statement.Statement}
use Rattle.tree_check.specs.Said.{basics, basic_in, definition_in, definitions, gate_in, gates, names, top_in}
use Rattle.tree_check.specs.Said.{tops}
use Rattle.tree_check.specs.Said.{uses, uses_in}
use Rattle.deck_reading.specs.Written.{WrittenStatement, Bare, Top, Gate}
use Rattle.deck_reading.specs.Unplaced.{nowhere, said}
use Rattle.tree_maker.specs.Names.{top_name, gate_name, fdep_name, trigger_name, unit_name, units_in}
use Rattle.tree_maker.specs.MadeDeck.{fdep_gate, unit_line}

-- a name at no place
abbrev pub placed : List ℕ → Placed
placed name = record { name = name; place = nowhere }

abbrev pub raw_gate : List ℕ → GateKind → List (List ℕ) → RawGate
raw_gate name kind inputs = record { name = placed name; word = nowhere; kind = kind; inputs = map placed inputs }

abbrev pub raw_basic : List ℕ → RawBasic
raw_basic name = record { name = placed name; attributes = [] }

-- what a list of written statements says, of each statement some things
module _ {X : Type 0} (of : Statement → List X) where
  abbrev pub parts : List WrittenStatement → List X
  parts statements = flat_map of (map said statements)

  pub parts-append : (xs ys : List WrittenStatement) → parts (xs ++ ys) ≡ parts xs ++ parts ys
  parts-append xs ys = ap (flat_map of) (map-append said xs ys) ∙ flat_map-append of (map said xs) (map said ys)

  pub parts-none : (f : ℕ → WrittenStatement) (s n : ℕ) → ((i : ℕ) → of (said (f i)) ≡ [])
      → parts (map f (range_with_len s n)) ≡ []
  parts-none f s zero none = refl
  parts-none f s (suc n) none =
      ap (λ l. l ++ parts (map f (range_with_len (s + 1) n))) (none s) ∙ parts-none f (s + 1) n none

  pub parts-one : (f : ℕ → WrittenStatement) (h : ℕ → X) (s n : ℕ) → ((i : ℕ) → of (said (f i)) ≡ h i ∷ [])
      → parts (map f (range_with_len s n)) ≡ map h (range_with_len s n)
  parts-one f h s zero one = refl
  parts-one f h s (suc n) one =
      ap (λ l. l ++ parts (map f (range_with_len (s + 1) n))) (one s) ∙ ap (λ l. h s ∷ l) (parts-one f h (s + 1) n one)

  pub parts-more : (f : ℕ → WrittenStatement) (h : ℕ → List X) (s n : ℕ) → ((i : ℕ) → of (said (f i)) ≡ h i)
      → parts (map f (range_with_len s n)) ≡ flat_map h (range_with_len s n)
  parts-more f h s zero more = refl
  parts-more f h s (suc n) more =
      ap (λ l. l ++ parts (map f (range_with_len (s + 1) n))) (more s)
      ∙ ap (λ l. h s ++ l) (parts-more f h (s + 1) n more)

  pub units-none : (s n : ℕ) → ((name : List ℕ) → of (said (unit_line name)) ≡ [])
      → parts (flat_map (λ group. map unit_line (units_in group)) (range_with_len s n)) ≡ []
  units-none s zero none = refl
  units-none s (suc n) none =
      ap (λ l. l ++ (of (said (unit_line (unit_name s (codes "b"))))
      ++ (of (said (unit_line (unit_name s (codes "c")))) ++ parts
      (flat_map (λ group. map unit_line (units_in group)) (range_with_len (s + 1) n)))))
      (none (unit_name s (codes "a")))
      ∙ ap (λ l. l ++ (of (said (unit_line (unit_name s (codes "c")))) ++ parts
      (flat_map (λ group. map unit_line (units_in group)) (range_with_len (s + 1) n)))) (none (unit_name s (codes "b")))
      ∙ ap (λ l. l ++ parts (flat_map (λ group. map unit_line (units_in group)) (range_with_len (s + 1) n)))
      (none (unit_name s (codes "c")))
      ∙ units-none (s + 1) n none

  pub units-one : (h : List ℕ → X) (s n : ℕ) → ((name : List ℕ) → of (said (unit_line name)) ≡ h name ∷ [])
      → parts (flat_map (λ group. map unit_line (units_in group)) (range_with_len s n))
      ≡ map h (flat_map units_in (range_with_len s n))
  units-one h s zero one = refl
  units-one h s (suc n) one =
      ap (λ l. l ++ (of (said (unit_line (unit_name s (codes "b"))))
      ++ (of (said (unit_line (unit_name s (codes "c")))) ++ parts
      (flat_map (λ group. map unit_line (units_in group)) (range_with_len (s + 1) n))))) (one (unit_name s (codes "a")))
      ∙ ap (λ l. h (unit_name s (codes "a"))
      ∷ (l ++ (of (said (unit_line (unit_name s (codes "c")))) ++ parts
      (flat_map (λ group. map unit_line (units_in group)) (range_with_len (s + 1) n))))) (one (unit_name s (codes "b")))
      ∙ ap (λ l. h (unit_name s (codes "a")) ∷ h (unit_name s (codes "b"))
      ∷ (l ++ parts (flat_map (λ group. map unit_line (units_in group)) (range_with_len (s + 1) n))))
      (one (unit_name s (codes "c")))
      ∙ ap (λ l. h (unit_name s (codes "a")) ∷ h (unit_name s (codes "b")) ∷ h (unit_name s (codes "c")) ∷ l)
      (units-one h (s + 1) n one)

-- the statements of a deck of so many groups, so many of their triggers' gates, and these kinds
module _ (count fdeps : ℕ) (kind : ℕ → GateKind) where
  abbrev pub group_line : ℕ → WrittenStatement
  group_line group = Gate (Bare (gate_name group)) (kind group) (map Bare (units_in group))

  abbrev pub top_line : WrittenStatement
  top_line = Gate (Bare top_name) Or (map (λ group. Bare (gate_name group)) (range_with_len 0 count))

  abbrev pub group_lines : List WrittenStatement
  group_lines = map group_line (range_with_len 0 count)

  abbrev pub fdep_lines : List WrittenStatement
  fdep_lines = map fdep_gate (range_with_len 0 fdeps)

  abbrev pub unit_lines : List WrittenStatement
  unit_lines = flat_map (λ group. map unit_line (units_in group)) (range_with_len 0 count)

  abbrev pub trigger_lines : List WrittenStatement
  trigger_lines = map (λ trigger. unit_line (trigger_name trigger)) (range_with_len 0 10)

  abbrev pub lines_behind : List WrittenStatement
  lines_behind = group_lines ++ (fdep_lines ++ (unit_lines ++ trigger_lines))

  abbrev pub lines : List WrittenStatement
  lines = Top (Bare top_name) ∷ top_line ∷ lines_behind

  abbrev pub statements : List Statement
  statements = map said lines

  -- the names of the gates but the top event, and of the units
  abbrev pub gate_names_made : List (List ℕ)
  gate_names_made = map gate_name (range_with_len 0 count) ++ map (λ q. fdep_name (5 * q)) (range_with_len 0 fdeps)

  abbrev pub unit_names : List (List ℕ)
  unit_names = flat_map units_in (range_with_len 0 count) ++ map trigger_name (range_with_len 0 10)

  four : {X : Type 0} (of : Statement → List X) {a b c d : List X} → parts of group_lines ≡ a → parts of fdep_lines ≡ b
      → parts of unit_lines ≡ c → parts of trigger_lines ≡ d
      → parts of lines_behind ≡ a ++ (b ++ (c ++ d))
  four of {a} {b} {c} one two three fourth =
      parts-append of group_lines (fdep_lines ++ (unit_lines ++ trigger_lines))
      ∙ ap (λ l. parts of group_lines ++ l) (parts-append of fdep_lines (unit_lines ++ trigger_lines)
      ∙ ap (λ l. parts of fdep_lines ++ l) (parts-append of unit_lines trigger_lines))
      ∙ ap (λ l. l ++ (parts of fdep_lines ++ (parts of unit_lines ++ parts of trigger_lines))) one
      ∙ ap (λ l. a ++ (l ++ (parts of unit_lines ++ parts of trigger_lines))) two
      ∙ ap (λ l. a ++ (b ++ (l ++ parts of trigger_lines))) three
      ∙ ap (λ l. a ++ (b ++ (c ++ l))) fourth

  mapped-triggers : {X : Type 0} (h : List ℕ → X) → map (λ trigger. h (trigger_name trigger)) (range_with_len 0 10)
      ≡ map h (map trigger_name (range_with_len 0 10))
  mapped-triggers h = sym (map-map h trigger_name (range_with_len 0 10))

  -- the units
  pub basics_are : basics statements ≡ map raw_basic unit_names
  basics_are =
      four basic_in (parts-none basic_in group_line 0 count (λ i. refl))
      (parts-none basic_in fdep_gate 0 fdeps (λ i. refl))
      (units-one basic_in raw_basic 0 count (λ name. refl))
      (parts-one basic_in (λ trigger. unit_line (trigger_name trigger))
      (λ trigger. raw_basic (trigger_name trigger)) 0 10 (λ i. refl) ∙ mapped-triggers raw_basic)
      ∙ sym (map-append raw_basic (flat_map units_in (range_with_len 0 count)) (map trigger_name (range_with_len 0 10)))

  abbrev pub top_raw : RawGate
  top_raw = raw_gate top_name Or (map gate_name (range_with_len 0 count))

  abbrev pub group_raw : ℕ → RawGate
  group_raw group = raw_gate (gate_name group) (kind group) (units_in group)

  abbrev pub fdep_raw : ℕ → RawGate
  fdep_raw q = raw_gate (fdep_name (5 * q)) Fdep (trigger_name (q % 10) ∷ unit_name (5 * q) (codes "b") ∷ [])

  abbrev pub gates_made : List RawGate
  gates_made = top_raw ∷ (map group_raw (range_with_len 0 count) ++ map fdep_raw (range_with_len 0 fdeps))

  top_inputs : map named (map (λ group. Bare (gate_name group)) (range_with_len 0 count))
      ≡ map placed (map gate_name (range_with_len 0 count))
  top_inputs =
      map-map named (λ group. Bare (gate_name group)) (range_with_len 0 count)
      ∙ sym (map-map placed gate_name (range_with_len 0 count))

  -- the gates
  pub gates_are : gates statements ≡ gates_made
  gates_are =
      ap (λ l. (record { name = placed top_name; word = nowhere; kind = Or; inputs = l }) ∷ parts gate_in lines_behind)
      top_inputs
      ∙ ap (λ l. top_raw ∷ l) (four gate_in (parts-one gate_in group_line group_raw 0 count (λ i. refl))
      (parts-one gate_in fdep_gate fdep_raw 0 fdeps (λ i. refl))
      (units-none gate_in 0 count (λ name. refl))
      (parts-none gate_in (λ trigger. unit_line (trigger_name trigger)) 0 10 (λ i. refl))
      ∙ ap (λ l. map group_raw (range_with_len 0 count) ++ l) (append-nil (map fdep_raw (range_with_len 0 fdeps))))

  abbrev basic_name : RawBasic → List ℕ
  basic_name basic = basic.name.name

  abbrev name_of_gate : RawGate → List ℕ
  name_of_gate gate = gate.name.name

  -- the names of the tree: those of the units, and then those of the gates
  pub names_are : names statements ≡ unit_names ++ (top_name ∷ gate_names_made)
  names_are =
      ap (λ l. map basic_name l ++ map name_of_gate (gates statements)) basics_are
      ∙ ap (λ l. map basic_name (map raw_basic unit_names) ++ map name_of_gate l) gates_are
      ∙ ap (λ l. l ++ map name_of_gate gates_made) (map-map basic_name raw_basic unit_names ∙ map-id unit_names)
      ∙ ap (λ l. unit_names ++ (top_name ∷ l))
      (map-append name_of_gate (map group_raw (range_with_len 0 count)) (map fdep_raw (range_with_len 0 fdeps))
      ∙ ap (λ l. l ++ map name_of_gate (map fdep_raw (range_with_len 0 fdeps)))
      (map-map name_of_gate group_raw (range_with_len 0 count))
      ∙ ap (λ l. map gate_name (range_with_len 0 count) ++ l) (map-map name_of_gate fdep_raw (range_with_len 0 fdeps)))

  -- the names in the order in which they are defined
  abbrev pub defined_names : List (List ℕ)
  defined_names = top_name
      ∷ (map gate_name (range_with_len 0 count)
      ++ (map (λ q. fdep_name (5 * q)) (range_with_len 0 fdeps) ++ unit_names))

  pub definitions_are : definitions statements ≡ map placed defined_names
  definitions_are =
      ap (λ l. placed top_name ∷ l) (four definition_in
      (parts-one definition_in group_line (λ i. placed (gate_name i)) 0 count (λ i. refl))
      (parts-one definition_in fdep_gate (λ q. placed (fdep_name (5 * q))) 0 fdeps (λ i. refl))
      (units-one definition_in placed 0 count (λ name. refl))
      (parts-one definition_in (λ trigger. unit_line (trigger_name trigger))
      (λ trigger. placed (trigger_name trigger)) 0 10 (λ i. refl) ∙ mapped-triggers placed)
      ∙ ap (λ l. l ++ (map (λ q. placed (fdep_name (5 * q))) (range_with_len 0 fdeps)
      ++ (map placed (flat_map units_in (range_with_len 0 count)) ++ map placed
      (map trigger_name (range_with_len 0 10)))))
      (sym (map-map placed gate_name (range_with_len 0 count)))
      ∙ ap (λ l. map placed (map gate_name (range_with_len 0 count))
      ++ (l ++ (map placed (flat_map units_in (range_with_len 0 count)) ++ map placed
      (map trigger_name (range_with_len 0 10)))))
      (sym (map-map placed (λ q. fdep_name (5 * q)) (range_with_len 0 fdeps)))
      ∙ ap (λ l. map placed (map gate_name (range_with_len 0 count))
      ++ (map placed (map (λ q. fdep_name (5 * q)) (range_with_len 0 fdeps)) ++ l))
      (sym (map-append placed (flat_map units_in (range_with_len 0 count)) (map trigger_name (range_with_len 0 10))))
      ∙ ap (λ l. map placed (map gate_name (range_with_len 0 count)) ++ l)
      (sym (map-append placed (map (λ q. fdep_name (5 * q)) (range_with_len 0 fdeps)) unit_names))
      ∙ sym (map-append placed (map gate_name (range_with_len 0 count))
      (map (λ q. fdep_name (5 * q)) (range_with_len 0 fdeps) ++ unit_names)))

  -- the names that are used
  abbrev pub group_uses : ℕ → List Placed
  group_uses group = map placed (units_in group)

  abbrev pub fdep_uses : ℕ → List Placed
  fdep_uses q = placed (trigger_name (q % 10)) ∷ placed (unit_name (5 * q) (codes "b")) ∷ []

  pub uses_are : uses statements
      ≡ placed top_name ∷ (map placed (map gate_name (range_with_len 0 count))
      ++ (flat_map group_uses (range_with_len 0 count) ++ flat_map fdep_uses (range_with_len 0 fdeps)))
  uses_are =
      ap (λ l. placed top_name ∷ (l ++ parts uses_in lines_behind)) top_inputs
      ∙ ap (λ l. placed top_name ∷ (map placed (map gate_name (range_with_len 0 count)) ++ l)) (four uses_in
      (parts-more uses_in group_line group_uses 0 count (λ i. refl))
      (parts-more uses_in fdep_gate fdep_uses 0 fdeps (λ i. refl))
      (units-none uses_in 0 count (λ name. refl))
      (parts-none uses_in (λ trigger. unit_line (trigger_name trigger)) 0 10 (λ i. refl))
      ∙ ap (λ l. flat_map group_uses (range_with_len 0 count) ++ l)
      (append-nil (flat_map fdep_uses (range_with_len 0 fdeps))))

  -- the top statement
  pub tops_are : tops statements ≡ record { word = nowhere; name = placed top_name } ∷ []
  tops_are =
      ap (λ l. record { word = nowhere; name = placed top_name } ∷ l) (four top_in
      (parts-none top_in group_line 0 count (λ i. refl))
      (parts-none top_in fdep_gate 0 fdeps (λ i. refl))
      (units-none top_in 0 count (λ name. refl))
      (parts-none top_in (λ trigger. unit_line (trigger_name trigger)) 0 10 (λ i. refl)))
