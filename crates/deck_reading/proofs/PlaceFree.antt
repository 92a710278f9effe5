-- The classes of faults look at names, kinds, inputs, attributes and their order alone: of statements whose places are
-- put aside
-- each class has as many places.
use Rattle.std.proofs.Common.{◌≡◌, ℕ, Bool, true, false, List, [], ◌∷◌, ◌++◌, length, drop, map, refl, sym, ap, ◌∙◌}
use Rattle.std.specs.Prelude.{◌&&◌, not, filter, if◌then◌else◌, nat_lt}
use Rattle.std.specs.List.{flat_map, list_any}
use Rattle.std.proofs.lemmas.List.{drop-map, length-map, map-append}
use Rattle.fault_words.specs.{declared.kind.GateKind.GateKind, declared.place.Place.Place, Names.has_name}
use Rattle.unit_sets.specs.Unit.{most_units}
use Rattle.fault_definitions.specs.{declared.parts.TheConstants.MOST_GATES, Tree.is_fdep_kind}
use Rattle.galileo_tree.specs.{declared.raw.Placed.Placed, declared.raw.RawAttribute.RawAttribute}
use Rattle.galileo_tree.specs.{declared.raw.RawBasic.RawBasic, declared.raw.RawTop.RawTop}
use Rattle.galileo_tree.specs.{declared.raw.Statement.Statement, ReadTree.ReadTree}
use Rattle.tree_check.specs.{declared.fault.CheckCode.CheckCode, Checked.places}
use Rattle.tree_check.specs.declared.fault.CheckCode.TheVariants.{NoToplevel, TwoToplevels, DuplicateName}
use Rattle.tree_check.specs.declared.fault.CheckCode.TheVariants.{Undefined}
use Rattle.tree_check.specs.declared.fault.CheckCode.TheVariants.{Votes, DummyInput, NoInputs, FdepShape}
use Rattle.tree_check.specs.declared.fault.CheckCode.TheVariants.{DependentGate}
use Rattle.tree_check.specs.declared.fault.CheckCode.TheVariants.{SpareNotBasic, SharedSpare, Replicated}
use Rattle.tree_check.specs.declared.fault.CheckCode.TheVariants.{TopIsFdep}
use Rattle.tree_check.specs.declared.fault.CheckCode.TheVariants.{Cycle, TooManyUnits, TooManyGates}
use Rattle.tree_check.specs.Classes.{SpareUse, clash, dummies, dummies_in, fdep_tops, gates_after_first}
use Rattle.tree_check.specs.Classes.{gates_beyond}
use Rattle.tree_check.specs.Classes.{inputless, is_empty, is_replicated, is_short_fdep, places_where}
use Rattle.tree_check.specs.Classes.{reads_nothing}
use Rattle.tree_check.specs.Classes.{repeats_after, replicated, shared_after, short_fdeps, spare_uses}
use Rattle.tree_check.specs.Classes.{spare_uses_in}
use Rattle.tree_check.specs.Classes.{undefined, units_beyond, uses_of, wrong_vote, wrong_votes}
use Rattle.tree_check.specs.Said.{basics, definitions, names, tops, uses}
use Rattle.tree_check.specs.Numbered.{drops_fdeps, is_fdep_in, is_gate, is_spare_kind, kept_by, kept_inputs}
use Rattle.tree_check.specs.Numbered.{kinds}
use Rattle.tree_check.specs.Numbered.{numbered_gates, numbered_tops, unit_total}
use Rattle.deck_reading.specs.Unplaced.{nowhere, unplaced, unplaced_attribute, unplaced_name}
use Rattle.deck_reading.proofs.Anywhere.{Numbered, NumberedGate, all_basics, all_definitions, all_names}
use Rattle.deck_reading.proofs.Anywhere.{all_numbered_gates, all_numbered_tops, all_tops, all_units, all_uses}
use Rattle.deck_reading.proofs.Anywhere.{unplaced_basic, unplaced_number, unplaced_numbers, unplaced_top}
use Rattle.deck_reading.proofs.Passing.{any_through, filter_through, flat_map_through, map_through}

-- a place is put aside
abbrev pub away : Place → Place
away place = nowhere

-- the places of what passes a test
places_through : {A B : Type 0} (p : B → Bool) (q : A → Bool) (h : A → B) (at : B → Place) (from : A → Place)
    → ((x : A) → p (h x) ≡ q x) → ((x : A) → at (h x) ≡ nowhere)
    → (xs : List A) → map at (filter p (map h xs)) ≡ map away (map from (filter q xs))
places_through {A} {B} p q h at from same aside xs =
    ap (map at) (filter_through p q h same xs)
    ∙ map_through at h (λ (x : A). nowhere) aside (filter q xs)
    ∙ sym (map_through away from (λ (x : A). nowhere) (λ x. refl) (filter q xs))

-- the places of all
all_places : {A B : Type 0} (h : A → B) (at : B → Place) (from : A → Place) → ((x : A) → at (h x) ≡ nowhere)
    → (xs : List A) → map at (map h xs) ≡ map away (map from xs)
all_places {A} {B} h at from aside xs =
    map_through at h (λ (x : A). nowhere) aside xs ∙ sym (map_through away from (λ (x : A). nowhere) (λ x. refl) xs)

is_empty-map : {A B : Type 0} (h : A → B) (xs : List A) → is_empty (map h xs) ≡ is_empty xs
is_empty-map h [] = refl
is_empty-map h (x ∷ xs) = refl

-- a place where a test passes, and where it doesn't
one_place : (b : Bool) (place : Place) → (if b then nowhere ∷ [] else []) ≡ map away (if b then place ∷ [] else [])
one_place true place = refl
one_place false place = refl

where_not : (b : Bool) (aside there : List Place) → aside ≡ map away there
    → (if b then [] else aside) ≡ map away (if b then [] else there)
where_not true aside there is = refl
where_not false aside there is = is

where_so : (b : Bool) (aside there : List Place) → aside ≡ map away there
    → (if b then aside else []) ≡ map away (if b then there else [])
where_so true aside there is = is
where_so false aside there is = refl

-- ---- by the statements

missing_aside : (ts : List RawTop) (end : Place)
    → (if is_empty (map unplaced_top ts) then nowhere ∷ [] else []) ≡ map away (if is_empty ts then end ∷ [] else [])
missing_aside [] end = refl
missing_aside (t ∷ ts) end = refl

further_aside : (ts : List RawTop) → map (λ (top : RawTop). top.word) (drop 1 (map unplaced_top ts)) ≡ map away
    (map (λ (top : RawTop). top.word) (drop 1 ts))
further_aside ts =
    let word = λ (top : RawTop). top.word in
    ap (map word) (drop-map unplaced_top 1 ts) ∙ all_places unplaced_top word word (λ t. refl) (drop 1 ts)

repeats_aside : (earlier : List (List ℕ)) (ds : List Placed) → repeats_after earlier (map unplaced_name ds) ≡ map away
    (repeats_after earlier ds)
repeats_aside earlier [] = refl
repeats_aside earlier (d ∷ ds) =
    let b = has_name earlier d.name in
    let later = earlier ++ d.name ∷ [] in
    ap (λ l. l ++ repeats_after later (map unplaced_name ds)) (one_place b d.place)
    ∙ ap (λ l. map away (if b then d.place ∷ [] else []) ++ l) (repeats_aside later ds)
    ∙ sym (map-append away (if b then d.place ∷ [] else []) (repeats_after later ds))

undefined_aside : (ns : List (List ℕ)) (us : List Placed) → undefined ns (map unplaced_name us) ≡ map away
    (undefined ns us)
undefined_aside ns us =
    let unknown = λ (used : Placed). not (has_name ns used.name) in
    let at = λ (used : Placed). used.place in
    places_through unknown unknown unplaced_name at at (λ u. refl) (λ u. refl) us

replicated_aside : (bs : List RawBasic) → replicated (map unplaced_basic bs) ≡ map away (replicated bs)
replicated_aside bs =
    let at = λ (raw : RawAttribute). raw.value_place in
    let in_one = λ (basic : RawBasic). map at (filter is_replicated basic.attributes) in
    flat_map_through in_one unplaced_basic away in_one
    (λ (basic : RawBasic). places_through is_replicated is_replicated unplaced_attribute at at (λ a. refl)
    (λ a. refl) basic.attributes) bs

beyond_aside : (bs : List RawBasic) → units_beyond (map unplaced_basic bs) ≡ map away (units_beyond bs)
beyond_aside bs =
    let at = λ (basic : RawBasic). basic.name.place in
    ap (map at) (drop-map unplaced_basic most_units bs)
    ∙ all_places unplaced_basic at at (λ b. refl) (drop most_units bs)

-- ---- by the gates

many_aside : (gs : List NumberedGate) → gates_beyond (map unplaced_numbers gs) ≡ map away (gates_beyond gs)
many_aside gs =
    let at = λ (gate : NumberedGate). gate.name in
    ap (map at) (drop-map unplaced_numbers MOST_GATES gs)
    ∙ all_places unplaced_numbers at at (λ g. refl) (drop MOST_GATES gs)

pub kinds_aside : (gs : List NumberedGate) → kinds (map unplaced_numbers gs) ≡ kinds gs
kinds_aside gs =
    let kind = λ (gate : NumberedGate). gate.kind in
    map_through kind unplaced_numbers kind (λ g. refl) gs

votes_aside : (gs : List NumberedGate) → wrong_votes (map unplaced_numbers gs) ≡ map away (wrong_votes gs)
votes_aside gs =
    let wrong = λ (gate : NumberedGate). wrong_vote gate.kind (length gate.inputs) in
    let at = λ (gate : NumberedGate). gate.word in
    places_through wrong wrong unplaced_numbers at at
    (λ (gate : NumberedGate). ap (wrong_vote gate.kind) (length-map gate.inputs unplaced_number)) (λ g. refl) gs

shorts_aside : (gs : List NumberedGate) → short_fdeps (map unplaced_numbers gs) ≡ map away (short_fdeps gs)
shorts_aside gs =
    let at = λ (gate : NumberedGate). gate.word in
    places_through is_short_fdep is_short_fdep unplaced_numbers at at
    (λ (gate : NumberedGate). ap (λ n. is_fdep_kind gate.kind && nat_lt n 2) (length-map gate.inputs unplaced_number))
    (λ g. refl) gs

inputs_aside : (test : ℕ → Bool) (inputs : List Numbered) → places_where test (map unplaced_number inputs) ≡ map away
    (places_where test inputs)
inputs_aside test inputs =
    let passes = λ (input : Numbered). test input.number in
    let at = λ (input : Numbered). input.place in
    places_through passes passes unplaced_number at at (λ i. refl) (λ i. refl) inputs

dummies_aside : (units : ℕ) (gs : List NumberedGate) → dummies units (map unplaced_numbers gs) ≡ map away
    (dummies units gs)
dummies_aside units gs =
    let test = is_fdep_in units (kinds gs) in
    ap (λ ks. flat_map (dummies_in (is_fdep_in units ks)) (map unplaced_numbers gs)) (kinds_aside gs)
    ∙ flat_map_through (dummies_in test) unplaced_numbers away (dummies_in test)
    (λ (gate : NumberedGate). where_not (drops_fdeps gate.kind) (places_where test (map unplaced_number gate.inputs))
    (places_where test gate.inputs) (inputs_aside test gate.inputs)) gs

pub kept_aside : (b : Bool) (test : ℕ → Bool) (inputs : List Numbered)
    → kept_by b test (map unplaced_number inputs) ≡ map unplaced_number (kept_by b test inputs)
kept_aside true test inputs =
    let other = λ (input : Numbered). not (test input.number) in
    filter_through other other unplaced_number (λ i. refl) inputs
kept_aside false test inputs = refl

inputless_aside : (units : ℕ) (gs : List NumberedGate) → inputless units (map unplaced_numbers gs) ≡ map away
    (inputless units gs)
inputless_aside units gs =
    let ks = kinds gs in
    let at = λ (gate : NumberedGate). gate.word in
    ap (λ l. map at (filter (reads_nothing units l) (map unplaced_numbers gs))) (kinds_aside gs)
    ∙ places_through (reads_nothing units ks) (reads_nothing units ks) unplaced_numbers at at
    (λ (gate : NumberedGate). ap (λ b. not (is_fdep_kind gate.kind) && b)
    (ap is_empty (kept_aside (drops_fdeps gate.kind) (is_fdep_in units ks) gate.inputs)
    ∙ is_empty-map unplaced_number (kept_inputs units ks gate))) (λ g. refl) gs

after_first_aside : (is_kind : GateKind → Bool) (units : ℕ) (gs : List NumberedGate)
    → flat_map (gates_after_first is_kind units) (map unplaced_numbers gs) ≡ map away
    (flat_map (gates_after_first is_kind units) gs)
after_first_aside is_kind units gs =
    flat_map_through (gates_after_first is_kind units) unplaced_numbers away (gates_after_first is_kind units)
    (λ (gate : NumberedGate). where_so (is_kind gate.kind)
    (places_where (is_gate units) (drop 1 (map unplaced_number gate.inputs)))
    (places_where (is_gate units) (drop 1 gate.inputs))
    (ap (places_where (is_gate units)) (drop-map unplaced_number 1 gate.inputs)
    ∙ inputs_aside (is_gate units) (drop 1 gate.inputs))) gs

-- ---- shared spares

abbrev unplaced_use : SpareUse → SpareUse
unplaced_use use_of = record { input = unplaced_number use_of.input; is_first = use_of.is_first }

uses_aside : (inputs : List Numbered) → uses_of (map unplaced_number inputs) ≡ map unplaced_use (uses_of inputs)
uses_aside [] = refl
uses_aside (input ∷ inputs) =
    let later = λ (i : Numbered). (let u : SpareUse = record { input = i; is_first = false } in u) in
    let aside = λ (i : Numbered). unplaced_use (later i) in
    let first : SpareUse = record { input = unplaced_number input; is_first = true } in
    ap (λ l. first ∷ l) (map_through later unplaced_number aside (λ i. refl) inputs
    ∙ sym (map_through unplaced_use later aside (λ i. refl) inputs))

spare_aside : (b : Bool) (inputs : List Numbered)
    → (if b then uses_of (map unplaced_number inputs) else []) ≡ map unplaced_use (if b then uses_of inputs else [])
spare_aside true inputs = uses_aside inputs
spare_aside false inputs = refl

shared_aside : (earlier uses : List SpareUse) → shared_after (map unplaced_use earlier)
    (map unplaced_use uses) ≡ map away (shared_after earlier uses)
shared_aside earlier [] = refl
shared_aside earlier (later ∷ uses) =
    let b = list_any (λ (e : SpareUse). clash e later) earlier in
    let rest = shared_after (map unplaced_use (later ∷ earlier)) (map unplaced_use uses) in
    ap (λ c. (if c then nowhere ∷ [] else []) ++ rest)
    (any_through (λ (e : SpareUse). clash e (unplaced_use later)) unplaced_use (λ (e : SpareUse). clash e later)
    (λ e. refl) earlier)
    ∙ ap (λ l. l ++ rest) (one_place b later.input.place)
    ∙ ap (λ l. map away (if b then later.input.place ∷ [] else []) ++ l) (shared_aside (later ∷ earlier) uses)
    ∙ sym (map-append away (if b then later.input.place ∷ [] else []) (shared_after (later ∷ earlier) uses))

spares_aside : (gs : List NumberedGate) → shared_after [] (spare_uses (map unplaced_numbers gs)) ≡ map away
    (shared_after [] (spare_uses gs))
spares_aside gs =
    ap (shared_after [])
    (flat_map_through spare_uses_in unplaced_numbers unplaced_use spare_uses_in
    (λ (gate : NumberedGate). spare_aside (is_spare_kind gate.kind) gate.inputs) gs)
    ∙ shared_aside [] (spare_uses gs)

fdep_tops_aside : (units : ℕ) (gs : List NumberedGate) (ts : List Numbered)
    → fdep_tops units (map unplaced_numbers gs) (map unplaced_number ts) ≡ map away (fdep_tops units gs ts)
fdep_tops_aside units gs ts =
    ap (λ ks. places_where (is_fdep_in units ks) (map unplaced_number ts)) (kinds_aside gs)
    ∙ inputs_aside (is_fdep_in units (kinds gs)) ts

-- ---- each class

module _ (ss : List Statement) (end : Place) where
  abbrev here : ReadTree
  here = record { statements = ss; end = end }

  abbrev aside : ReadTree
  aside = record { statements = map unplaced ss; end = nowhere }

  by_gates : (class : List NumberedGate → List Place)
      → ((gs : List NumberedGate) → class (map unplaced_numbers gs) ≡ map away (class gs))
      → class (numbered_gates (map unplaced ss)) ≡ map away (class (numbered_gates ss))
  by_gates class is = ap class (all_numbered_gates ss) ∙ is (numbered_gates ss)

  by_units : (class : ℕ → List NumberedGate → List Place)
      → ((units : ℕ) (gs : List NumberedGate) → class units (map unplaced_numbers gs) ≡ map away (class units gs))
      → class (unit_total (map unplaced ss)) (numbered_gates (map unplaced ss)) ≡ map away
      (class (unit_total ss) (numbered_gates ss))
  by_units class is =
      ap (λ n. class n (numbered_gates (map unplaced ss))) (all_units ss)
      ∙ by_gates (class (unit_total ss)) (is (unit_total ss))

  pub class_aside : (code : CheckCode) → places aside code ≡ map away (places here code)
  class_aside NoToplevel = ap (λ ts. if is_empty ts then nowhere ∷ [] else []) (all_tops ss)
      ∙ missing_aside (tops ss) end
  class_aside TwoToplevels = ap (λ (ts : List RawTop). map (λ (top : RawTop). top.word) (drop 1 ts)) (all_tops ss)
      ∙ further_aside (tops ss)
  class_aside DuplicateName = ap (repeats_after []) (all_definitions ss) ∙ repeats_aside [] (definitions ss)
  class_aside Undefined =
      ap (λ ns. undefined ns (uses (map unplaced ss))) (all_names ss) ∙ ap (undefined (names ss)) (all_uses ss)
      ∙ undefined_aside (names ss) (uses ss)
  class_aside Votes = by_gates wrong_votes votes_aside
  class_aside DummyInput = by_units dummies dummies_aside
  class_aside NoInputs = by_units inputless inputless_aside
  class_aside FdepShape = by_gates short_fdeps shorts_aside
  class_aside DependentGate = by_units (λ units gs. flat_map (gates_after_first is_fdep_kind units) gs)
      (after_first_aside is_fdep_kind)
  class_aside SpareNotBasic = by_units (λ units gs. flat_map (gates_after_first is_spare_kind units) gs)
      (after_first_aside is_spare_kind)
  class_aside SharedSpare = by_gates (λ gs. shared_after [] (spare_uses gs)) spares_aside
  class_aside Replicated = ap replicated (all_basics ss) ∙ replicated_aside (basics ss)
  class_aside TopIsFdep =
      ap (λ ts. fdep_tops (unit_total (map unplaced ss)) (numbered_gates (map unplaced ss)) ts) (all_numbered_tops ss)
      ∙ ap (λ gs. fdep_tops (unit_total (map unplaced ss)) gs (map unplaced_number (numbered_tops ss)))
      (all_numbered_gates ss)
      ∙ ap (λ n. fdep_tops n (map unplaced_numbers (numbered_gates ss)) (map unplaced_number (numbered_tops ss)))
      (all_units ss)
      ∙ fdep_tops_aside (unit_total ss) (numbered_gates ss) (numbered_tops ss)
  class_aside Cycle = refl
  class_aside TooManyUnits = ap units_beyond (all_basics ss) ∙ beyond_aside (basics ss)
  class_aside TooManyGates = by_gates gates_beyond many_aside
