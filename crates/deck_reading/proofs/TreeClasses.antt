-- No class of faults that looks at gates occurs in the statements of a tree.
use Rattle.std.proofs.Common.{◌≡◌, ℕ, ◌≤◌, Bool, true, false, not, cond, List, [], ◌∷◌, ◌++◌, length}
use Rattle.std.proofs.Common.{drop, map, refl, sym, ap, ◌∙◌, arith}
use Rattle.std.specs.Prelude.{◌||◌, ◌&&◌, ◌==◌, All, filter, if◌then◌else◌, nat_lt, zip}
use Rattle.std.specs.List.{flat_map}
use Rattle.std.proofs.lemmas.Bool.{eq-eqb, le-ltb, ne_eqb, or_from}
use Rattle.std.proofs.lemmas.List.{drop-map, drop_all, length-map}
use Rattle.std.proofs.lemmas.List.Elements.{All-cons, All-head, All-nil, All-tail, All-weaker}
use Rattle.std.proofs.lemmas.Slice.Zip.{length-zip}
use Rattle.fault_definitions.specs.declared.parts.TheConstants.{MOST_GATES}
use Rattle.fault_words.specs.declared.kind.GateKind.{GateKind}
use Rattle.fault_words.specs.declared.kind.GateKind.TheVariants.{And, Or, Votes, Pand, Por, Seq, Fdep, Csp, Wsp, Hsp}
use Rattle.fault_definitions.specs.Tree.{FaultTree, IsUnitOf, is_fdep_kind, unit_count}
use Rattle.fault_definitions.specs.Tree as trees
use Rattle.fault_definitions.specs.WellFormed.{IsSoundGate, IsSoundKind, IsTree}
use Rattle.tree_check.specs.Classes.{dummies, dummies_in, fdep_tops, gates_after_first, gates_beyond, inputless}
use Rattle.tree_check.specs.Classes.{is_empty, is_short_fdep, places_where, reads_nothing, short_fdeps}
use Rattle.tree_check.specs.Classes.{wrong_vote}
use Rattle.tree_check.specs.Classes.{wrong_votes}
use Rattle.tree_check.specs.Numbered.{drops_fdeps, is_fdep_in, is_gate, is_spare_kind, kept_by, kept_inputs}
use Rattle.tree_check.specs.Numbered.{kinds}
use Rattle.tree_check.specs.TreeOf.{input_lists, numbers}
use Rattle.deck_reading.proofs.{Anywhere.Numbered, Anywhere.NumberedGate, Passing.map_through}
use Rattle.deck_reading.proofs.TreeLists.{map_same, node_at, numbered_at}

-- ---- lists of which nothing is left, or all

pub filter_empty : {A : Type 0} (p : A → Bool) (xs : List A) → All (λ x. p x ≡ false) xs → filter p xs ≡ []
filter_empty p [] none = refl
filter_empty p (x ∷ xs) none =
    ap (λ b. cond b (x ∷ filter p xs) (filter p xs)) (All-head (λ y. p y ≡ false) x xs none)
    ∙ filter_empty p xs (All-tail (λ y. p y ≡ false) x xs none)

pub filter_none : {A B : Type 0} (p : B → Bool) (h : A → B) (xs : List A) → All (λ x. p (h x) ≡ false) xs
    → filter p (map h xs) ≡ []
filter_none p h [] none = refl
filter_none p h (x ∷ xs) none =
    ap (λ b. cond b (h x ∷ filter p (map h xs)) (filter p (map h xs))) (All-head (λ y. p (h y) ≡ false) x xs none)
    ∙ filter_none p h xs (All-tail (λ y. p (h y) ≡ false) x xs none)

filter_all : {A B : Type 0} (p : B → Bool) (h : A → B) (xs : List A) → All (λ x. p (h x) ≡ true) xs
    → filter p (map h xs) ≡ map h xs
filter_all p h [] all = refl
filter_all p h (x ∷ xs) all =
    ap (λ b. cond b (h x ∷ filter p (map h xs)) (filter p (map h xs))) (All-head (λ y. p (h y) ≡ true) x xs all)
    ∙ ap (λ l. h x ∷ l) (filter_all p h xs (All-tail (λ y. p (h y) ≡ true) x xs all))

pub flat_none : {A B C : Type 0} (f : B → List C) (h : A → B) (xs : List A) → All (λ x. f (h x) ≡ []) xs
    → flat_map f (map h xs) ≡ []
flat_none f h [] none = refl
flat_none f h (x ∷ xs) none =
    ap (λ l. l ++ flat_map f (map h xs)) (All-head (λ y. f (h y) ≡ []) x xs none)
    ∙ flat_none f h xs (All-tail (λ y. f (h y) ≡ []) x xs none)

zip_first : {A B : Type 0} (xs : List A) (ys : List B) → length ys ≡ length xs
    → map (λ (p : A × B). p.0) (zip xs ys) ≡ xs
zip_first [] ys same = refl
zip_first (x ∷ xs) [] same = absurd (omega arith)
zip_first (x ∷ xs) (y ∷ ys) same = ap (λ l. x ∷ l) (zip_first xs ys (omega arith))

zip_second : {A B : Type 0} (xs : List A) (ys : List B) → length ys ≡ length xs
    → map (λ (p : A × B). p.1) (zip xs ys) ≡ ys
zip_second [] [] same = refl
zip_second [] (y ∷ ys) same = absurd (omega arith)
zip_second (x ∷ xs) [] same = absurd (omega arith)
zip_second (x ∷ xs) (y ∷ ys) same = ap (λ l. y ∷ l) (zip_second xs ys (omega arith))

module _ {tree : FaultTree} (kept : IsTree tree) where
  abbrev N : ℕ → Numbered
  N = node_at tree kept

  abbrev G : GateKind × List ℕ → NumberedGate
  G = numbered_at tree kept

  abbrev units : ℕ
  units = unit_count tree

  abbrev gs : List (GateKind × List ℕ)
  gs = trees.gates tree

  pub kinds_are : kinds (map G gs) ≡ tree.kinds
  kinds_are =
      map_through (λ (gate : NumberedGate). gate.kind) G (λ (gate : GateKind × List ℕ). gate.0) (λ g. refl) gs
      ∙ zip_first tree.kinds tree.inputs kept.inputs_all

  -- no `fdep` is read
  abbrev test : ℕ → Bool
  test = is_fdep_in units tree.kinds

  abbrev Read : List ℕ → Type 0
  Read inputs = All (λ x. test x ≡ false) inputs

  none_where : (tells : ℕ → Bool) (xs : List ℕ) → All (λ x. tells x ≡ false) xs → places_where tells (map N xs) ≡ []
  none_where tells xs none =
      ap (map (λ (input : Numbered). input.place)) (filter_none (λ (input : Numbered). tells input.number) N xs none)

  kept_whole : (b : Bool) (inputs : List ℕ) → Read inputs → kept_by b test (map N inputs) ≡ map N inputs
  kept_whole true inputs read =
      filter_all (λ (input : Numbered). not (test input.number)) N inputs
      (All-weaker (λ x. test x ≡ false) (λ x. not (test x) ≡ true) (λ x is. ap not is) inputs read)
  kept_whole false inputs read = refl

  -- ---- one gate

  sound_vote : (kind : GateKind) (inputs : List ℕ) → IsSoundKind tree kind inputs
      → wrong_vote kind (length (map N inputs)) ≡ false
  sound_vote (Votes least of) inputs is =
      let some = is.some in
      let n = length (map N inputs) in
      or_from (least == 0 || nat_lt of least) (not (of == n))
      (or_from (least == 0) (nat_lt of least) (ne_eqb least 0 (λ zero. omega (arith, zero, some)))
      (le-ltb of least is.enough))
      (ap not (eq-eqb of n (is.counted ∙ sym (length-map inputs N))))
  sound_vote And inputs is = refl
  sound_vote Or inputs is = refl
  sound_vote Pand inputs is = refl
  sound_vote Por inputs is = refl
  sound_vote Seq inputs is = refl
  sound_vote Fdep inputs is = refl
  sound_vote Csp inputs is = refl
  sound_vote Wsp inputs is = refl
  sound_vote Hsp inputs is = refl

  nonempty : (inputs : List ℕ) → 1 ≤ length inputs → is_empty (map N inputs) ≡ false
  nonempty [] some = absurd (omega arith)
  nonempty (input ∷ inputs) some = refl

  some_read : (kind : GateKind) (inputs : List ℕ) → IsSoundKind tree kind inputs
      → (not (is_fdep_kind kind) && is_empty (map N inputs)) ≡ false
  some_read And inputs is = nonempty inputs is
  some_read Or inputs is = nonempty inputs is
  some_read (Votes least of) inputs is =
      let some = is.some in
      let enough = is.enough in
      let counted = is.counted in
      nonempty inputs (omega arith)
  some_read Pand inputs is = nonempty inputs is
  some_read Por inputs is = nonempty inputs is
  some_read Seq inputs is = nonempty inputs is
  some_read Fdep inputs is = refl
  some_read Csp inputs is = nonempty inputs is.enough
  some_read Wsp inputs is = nonempty inputs is.enough
  some_read Hsp inputs is = nonempty inputs is.enough

  two_inputs : (kind : GateKind) (inputs : List ℕ) → IsSoundKind tree kind inputs
      → (is_fdep_kind kind && nat_lt (length (map N inputs)) 2) ≡ false
  two_inputs And inputs is = refl
  two_inputs Or inputs is = refl
  two_inputs (Votes least of) inputs is = refl
  two_inputs Pand inputs is = refl
  two_inputs Por inputs is = refl
  two_inputs Seq inputs is = refl
  two_inputs Fdep inputs is = let enough = is.enough in le-ltb (length (map N inputs)) 2
      (omega (arith, length-map inputs N))
  two_inputs Csp inputs is = refl
  two_inputs Wsp inputs is = refl
  two_inputs Hsp inputs is = refl

  units_after : (inputs : List ℕ) → All (IsUnitOf tree) (drop 1 inputs)
      → places_where (is_gate units) (drop 1 (map N inputs)) ≡ []
  units_after inputs all =
      ap (places_where (is_gate units)) (drop-map N 1 inputs)
      ∙ none_where (is_gate units) (drop 1 inputs)
      (All-weaker (IsUnitOf tree) (λ x. is_gate units x ≡ false) (λ x is. le-ltb units x is.1) (drop 1 inputs) all)

  fdep_units : (kind : GateKind) (inputs : List ℕ) → IsSoundKind tree kind inputs
      → gates_after_first is_fdep_kind units (G (kind, inputs)) ≡ []
  fdep_units And inputs is = refl
  fdep_units Or inputs is = refl
  fdep_units (Votes least of) inputs is = refl
  fdep_units Pand inputs is = refl
  fdep_units Por inputs is = refl
  fdep_units Seq inputs is = refl
  fdep_units Fdep inputs is = units_after inputs is.units
  fdep_units Csp inputs is = refl
  fdep_units Wsp inputs is = refl
  fdep_units Hsp inputs is = refl

  spare_units : (kind : GateKind) (inputs : List ℕ) → IsSoundKind tree kind inputs
      → gates_after_first is_spare_kind units (G (kind, inputs)) ≡ []
  spare_units And inputs is = refl
  spare_units Or inputs is = refl
  spare_units (Votes least of) inputs is = refl
  spare_units Pand inputs is = refl
  spare_units Por inputs is = refl
  spare_units Seq inputs is = refl
  spare_units Fdep inputs is = refl
  spare_units Csp inputs is = units_after inputs is.units
  spare_units Wsp inputs is = units_after inputs is.units
  spare_units Hsp inputs is = units_after inputs is.units

  no_dummy : (b : Bool) (inputs : List ℕ) → Read inputs → (if b then [] else places_where test (map N inputs)) ≡ []
  no_dummy true inputs read = refl
  no_dummy false inputs read = none_where test inputs read

  -- ---- all gates

  each : (P : GateKind × List ℕ → Type 0) → ((gate : GateKind × List ℕ) → IsSoundGate tree gate → P gate) → All P gs
  each P is = All-weaker (IsSoundGate tree) P is gs kept.gates_sound

  pub no_wrong_vote : wrong_votes (map G gs) ≡ []
  no_wrong_vote =
      let wrong = λ (gate : NumberedGate). wrong_vote gate.kind (length gate.inputs) in
      ap (map (λ (gate : NumberedGate). gate.word))
      (filter_none wrong G gs (each (λ gate. wrong (G gate) ≡ false)
      (λ gate sound. sound_vote gate.0 gate.1 sound.kind)))

  pub no_dummies : dummies units (map G gs) ≡ []
  no_dummies =
      ap (λ ks. flat_map (dummies_in (is_fdep_in units ks)) (map G gs)) kinds_are
      ∙ flat_none (dummies_in test) G gs
      (each (λ gate. dummies_in test (G gate) ≡ []) (λ gate sound. no_dummy (drops_fdeps gate.0) gate.1 sound.read))

  pub no_inputless : inputless units (map G gs) ≡ []
  no_inputless =
      ap (λ ks. map (λ (gate : NumberedGate). gate.word) (filter (reads_nothing units ks) (map G gs))) kinds_are
      ∙ ap (map (λ (gate : NumberedGate). gate.word))
      (filter_none (reads_nothing units tree.kinds) G gs
      (each (λ gate. reads_nothing units tree.kinds (G gate) ≡ false)
      (λ gate sound. ap (λ (l : List Numbered). not (is_fdep_kind gate.0) && is_empty l)
      (kept_whole (drops_fdeps gate.0) gate.1 sound.read) ∙ some_read gate.0 gate.1 sound.kind)))

  pub no_short_fdep : short_fdeps (map G gs) ≡ []
  no_short_fdep =
      ap (map (λ (gate : NumberedGate). gate.word))
      (filter_none is_short_fdep G gs
      (each (λ gate. is_short_fdep (G gate) ≡ false) (λ gate sound. two_inputs gate.0 gate.1 sound.kind)))

  pub no_dependent_gate : flat_map (gates_after_first is_fdep_kind units) (map G gs) ≡ []
  no_dependent_gate =
      flat_none (gates_after_first is_fdep_kind units) G gs
      (each (λ gate. gates_after_first is_fdep_kind units (G gate) ≡ [])
      (λ gate sound. fdep_units gate.0 gate.1 sound.kind))

  pub no_spare_gate : flat_map (gates_after_first is_spare_kind units) (map G gs) ≡ []
  no_spare_gate =
      flat_none (gates_after_first is_spare_kind units) G gs
      (each (λ gate. gates_after_first is_spare_kind units (G gate) ≡ [])
      (λ gate sound. spare_units gate.0 gate.1 sound.kind))

  pub no_fdep_top : fdep_tops units (map G gs) (N tree.top ∷ []) ≡ []
  no_fdep_top =
      ap (λ ks. places_where (is_fdep_in units ks) (N tree.top ∷ [])) kinds_are
      ∙ none_where test (tree.top ∷ [])
      (All-cons (λ x. test x ≡ false) tree.top [] kept.top_is_read (All-nil (λ x. test x ≡ false)))

  pub no_gate_beyond : gates_beyond (map G gs) ≡ []
  no_gate_beyond =
      let few = kept.few_gates in
      ap (map (λ (gate : NumberedGate). gate.name))
      (drop_all MOST_GATES (map G gs) (omega (arith, length-map gs G, length-zip tree.kinds tree.inputs)))

  -- the inputs are all that is read
  numbers_are : (inputs : List ℕ) → numbers (map N inputs) ≡ inputs
  numbers_are [] = refl
  numbers_are (input ∷ inputs) = ap (λ l. input ∷ l) (numbers_are inputs)

  pub inputs_are : input_lists units (map G gs) ≡ tree.inputs
  inputs_are =
      let kept_of = λ (ks : List GateKind) (gate : NumberedGate). numbers (kept_inputs units ks gate) in
      ap (λ ks. map (kept_of ks) (map G gs)) kinds_are
      ∙ map_through (kept_of tree.kinds) G (λ gate. kept_of tree.kinds (G gate)) (λ g. refl) gs
      ∙ map_same (λ gate. kept_of tree.kinds (G gate)) (λ (gate : GateKind × List ℕ). gate.1) gs
      (each (λ gate. kept_of tree.kinds (G gate) ≡ gate.1)
      (λ gate sound. ap numbers (kept_whole (drops_fdeps gate.0) gate.1 sound.read) ∙ numbers_are gate.1))
      ∙ zip_second tree.kinds tree.inputs kept.inputs_all
