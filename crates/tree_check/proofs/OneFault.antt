-- The statements of a text have at most one first fault, and none where they stand for a tree.
use Rattle.std.specs.Prelude.{◌≡◌, ◌<◌, ◌⊎◌, ◌++◌, ℕ, List, [], ◌∷◌, map, take, drop, Option, Some, None}
use Rattle.std.specs.Prelude.{slice_get, unwrap_or}
use Rattle.std.proofs.Common.{suc, sym, ap, subst, ◌∙◌, refl, inl, inr, arith}
use Rattle.std.proofs.{lemmas.Bool.cases_lt, lemmas.List.length-map, lemmas.Option.slice_get_within}
use Rattle.fault_words.specs.declared.place.Place.{Place}
use Rattle.galileo_tree.specs.{declared.raw.Statement.Statement, ReadTree.ReadTree}
use Rattle.tree_check.specs.{Said.definitions, Classes.first, TreeOf.FirstOnCycle, TreeOf.HasNoCycle}
use Rattle.tree_check.specs.{declared.fault.CheckCode.CheckCode}
use Rattle.tree_check.specs.Checked.{FirstOf, IsFaultless, IsFirstFault, NoneOf, places, before_cycles}
use Rattle.tree_check.specs.Checked.{after_cycles}
use Rattle.tree_check.specs.declared.fault.CheckCode.TheVariants.{NoToplevel, TwoToplevels, DuplicateName}
use Rattle.tree_check.specs.declared.fault.CheckCode.TheVariants.{Undefined}
use Rattle.tree_check.specs.declared.fault.CheckCode.TheVariants.{Votes, DummyInput, NoInputs, FdepShape}
use Rattle.tree_check.specs.declared.fault.CheckCode.TheVariants.{DependentGate}
use Rattle.tree_check.specs.declared.fault.CheckCode.TheVariants.{SpareNotBasic, SharedSpare, Replicated}
use Rattle.tree_check.specs.declared.fault.CheckCode.TheVariants.{TopIsFdep}
use Rattle.tree_check.specs.declared.fault.CheckCode.TheVariants.{Cycle, TooManyUnits, TooManyGates}

-- a class and its first place, or what the classes behind it give where it has none
abbrev or_later : CheckCode → Option Place → Option (CheckCode × Place) → Option (CheckCode × Place)
or_later code (Some place) later = Some (code, place)
or_later code None later = later

-- the first of some classes that occurs, with its first place
abbrev pub first_in : ReadTree → List CheckCode → Option (CheckCode × Place)
first_in read [] = None
first_in read (code ∷ codes) = or_later code (first (places read code)) (first_in read codes)

none_in : (read : ReadTree) (codes : List CheckCode) → NoneOf read codes → first_in read codes ≡ None
none_in read [] none = refl
none_in read (code ∷ codes) none =
    ap (λ l. or_later code (first l) (first_in read codes)) none.0 ∙ none_in read codes none.1

found_in : (read : ReadTree) (earlier : List CheckCode) (code : CheckCode) (later : List CheckCode) (place : Place)
    → NoneOf read earlier → first (places read code) ≡ Some place
    → first_in read (earlier ++ code ∷ later) ≡ Some (code, place)
found_in read [] code later place none found = ap (λ f. or_later code f (first_in read later)) found
found_in read (before ∷ earlier) code later place none found =
    ap (λ l. or_later before (first l) (first_in read (earlier ++ code ∷ later))) none.0
    ∙ found_in read earlier code later place none.1 found

-- the class with this number among some classes is the first that occurs
abbrev found_at : (read : ReadTree) (codes : List CheckCode) (number : ℕ) (code : CheckCode) (place : Place)
    → FirstOf read (take number codes) code place
    → first_in read (take number codes ++ code ∷ drop (suc number) codes) ≡ Some (code, place)
found_at read codes number code place (none, found) =
    found_in read (take number codes) code (drop (suc number) codes) place none found

-- ---- a first fault by what comes before the cycles, on them and after them

pub record OnCycle (read : ReadTree) (code : CheckCode) (place : Place) : Type 0 where
  pub none_before : first_in read before_cycles ≡ None
  pub is : code ≡ Cycle
  pub first_cyclic : FirstOnCycle read.statements place

pub record AfterCycles (read : ReadTree) (code : CheckCode) (place : Place) : Type 0 where
  pub none_before : first_in read before_cycles ≡ None
  pub acyclic : HasNoCycle read.statements
  pub found : first_in read after_cycles ≡ Some (code, place)

abbrev Decides : ReadTree → CheckCode → Place → Type 0
Decides read code place =
    (first_in read before_cycles ≡ Some (code, place)) ⊎ (OnCycle read code place ⊎ AfterCycles read code place)

decides : {read : ReadTree} (code : CheckCode) {place : Place} → IsFirstFault read code place → Decides read code place
decides {read} NoToplevel {place} fault = inl (found_at read before_cycles 0 NoToplevel place fault)
decides {read} TwoToplevels {place} fault = inl (found_at read before_cycles 1 TwoToplevels place fault)
decides {read} DuplicateName {place} fault = inl (found_at read before_cycles 2 DuplicateName place fault)
decides {read} Undefined {place} fault = inl (found_at read before_cycles 3 Undefined place fault)
decides {read} Votes {place} fault = inl (found_at read before_cycles 4 Votes place fault)
decides {read} DummyInput {place} fault = inl (found_at read before_cycles 5 DummyInput place fault)
decides {read} NoInputs {place} fault = inl (found_at read before_cycles 6 NoInputs place fault)
decides {read} FdepShape {place} fault = inl (found_at read before_cycles 7 FdepShape place fault)
decides {read} DependentGate {place} fault = inl (found_at read before_cycles 8 DependentGate place fault)
decides {read} SpareNotBasic {place} fault = inl (found_at read before_cycles 9 SpareNotBasic place fault)
decides {read} SharedSpare {place} fault = inl (found_at read before_cycles 10 SharedSpare place fault)
decides {read} Replicated {place} fault = inl (found_at read before_cycles 11 Replicated place fault)
decides {read} TopIsFdep {place} fault = inl (found_at read before_cycles 12 TopIsFdep place fault)
decides {read} Cycle (none, on_cycle) =
    inr (inl (record { none_before = none_in read before_cycles none; is = refl; first_cyclic = on_cycle }))
decides {read} TooManyUnits {place} (none, acyclic, fault) =
    inr (inr (record {
      none_before = none_in read before_cycles none;
      acyclic = acyclic;
      found = found_at read after_cycles 0 TooManyUnits place fault;
    }))
decides {read} TooManyGates {place} (none, acyclic, fault) =
    inr (inr (record {
      none_before = none_in read before_cycles none;
      acyclic = acyclic;
      found = found_at read after_cycles 1 TooManyGates place fault;
    }))

-- ---- one first fault

abbrev code_in : CheckCode → Option (CheckCode × Place) → CheckCode
code_in code None = code
code_in code (Some found) = found.0

abbrev place_in : Place → Option (CheckCode × Place) → Place
place_in place None = place
place_in place (Some found) = found.1

-- a search finds one class and one place
module _ (code other : CheckCode) (place there : Place) where
  found_once : {found : Option (CheckCode × Place)} → found ≡ Some (code, place) → found ≡ Some (other, there)
      → (code ≡ other) × (place ≡ there)
  found_once one two = (ap (code_in code) (sym one ∙ two), ap (place_in place) (sym one ∙ two))

  found_and_not : {P : Type 0} {found : Option (CheckCode × Place)} → found ≡ Some (code, place) → found ≡ None → P
  found_and_not one none = let clash = sym one ∙ none in absurd cc

-- a definition that leads to itself is first at one place
one_cycle : {statements : List Statement} {place there : Place} → FirstOnCycle statements place
    → FirstOnCycle statements there → place ≡ there
one_cycle {statements} {place} {there} one two =
    let at : List Place = map (λ definition. definition.place) (definitions statements) in
    let same_index : one.index ≡ two.index =
    elim (cases_lt one.index two.index) [
      | inl before ↦ absurd (two.no_earlier one.index before one.cyclic)
      | inr not_before ↦ elim (cases_lt two.index one.index) [
        | inl after ↦ absurd (one.no_earlier two.index after two.cyclic)
        | inr not_after ↦ omega (arith, not_before, not_after)
      ]
    ] in
    let same : Some place ≡ Some there = sym one.at ∙ ap (slice_get at) same_index ∙ two.at in
    ap (λ o. unwrap_or o place) same

not_both : {P : Type 0} {statements : List Statement} {place : Place} → HasNoCycle statements
    → FirstOnCycle statements place → P
not_both {statements} {place} acyclic on_cycle =
    absurd (acyclic on_cycle.index
    (subst (λ n. on_cycle.index < n) (length-map (definitions statements) (λ definition. definition.place))
    (slice_get_within (map (λ definition. definition.place) (definitions statements)) on_cycle.index place on_cycle.at))
    on_cycle.cyclic)

one_decides : {read : ReadTree} {code other : CheckCode} {place there : Place} → Decides read code place
    → Decides read other there → (code ≡ other) × (place ≡ there)
one_decides {read} {code} {other} {place} {there} one two =
    let before = first_in read before_cycles in
    elim one [
      | inl a ↦ elim two [
        | inl b ↦ found_once code other place there a b
        | inr b ↦ elim b [
          | inl c ↦ found_and_not code other place there a c.none_before
          | inr c ↦ found_and_not code other place there a c.none_before
        ]
      ]
      | inr a ↦ elim a [
        | inl c ↦ elim two [
          | inl b ↦ found_and_not other code there place b c.none_before
          | inr b ↦ elim b [
            | inl d ↦ (c.is ∙ sym d.is, one_cycle c.first_cyclic d.first_cyclic)
            | inr d ↦ not_both d.acyclic c.first_cyclic
          ]
        ]
        | inr c ↦ elim two [
          | inl b ↦ found_and_not other code there place b c.none_before
          | inr b ↦ elim b [
            | inl d ↦ not_both c.acyclic d.first_cyclic
            | inr d ↦ found_once code other place there c.found d.found
          ]
        ]
      ]
    ]

-- two first faults of statements are one
pub same_fault : (read : ReadTree) (code other : CheckCode) (place there : Place) → IsFirstFault read code place
    → IsFirstFault read other there → (code ≡ other) × (place ≡ there)
same_fault read code other place there one two =
    one_decides {read = read} {code = code} {other = other} {place = place} {there = there}
    (decides {read = read} code {place = place} one) (decides {read = read} other {place = there} two)

-- statements without a fault have no first one
pub no_fault : (read : ReadTree) (code : CheckCode) (place : Place) → IsFaultless read → ¬ IsFirstFault read code place
no_fault read code place faultless fault =
    elim (decides {read = read} code {place = place} fault) [
      | inl found ↦ found_and_not code code place place {found = first_in read before_cycles} found
          (none_in read before_cycles faultless.before)
      | inr later ↦ elim later [
        | inl cycle ↦ not_both {statements = read.statements} {place = place} faultless.acyclic cycle.first_cyclic
        | inr after ↦ found_and_not code code place place {found = first_in read after_cycles} after.found
            (none_in read after_cycles faultless.after)
      ]
    ]
