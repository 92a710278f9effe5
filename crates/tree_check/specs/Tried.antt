-- Classes of faults that are tried one after another.
use Rattle.std.specs.Prelude.{◌≡◌, ◌⊎◌, ℕ, List, [], ◌∷◌, length, if◌then◌else◌}
use Rattle.fault_words.specs.{declared.kind.GateKind.GateKind, declared.place.Place.Place}
use Rattle.fault_definitions.specs.Tree.{is_fdep_kind}
use Rattle.galileo_tree.specs.ReadTree.{ReadTree}
use Rattle.tree_check.specs.{Checked.places, Found.IsFoundAs, Numbered.is_fdep_in, Numbered.is_spare_kind}
use Rattle.tree_check.specs.{declared.fault.CheckCode.CheckCode, declared.fault.CheckFault.CheckFault}
use Rattle.tree_check.specs.{declared.numbered.NumberedGate.NumberedGate}
use Rattle.tree_check.specs.Classes.{wrong_vote, dummies_in, reads_nothing, is_short_fdep, gates_after_first}
use Rattle.tree_check.specs.declared.fault.CheckCode.TheVariants.{Votes, DummyInput, NoInputs, FdepShape}
use Rattle.tree_check.specs.declared.fault.CheckCode.TheVariants.{DependentGate, SpareNotBasic, Replicated}
use Rattle.tree_check.specs.declared.fault.CheckCode.TheVariants.{TopIsFdep, TooManyUnits, TooManyGates}

-- the places of a class at one gate, by the number of units and the kinds of all gates
abbrev pub places_at : CheckCode → ℕ → List GateKind → NumberedGate → List Place
places_at Votes units kinds gate = if wrong_vote gate.kind (length gate.inputs) then gate.word ∷ [] else []
places_at DummyInput units kinds gate = dummies_in (is_fdep_in units kinds) gate
places_at NoInputs units kinds gate = if reads_nothing units kinds gate then gate.word ∷ [] else []
places_at FdepShape units kinds gate = if is_short_fdep gate then gate.word ∷ [] else []
places_at DependentGate units kinds gate = gates_after_first is_fdep_kind units gate
places_at SpareNotBasic units kinds gate = gates_after_first is_spare_kind units gate
places_at _ units kinds gate = []

-- the places of a class that a look at each gate or statement tells; the other classes are looked for apart
abbrev pub told : ReadTree → CheckCode → List Place
told read Votes = places read Votes
told read DummyInput = places read DummyInput
told read NoInputs = places read NoInputs
told read FdepShape = places read FdepShape
told read DependentGate = places read DependentGate
told read SpareNotBasic = places read SpareNotBasic
told read Replicated = places read Replicated
told read TopIsFdep = places read TopIsFdep
told read TooManyUnits = places read TooManyUnits
told read TooManyGates = places read TooManyGates
told read _ = []

-- none of some classes is told to have a place
abbrev pub NoneTold : ReadTree → List CheckCode → Type 0
NoneTold read [] = Unit {0}
NoneTold read (code ∷ codes) = (told read code ≡ []) × NoneTold read codes

-- the fault is of the first of some classes that is told to have a place
abbrev pub FirstTold : ReadTree → List CheckCode → CheckFault → Type 0
FirstTold read [] fault = ⊥
FirstTold read (code ∷ codes) fault =
    IsFoundAs code (told read code) fault ⊎ ((told read code ≡ []) × FirstTold read codes fault)
