-- Whether statements stand for a tree, or which fault is the first. The classes are tried in one order, and of the
-- first class that occurs the first place in the text is answered.
use Rattle.std.specs.Prelude.{◌≡◌, List, [], ◌∷◌, take, Some}
use Rattle.fault_definitions.specs.Tree.{FaultTree}
use Rattle.fault_words.specs.declared.place.Place.{Place}
use Rattle.galileo_tree.specs.ReadTree.{ReadTree}
use Rattle.tree_check.specs.Said.{basics, names, uses}
use Rattle.tree_check.specs.Numbered.{numbered_gates, numbered_tops, unit_total}
use Rattle.tree_check.specs.Classes.{first, missing_tops, further_tops, repeats, undefined, wrong_votes, dummies}
use Rattle.tree_check.specs.Classes.{inputless, short_fdeps, dependent_gates, spare_gates, shared_spares}
use Rattle.tree_check.specs.Classes.{replicated, fdep_tops, units_beyond, gates_beyond}
use Rattle.tree_check.specs.TreeOf.{FirstOnCycle, HasNoCycle, tree_of}
use Rattle.tree_check.specs.declared.fault.CheckCode.{CheckCode}
use Rattle.tree_check.specs.declared.fault.CheckCode.TheVariants.{NoToplevel, TwoToplevels, DuplicateName}
use Rattle.tree_check.specs.declared.fault.CheckCode.TheVariants.{Undefined}
use Rattle.tree_check.specs.declared.fault.CheckCode.TheVariants.{Votes, DummyInput, NoInputs, FdepShape}
use Rattle.tree_check.specs.declared.fault.CheckCode.TheVariants.{DependentGate}
use Rattle.tree_check.specs.declared.fault.CheckCode.TheVariants.{SpareNotBasic, SharedSpare, Replicated}
use Rattle.tree_check.specs.declared.fault.CheckCode.TheVariants.{TopIsFdep}
use Rattle.tree_check.specs.declared.fault.CheckCode.TheVariants.{Cycle, TooManyUnits, TooManyGates}
use Rattle.tree_check.specs.declared.fault.CheckFault.{CheckFault}
use Rattle.tree_check.specs.declared.fault.CheckFault.TheVariants.{Fault, NoMemory}

-- the places of each class but the cycles, in the order of the text
abbrev pub places : ReadTree → CheckCode → List Place
places read NoToplevel = missing_tops read.statements read.end
places read TwoToplevels = further_tops read.statements
places read DuplicateName = repeats read.statements
places read Undefined = undefined (names read.statements) (uses read.statements)
places read Votes = wrong_votes (numbered_gates read.statements)
places read DummyInput = dummies (unit_total read.statements) (numbered_gates read.statements)
places read NoInputs = inputless (unit_total read.statements) (numbered_gates read.statements)
places read FdepShape = short_fdeps (numbered_gates read.statements)
places read DependentGate = dependent_gates (unit_total read.statements) (numbered_gates read.statements)
places read SpareNotBasic = spare_gates (unit_total read.statements) (numbered_gates read.statements)
places read SharedSpare = shared_spares (numbered_gates read.statements)
places read Replicated = replicated (basics read.statements)
places read TopIsFdep =
    fdep_tops (unit_total read.statements) (numbered_gates read.statements) (numbered_tops read.statements)
places read Cycle = []
places read TooManyUnits = units_beyond (basics read.statements)
places read TooManyGates = gates_beyond (numbered_gates read.statements)

-- none of some classes occurs
abbrev pub NoneOf : ReadTree → List CheckCode → Type 0
NoneOf read [] = Unit {0}
NoneOf read (code ∷ codes) = (places read code ≡ []) × NoneOf read codes

-- the classes that come before the cycles, in their order
abbrev pub before_cycles : List CheckCode
before_cycles =
    NoToplevel ∷ TwoToplevels ∷ DuplicateName ∷ Undefined ∷ Votes ∷ DummyInput ∷ NoInputs ∷ FdepShape ∷ DependentGate
    ∷ SpareNotBasic ∷ SharedSpare ∷ Replicated ∷ TopIsFdep ∷ []

-- the classes that come after the cycles: those of the limits of a tree
abbrev pub after_cycles : List CheckCode
after_cycles = TooManyUnits ∷ TooManyGates ∷ []

-- no class occurs
pub record IsFaultless (read : ReadTree) : Type 0 where
  pub before : NoneOf read before_cycles
  pub acyclic : HasNoCycle read.statements
  pub after : NoneOf read after_cycles

-- this class occurs at this place first, and none of the classes before it
abbrev pub FirstOf : ReadTree → List CheckCode → CheckCode → Place → Type 0
FirstOf read earlier code place = NoneOf read earlier × (first (places read code) ≡ Some place)

-- this class after the cycles occurs first: none of those before it does, and no definition leads to itself
abbrev pub FirstAfter : ReadTree → List CheckCode → CheckCode → Place → Type 0
FirstAfter read earlier code place =
    NoneOf read before_cycles × HasNoCycle read.statements × FirstOf read earlier code place

-- of all the classes this is the first that occurs, and this is its first place in the text
abbrev pub IsFirstFault : ReadTree → CheckCode → Place → Type 0
IsFirstFault read NoToplevel place = FirstOf read (take 0 before_cycles) NoToplevel place
IsFirstFault read TwoToplevels place = FirstOf read (take 1 before_cycles) TwoToplevels place
IsFirstFault read DuplicateName place = FirstOf read (take 2 before_cycles) DuplicateName place
IsFirstFault read Undefined place = FirstOf read (take 3 before_cycles) Undefined place
IsFirstFault read Votes place = FirstOf read (take 4 before_cycles) Votes place
IsFirstFault read DummyInput place = FirstOf read (take 5 before_cycles) DummyInput place
IsFirstFault read NoInputs place = FirstOf read (take 6 before_cycles) NoInputs place
IsFirstFault read FdepShape place = FirstOf read (take 7 before_cycles) FdepShape place
IsFirstFault read DependentGate place = FirstOf read (take 8 before_cycles) DependentGate place
IsFirstFault read SpareNotBasic place = FirstOf read (take 9 before_cycles) SpareNotBasic place
IsFirstFault read SharedSpare place = FirstOf read (take 10 before_cycles) SharedSpare place
IsFirstFault read Replicated place = FirstOf read (take 11 before_cycles) Replicated place
IsFirstFault read TopIsFdep place = FirstOf read (take 12 before_cycles) TopIsFdep place
IsFirstFault read Cycle place = NoneOf read before_cycles × FirstOnCycle read.statements place
IsFirstFault read TooManyUnits place = FirstAfter read [] TooManyUnits place
IsFirstFault read TooManyGates place = FirstAfter read (TooManyUnits ∷ []) TooManyGates place

-- a fault is the first one; want of memory is free
abbrev pub IsRefusal : ReadTree → CheckFault → Type 0
IsRefusal read (Fault code place) = IsFirstFault read code place
IsRefusal read NoMemory = Unit {0}

-- ---- what checking gives

-- the tree is the one that the statements stand for, in which no class of faults occurs
pub record Stands (read : ReadTree) (tree : FaultTree) : Type 0 where
  pub faultless : IsFaultless read
  pub is : tree ≡ tree_of read.statements tree.ranks
