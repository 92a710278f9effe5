-- A fault that one class answers.
use Rattle.std.specs.Prelude.{◌≡◌, List, Some}
use Rattle.fault_words.specs.declared.place.Place.{Place}
use Rattle.tree_check.specs.{Classes.first, TreeOf.FirstOnCycle, declared.fault.CheckCode.TheVariants.Cycle}
use Rattle.tree_check.specs.{declared.fault.CheckCode.CheckCode, declared.fault.CheckFault.CheckFault}
use Rattle.tree_check.specs.{declared.fault.CheckFault.TheVariants.Fault}
use Rattle.tree_check.specs.{declared.fault.CheckFault.TheVariants.NoMemory}
use Rattle.galileo_tree.specs.declared.raw.Statement.{Statement}

-- the fault is of this class, at the first of its places; want of memory is free
abbrev pub IsFoundAs : CheckCode → List Place → CheckFault → Type 0
IsFoundAs code places (Fault found place) = (found ≡ code) × (first places ≡ Some place)
IsFoundAs code places NoMemory = Unit {0}

-- the fault is the first definition that leads to itself; want of memory is free
abbrev pub IsCycleFault : List Statement → CheckFault → Type 0
IsCycleFault statements (Fault found place) = (found ≡ Cycle) × FirstOnCycle statements place
IsCycleFault statements NoMemory = Unit {0}
