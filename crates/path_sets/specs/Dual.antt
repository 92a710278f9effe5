-- How the path family of a node is built from those of what it reads: by the dual kind.
use Rattle.std.specs.Prelude.{ℕ, ◌+◌, ◌-◌, ◌≤◌, List, if◌then◌else◌}
use Rattle.fault_words.specs.declared.kind.GateKind.{GateKind}
use Rattle.fault_words.specs.declared.kind.GateKind.TheVariants.{And, Or, Votes, Pand, Por, Seq, Fdep, Csp, Wsp, Hsp}
use Rattle.fault_definitions.specs.Tree.{FaultTree, kind_of, is_above_units}
use Rattle.tree_families.specs.Recipe.{Recipe, products, alone, gate_recipe}

-- The kind that fails by its inputs as the given one stays in service by them: what fails with all of its inputs serves
-- with one, and where K of N fail, N-K+1 of N serve.
abbrev pub dual_kind : GateKind → GateKind
dual_kind And = Or
dual_kind Or = And
dual_kind (Votes least of) = Votes (of - least + 1) of
dual_kind Pand = Or
dual_kind Por = Por
dual_kind Seq = Or
dual_kind Fdep = Fdep
dual_kind Csp = Or
dual_kind Wsp = Or
dual_kind Hsp = Or

-- a gate that votes asks for some of its votes, and for no more than there are
abbrev pub CanTurn : GateKind → Type 0
CanTurn (Votes least of) = (1 ≤ least) × (least ≤ of)
CanTurn _ = Unit {0}

-- a node, by the path families of what it reads: a gate by the dual kind, and a unit needs itself and each of its
-- triggers. The minimal sets of what the recipe makes are the node's path family.
abbrev pub path_recipe : FaultTree → ℕ → List (List (List ℕ)) → Recipe
path_recipe tree node families =
    if is_above_units tree node then gate_recipe (dual_kind (kind_of tree node)) families
    else products (alone node) families
