-- How the family of a node is built from the families of what the node reads.
use Rattle.std.specs.Prelude.{◌≡◌, ℕ, Bool, true, false, List, [], ◌∷◌, if◌then◌else◌}
use Rattle.fault_words.specs.declared.kind.GateKind.{GateKind}
use Rattle.fault_words.specs.declared.kind.GateKind.TheVariants.{And, Or, Votes, Pand, Por, Seq, Fdep, Csp, Wsp, Hsp}
use Rattle.fault_definitions.specs.Tree.{FaultTree, kind_of, is_above_units}
use Rattle.zdd_families.specs.{Union.IsUnion, Product.IsProduct, Minimal.IsMinimal, Votes.IsVotes}

-- what is done with given families
pub data Recipe : Type 0 where
  -- the first is united with each of the others, from left to right
  unions : List (List ℕ) → List (List (List ℕ)) → Recipe
  -- the first is multiplied with each of the others, from left to right, and of each product the
  -- minimal sets are taken
  products : List (List ℕ) → List (List (List ℕ)) → Recipe
  -- so many of the families vote
  votes : ℕ → List (List (List ℕ)) → Recipe

-- ---- what a recipe makes

-- the first family, united with each of the others in turn
abbrev pub IsUnionOfAll : List (List ℕ) → List (List (List ℕ)) → List (List ℕ) → Type 0
IsUnionOfAll first [] made = made ≡ first
IsUnionOfAll first (family ∷ others) made =
    (union : List (List ℕ)) × IsUnion first family union × IsUnionOfAll union others made

-- the first family, multiplied with each of the others in turn, of each product the minimal sets alone
abbrev pub IsProductOfAll : List (List ℕ) → List (List (List ℕ)) → List (List ℕ) → Type 0
IsProductOfAll first [] made = made ≡ first
IsProductOfAll first (family ∷ others) made =
    (product : List (List ℕ)) × (least : List (List ℕ)) × IsProduct first family product × IsMinimal product least
    × IsProductOfAll least others made

-- what the recipe makes of its families
abbrev pub IsMadeBy : Recipe → List (List ℕ) → Type 0
IsMadeBy (unions first others) made = IsUnionOfAll first others made
IsMadeBy (products first others) made = IsProductOfAll first others made
IsMadeBy (votes least families) made = IsVotes least families made

-- ---- the recipe of a node

-- the union, and the product, of all the families. No families have the union without sets, and the
-- product of the empty set alone.
abbrev pub all_united : List (List (List ℕ)) → Recipe
all_united [] = unions [] []
all_united (first ∷ others) = unions first others

-- the product of all the families, which of none has the empty set alone
abbrev pub all_multiplied : List (List (List ℕ)) → Recipe
all_multiplied [] = products ([] ∷ []) []
all_multiplied (first ∷ others) = products first others

-- the first family alone
abbrev pub first_alone : List (List (List ℕ)) → Recipe
first_alone [] = unions [] []
first_alone (first ∷ others) = unions first []

-- a gate, by the families of its inputs. An `fdep` has no family, and counts as one that never fails.
abbrev pub gate_recipe : GateKind → List (List (List ℕ)) → Recipe
gate_recipe And families = all_multiplied families
gate_recipe Or families = all_united families
gate_recipe (Votes least of) families = votes least families
gate_recipe Pand families = all_multiplied families
gate_recipe Por families = first_alone families
gate_recipe Seq families = all_multiplied families
gate_recipe Fdep families = unions [] []
gate_recipe Csp families = all_multiplied families
gate_recipe Wsp families = all_multiplied families
gate_recipe Hsp families = all_multiplied families

-- the kinds that fail with all of their inputs
abbrev pub needs_all : GateKind → Bool
needs_all And = true
needs_all Or = false
needs_all (Votes least of) = false
needs_all Pand = true
needs_all Por = false
needs_all Seq = true
needs_all Fdep = false
needs_all Csp = true
needs_all Wsp = true
needs_all Hsp = true

-- the family of the set of the unit alone
abbrev pub alone : ℕ → List (List ℕ)
alone unit = (unit ∷ []) ∷ []

-- a node, by the families of what it reads: a gate's inputs, or a unit's triggers, with which the
-- family of the unit alone is united. The minimal sets of what the recipe makes are the node's family.
abbrev pub node_recipe : FaultTree → ℕ → List (List (List ℕ)) → Recipe
node_recipe tree node families =
    if is_above_units tree node then gate_recipe (kind_of tree node) families else unions (alone node) families

-- ---- families of nodes

-- each family stands for the node at its place in the list
abbrev pub StandFor : (ℕ → List (List ℕ) → Type 0) → List ℕ → List (List (List ℕ)) → Type 0
StandFor stands [] [] = Unit {0}
StandFor stands [] (family ∷ families) = ⊥
StandFor stands (node ∷ nodes) [] = ⊥
StandFor stands (node ∷ nodes) (family ∷ families) = stands node family × StandFor stands nodes families
