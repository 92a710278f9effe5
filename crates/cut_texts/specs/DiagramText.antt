-- The text of the command `diagram`: the tree, how its cut sets were found, how many they are and how many members
-- they have.
use Rattle.std.specs.Prelude.{ℕ, List, ◌++◌, length, sum_by, codes, decimal, Option, Some, None}
use Rattle.fault_definitions.specs.Tree.{FaultTree}
use Rattle.cut_texts.specs.CutsText.{tree_line}

-- by a diagram of so many nodes, or by lists
abbrev pub method_text : Option ℕ → List ℕ
method_text None = codes "method lists\n"
method_text (Some nodes) = codes "method diagram\nnodes: " ++ (decimal nodes ++ codes "\n")

-- the sum of the sizes of the cut sets
abbrev pub member_count : List (List ℕ) → ℕ
member_count cuts = sum_by (λ cut. length cut) cuts

-- `cuts: C` and `members: M`
abbrev pub counts_text : ℕ → ℕ → List ℕ
counts_text cuts members = codes "cuts: " ++ (decimal cuts ++ (codes "\nmembers: " ++ (decimal members ++ codes "\n")))

-- the whole text: the tree, how its cut sets were found, how many they are, and how many members they have in all
abbrev pub sizes_text : FaultTree → ℕ → ℕ → Option ℕ → List ℕ
sizes_text tree cuts members nodes = tree_line tree ++ (method_text nodes ++ counts_text cuts members)

-- the text for these cut sets
abbrev pub diagram_text : FaultTree → List (List ℕ) → Option ℕ → List ℕ
diagram_text tree cuts nodes = sizes_text tree (length cuts) (member_count cuts) nodes
