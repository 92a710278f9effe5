-- What follows from the definitions of `specs/Nodes`.
use Rattle.std.specs.Prelude.{◌≢◌, ℕ, List, take, Contains}
use Rattle.std.specs.List.{AllByRecursion}
use Rattle.zdd_words.specs.Word.{lo_of, hi_of}
use Rattle.zdd_families.specs.{Counting.EachOnce, Nodes.Reaches}

-- a node of the map is among those that were met
abbrev pub IsMet : (ℕ → ℕ) → List ℕ → ℕ → Type 0
IsMet known nodes r = known r ≢ 0 → Contains nodes r

-- both parts of a node were met
abbrev pub HasParts : (ℕ → ℕ) → List ℕ → ℕ → Type 0
HasParts known nodes r = IsMet known nodes (lo_of (known r)) × IsMet known nodes (hi_of (known r))

-- the nodes that were met from a root on: those before a place with their parts
pub record HasMet (known : ℕ → ℕ) (root : ℕ) (nodes : List ℕ) (place : ℕ) : Type 0 where
  pub once : EachOnce nodes
  pub reached : AllByRecursion (Reaches known root) nodes
  pub from_root : IsMet known nodes root
  pub parts : AllByRecursion (HasParts known nodes) (take place nodes)
