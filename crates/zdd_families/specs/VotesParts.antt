-- A list of families has votes, and each of their parts is due to them or a part of one of the families.
use Rattle.std.specs.Prelude.{ℕ, List, [], ◌∷◌, Contains}
use Rattle.zdd_families.specs.{Nodes.IsReached, Spans.Spans}

-- each family of the list has units from above the one number to the other alone
abbrev pub SpanEach : ℕ → ℕ → List (List (List ℕ)) → Type 0
SpanEach low size [] = Unit {0}
SpanEach low size (family ∷ families) = Spans low size family × SpanEach low size families

-- a part of one of the families
pub record PartOfOne (families : List (List (List ℕ))) (part : List (List ℕ)) : Type 0 where
  pub family : List (List ℕ)
  pub has : Contains families family
  pub reached : IsReached family part
