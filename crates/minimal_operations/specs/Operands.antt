-- What the operations work on, and what they answer.
use Rattle.std.specs.Prelude.{MatchResult, Result, ◌≡◌, ℕ, ◌<◌, ◌≤◌, List}
use Rattle.zdd_families.specs.Map.{level_in}
use Rattle.family_memory.specs.Memory.{Held, Has, IsSound, Gave, RanOut, family_in, map_of}

-- a sound memory has both references
pub record HasBoth (held : Held) (a b : ℕ) : Type 0 where
  pub sound : IsSound held
  pub first : Has held a
  pub second : Has held b

-- the same of two nodes
pub record HasNodes (held : Held) (a b : ℕ) : Type 0 where
  pub has : HasBoth held a b
  pub first : 2 ≤ a
  pub second : 2 ≤ b

-- two nodes of one level
pub record OfOneLevel (held : Held) (a b : ℕ) : Type 0 where
  pub nodes : HasNodes held a b
  pub level : level_in (map_of held) a ≡ level_in (map_of held) b

-- two nodes, of which the second has no unit below all of the first's
pub record NoneLower (held : Held) (a b : ℕ) : Type 0 where
  pub nodes : HasNodes held a b
  pub level : level_in (map_of held) a ≤ level_in (map_of held) b

-- a node, and a reference above its level
pub record IsHigher (held : Held) (a b : ℕ) : Type 0 where
  pub has : HasBoth held a b
  pub inner : 2 ≤ a
  pub level : level_in (map_of held) a < level_in (map_of held) b

-- an answer is a reference to such a family, or that the room ran out
abbrev pub Answers : {E : Type 0} → (List (List ℕ) → Type 0) → Held → Held → Result ℕ E → Type 0
Answers Is before after result = MatchResult result (Gave Is before after) (λ _. RanOut before after)

-- the same, where the family is an operation's of two others
abbrev pub AnswersOf : {E : Type 0} → (List (List ℕ) → List (List ℕ) → List (List ℕ) → Type 0) → Held → Held → ℕ → ℕ
    → Result ℕ E → Type 0
AnswersOf Is before after a b result = Answers (Is (family_in before a) (family_in before b)) before after result

-- the reference stands for the operation's family as it is
abbrev pub EndsIn : (List (List ℕ) → List (List ℕ) → List (List ℕ) → Type 0) → Held → ℕ → ℕ → ℕ → Type 0
EndsIn Is held a b r = Gave (Is (family_in held a) (family_in held b)) held held r

-- the same in each memory that has both operands
abbrev pub EndsAs : (List (List ℕ) → List (List ℕ) → List (List ℕ) → Type 0) → ℕ → ℕ → ℕ → Type 0
EndsAs Is a b r = (held : Held) → HasBoth held a b → EndsIn Is held a b r
