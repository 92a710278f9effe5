-- Maps from references to node words, and the family for which a reference stands over such a map.
-- A map is a function: the word of a reference, or 0 where the map lacks the reference.
use Rattle.std.specs.Prelude.{◌≡◌, ◌≢◌, ◌⊎◌, ℕ, zero, suc, ◌-◌, ◌<◌, ◌≤◌, Bool, not, ◌&&◌, ◌==◌}
use Rattle.std.specs.Prelude.{nat_lt, List, [], ◌∷◌, if◌then◌else◌}
use Rattle.unit_sets.specs.Unit.{IsUnit}
use Rattle.zdd_words.specs.Word.{level_of, lo_of, hi_of}
use Rattle.zdd_families.specs.Family.{branch}

-- the level of a reference: terminals lie above all units, and a reference that the map lacks is at 0
abbrev pub level_in : (ℕ → ℕ) → ℕ → ℕ
level_in known r = if nat_lt r 2 then 4096 else level_of (known r)

-- the terminals, and the references of the map
abbrev pub Knows : (ℕ → ℕ) → ℕ → Type 0
Knows known r = (r < 2) ⊎ (known r ≢ 0)

-- a word that a map may have: its level is a unit, lo and hi are terminals or of the map with a
-- greater level, and hi is not the family without sets
pub record IsNode (known : ℕ → ℕ) (word : ℕ) : Type 0 where
  pub unit : IsUnit (level_of word)
  pub lo_above : level_of word < level_in known (lo_of word)
  pub hi_above : level_of word < level_in known (hi_of word)
  pub filled : hi_of word ≢ 0

-- each word of the map is a node of the map, and no terminal has a word
abbrev pub IsClosed : (ℕ → ℕ) → Type 0
IsClosed known = (r : ℕ) → known r ≢ 0 → (2 ≤ r) × IsNode known (known r)

-- different references have different words
abbrev pub IsUnique : (ℕ → ℕ) → Type 0
IsUnique known = (r q : ℕ) → known r ≢ 0 → known r ≡ known q → r ≡ q

-- the second map has all that the first has
abbrev pub Grown : (ℕ → ℕ) → (ℕ → ℕ) → Type 0
Grown known known' = (r : ℕ) → known r ≢ 0 → known' r ≡ known r

-- ---- the family of a reference

-- whether a reference is no terminal, the map has it, and its lo and hi are terminals or of the map
-- with a greater level
abbrev pub is_inner : (ℕ → ℕ) → ℕ → Bool
is_inner known r =
    (not (nat_lt r 2) && not (known r == 0))
    && (nat_lt (level_of (known r)) (level_in known (lo_of (known r)))
    && nat_lt (level_of (known r)) (level_in known (hi_of (known r))))

-- the family of a terminal: the reference 1 has the empty set alone, any other none
abbrev pub terminal : ℕ → List (List ℕ)
terminal r = if r == 1 then [] ∷ [] else []

-- the family of a reference, going up at most so many levels
abbrev pub family_within : ℕ → (ℕ → ℕ) → ℕ → List (List ℕ)
family_within zero known r = terminal r
family_within (suc n) known r =
    if is_inner known r
    then branch (level_of (known r)) (family_within n known (lo_of (known r))) (family_within n known (hi_of (known r)))
    else terminal r

-- the family of a reference: a unit is below 4096
unfoldable pub family : (ℕ → ℕ) → ℕ → List (List ℕ)
family known r = family_within (4096 - level_in known r) known r

-- the map knows the reference, as this family
abbrev pub KnowsAs : (ℕ → ℕ) → ℕ → List (List ℕ) → Type 0
KnowsAs known r sets = Knows known r × (family known r ≡ sets)

-- ---- the recursion, whatever the number of levels that it may go up

-- what the test says where it holds
pub record IsInner (known : ℕ → ℕ) (r : ℕ) : Type 0 where
  pub above : 2 ≤ r
  pub has : known r ≢ 0
  pub lo_above : level_of (known r) < level_in known (lo_of (known r))
  pub hi_above : level_of (known r) < level_in known (hi_of (known r))
