-- The nodes of a family: the families that splitting at least units reaches, each counted once.
use Rattle.std.specs.Prelude.{◌≡◌, ◌≢◌, ◌↔◌, ℕ, List, length, Contains}
use Rattle.zdd_words.specs.Word.{lo_of, hi_of}
use Rattle.zdd_families.specs.{Counting.EachOnce, Due.Splits}

-- a family that splitting reaches: the family itself where its sets have units, and what its parts reach
pub data IsReached : List (List ℕ) → List (List ℕ) → Type 0 where
  reached_itself : {f : List (List ℕ)} {x : ℕ} {lo hi : List (List ℕ)} → Splits x f lo hi → IsReached f f
  reached_lo : {f g : List (List ℕ)} {x : ℕ} {lo hi : List (List ℕ)} → Splits x f lo hi → IsReached lo g → IsReached f g
  reached_hi : {f g : List (List ℕ)} {x : ℕ} {lo hi : List (List ℕ)} → Splits x f lo hi → IsReached hi g → IsReached f g

-- so many different families are reached
pub record IsNodeCount (f : List (List ℕ)) (count : ℕ) : Type 0 where
  pub members : List (List (List ℕ))
  pub each_once : EachOnce members
  pub reached : (g : List (List ℕ)) → Contains members g ↔ IsReached f g
  pub counted : count ≡ length members

-- a node that a reference reaches over a map
pub data Reaches (known : ℕ → ℕ) : ℕ → ℕ → Type 0 where
  reaches_itself : {r : ℕ} → known r ≢ 0 → Reaches known r r
  reaches_lo : {r q : ℕ} → known r ≢ 0 → Reaches known (lo_of (known r)) q → Reaches known r q
  reaches_hi : {r q : ℕ} → known r ≢ 0 → Reaches known (hi_of (known r)) q → Reaches known r q
