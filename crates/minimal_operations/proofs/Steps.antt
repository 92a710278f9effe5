-- Facts of families and levels over what a memory holds one call after another.
use Rattle.std.proofs.Common.{Result, ◌≡◌, ℕ, ◌-◌, ◌<◌, ◌≤◌, List, min, sym, ◌∙◌, subst, arith}
use Rattle.std.specs.Result.{IsErrAnd}
use Rattle.std.proofs.lemmas.Result.{err_from_is_err_and}
use Rattle.unit_sets.specs.Unit.{IsUnit}
use Rattle.zdd_words.specs.declared.word.Parts.{Parts}
use Rattle.zdd_families.specs.{Family.IsAbove, Map.level_in}
use Rattle.family_memory.specs.Memory.{Held, Has, IsSound, IsNodeOf, Went, Gave, RanOut, family_in, map_of}
use Rattle.family_memory.proofs.After.{RanOut-then, Went-then, above, still, still_has, still_level}
use Rattle.minimal_operations.specs.Operands.{Answers, IsHigher, OfOneLevel}

module _ {before after : Held} (sound : IsSound before) (went : Went before after) where
  pub above_still : (x r : ℕ) → Has before r → x < level_in (map_of before) r → x < level_in (map_of after) r
  above_still x r has h = subst (λ n. x < n) (sym (still_level sound went r has)) h

-- ---- what an answer still is after a later call

module _ {s0 s1 s2 : Held} {Is : List (List ℕ) → Type 0} {r : ℕ} (gave : Gave Is s0 s1 r) (on : Went s1 s2) where
  pub then_went : Went s0 s2
  then_went = Went-then gave.went on

  pub then_has : Has s2 r
  then_has = still_has gave.went.sound on r gave.has

  pub then_is : Is (family_in s2 r)
  then_is = subst Is (sym (still gave.went.sound on r gave.has)) gave.is

-- what is returned where a later call ran out of room
pub failed : {E : Type 0} (Q : E → Type 0) (Is : List (List ℕ) → Type 0) {s0 s1 s2 : Held} (result : Result ℕ E)
    → IsErrAnd result Q → Went s0 s1 → RanOut s1 s2 → Answers Is s0 s2 result
failed Q Is {s0 = s0} {s1 = s1} {s2 = s2} result is went out =
    let p = err_from_is_err_and result is in rw p.1 (RanOut-then s2 went out)

-- ---- the measures: how many levels there are from one on

abbrev pub levels_from : Held → ℕ → ℕ
levels_from held r = 4096 - level_in (map_of held) r

abbrev pub levels_of_both : Held → ℕ → ℕ → ℕ
levels_of_both held a b = 4096 - min (level_in (map_of held) a) (level_in (map_of held) b)

fewer_numbers : {x y : ℕ} (z : ℕ) → y ≡ x → x < 4096 → x < z → 4096 - z < 4096 - y
fewer_numbers z e unit above = omega arith

pub fewer_from : (before after : Held) (a r : ℕ) {x : ℕ} → level_in (map_of before) a ≡ x → IsUnit x
    → x < level_in (map_of after) r → levels_from after r < levels_from before a
fewer_from before after a r at unit above =
    fewer_numbers (level_in (map_of after) r) at (let u = unit.1 in omega arith) above

fewer_of_two : {x y : ℕ} (y' z z' : ℕ) → (y ≡ x) → x ≤ y' → x < 4096 → x < z → x < z'
    → 4096 - min z z' < 4096 - min y y'
fewer_of_two y' z z' e h unit above above' = omega arith

fewer_of_both : (before after : Held) (a b r q : ℕ) {x : ℕ} → level_in (map_of before) a ≡ x
    → x ≤ level_in (map_of before) b → IsUnit x → x < level_in (map_of after) r → x < level_in (map_of after) q
    → levels_of_both after r q < levels_of_both before a b
fewer_of_both before after a b r q at at' unit above above' =
    fewer_of_two (level_in (map_of before) b) (level_in (map_of after) r)
    (level_in (map_of after) q) at at' (let u = unit.1 in omega arith) above above'

-- two references above a level have fewer levels than there are from it on
pub fewer_than_level : (held : Held) (r q x : ℕ) → IsUnit x → x < level_in (map_of held) r
    → x < level_in (map_of held) q → levels_of_both held r q < 4096 - x
fewer_than_level held r q x unit above above' = let u = unit.1 in omega arith

-- ---- two nodes of one level

module _ {s0 : Held} {a b : ℕ} {one other : Parts} (alike : OfOneLevel s0 a b) (is : IsNodeOf s0 a one)
    (is' : IsNodeOf s0 b other) where
  one_level : other.level ≡ one.level
  one_level = sym is'.level ∙ sym alike.level ∙ is.level

  -- the second at the first's level
  pub at_level : IsNodeOf s0 b (record { level = one.level; lo = other.lo; hi = other.hi })
  at_level = subst (λ x. IsNodeOf s0 b (record { level = x; lo = other.lo; hi = other.hi })) one_level is'

  pub both_fewer : (s : Held) (r q : ℕ) → one.level < level_in (map_of s) r → one.level < level_in (map_of s) q
      → levels_of_both s r q < levels_of_both s0 a b
  both_fewer s r q = fewer_of_both s0 s a b r q is.level (let e = is'.level in let f = one_level in omega arith) is.unit

  pub los_fewer : levels_of_both s0 one.lo other.lo < levels_of_both s0 a b
  los_fewer = both_fewer s0 one.lo other.lo is.lo_above at_level.lo_above

-- ---- a node and a family above its level

module _ {s0 : Held} {a b : ℕ} {one : Parts} (higher : IsHigher s0 a b) (is : IsNodeOf s0 a one) where
  pub higher_level : one.level < level_in (map_of s0) b
  higher_level = subst (λ x. x < level_in (map_of s0) b) is.level higher.level

  pub higher_above : IsAbove one.level (family_in s0 b)
  higher_above = above one.level b higher.has.sound higher.has.second higher_level

  pub higher_fewer : (s : Held) (r q : ℕ) → one.level < level_in (map_of s) r → one.level < level_in (map_of s) q
      → levels_of_both s r q < levels_of_both s0 a b
  higher_fewer s r q = fewer_of_both s0 s a b r q is.level (let h = higher_level in omega arith) is.unit

  pub higher_lo_fewer : levels_of_both s0 one.lo b < levels_of_both s0 a b
  higher_lo_fewer = higher_fewer s0 one.lo b is.lo_above higher_level
