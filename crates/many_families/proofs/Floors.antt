-- The floor once a family has voted that lies below all others.
use Rattle.std.proofs.Common.{◌≡◌, ◌≢◌, ℕ, zero, suc, ◌-◌, ◌<◌, ◌≤◌, [], Contains, min, refl, subst, arith}
use Rattle.unit_sets.proofs.Sorted.{Contains-nil}
use Rattle.zdd_families.specs.Map.{level_in}
use Rattle.zdd_families.proofs.{MapLemmas.family-empty, CutsLemmas.set_above, SetsLemmas.unit_above}
use Rattle.zdd_families.specs.Units.{HasUnit, IsLastUnit, LiesBelow}
use Rattle.family_memory.specs.Memory.{Held, Has, IsSound, family_in, map_of}
use Rattle.family_memory.proofs.After.{above}
use Rattle.minimal_operations.proofs.Ends.{node_lacks}
use Rattle.many_families.specs.Lists.{IsBetween}

-- but for the unit of products every minimal family lacks the empty set
lacks_empty : {held : Held} (r : ℕ) → IsSound held → Has held r → r ≢ 1 → Contains (family_in held r) [] → ⊥
lacks_empty {held} zero sound has other empty =
    Contains-nil [] (subst (λ f. Contains f []) (family-empty (map_of held)) empty)
lacks_empty (suc zero) sound has other empty = other refl
lacks_empty (suc (suc r)) sound has other empty = node_lacks (suc (suc r)) sound has (omega arith) empty

no_lower : {held : Held} (r unit : ℕ) → IsSound held → Has held r → 1 ≤ level_in (map_of held) r
    → HasUnit (family_in held r) unit → level_in (map_of held) r ≤ unit
no_lower {held} r unit sound has some has_unit =
    let below : ℕ = level_in (map_of held) r - 1 in
    let h : below < unit =
    unit_above below unit has_unit.0
    (set_above below (family_in held r) has_unit.0 (above below r sound has (omega (arith, some))) has_unit.1)
    has_unit.2 in omega (arith, h, some)

pub between : {held : Held} {r last floor lower : ℕ} → IsSound held → Has held r → r ≢ 1
    → IsLastUnit (family_in held r) last → last < floor → lower ≡ min (level_in (map_of held) r) floor → 1 ≤ lower
    → IsBetween lower floor (family_in held r)
between {r} sound has other is high low some = record {
  order = omega (arith, low);
  low = λ unit has_unit.
      let h = no_lower r unit sound has (omega (arith, low, some)) has_unit in omega (arith, h, low);
  high = λ unit has_unit. let h = is.most unit has_unit in omega (arith, h, high);
  lacks = lacks_empty r sound has other;
}

-- a family whose last unit is below the level of another lies below that one
pub lower_lies_below : {held : Held} (a b : ℕ) {last : ℕ} → IsSound held → Has held b
    → IsLastUnit (family_in held a) last
    → last < level_in (map_of held) b → LiesBelow (family_in held a) (family_in held b)
lower_lies_below a b sound has is high unit has_unit =
    let h = is.most unit has_unit in above unit b sound has (omega (arith, h, high))
