-- The node of a reference of the store, as the store's seat tells it.
use Rattle.std.proofs.Common.{◌≡◌, ◌≢◌, ℕ, zero, suc, ◌-◌, ◌<◌, ◌≤◌, sym, ◌∙◌, subst, inl, inr, arith}
use Rattle.unit_sets.specs.Unit.{IsUnit}
use Rattle.zdd_words.specs.declared.word.Parts.{Parts}
use Rattle.zdd_families.specs.Family.{IsAbove, branch, first_unit}
use Rattle.zdd_families.specs.Map.{Knows, family, level_in}
use Rattle.zdd_families.proofs.MapLemmas.{family-empty, family-unit, level_in-inner}
use Rattle.zdd_families.proofs.Canonical.{first_unit-family, level-above}
use Rattle.zdd_shared_table.specs.Seats.{Seated, IsSoundSeat, map_of}
use Rattle.family_copies.specs.Parts.{ArePartsOf}

node_known : (known : ℕ → ℕ) (r : ℕ) → Knows known r → 2 ≤ r → known r ≢ 0
node_known known r (inl small) inner = absurd (omega arith)
node_known known r (inr has) inner = has

module _ (r : ℕ) (parts : Parts) (inner : 2 ≤ r) (unit : IsUnit parts.level) (filled : parts.hi ≢ 0) where
  parts_at : (s : Seated) → IsSoundSeat s → Knows (map_of s) r → Knows (map_of s) parts.lo → Knows (map_of s) parts.hi
      → parts.level ≡ first_unit (family (map_of s) r)
      → family (map_of s) r ≡ branch parts.level (family (map_of s) parts.lo) (family (map_of s) parts.hi)
      → IsAbove parts.level (family (map_of s) parts.lo) → IsAbove parts.level (family (map_of s) parts.hi)
      → ArePartsOf (map_of s) r parts
  parts_at s sound knows knows_lo knows_hi level is lo_above hi_above = record {
    unit = unit;
    level =
        level_in-inner (map_of s) r inner ∙ sym (first_unit-family (map_of s) r sound.closed
        (node_known (map_of s) r knows inner)) ∙ sym level;
    knows_lo = knows_lo;
    knows_hi = knows_hi;
    filled = filled;
    lo_above =
        level-above (map_of s) parts.level parts.lo sound.closed knows_lo (let u = unit.1 in omega arith) lo_above;
    hi_above =
        level-above (map_of s) parts.level parts.hi sound.closed knows_hi (let u = unit.1 in omega arith) hi_above;
    cut = record { is = is; lo_above = lo_above; hi_above = hi_above };
  }

  pub parts_are : {old new : Seated} → new ≡ old → IsSoundSeat new → Knows (map_of old) r → Knows (map_of new) parts.lo
      → Knows (map_of new) parts.hi
      → parts.level ≡ first_unit (family (map_of old) r)
      → family (map_of new) r ≡ branch parts.level (family (map_of new) parts.lo) (family (map_of new) parts.hi)
      → IsAbove parts.level (family (map_of new) parts.lo) → IsAbove parts.level (family (map_of new) parts.hi)
      → ArePartsOf (map_of old) r parts
  parts_are {new} same sound knows knows_lo knows_hi level is lo_above hi_above =
      subst (λ (s : Seated). ArePartsOf (map_of s) r parts) same
      (parts_at new sound (subst (λ (s : Seated). Knows (map_of s) r) (sym same) knows) knows_lo knows_hi
      (subst (λ (s : Seated). parts.level ≡ first_unit (family (map_of s) r)) (sym same) level) is lo_above hi_above)

-- ---- terminals stand for the same over each map

pub same_terminal : (known known' : ℕ → ℕ) (r : ℕ) → r < 2 → family known r ≡ family known' r
same_terminal known known' zero small = family-empty known ∙ sym (family-empty known')
same_terminal known known' (suc zero) small = family-unit known ∙ sym (family-unit known')
same_terminal known known' (suc (suc r)) small = absurd (omega arith)

-- ---- the measure of both directions

abbrev pub levels_above : (ℕ → ℕ) → ℕ → ℕ
levels_above known r = 4096 - level_in known r

pub fewer : (known : ℕ → ℕ) (r q : ℕ) {x : ℕ} → IsUnit x → level_in known r ≡ x → x < level_in known q
    → levels_above known q < levels_above known r
fewer known r q unit at above = let u = unit.1 in omega arith
