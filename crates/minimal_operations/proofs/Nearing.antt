-- What is left of a family beyond some low units serves in its place where sets without such units are looked at.
use Rattle.std.proofs.Common.{◌≡◌, ℕ, ◌<◌, ◌≤◌, true, List, Contains, sym, ◌∙◌, inl, inr, arith}
use Rattle.unit_sets.specs.UnitList.{is_within}
use Rattle.unit_sets.proofs.UnitListLemmas.{among-from_is_within}
use Rattle.zdd_families.specs.{Map.level_in, Inclusion.includes_one}
use Rattle.zdd_families.proofs.{CutsLemmas.set_above, SetsLemmas.unit_above}
use Rattle.zdd_families.proofs.InclusionLemmas.{Includes-from_test, same_Bool, test-from_part}
use Rattle.family_memory.specs.Memory.{Held, family_in, map_of}
use Rattle.family_memory.specs.Rests.{HasUnitBelow, IsRest}
use Rattle.family_memory.proofs.After.{above}
use Rattle.minimal_operations.specs.{Operands.HasBoth, Rests.Serves}

module _ {held : Held} {a b level rest : ℕ} (has : HasBoth held a b) (is : IsRest held level (family_in held b) rest)
    (near : level_in (map_of held) rest ≤ level_in (map_of held) a) where
  -- no set of a has a low unit, so it includes none with one
  none_low : (set part : List ℕ) → Contains (family_in held a) set → is_within set part ≡ true
      → HasUnitBelow (level_in (map_of held) rest) part → ⊥
  none_low set part there within low =
      let lower : low.0 < level_in (map_of held) a = let h = low.1 in omega (arith, h, near) in
      let past : low.0 < low.0 =
      unit_above low.0 low.0 set
      (set_above low.0 (family_in held a) set (above low.0 a has.sound has.first lower) there)
      (among-from_is_within set part low.0 within low.2) in
      omega (arith, past)

  as_many : (set : List ℕ) → Contains (family_in held a) set → includes_one (family_in held b) set ≡ true
      → includes_one (family_in held rest) set ≡ true
  as_many set there test =
      let one = Includes-from_test (family_in held b) set test in
      elim (is.others one.part one.has) [
        | inl kept ↦ test-from_part (family_in held rest) set one.part kept one.within
        | inr low ↦ absurd (none_low set one.part there one.within low)
      ]

  no_more : (set : List ℕ) → includes_one (family_in held rest) set ≡ true → includes_one (family_in held b) set ≡ true
  no_more set test =
      let one = Includes-from_test (family_in held rest) set test in
      test-from_part (family_in held b) set one.part (is.some one.part one.has) one.within

  same : (set : List ℕ) → Contains (family_in held a) set
      → includes_one (family_in held b) set ≡ includes_one (family_in held rest) set
  same set there =
      same_Bool (includes_one (family_in held b) set) (includes_one (family_in held rest) set) (as_many set there)
      (no_more set)

  pub rest_serves : Serves held a b rest
  rest_serves = record {
    has = is.has;
    same = λ left without. record {
      is_family = without.is_family;
      sets = λ set. (
        λ there. let both = (without.sets set).0 there in (both.0, same set both.0 ∙ both.1),
        λ both. (without.sets set).1 (both.0, sym (same set both.0) ∙ both.1),
      );
    };
  }
