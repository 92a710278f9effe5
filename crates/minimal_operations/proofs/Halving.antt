-- A reference at a unit below all its units, and nodes without sets that have their level.
use Rattle.std.proofs.Common.{◌≡◌, ◌≢◌, ℕ, ◌<◌, ◌≤◌, sym, ◌∙◌, ap, subst, arith}
use Rattle.unit_sets.specs.Unit.{IsUnit}
use Rattle.zdd_words.specs.declared.word.Parts.{Parts}
use Rattle.zdd_families.specs.{Family.branch, Map.level_in, Cuts.Cuts}
use Rattle.zdd_families.proofs.{MapLemmas.level_in-terminal, MapLemmas.family-empty, CutsLemmas.cut_above}
use Rattle.zdd_families.proofs.{CutsLemmas.branch-none, WithoutLemmas.without-lower}
use Rattle.family_memory.specs.Memory.{Held, Has, IsSound, IsNodeOf, Gave, family_in, map_of}
use Rattle.family_memory.proofs.After.{above, Gave-there}
use Rattle.minimal_operations.specs.{Halves.IsHalf, Operands.HasBoth, Rests.Serves}

pub half_whole : {held : Held} {x r : ℕ} → IsSound held → IsUnit x → Has held r → x ≤ level_in (map_of held) r
    → level_in (map_of held) r ≢ x → IsHalf held x r (record { lo = r; hi = 0 })
half_whole {held} {x} {r} sound unit has most differs =
    let higher : x < level_in (map_of held) r = omega arith in
    record {
      has_lo = has;
      has_hi = let few = sound.terminals in omega arith;
      lo_above = higher;
      hi_above =
          let e : level_in (map_of held) 0 ≡ 4096 = level_in-terminal (map_of held) 0 (omega arith) in let u = unit.1 in
          omega (arith, e, u);
      cut =
          subst (λ hi. Cuts x (family_in held r) (family_in held r) hi) (sym (family-empty (map_of held)))
          (cut_above x (family_in held r) (above x r sound has higher));
    }

pub node_without : {held : Held} (x : ℕ) {lo hi : ℕ} → IsSound held → Has held lo → hi ≡ 0
    → Gave (λ f. f ≡ branch x (family_in held lo) (family_in held hi)) held held lo
node_without {held} x {lo} sound has none =
    Gave-there sound has (sym (ap (branch x (family_in held lo)) (ap (family_in held) none ∙ family-empty (map_of held))
    ∙ branch-none x (family_in held lo)))

-- the part without its level serves in place of a node of a lower level
pub part_serves : {held : Held} {a r : ℕ} {parts : Parts} → HasBoth held a r → IsNodeOf held r parts
    → level_in (map_of held) r < level_in (map_of held) a → Serves held a r parts.lo
part_serves {held = held} {a = a} {r = r} {parts = parts} has is lower = record {
  has = is.has_lo;
  same = λ left without.
      without-lower parts.level (family_in held a) (family_in held r) (family_in held parts.lo)
      (family_in held parts.hi) left is.cut
      (above parts.level a has.sound has.first (let e = is.level in omega arith)) without;
}
