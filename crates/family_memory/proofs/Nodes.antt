-- The node of a reference, by its word.
use Rattle.std.proofs.Common.{◌≡◌, ◌≢◌, ℕ, ◌<◌, ◌≤◌, ◌/◌, ◌^◌, length, get_or, sym, ◌∙◌, ap, subst, inl, inr, arith}
use Rattle.std.proofs.{lemmas.Bool.cases_lt, lemmas.List.get_or_past, lemmas.List.get_or_read}
use Rattle.zdd_words.specs.Word.{level_of, lo_of, hi_of}
use Rattle.zdd_words.specs.declared.word.Parts.{Parts}
use Rattle.zdd_families.specs.Map.{Knows, IsNode, level_in}
use Rattle.zdd_families.proofs.MapLemmas.{family-node, level_in-inner, lo_known, hi_known}
use Rattle.zdd_families.proofs.Canonical.{lo_units, hi_units}
use Rattle.family_memory.specs.Memory.{Held, Has, IsSound, IsNodeOf, map_of}

-- a known reference is one that the memory has
pub has_known : {held : Held} (r : ℕ) → IsSound held → Knows (map_of held) r → Has held r
has_known r sound (inl small) = let few = sound.terminals in omega arith
has_known {held} r sound (inr has) =
    elim (cases_lt r (length held.words)) [
      | inl there ↦ there
      | inr past ↦ absurd (has (get_or_past held.words r 0 past))
    ]

module _ {held : Held} (r : ℕ) (sound : IsSound held) (has : Has held r) (inner : 2 ≤ r) where
  filled : map_of held r ≢ 0
  filled = sound.filled r inner has

  node : IsNode (map_of held) (map_of held r)
  node = (sound.closed r filled).1

  word_parts : IsNodeOf held r (record {
    level = level_of (map_of held r);
    lo = lo_of (map_of held r);
    hi =
        hi_of (map_of held r);
  })
  word_parts = record {
    unit = node.unit;
    level = level_in-inner (map_of held) r inner;
    has_lo = has_known (lo_of (map_of held r)) sound (lo_known node);
    has_hi = has_known (hi_of (map_of held r)) sound (hi_known node);
    filled = node.filled;
    lo_above = node.lo_above;
    hi_above = node.hi_above;
    cut = record {
      is = family-node (map_of held) r sound.closed filled;
      lo_above = lo_units (map_of held) (map_of held r) sound.closed node;
      hi_above = hi_units sound.closed node;
    };
  }

  pub unit_of : 1 ≤ level_of (map_of held r)
  unit_of = node.unit.0

  pub parts_of : (parts : Parts) → parts.level ≡ level_of (map_of held r) → parts.lo ≡ lo_of (map_of held r)
      → parts.hi ≡ hi_of (map_of held r) → IsNodeOf held r parts
  parts_of parts e f g =
      subst (λ level. IsNodeOf held r (record { level = level; lo = parts.lo; hi = parts.hi })) (sym e)
      (subst (λ lo. IsNodeOf held r (record { level = level_of (map_of held r); lo = lo; hi = parts.hi })) (sym f)
      (subst (λ hi. IsNodeOf held r (record { level = level_of (map_of held r); lo = lo_of (map_of held r); hi = hi }))
      (sym g) word_parts))

-- a word that was read is the reference's
pub read_word : {inside held : Held} {n r word : ℕ} → inside ≡ held → n ≡ r → Has held r
    → word ≡ get_or inside.words n word → word ≡ map_of held r
read_word {inside} {n} {r} {word} same e has read =
    let there : r < length inside.words = subst (λ (h : Held). Has h r) (sym same) has in
    subst (λ (h : Held). word ≡ map_of h r) same
    (subst (λ q. word ≡ get_or inside.words q 0) e (get_or_read inside.words n word (omega arith) read 0))

pub level_read : (held : Held) (r : ℕ) {word : ℕ} → word ≡ map_of held r → 2 ≤ r
    → word / 2 ^ 52 ≡ level_in (map_of held) r
unfolding level_of
level_read held r same inner = ap (λ w. w / 2 ^ 52) same ∙ sym (level_in-inner (map_of held) r inner)
