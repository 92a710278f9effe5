-- Families over closed maps: they grow with the map unchanged, and tell their references.
use Rattle.std.specs.Prelude.{◌≡◌, ◌≢◌, ℕ, zero, suc, ◌<◌, ◌≤◌, []}
use Rattle.std.proofs.Common.{refl, sym, ◌∙◌, ap, subst, inl, inr, arith}
use Rattle.zdd_words.specs.Word.{level_of, lo_of, hi_of}
use Rattle.zdd_words.proofs.WordLemmas.{same_word}
use Rattle.zdd_families.specs.Family.{IsFamily, IsAbove, first_unit, sets_with, sets_without}
use Rattle.zdd_families.proofs.FamilyLemmas.{IsFamily-nil}
use Rattle.zdd_families.proofs.FamilyLemmas.{IsFamily-unit, IsFamily-branch, IsAbove-branch}
use Rattle.zdd_families.proofs.FamilyLemmas.{branch-filled, unit_of_branch}
use Rattle.zdd_families.specs.Due.{Splits}
use Rattle.zdd_families.proofs.CutsLemmas.{cut_without, cut_with, split_first, split-unit, split-lo, split-hi}
use Rattle.zdd_families.specs.Map.{level_in, Knows, IsNode, IsClosed, IsUnique, Grown, family}
use Rattle.zdd_families.proofs.MapLemmas.{family-empty}
use Rattle.zdd_families.proofs.MapLemmas.{family-unit, family-node, by_levels, level_in-inner, level_in-terminal}
use Rattle.zdd_families.proofs.MapLemmas.{lo_known}
use Rattle.zdd_families.proofs.MapLemmas.{hi_known}

-- ---- a larger map gives the same family

node_grown : (known known' : ℕ → ℕ) (r : ℕ) → IsClosed known → IsClosed known' → Grown known known' → known r ≢ 0
    → family known' (lo_of (known r)) ≡ family known (lo_of (known r))
    → family known' (hi_of (known r)) ≡ family known (hi_of (known r)) → family known' r ≡ family known r
node_grown known known' r closed closed' grown has e f =
    rw (
      family-node known' r closed' (λ absent. has (sym (grown r has) ∙ absent)),
      family-node known r closed has,
      grown r has,
      e,
      f,
    )

pub family-grown : (known known' : ℕ → ℕ) (r : ℕ) → IsClosed known → IsClosed known' → Grown known known'
    → Knows known r → family known' r ≡ family known r
family-grown known known' r closed closed' grown knows =
    by_levels known closed (λ q. family known' q ≡ family known q)
    (family-empty known' ∙ sym (family-empty known))
    (family-unit known' ∙ sym (family-unit known))
    (λ q has e f. node_grown known known' q closed closed' grown has e f)
    r knows

-- ---- levels and units

-- a reference's family has only units above what its level is above
above_node : (known : ℕ → ℕ) (x r : ℕ) → IsClosed known → known r ≢ 0 → x < level_in known r
    → ((y : ℕ) → y < level_in known (lo_of (known r)) → IsAbove y (family known (lo_of (known r))))
    → ((y : ℕ) → y < level_in known (hi_of (known r)) → IsAbove y (family known (hi_of (known r))))
    → IsAbove x (family known r)
above_node known x r closed has h lo_is hi_is =
    let node = closed r has in
    let e = level_in-inner known r node.0 in
    rw (family-node known r closed has) (IsAbove-branch _ _ _ _ (omega (arith, e)) (lo_is _ node.1.lo_above)
    (hi_is _ node.1.hi_above))

pub family-above : (known : ℕ → ℕ) (x r : ℕ) → IsClosed known → Knows known r → x < level_in known r
    → IsAbove x (family known r)
family-above known x r closed knows h =
    by_levels known closed (λ q. (y : ℕ) → y < level_in known q → IsAbove y (family known q))
    (λ y _. subst (IsAbove y) (sym (family-empty known)) tt)
    (λ y _. subst (IsAbove y) (sym (family-unit known)) (tt, tt))
    (λ q has lo_is hi_is y k. above_node known y q closed has k lo_is hi_is)
    r knows x h

-- lo's and hi's units are above the level of their node
pub lo_units : (known : ℕ → ℕ) (word : ℕ) → IsClosed known → IsNode known word
    → IsAbove (level_of word) (family known (lo_of word))
lo_units known word closed node = family-above known (level_of word) (lo_of word) closed (lo_known node) node.lo_above

pub hi_units : {known : ℕ → ℕ} {word : ℕ} → IsClosed known → IsNode known word
    → IsAbove (level_of word) (family known (hi_of word))
hi_units {known} {word} closed node =
    family-above known (level_of word) (hi_of word) closed (hi_known node) node.hi_above

-- the family of a reference is one: rising sets in lexicographic order
family_node : (known : ℕ → ℕ) (r : ℕ) → IsClosed known → known r ≢ 0 → IsFamily (family known (lo_of (known r)))
    → IsFamily (family known (hi_of (known r))) → IsFamily (family known r)
family_node known r closed has is is' =
    let node = (closed r has).1 in
    rw (family-node known r closed has) (IsFamily-branch _ _ _ is is' (lo_units known (known r) closed node)
    (hi_units closed node))

pub IsFamily-family : (known : ℕ → ℕ) (r : ℕ) → IsClosed known → Knows known r → IsFamily (family known r)
IsFamily-family known r closed knows =
    by_levels known closed (λ q. IsFamily (family known q))
    (subst IsFamily (sym (family-empty known)) IsFamily-nil)
    (subst IsFamily (sym (family-unit known)) IsFamily-unit)
    (λ q has is is'. family_node known q closed has is is')
    r knows

-- a known reference but EMPTY has sets
filled_node : (known : ℕ → ℕ) (r : ℕ) → IsClosed known → known r ≢ 0
    → (hi_of (known r) ≢ 0 → family known (hi_of (known r)) ≢ []) → family known r ≢ []
filled_node known r closed has hi_filled e =
    branch-filled _ _ _ (hi_filled (closed r has).1.filled) (sym (family-node known r closed has) ∙ e)

unit_filled : {G : Type 0} (known : ℕ → ℕ) → family known 1 ≡ [] → G
unit_filled known e = let u = family-unit known in absurd cc

pub family-filled : (known : ℕ → ℕ) (r : ℕ) → IsClosed known → Knows known r → r ≢ 0 → family known r ≢ []
family-filled known r closed knows filled =
    by_levels known closed (λ q. q ≢ 0 → family known q ≢ [])
    (λ other e. other refl)
    (λ _ e. unit_filled known e)
    (λ q has _ hi_filled _. filled_node known q closed has hi_filled)
    r knows filled

pub hi_filled : (known : ℕ → ℕ) (word : ℕ) → IsClosed known → IsNode known word → family known (hi_of word) ≢ []
hi_filled known word closed node = family-filled known (hi_of word) closed (hi_known node) node.filled

module _ (known : ℕ → ℕ) (r : ℕ) (closed : IsClosed known) (has : known r ≢ 0) where
  -- a known node splits its family at its level into those of lo and hi
  pub Splits-node : Splits (level_of (known r)) (family known r) (family known (lo_of (known r)))
      (family known (hi_of (known r)))
  Splits-node =
      let node = (closed r has).1 in
      record {
        cut = record {
          is = family-node known r closed has;
          lo_above = lo_units known (known r) closed node;
          hi_above = hi_units closed node;
        };
        some_with = hi_filled known (known r) closed node;
      }

  -- the level of a reference is the first unit of its family
  pub first_unit-family : first_unit (family known r) ≡ level_of (known r)
  first_unit-family = split_first Splits-node

  -- lo has the sets without the level
  pub sets_without-family : sets_without (level_of (known r)) (family known r) ≡ family known (lo_of (known r))
  sets_without-family = cut_without Splits-node.cut

  -- hi has the sets with the level, each without it
  pub sets_with-family : sets_with (level_of (known r)) (family known r) ≡ family known (hi_of (known r))
  sets_with-family = cut_with Splits-node.cut

-- a reference whose family's units are all above x has a level above x
pub level-above : (known : ℕ → ℕ) (x r : ℕ) → IsClosed known → Knows known r → x < 4096 → IsAbove x (family known r)
    → x < level_in known r
level-above known x r closed (inl below) h above = let e = level_in-terminal known r below in omega (arith, e)
level-above known x r closed (inr has) h above =
    let e = level_in-inner known r (closed r has).0 in
    let k : x < level_of (known r) =
    unit_of_branch _ _ _ _ (Splits-node known r closed has).some_with
    (subst (IsAbove x) (family-node known r closed has) above) in
    omega (arith, e)

-- ---- equal families, equal references

-- where a node's family is that of a reference, the reference is no terminal
node_known : (known : ℕ → ℕ) (r q : ℕ) → IsClosed known → known r ≢ 0 → Knows known q → family known r ≡ family known q
    → known q ≢ 0
node_known known r q closed has (inr has') same = has'
node_known known r zero closed has (inl below) same =
    absurd (branch-filled _ _ _ (hi_filled known (known r) closed (closed r has).1)
    (sym (family-node known r closed has) ∙ same ∙ family-empty known))
node_known known r (suc zero) closed has (inl below) same =
    let e : level_of (known r) ≡ 0 =
    sym (first_unit-family known r closed has) ∙ ap first_unit (same ∙ family-unit known) in
    absurd (let unit = (closed r has).1.unit in omega (arith, e, unit.0))
node_known known r (suc (suc q)) closed has (inl below) same = absurd (omega arith)

abbrev Tells : (ℕ → ℕ) → ℕ → Type 0
Tells known r = (q : ℕ) → Knows known q → family known r ≡ family known q → r ≡ q

tells_node : (known : ℕ → ℕ) {r q : ℕ} → IsClosed known → IsUnique known → known r ≢ 0 → known q ≢ 0
    → Tells known (lo_of (known r)) → Tells known (hi_of (known r)) → family known r ≡ family known q → r ≡ q
tells_node known {r} {q} closed unique has has' lo_tells hi_tells same =
    let s = Splits-node known r closed has in
    let s' =
    subst (λ f. Splits (level_of (known q)) f (family known (lo_of (known q))) (family known (hi_of (known q))))
    (sym same) (Splits-node known q closed has') in
    let node = (closed q has').1 in
    unique r q has (same_word _ _ (split-unit s s') (lo_tells _ (lo_known node) (split-lo s s'))
    (hi_tells _ (hi_known node) (split-hi s s')))

terminals : (known : ℕ → ℕ) (r q : ℕ) → r < 2 → q < 2 → family known r ≡ family known q → r ≡ q
terminals known zero zero below below' same = refl
terminals known zero (suc zero) below below' same = unit_filled known (sym same ∙ family-empty known)
terminals known (suc zero) zero below below' same = unit_filled known (same ∙ family-empty known)
terminals known (suc zero) (suc zero) below below' same = refl
terminals known (suc (suc r)) q below below' same = absurd (omega arith)
terminals known r (suc (suc q)) below below' same = absurd (omega arith)

tells_terminal : (known : ℕ → ℕ) {r q : ℕ} → IsClosed known → r < 2 → Knows known q → family known r ≡ family known q
    → r ≡ q
tells_terminal known {r} {q} closed below (inl below') same = terminals known r q below below' same
tells_terminal known {r} {q} closed below (inr has) same =
    let above : 2 ≤ r = (closed r (node_known known q r closed has (inl below) (sym same))).0 in
    absurd (omega (arith, above, below))

-- over a closed map in which different references have different words, equal families have equal references
pub family-same : (known : ℕ → ℕ) (r q : ℕ) → IsClosed known → IsUnique known → Knows known r → Knows known q
    → family known r ≡ family known q → r ≡ q
family-same known r q closed unique knows knows' same =
    by_levels known closed (Tells known) (λ p k e. tells_terminal known closed (omega arith) k e)
    (λ p k e. tells_terminal known closed (omega arith) k e)
    (λ p has lo_tells hi_tells p' k e. tells_node known closed unique has (node_known known p p' closed has k e)
    lo_tells hi_tells e)
    r knows q knows' same
