-- The answers that are known at once are right.
use Rattle.std.proofs.Common.{◌≡◌, ◌≢◌, ℕ, ◌<◌, ◌≤◌, List, [], ◌∷◌, Contains, refl, sym, ◌∙◌, ap, subst, arith}
use Rattle.zdd_words.specs.Word.{level_of, lo_of}
use Rattle.zdd_families.specs.{Map.IsNode, Without.IsWithout, Least.IsLeastUnion, Least.IsLeastProduct}
use Rattle.zdd_families.proofs.MapLemmas.{family-empty, family-unit, family-node}
use Rattle.zdd_families.proofs.Canonical.{lo_units, hi_units, hi_filled}
use Rattle.zdd_families.proofs.WithoutLemmas.{without-none, without-nothing, without-unit}
use Rattle.zdd_families.proofs.Ends.{least_union-swap, least_product-swap, least_union-none, least_union-itself}
use Rattle.zdd_families.proofs.Ends.{least_union-unit, least_product-none, least_product-itself, least_product-unit}
use Rattle.zdd_families.proofs.Ends.{without-itself, unit-left, no_empty_set}
use Rattle.family_memory.specs.Memory.{Held, Has, IsSound, family_in, map_of}
use Rattle.family_memory.proofs.After.{is_family, Gave-there}
use Rattle.minimal_operations.specs.Operands.{EndsIn, HasBoth}
use Rattle.minimal_operations.proofs.Swapping.{end_swapped}

-- a node's family lacks the empty set
pub node_lacks : {held : Held} (r : ℕ) → IsSound held → Has held r → 2 ≤ r → Contains (family_in held r) [] → ⊥
node_lacks {held} r sound has inner =
    let word : map_of held r ≢ 0 = sound.filled r inner has in
    let node : IsNode (map_of held) (map_of held r) = (sound.closed r word).1 in
    no_empty_set (level_of (map_of held r)) (family_in held (lo_of (map_of held r))) (record {
      is = family-node (map_of held) r sound.closed word;
      lo_above = lo_units (map_of held) (map_of held r) sound.closed node;
      hi_above = hi_units sound.closed node;
    })
    (sound.antichains r has) (hi_filled (map_of held) (map_of held r) sound.closed node)

pub none : (held : Held) (r : ℕ) → r ≡ 0 → family_in held r ≡ []
none held r e = ap (family_in held) e ∙ family-empty (map_of held)

pub unit : (held : Held) {r : ℕ} → r ≡ 1 → family_in held r ≡ [] ∷ []
unit held e = ap (family_in held) e ∙ family-unit (map_of held)

module _ {held : Held} {a b : ℕ} (has : HasBoth held a b) where
  abbrev f : List (List ℕ)
  f = family_in held a

  abbrev g : List (List ℕ)
  g = family_in held b

  pub swap : HasBoth held b a
  swap = record { sound = has.sound; first = has.second; second = has.first }

  -- the answer is the second operand, the first, no sets or the empty set alone
  is_second : (Is : List (List ℕ) → List (List ℕ) → List (List ℕ) → Type 0) → Is f g g → EndsIn Is held a b b
  is_second Is fact = Gave-there has.sound has.second fact

  is_first : (Is : List (List ℕ) → List (List ℕ) → List (List ℕ) → Type 0) → Is f g f → EndsIn Is held a b a
  is_first Is fact = Gave-there has.sound has.first fact

  small : (Is : List (List ℕ) → List (List ℕ) → List (List ℕ) → Type 0) {r : ℕ} → r < 2 → Is f g (family_in held r)
      → EndsIn Is held a b r
  small Is h fact = Gave-there has.sound (let few = has.sound.terminals in omega arith) fact

  pub union_none : a ≡ 0 → EndsIn IsLeastUnion held a b b
  union_none e =
      is_second IsLeastUnion
      (subst (λ x. IsLeastUnion x g g) (sym (none held a e)) (least_union-none (has.sound.antichains b has.second)))

  pub union_itself : a ≡ b → EndsIn IsLeastUnion held a b a
  union_itself e =
      is_first IsLeastUnion
      (subst (λ x. IsLeastUnion f x f) (ap (family_in held) e) (least_union-itself (has.sound.antichains a has.first)))

  pub union_unit : a ≡ 1 → EndsIn IsLeastUnion held a b 1
  union_unit e =
      small IsLeastUnion (omega arith) (subst (λ x. IsLeastUnion x g (family_in held 1)) (sym (unit held e))
      (subst (λ x. IsLeastUnion ([] ∷ []) g x) (sym (unit held {r = 1} refl)) (least_union-unit g)))

  pub product_none : a ≡ 0 → EndsIn IsLeastProduct held a b 0
  product_none e =
      small IsLeastProduct (omega arith) (subst (λ x. IsLeastProduct x g (family_in held 0)) (sym (none held a e))
      (subst (λ x. IsLeastProduct [] g x) (sym (none held 0 refl)) (least_product-none g)))

  pub product_itself : a ≡ b → EndsIn IsLeastProduct held a b a
  product_itself e =
      is_first IsLeastProduct
      (subst (λ x. IsLeastProduct f x f) (ap (family_in held) e)
      (least_product-itself (has.sound.antichains a has.first)))

  pub product_unit : a ≡ 1 → EndsIn IsLeastProduct held a b b
  product_unit e =
      is_second IsLeastProduct (subst (λ x. IsLeastProduct x g g) (sym (unit held e))
      (least_product-unit (has.sound.antichains b has.second)))

  pub nothing_left : IsWithout f g [] → EndsIn IsWithout held a b 0
  nothing_left fact = small IsWithout (omega arith) (subst (IsWithout f g) (sym (none held 0 refl)) fact)

  pub without_none : a ≡ 0 → EndsIn IsWithout held a b 0
  without_none e = nothing_left (subst (λ x. IsWithout x g []) (sym (none held a e)) (without-none g))

  pub without_unit : b ≡ 1 → EndsIn IsWithout held a b 0
  without_unit e = nothing_left (subst (λ x. IsWithout f x []) (sym (unit held e)) (without-unit f))

  pub without_itself : a ≡ b → EndsIn IsWithout held a b 0
  without_itself e = nothing_left (subst (λ x. IsWithout f x []) (ap (family_in held) e) (without-itself f))

  pub without_nothing : b ≡ 0 → EndsIn IsWithout held a b a
  without_nothing e =
      is_first IsWithout
      (subst (λ x. IsWithout f x f) (sym (none held b e)) (without-nothing f (is_family a has.sound has.first)))

  pub unit_stays : a ≡ 1 → 2 ≤ b → EndsIn IsWithout held a b a
  unit_stays e inner =
      is_first IsWithout
      (subst (λ x. IsWithout x g x) (sym (unit held e)) (unit-left g (node_lacks b has.sound has.second inner)))

-- ---- with the operands in the other order

module _ {held : Held} {a b : ℕ} (has : HasBoth held a b) where
  pub none_united : b ≡ 0 → EndsIn IsLeastUnion held a b a
  none_united e = end_swapped IsLeastUnion a b least_union-swap (union_none (swap has) e)

  pub unit_united : b ≡ 1 → EndsIn IsLeastUnion held a b 1
  unit_united e = end_swapped IsLeastUnion a b least_union-swap (union_unit (swap has) e)

  pub none_multiplied : b ≡ 0 → EndsIn IsLeastProduct held a b 0
  none_multiplied e = end_swapped IsLeastProduct a b least_product-swap (product_none (swap has) e)

  pub unit_multiplied : b ≡ 1 → EndsIn IsLeastProduct held a b a
  unit_multiplied e = end_swapped IsLeastProduct a b least_product-swap (product_unit (swap has) e)
