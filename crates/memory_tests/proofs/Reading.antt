-- The cut families of what a node reads, made one after another.
use Rattle.std.proofs.Common.{◌≡◌, ℕ, suc, ◌<◌, inl, inr, List, [], ◌∷◌, ◌++◌, Option, Some, IfSome, length, get_or}
use Rattle.std.proofs.Common.{All, sym, subst, arith}
use Rattle.std.proofs.lemmas.Bool.{cases_eq}
use Rattle.std.proofs.lemmas.List.{get_or_append_left, get_or_default, get_or_push, length_push}
use Rattle.fault_definitions.specs.{CutFamily.IsCutFamily, Tree.FaultTree}
use Rattle.family_memory.specs.Memory.{Held, Has, IsSound, Went, family_in}
use Rattle.family_memory.proofs.After.{still, still_has}
use Rattle.many_families.specs.Lists.{families}
use Rattle.tree_families.specs.Recipe.{StandFor}

-- each reference is to the cut family of the node at its place
abbrev pub AreRead : Held → FaultTree → List ℕ → List ℕ → Type 0
AreRead held tree nodes references =
    (k : ℕ) → k < length references → Has held (get_or references k 0)
    × IsCutFamily tree (get_or nodes k 0) (family_in held (get_or references k 0))

pub read_has : (held : Held) (tree : FaultTree) (nodes references : List ℕ) → AreRead held tree nodes references
    → All (Has held) references
read_has held tree nodes references read k d within =
    subst (Has held) (get_or_default references k 0 d within) (read k within).0

pub read_stand : (held : Held) (tree : FaultTree) (nodes references : List ℕ) → length references ≡ length nodes
    → AreRead held tree nodes references → StandFor (IsCutFamily tree) nodes (families held references)
read_stand held tree [] [] same read = tt
read_stand held tree [] (r ∷ references) same read = absurd (omega (arith, same))
read_stand held tree (node ∷ nodes) [] same read = absurd (omega (arith, same))
read_stand held tree (node ∷ nodes) (r ∷ references) same read = (
  (read 0 (omega arith)).1,
  read_stand held tree nodes references (omega (arith, same)) (λ k within. read (suc k) (omega arith)),
)

pub read_more : {before after : Held} {tree : FaultTree} → IsSound before → Went before after
    → (nodes references : List ℕ) {count : ℕ} (r : ℕ) → length references ≡ count → AreRead before tree nodes references
    → Has after r → IsCutFamily tree (get_or nodes count 0) (family_in after r)
    → AreRead after tree nodes (references ++ r ∷ [])
read_more {after} {tree} sound went nodes references {count} r same read has is k within =
    elim (cases_eq k count) [
      | inl here ↦
          subst (λ (q : ℕ). Has after (get_or (references ++ r ∷ []) q 0)
          × IsCutFamily tree (get_or nodes q 0) (family_in after (get_or (references ++ r ∷ []) q 0))) (sym here)
          (subst (λ (s : ℕ). Has after s × IsCutFamily tree (get_or nodes count 0) (family_in after s))
          (sym (get_or_push references r 0 count same)) (has, is))
      | inr before_it ↦
          let more = length_push references r in
          let inside : k < length references = omega (arith, within, more, same, before_it) in
          subst (λ (s : ℕ). Has after s × IsCutFamily tree (get_or nodes k 0) (family_in after s))
          (sym (get_or_append_left references (r ∷ []) 0 k inside)) (
            still_has sound went (get_or references k 0) (read k inside).0,
            subst (IsCutFamily tree (get_or nodes k 0)) (sym
                (still sound went (get_or references k 0) (read k inside).0)) (read k inside).1,
          )
    ]

pub some_of : {X : Type 0} {found : Option X} (P : X → Type 0) (x : X) → found ≡ Some x → IfSome found P → P x
some_of P x is fact = subst (λ q. IfSome q P) is fact
