-- The cut families of what a node reads, made one after another, each in its place of a list with one for each node.
use Rattle.std.proofs.Common.{◌≡◌, ℕ, ◌+◌, ◌-◌, ◌<◌, ◌≤◌, inl, inr, List, length, set, get_or, All, sym, ap, subst}
use Rattle.std.proofs.Common.{arith, get_or-set_same, get_or-set_other, Option, Some, IfSome}
use Rattle.std.proofs.{lemmas.Bool.cases_eq, lemmas.List.get_or_default}
use Rattle.fault_definitions.specs.{CutFamily.IsCutFamily, Tree.FaultTree, Tree.IsNodeOf, Trigger.below}
use Rattle.zdd_families.specs.Map.{Grown}
use Rattle.zdd_shared_table.specs.Seats.{Seated, IsSoundSeat, map_of}
use Rattle.zdd_product.specs.Seats.{KnowsOne}
use Rattle.zdd_product.proofs.After.{stays}
use Rattle.zdd_nodes.specs.Reading.{KnowsBelow, reference_of}

-- the seat knows the reference of each of the first nodes of a list as that node's cut family
abbrev pub AreRead : Seated → FaultTree → List ℕ → List ℕ → ℕ → Type 0
AreRead seat tree nodes references count =
    (k : ℕ) → k < count → KnowsOne (map_of seat) (reference_of references (get_or nodes k 0))
    (IsCutFamily tree (get_or nodes k 0))

pub read_below : (seat : Seated) (tree : FaultTree) (node : ℕ) (references : List ℕ) (count : ℕ)
    → length (below tree node) ≤ count → AreRead seat tree (below tree node) references count
    → KnowsBelow (map_of seat) tree references node
read_below seat tree node references count all read k d within =
    subst (λ (n : ℕ). KnowsOne (map_of seat) (reference_of references n) (IsCutFamily tree n))
    (get_or_default (below tree node) k 0 d within) (read k (omega (arith, within, all)))

known_still : (before after : Seated) → IsSoundSeat before → IsSoundSeat after → Grown (map_of before) (map_of after)
    → (tree : FaultTree) (node r : ℕ) → KnowsOne (map_of before) r (IsCutFamily tree node)
    → KnowsOne (map_of after) r (IsCutFamily tree node)
known_still before after sound sound' grown tree node r knows =
    let still = stays before after r sound sound' grown knows.0 in
    (still.0, subst (IsCutFamily tree node) (sym still.1) knows.1)

-- one more is read
pub read_more : (before after : Seated) → IsSoundSeat before → IsSoundSeat after
    → Grown (map_of before) (map_of after) → (tree : FaultTree) (nodes references : List ℕ) → All (IsNodeOf tree) nodes
    → (count : ℕ) {place : ℕ} (r : ℕ) → count < length nodes → place ≡ get_or nodes count 0 - 1
    → place < length references
    → AreRead before tree nodes references count
    → KnowsOne (map_of after) r (IsCutFamily tree (get_or nodes count 0))
    → AreRead after tree nodes (set references place r) (count + 1)
read_more before after sound sound' grown tree nodes references all count {place} r more at within read one k below =
    elim (cases_eq (get_or nodes k 0) (get_or nodes count 0)) [
      | inl same ↦
          let here : get_or nodes k 0 - 1 ≡ place = omega (arith, same, at) in
          subst (λ (n : ℕ). KnowsOne (map_of after) (get_or (set references place r) n 0)
          (IsCutFamily tree (get_or nodes k 0))) (sym here)
          (subst (λ (s : ℕ). KnowsOne (map_of after) s (IsCutFamily tree (get_or nodes k 0)))
          (sym (get_or-set_same references place r 0 within))
          (subst (λ (n : ℕ). KnowsOne (map_of after) r (IsCutFamily tree n)) (sym same) one))
      | inr differs ↦ elim (cases_eq k count) [
        | inl last ↦ absurd (differs (ap (λ (q : ℕ). get_or nodes q 0) last))
        | inr before_it ↦
            let early : k < count = omega (arith, below, before_it) in
            let low = (all k 0 (omega (arith, early, more))).0 in
            let low' = (all count 0 more).0 in
            subst (λ (s : ℕ). KnowsOne (map_of after) s (IsCutFamily tree (get_or nodes k 0)))
            (sym (get_or-set_other references place (get_or nodes k 0 - 1) r 0
            (λ e. differs (omega (arith, e, at, low, low')))))
            (known_still before after sound sound' grown tree (get_or nodes k 0)
            (reference_of references (get_or nodes k 0)) (read k early))
      ]
    ]

pub some_of : {X : Type 0} {found : Option X} (P : X → Type 0) (x : X) → found ≡ Some x → IfSome found P → P x
some_of P x is fact = subst (λ q. IfSome q P) is fact
