-- Cut families in a worker's own memory, and that of an `fdep`.
use Rattle.std.proofs.Common.{◌≡◌, ℕ, zero, suc, ◌+◌, ◌<◌, ◌≤◌, set, inl, inr, get_or-set_same, get_or-set_other, Bool}
use Rattle.std.proofs.Common.{true, false, List, [], ◌∷◌, length, take, get_or, All, Result, Ok, Err}
use Rattle.std.proofs.Common.{IfOk, IfErr, refl, sym, ◌∙◌, subst, arith}
use Rattle.std.specs.List.Sorted.{IsStrictlySortedBy}
use Rattle.std.proofs.lemmas.Bool.{cases_eq, cond-true, and_parts}
use Rattle.std.proofs.{lemmas.List.get_or_default, lemmas.List.get_or-take, lemmas.List.Elements.All-nil}
use Rattle.unit_sets.specs.UnitList.{among}
use Rattle.fault_words.specs.{declared.kind.GateKind.GateKind, declared.kind.GateKind.TheVariants.Fdep}
use Rattle.fault_definitions.specs.{Cut.IsMinimalFor, CutFamily.IsCutFamily, Reading.reads, Reading.gate_reads}
use Rattle.fault_definitions.specs.{Trigger.below, WellFormed.IsTree}
use Rattle.fault_definitions.proofs.ReadingLaws.{reads-node}
use Rattle.fault_definitions.specs.Tree.{FaultTree, IsNodeOf, inputs_of, is_above_units, is_fdep, is_fdep_kind, kind_of}
use Rattle.fault_definitions.specs.Tree.{unit_count}
use Rattle.zdd_families.specs.{Minimal.IsMinimal, Antichains.IsAntichain}
use Rattle.zdd_families.proofs.MinimalParts.{HasLeast, minimal-exists}
use Rattle.family_memory.specs.Memory.{Gave, Held, Has, RanOut, Went, IsSound, family_in}
use Rattle.family_memory.proofs.After.{still, still_has}
use Rattle.many_families.specs.Lists.{families}
use Rattle.zdd_nodes.specs.{Room.HaveRoomFor, declared.rooms.Rooms.Rooms}
use Rattle.tree_families.proofs.{CutFamilies.cut_family-minimal, CutFamilies.cut_family-one}
use Rattle.tree_families.proofs.{FailingSets.IsFamilyFor-cut_family, TreeParts.Spans-of_tree}
use Rattle.tree_families.specs.{Generation.IsFamilyFor, Recipe.StandFor}
use Rattle.zdd_build.proofs.OwnReferences.{AreRead}

-- ---- a cut family is an antichain

pub cut_family_antichain : {tree : FaultTree} → IsTree tree → {node : ℕ} → IsNodeOf tree node → {family : List (List ℕ)}
    → IsCutFamily tree node family → IsAntichain family
cut_family_antichain {tree} kept {node} is_node {family} is =
    let generates : IsFamilyFor tree node family = IsFamilyFor-cut_family tree kept node is_node family is in
    let found : HasLeast 0 (unit_count tree) family =
    minimal-exists (unit_count tree) (Spans-of_tree generates.of_tree) in
    let same : found.least ≡ family =
    cut_family-one tree node found.least family (cut_family-minimal tree node family found.least generates found.is)
    is in
    subst (λ (q : List (List ℕ)). IsMinimal family q) same found.is

-- ---- an `fdep` never fails

fdep_reads : (kind : GateKind) (read : ℕ → Bool) (inputs : List ℕ) → is_fdep_kind kind ≡ true
    → gate_reads kind read inputs ≡ false
fdep_reads Fdep read inputs fdep = refl
fdep_reads _ read inputs fdep = absurd cc

module _ {tree : FaultTree} (kept : IsTree tree) (node : ℕ) (is_node : IsNodeOf tree node)
    (fdep : is_fdep tree node ≡ true) where
  never : (set : ℕ → Bool) → reads tree set node ≡ false
  never set =
      let both = and_parts (is_above_units tree node) (is_fdep_kind (kind_of tree node)) fdep in
      reads-node tree kept set node is_node ∙ cond-true (is_above_units tree node) _ _ both.0
      ∙ fdep_reads (kind_of tree node) (reads tree set) (inputs_of tree node) both.1

  none_fails : {G : Type 0} {set : List ℕ} → IsMinimalFor tree node set → G
  none_fails {set} is = absurd (let e : false ≡ true = sym (never (among set)) ∙ is.fails in cc)

  pub fdep_family : IsCutFamily tree node []
  unfolding IsStrictlySortedBy
  fdep_family = record {
    sound = All-nil (IsMinimalFor tree node);
    complete = λ set is. none_fails is;
    ordered = tt;
  }

-- ---- what was read of the nodes that a node reads

module _ (held : Held) (tree : FaultTree) where
  read_has : (nodes references : List ℕ) → length references ≡ length nodes
      → AreRead held tree nodes references (length nodes) → All (Has held) references
  read_has nodes references same read k d within =
      subst (Has held) (default k within) (read k (omega (arith, same, within))).0
    where
      default : (k : ℕ) → k < length references → get_or references k 0 ≡ get_or references k d
      default k within = get_or_default references k 0 d within

  read_stand : (nodes references : List ℕ) → length references ≡ length nodes
      → AreRead held tree nodes references (length nodes) → StandFor (IsCutFamily tree) nodes (families held references)
  read_stand [] [] same read = tt
  read_stand [] (r ∷ references) same read = absurd (omega (arith, same))
  read_stand (node ∷ nodes) [] same read = absurd (omega (arith, same))
  read_stand (node ∷ nodes) (r ∷ references) same read = (
    (read 0 (omega arith)).1,
    read_stand nodes references (omega (arith, same)) (λ k within. read (suc k) (omega arith)),
  )

-- the memory goes on
pub read_still : {before after : Held} (tree : FaultTree) → IsSound before → Went before after
    → (nodes references : List ℕ) (count : ℕ) → AreRead before tree nodes references count
    → AreRead after tree nodes references count
read_still tree sound went nodes references count read k within = (
  still_has sound went (get_or references k 0) (read k within).0,
  subst (IsCutFamily tree (get_or nodes k 0)) (sym
      (still sound went (get_or references k 0) (read k within).0)) (read k within).1,
)

-- an operation went on, whatever its answer
pub went_of : {E : Type 0} (Is : List (List ℕ) → Type 0) {before after : Held} (result : Result ℕ E)
    → IfOk result (Gave Is before after) → IfErr result (λ _. RanOut before after) → Went before after
went_of Is (Ok r) gave out = gave.went
went_of Is (Err e) gave out = out.went

-- what is read, in a list's front
read_front : (held : Held) (tree : FaultTree) (nodes references : List ℕ) (count : ℕ) → count ≤ length references
    → AreRead held tree nodes references count → AreRead held tree nodes (take count references) count
read_front held tree nodes references count fits read k within =
    subst (λ (r : ℕ). Has held r × IsCutFamily tree (get_or nodes k 0) (family_in held r))
    (sym (get_or-take count references k 0 within)) (read k within)

-- so many of a list's first members, where it has as many
front_length : (count : ℕ) (list : List ℕ) → count ≤ length list → length (take count list) ≡ count
front_length zero list fits = refl
front_length (suc count) [] fits = absurd (omega (arith, fits))
front_length (suc count) (x ∷ list) fits =
    let rest = front_length count list (omega (arith, fits)) in omega (arith, rest)

-- all is read, and stands in the front of the list of the worker's rooms
module _ (held : Held) {tree : FaultTree} (node : ℕ) {rooms : Rooms} (is_node : IsNodeOf tree node)
    (fits : HaveRoomFor tree rooms) (count : ℕ) (done : length (below tree node) ≤ count)
    (read : AreRead held tree (below tree node) rooms.list.items count) where
  front : AreRead held tree (below tree node) (take (length (below tree node)) rooms.list.items)
      (length (below tree node))
  front =
      read_front held tree (below tree node) rooms.list.items (length (below tree node)) (fits.list node is_node)
      (λ k below. read k (omega (arith, below, done)))

  as_long : length (take (length (below tree node)) rooms.list.items) ≡ length (below tree node)
  as_long = front_length (length (below tree node)) rooms.list.items (fits.list node is_node)

  pub all_has : All (Has held) (take (length (below tree node)) rooms.list.items)
  all_has = read_has held tree (below tree node) (take (length (below tree node)) rooms.list.items) as_long front

  pub all_stand : StandFor (IsCutFamily tree) (below tree node)
      (families held (take (length (below tree node)) rooms.list.items))
  all_stand = read_stand held tree (below tree node) (take (length (below tree node)) rooms.list.items) as_long front

-- one more is read
pub read_more : {before after : Held} {tree : FaultTree} → IsSound before → Went before after
    → (nodes references : List ℕ) (count r : ℕ) → count < length references → AreRead before tree nodes references count
    → Has after r → IsCutFamily tree (get_or nodes count 0) (family_in after r)
    → AreRead after tree nodes (set references count r) (count + 1)
read_more {after} {tree} sound went nodes references count r within read has is k below =
    elim (cases_eq k count) [
      | inl same ↦
          subst (λ (q : ℕ). Has after (get_or (set references count r) q 0)
          × IsCutFamily tree (get_or nodes q 0) (family_in after (get_or (set references count r) q 0))) (sym same)
          (subst (λ (s : ℕ). Has after s × IsCutFamily tree (get_or nodes count 0) (family_in after s))
          (sym (get_or-set_same references count r 0 within)) (has, is))
      | inr differs ↦
          subst (λ (s : ℕ). Has after s × IsCutFamily tree (get_or nodes k 0) (family_in after s))
          (sym (get_or-set_other references count k r 0 differs))
          (read_still tree sound went nodes references count read k (omega (arith, below, differs)))
    ]

-- what was brought into the memory is the cut family that it was
pub gave_cut : {tree : FaultTree} {node : ℕ} {family : List (List ℕ)} → IsCutFamily tree node family
    → (before after : Held) → {E : Type 0} (result : Result ℕ E) → IfOk result (Gave (λ f. f ≡ family) before after)
    → IfOk result (Gave (IsCutFamily tree node) before after)
gave_cut {tree} {node} is before after (Ok r) gave =
    record { went = gave.went; has = gave.has; is = subst (IsCutFamily tree node) (sym gave.is) is }
gave_cut is before after (Err e) gave = tt
