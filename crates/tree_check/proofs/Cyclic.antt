-- Which definitions are cyclic, by their marks, and the ranks where none is.
use Rattle.std.proofs.Common.{◌≡◌, ℕ, zero, suc, ◌<◌, ◌≤◌, Bool, true, false, List, [], ◌∷◌, length, map, filter, refl}
use Rattle.std.proofs.Common.{sym, ap, ◌∙◌, inl, inr, arith}
use Rattle.std.specs.Prelude.{◌==◌, Some, None, if◌then◌else◌, slice_index, slice_index_or, slice_get}
use Rattle.std.proofs.lemmas.Bool.{cases_Bool, or_cases, or_left, or_right, eq-eqb, eqb-true}
use Rattle.unit_sets.specs.UnitList.{among}
use Rattle.fault_words.specs.declared.place.Place.{Place}
use Rattle.fault_definitions.specs.{Tree.FaultTree, Tree.rank_of, Rank.rank_over as tree_rank_over}
use Rattle.galileo_tree.specs.declared.raw.Placed.{Placed}
use Rattle.graph_cycles.specs.Graph.{rank_over}
use Rattle.fault_words.specs.Names.{same_name, has_name, number_in}
use Rattle.tree_check.proofs.{SaidLemmas.names_in, Differ.same_is}
use Rattle.tree_check.specs.{Numbered.numbered, TreeOf.numbers, Classes.first, Marked.is_marked, Marked.marked_places}

-- the numbers of definitions
abbrev pub numbers_of : List (List ℕ) → List Placed → List ℕ
numbers_of names definitions = numbers (map (numbered names) definitions)

mark : List Bool → ℕ → Bool
mark marks n = slice_index_or marks n false

-- the first marked definition
pub record FirstMarked (marks : List Bool) (names : List (List ℕ)) (definitions : List Placed)
    (place : Place) : Type 0 where
  pub index : ℕ
  pub within : index < length definitions
  pub at : slice_get (map (λ definition. definition.place) definitions) index ≡ Some place
  pub marked : slice_index_or marks (slice_index (numbers_of names definitions) index) false ≡ true
  pub no_earlier : (i : ℕ) → i < index → slice_index_or marks (slice_index (numbers_of names definitions) i) false
      ≡ false

module _ (marks : List Bool) (names : List (List ℕ)) where
  pub first_marked : (definitions : List Placed) {place : Place}
      → first (marked_places marks names definitions) ≡ Some place → FirstMarked marks names definitions place
  first_marked [] found = absurd cc
  first_marked (d ∷ definitions) {place} found = elim (cases_Bool (is_marked marks names d)) [
    | inl here ↦
        let is : marked_places marks names (d ∷ definitions) ≡ d.place ∷ marked_places marks names definitions =
        ap (λ b. map (λ (p : Placed). p.place) (if b then d ∷ filter (is_marked marks names) definitions
        else filter (is_marked marks names) definitions)) here in
        let same : Some d.place ≡ Some place = sym (ap first is) ∙ found in
        record { index = 0; within = omega arith; at = same; marked = here; no_earlier = λ i l. absurd (omega arith) }
    | inr other ↦
        let is : marked_places marks names (d ∷ definitions) ≡ marked_places marks names definitions =
        ap (λ b. map (λ (p : Placed). p.place) (if b then d ∷ filter (is_marked marks names) definitions
        else filter (is_marked marks names) definitions)) other in
        let rest : FirstMarked marks names definitions place = first_marked definitions (sym (ap first is) ∙ found) in
        record {
          index = suc rest.index;
          within = omega (arith, rest.within);
          at = rest.at;
          marked = rest.marked;
          no_earlier = λ i l. earlier definitions d rest.index other rest.no_earlier i l;
        }
  ]
    where
      earlier : (definitions : List Placed) (d : Placed) (n : ℕ) → is_marked marks names d ≡ false
          → ((i : ℕ) → i < n → slice_index_or marks (slice_index (numbers_of names definitions) i) false ≡ false)
          → (i : ℕ) → i < suc n → slice_index_or marks (slice_index (numbers_of names (d ∷ definitions)) i) false
          ≡ false
      earlier definitions d n other rest zero l = other
      earlier definitions d n other rest (suc i) l = rest i (omega arith)

  pub none_marked : (definitions : List Placed) → first (marked_places marks names definitions) ≡ None
      → (i : ℕ) → i < length definitions → slice_index_or marks (slice_index (numbers_of names definitions) i) false
      ≡ false
  none_marked [] none i l = absurd (omega arith)
  none_marked (d ∷ definitions) none i l = elim (cases_Bool (is_marked marks names d)) [
    | inl here ↦
        let is : marked_places marks names (d ∷ definitions) ≡ d.place ∷ marked_places marks names definitions =
        ap (λ b. map (λ (p : Placed). p.place) (if b then d ∷ filter (is_marked marks names) definitions
        else filter (is_marked marks names) definitions)) here in
        let never : Some d.place ≡ None = sym (ap first is) ∙ none in
        absurd cc
    | inr other ↦
        let is : marked_places marks names (d ∷ definitions) ≡ marked_places marks names definitions =
        ap (λ b. map (λ (p : Placed). p.place) (if b then d ∷ filter (is_marked marks names) definitions
        else filter (is_marked marks names) definitions)) other in
        at_index definitions d other (none_marked definitions (sym (ap first is) ∙ none)) i l
  ]
    where
      at_index : (definitions : List Placed) (d : Placed) → is_marked marks names d ≡ false
          → ((i : ℕ) → i < length definitions → slice_index_or marks (slice_index (numbers_of names definitions) i)
          false ≡ false)
          → (i : ℕ) → i < suc (length definitions) → slice_index_or marks
          (slice_index (numbers_of names (d ∷ definitions)) i) false ≡ false
      at_index definitions d other rest zero l = other
      at_index definitions d other rest (suc i) l = rest i (omega arith)

-- a name among the definitions is that of one
pub defined_at : (names : List (List ℕ)) (definitions : List Placed) (name : List ℕ)
    → has_name (names_in definitions) name ≡ true
    → (i : ℕ) × (i < length definitions) × (slice_index (numbers_of names definitions) i ≡ number_in names name)
defined_at names [] name found = absurd cc
defined_at names (d ∷ definitions) name found =
    elim (or_cases (same_name name d.name) (has_name (names_in definitions) name) found) [
      | inl here ↦ (0, omega arith, ap (number_in names) (sym (same_is name d.name here)))
      | inr later ↦ let rest = defined_at names definitions name later in (suc rest.0, omega (arith, rest.1), rest.2)
    ]

-- ---- ranks over rows with the same members

over_le : (f : List ℕ) (row : List ℕ) (m : ℕ) → ((y : ℕ) → among row y ≡ true → suc (slice_index f y) ≤ m)
    → rank_over f row ≤ m
over_le f [] m h = omega arith
over_le f (x ∷ row) m h =
    omega (
      arith,
      h x (or_left (x == x) (among row x) (eq-eqb x x refl)),
      over_le f row m (λ y found. h y (or_right (x == y) (among row y) found)),
    )

member_le : (tree : FaultTree) (row : List ℕ) (y : ℕ) → among row y ≡ true
    → suc (rank_of tree y) ≤ tree_rank_over tree row
member_le tree [] y found = absurd cc
member_le tree (x ∷ row) y found = elim (or_cases (x == y) (among row y) found) [
  | inl here ↦ omega (arith, ap (rank_of tree) (eqb-true x y here))
  | inr later ↦ omega (arith, member_le tree row y later)
]

tree_over_le : (tree : FaultTree) (row : List ℕ) (m : ℕ) → ((y : ℕ) → among row y ≡ true → suc (rank_of tree y) ≤ m)
    → tree_rank_over tree row ≤ m
tree_over_le tree [] m h = omega arith
tree_over_le tree (x ∷ row) m h =
    omega (
      arith,
      h x (or_left (x == x) (among row x) (eq-eqb x x refl)),
      tree_over_le tree row m (λ y found. h y (or_right (x == y) (among row y) found)),
    )

graph_member_le : (f : List ℕ) (row : List ℕ) (y : ℕ) → among row y ≡ true → suc (slice_index f y) ≤ rank_over f row
graph_member_le f [] y found = absurd cc
graph_member_le f (x ∷ row) y found = elim (or_cases (x == y) (among row y) found) [
  | inl here ↦ omega (arith, ap (slice_index f) (eqb-true x y here))
  | inr later ↦ omega (arith, graph_member_le f row y later)
]

-- rows with the same members, whose ranks agree, give one rank
pub same_rank_over : (tree : FaultTree) (f row row' : List ℕ)
    → ((y : ℕ) → among row y ≡ among row' y) → ((y : ℕ) → among row y ≡ true → slice_index f y ≡ rank_of tree y)
    → rank_over f row ≡ tree_rank_over tree row'
same_rank_over tree f row row' same agree =
    let up : rank_over f row ≤ tree_rank_over tree row' =
    over_le f row (tree_rank_over tree row') (λ y found.
    omega (arith, agree y found, member_le tree row' y (sym (same y) ∙ found))) in
    let down : tree_rank_over tree row' ≤ rank_over f row =
    tree_over_le tree row' (rank_over f row) (λ y found.
    omega (arith, agree y (same y ∙ found), graph_member_le f row y (same y ∙ found))) in
    omega arith
