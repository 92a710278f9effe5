-- What the marks and ranks of the graph say of the statements.
use Rattle.std.proofs.Common.{◌≡◌, ℕ, zero, suc, ◌+◌, ◌-◌, ◌<◌, ◌≤◌, ◌↔◌, Bool, true, false, not, List, [], ◌∷◌, length}
use Rattle.std.proofs.Common.{map, drop, get_or, refl, sym, ap, ◌∙◌, subst, inl, inr, arith, length-append}
use Rattle.std.specs.Prelude.{IfOk, IsTrue, Result, Ok, Err, Some, None, slice_index, slice_index_or}
use Rattle.std.specs.{List.position_or_len, Vec.vec_len}
use Rattle.std.proofs.lemmas.List.{length-map, get_or-drop, length-drop}
use Rattle.std.proofs.lemmas.List.Sums.{position_or_len_is}
use Rattle.std.proofs.lemmas.Bool.{cases_Bool, or_left, or_right, or_parts, and_parts}
use Rattle.fault_words.specs.declared.place.Place.{Place}
use Rattle.fault_definitions.specs.Trigger.{below}
use Rattle.graph_cycles.specs.Graph.{successors, Leads, IsGraph, rank_over}
use Rattle.graph_cycles.specs.declared.Survey.{Survey}
use Rattle.galileo_tree.specs.{declared.raw.Placed.Placed, declared.raw.Statement.Statement}
use Rattle.tree_check.specs.{declared.numbered.NumberedGate.NumberedGate, Classes.first, Classes.dependent_gates}
use Rattle.tree_check.specs.{Examined.AreParts, declared.numbered.Parts.Parts, Marked.marked_places, Triggers.IsGraphOf}
use Rattle.tree_check.specs.{Triggers.HasUnitDependents}
use Rattle.fault_words.specs.Names.{has_name, same_name, all_differ, number_in}
use Rattle.tree_check.specs.Said.{basics, gates, names, definitions}
use Rattle.tree_check.proofs.{SaidLemmas.names_in, StatementNames.inputs_known, StatementNames.names_total}
use Rattle.tree_check.proofs.{GoodGates.unit_dependents, Members.Each, Members.successor_is}
use Rattle.tree_check.specs.Numbered.{numbered_gates, unit_total, kinds, kept_inputs}
use Rattle.tree_check.specs.TreeOf.{tree_of, input_lists, numbers, IsCyclic, FirstOnCycle, HasNoCycle, AreRanks}
use Rattle.tree_check.specs.TreeOf.{IsSurveyed}
use Rattle.tree_check.proofs.Differ.{same_itself, same_other_way, has-names}
use Rattle.tree_check.proofs.Numbers.{number_some, number_none, number_within}
use Rattle.tree_check.proofs.SameEdges.{same_edges, to_graph, from_graph}
use Rattle.tree_check.proofs.Cyclic.{numbers_of, FirstMarked, first_marked, none_marked, defined_at}
use Rattle.tree_check.proofs.Cyclic.{same_rank_over}

-- a number of a name of these
abbrev pub IsNumber : ℕ → ℕ → Type 0
IsNumber total n = (1 ≤ n) × (n ≤ total)

graph_total : {units : ℕ} {gates : List NumberedGate} {graph : List (List ℕ)} → IsGraphOf units gates graph
    → length graph ≡ units + 1 + length gates
graph_total {units} {gates} g =
    omega (
      arith,
      ap length g.is,
      length-append g.rows (input_lists units gates),
      g.triggers.all,
      length-map gates (λ gate. numbers (kept_inputs units (kinds gates) gate)),
    )

pub low_number : (all : List (List ℕ)) (definitions : List Placed) (i : ℕ)
    → slice_index (numbers_of all definitions) i ≤ length all
low_number all [] i = omega arith
low_number all (d ∷ definitions) zero = elim (cases_Bool (has_name all d.name)) [
  | inl there ↦ (number_within all d.name there).1
  | inr none ↦ omega (arith, number_none all d.name none)
]
low_number all (d ∷ definitions) (suc i) = low_number all definitions i

-- ---- names by number

has_at : (xs : List (List ℕ)) (k : ℕ) → k < length xs → has_name xs (get_or xs k []) ≡ true
has_at [] k l = absurd (omega arith)
has_at (x ∷ xs) zero l = or_left (same_name x x) (has_name xs x) (same_itself x x refl)
has_at (x ∷ xs) (suc k) l =
    or_right (same_name (get_or xs k []) x) (has_name xs (get_or xs k [])) (has_at xs k (omega arith))

not_has : (xs : List (List ℕ)) (y : List ℕ) (k : ℕ) → k < length xs → has_name xs y ≡ false
    → same_name y (get_or xs k []) ≡ false
not_has [] y k l none = absurd (omega arith)
not_has (x ∷ xs) y zero l none = (or_parts (same_name y x) (has_name xs y) none).0
not_has (x ∷ xs) y (suc k) l none = not_has xs y k (omega arith) (or_parts (same_name y x) (has_name xs y) none).1

apart_at : (xs : List (List ℕ)) (j k : ℕ) → all_differ xs ≡ true → j < k → k < length xs
    → same_name (get_or xs k []) (get_or xs j []) ≡ false
apart_at [] j k all less l = absurd (omega arith)
apart_at (x ∷ xs) j zero all less l = absurd (omega arith)
apart_at (x ∷ xs) zero (suc k) all less l =
    let parts : (not (has_name xs x) ≡ true) × (all_differ xs ≡ true) =
    and_parts (not (has_name xs x)) (all_differ xs) all in
    let none : has_name xs x ≡ false = elim (cases_Bool (has_name xs x)) [ inl there ↦ absurd cc | inr n ↦ n ] in
    same_other_way x (get_or xs k []) (not_has xs x k (omega arith) none)
apart_at (x ∷ xs) (suc j) (suc k) all less l =
    apart_at xs j k (and_parts (not (has_name xs x)) (all_differ xs) all).1 (omega arith) (omega arith)

pub number_at_place : (xs : List (List ℕ)) (k : ℕ) → all_differ xs ≡ true → k < length xs
    → number_in xs (get_or xs k []) ≡ suc k
number_at_place xs k all l =
    let place : position_or_len (same_name (get_or xs k [])) xs ≡ k =
    position_or_len_is (same_name (get_or xs k [])) xs k [] (omega arith) (λ j less. apart_at xs j k all less l)
    (λ _. same_itself (get_or xs k []) (get_or xs k []) refl) in
    number_some xs (get_or xs k []) (has_at xs k l) ∙ ap suc place

-- every number up to the last is that of a definition
pub number_defined : (statements : List Statement) (x : ℕ) → all_differ (names statements) ≡ true → 1 ≤ x
    → x ≤ length (names statements)
    → (i : ℕ) × (i < length (definitions statements))
    × (slice_index (numbers_of (names statements) (definitions statements)) i ≡ x)
number_defined statements x all some within =
    let l : x - 1 < length (names statements) = omega arith in
    let name : List ℕ = get_or (names statements) (x - 1) [] in
    let there : has_name (names_in (definitions statements)) (get_or (names statements) (x - 1) []) ≡ true =
    sym (has-names statements (get_or (names statements) (x - 1) [])) ∙ has_at (names statements) (x - 1) l in
    let found = defined_at (names statements) (definitions statements) (get_or (names statements) (x - 1) []) there in
    (found.0, found.1, omega (arith, found.2, number_at_place (names statements) (x - 1) all l))

-- ---- the survey

pub record Surveyed (statements : List Statement) (graph : List (List ℕ)) (marks : List Bool)
    (ranks : List ℕ) : Type 0 where
  pub graph_is : IsGraphOf (unit_total statements) (numbered_gates statements) graph
  pub each : Each (IsNumber (length (names statements))) (numbered_gates statements)
  pub exact : (x : ℕ) → x < length graph → IsTrue (slice_index_or marks x false) ↔ Leads graph x x
  pub ranked : (x : ℕ) → x < length graph → slice_index_or marks x false ≡ false
      → slice_index ranks x ≡ rank_over ranks (successors graph x)
  pub ranks_all : length ranks ≡ length graph

pub IsGraph-of : (statements : List Statement) {graph : List (List ℕ)}
    → IsGraphOf (unit_total statements) (numbered_gates statements) graph
    → Each (IsNumber (length (names statements))) (numbered_gates statements) → IsGraph graph
IsGraph-of statements g each x y goes =
    let number : IsNumber (length (names statements)) y =
    successor_is (IsNumber (length (names statements))) g each x y goes in
    omega (
      arith,
      number.1,
      names_total statements,
      graph_total g,
    )

module _ (statements : List Statement) (graph : List (List ℕ)) (marks : List Bool) (ranks : List ℕ)
    (s : Surveyed statements graph marks ranks) where
  total : length graph ≡ suc (length (names statements))
  total =
      omega (
        arith,
        names_total statements,
        graph_total s.graph_is,
      )

  shifted : (x : ℕ) → 1 ≤ x → slice_index ranks x ≡ slice_index (0 ∷ drop 1 ranks) x
  shifted zero some = absurd (omega arith)
  shifted (suc x) some =
      sym (get_or-drop 1 ranks x 0 ∙ ap (slice_index ranks) (let e : 1 + x ≡ suc x = omega arith in e))

  ranks_are : ((x : ℕ) → 1 ≤ x → x ≤ length (names statements) → slice_index_or marks x false ≡ false)
      → AreRanks statements (drop 1 ranks)
  ranks_are unmarked = record {
    all = omega (arith, length-drop 1 ranks, s.ranks_all, total);
    ranked = λ node is_node.
        let nodes : node ≤ length (names statements) =
        omega (
          arith,
          is_node.1,
          names_total statements,
          length-map (basics statements) (λ basic. map (λ raw. raw.attribute) basic.attributes),
          length-map (numbered_gates statements) (λ gate. gate.kind),
        ) in
        sym (shifted node is_node.0)
        ∙ (s.ranked node (omega (arith, total)) (unmarked node is_node.0 nodes)
        ∙ same_rank_over (tree_of statements (drop 1 ranks)) ranks (successors graph node)
        (below (tree_of statements (drop 1 ranks)) node) (same_edges statements (drop 1 ranks) s.graph_is node)
        (λ y found. shifted y (successor_is (IsNumber (length (names statements))) s.graph_is s.each node y found).0));
  }

  pub is_surveyed : IsSurveyed statements marks ranks
  is_surveyed = record {
    cyclic = λ x within.
        let exact = s.exact x (omega (arith, total)) in (
          λ marked. from_graph statements [] s.graph_is (exact.0 marked),
          λ leads. exact.1 (to_graph statements [] s.graph_is leads),
        );
    ranked = ranks_are;
  }

-- ---- by the first marked definition

module _ (statements : List Statement) (marks : List Bool) (ranks : List ℕ) (s : IsSurveyed statements marks ranks)
  where
    unmarked_acyclic : (i : ℕ) → slice_index_or marks
        (slice_index (numbers_of (names statements) (definitions statements)) i) false ≡ false → ¬ IsCyclic statements i
    unmarked_acyclic i unmarked cyclic =
        let marked : slice_index_or marks (slice_index (numbers_of (names statements) (definitions statements)) i) false
        ≡ true =
        (s.cyclic (slice_index (numbers_of (names statements) (definitions statements)) i)
        (low_number (names statements) (definitions statements) i)).1 cyclic in
        cc

    pub cycle_found : (place : Place) → first (marked_places marks (names statements) (definitions statements))
        ≡ Some place → FirstOnCycle statements place
    cycle_found place found =
        let f : FirstMarked marks (names statements) (definitions statements) place =
        first_marked marks (names statements) (definitions statements) found in
        record {
          index = f.index;
          at = f.at;
          cyclic =
              (s.cyclic (slice_index (numbers_of (names statements) (definitions statements)) f.index)
              (low_number (names statements) (definitions statements) f.index)).0 f.marked;
          no_earlier = λ i less. unmarked_acyclic i (f.no_earlier i less);
        }

    module _ (none : first (marked_places marks (names statements) (definitions statements)) ≡ None) where
      pub no_cycle : HasNoCycle statements
      no_cycle i l = unmarked_acyclic i (none_marked marks (names statements) (definitions statements) none i l)

      pub are_ranks : all_differ (names statements) ≡ true → AreRanks statements (drop 1 ranks)
      are_ranks once =
          s.ranked (λ x some within.
          let found = number_defined statements x once some within in
          subst (λ n. slice_index_or marks n false ≡ false) found.2
          (none_marked marks (names statements) (definitions statements) none found.0 found.1))

-- ---- from the parts of a text

module _ {parts : Parts} (are : AreParts parts) where
  pub graph_here : {graph : List (List ℕ)} → IsGraphOf parts.units parts.gates.now graph
      → IsGraphOf (unit_total parts.statements.now) (numbered_gates parts.statements.now) graph
  graph_here {graph} g =
      subst (λ u. IsGraphOf u (numbered_gates parts.statements.now) graph) are.units
      (subst (λ gs. IsGraphOf parts.units gs graph) are.gates g)

  known : Each (IsNumber (length (names parts.statements.now))) (numbered_gates parts.statements.now)
  known = inputs_known parts.statements.now are.none.1.1.1.0

  pub graph_whole : {graph : List (List ℕ)} → IsGraphOf parts.units parts.gates.now graph → IsGraph graph
  graph_whole g = IsGraph-of parts.statements.now (graph_here g) known

  pub units_low : dependent_gates (unit_total parts.statements.now) (numbered_gates parts.statements.now) ≡ []
      → HasUnitDependents parts.units parts.gates.now
  units_low none =
      subst (λ u. HasUnitDependents u parts.gates.now) (sym are.units)
      (subst (λ gs. HasUnitDependents (unit_total parts.statements.now) gs) (sym are.gates)
      (unit_dependents (unit_total parts.statements.now) (numbered_gates parts.statements.now) none))

  pub surveyed : {E : Type 0} {graph : List (List ℕ)} → IsGraphOf parts.units parts.gates.now graph
      → (found : Result Survey E) → IfOk found (λ s. vec_len s.ranks ≡ length graph)
      → IfOk found (λ s. (x : ℕ) → x < length graph
      → IsTrue (slice_index_or s.on_cycle.items x false) ↔ Leads graph x x)
      → IfOk found (λ s. (x : ℕ) → x < length graph → slice_index_or s.on_cycle.items x false ≡ false
      → slice_index s.ranks.items x ≡ rank_over s.ranks.items (successors graph x))
      → IfOk found (λ s. IsSurveyed parts.statements.now s.on_cycle.items s.ranks.items)
  surveyed {graph} g (Ok s) whole exact ranked =
      is_surveyed parts.statements.now graph s.on_cycle.items s.ranks.items (record {
        graph_is = graph_here g;
        each = known;
        exact = exact;
        ranked = ranked;
        ranks_all = omega (arith, whole);
      })
  surveyed g (Err e) whole exact ranked = tt
