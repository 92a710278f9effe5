-- What is made of a tree, node after node.
use Rattle.std.proofs.Common.{◌≡◌, ◌≢◌, ℕ, ◌+◌, ◌-◌, ◌<◌, ◌≤◌, Bool, true, false, List, [], ◌∷◌, All, length, set}
use Rattle.std.proofs.Common.{Contains, get_or, sym, ◌∙◌, ap, subst, inl, inr, arith}
use Rattle.std.proofs.Common.{length-set, get_or-set_same, get_or-set_other, ◌++◌, replicate, if◌then◌else◌}
use Rattle.std.proofs.lemmas.Bool.{cases_Bool, cases_eq, cases_lt}
use Rattle.std.proofs.lemmas.List.{get_or_default, get_or-replicate, length-replicate}
use Rattle.std.proofs.lemmas.List.Elements.{All-push}
use Rattle.fault_definitions.specs.{CutFamily.IsCutFamily, Trigger.below, WellFormed.IsTree}
use Rattle.fault_definitions.proofs.RankLaws.{below_are_nodes, below_ranks}
use Rattle.fault_definitions.specs.Tree.{FaultTree, IsNodeOf, is_fdep, node_count, rank_of}
use Rattle.zdd_families.specs.Map.{Grown, IsClosed}
use Rattle.zdd_families.proofs.MapLemmas.{family-empty}
use Rattle.zdd_product.specs.Seats.{KnowsOne}
use Rattle.zdd_nodes.specs.Reading.{KnowsBelow, reference_of}
use Rattle.zdd_build.specs.{declared.places.Place.Place, declared.table.Table.Table, declared.task.Run.Run}
use Rattle.zdd_build.specs.{declared.task.Task.Task, declared.worker.Finding.Finding, Workers.IsFound}
use Rattle.zdd_build.specs.Building.{CanMake, HasFamily, HasRoomFor, IsBuiltTo, is_made}
use Rattle.zdd_build.specs.Places.{IsPlace, IsRun, IsRunTo, IsTask, node_at, place_at}
use Rattle.zdd_build.proofs.{OwnLemmas.fdep_family, SeatLemmas.one_grown}

-- ---- where the map grows

module _ (known known' : ℕ → ℕ) (closed : IsClosed known) (closed' : IsClosed known') (grown : Grown known known')
  where
    family_grown : (tree : FaultTree) (references : List ℕ) (node : ℕ) → HasFamily known tree references node
        → HasFamily known' tree references node
    family_grown tree references node has =
        one_grown known known' closed closed' grown (IsCutFamily tree node) (reference_of references node) has

    -- what is built stays known
    pub built_on : (task : Task) (table : Table) (to : ℕ) → IsBuiltTo known task table to
        → IsBuiltTo known' task table to
    built_on task table to is = record {
      built =
          record {
            all_nodes = is.built.all_nodes;
            all_places = is.built.all_places;
            each =
                λ k within made. family_grown task.tree.now table.references.items (node_at task.places.now k)
                (is.built.each k within made);
            fdeps =
                λ node is_node fdep. family_grown task.tree.now table.references.items node
                (is.built.fdeps node is_node fdep);
          };
      made = is.made;
    }

    -- whatever a run reads stays known
    pub can_make_on : (run : Run) (references : List ℕ) → CanMake known run references → CanMake known' run references
    can_make_on run references can = record {
      is_run = can.is_run;
      reads = λ k low high. let is = can.reads k low high in record {
        is_node = is.is_node;
        read = is.read;
        all = is.all;
        below =
            λ i d inside. family_grown run.task.tree.now references
            (get_or (below run.task.tree.now (node_at run.task.places.now k)) i d) (is.below i d inside);
      };
    }

-- ---- what a node reads is made where all nodes of lower ranks are

module _ {known : ℕ → ℕ} {task : Task} (are : IsTask task) {table : Table} {to : ℕ}
    (is : IsBuiltTo known task table to) where
  place_is : (k : ℕ) → k < length task.places.now → IsPlace task.tree.now (place_at task.places.now k)
  place_is k within = are.has.sound k (record { rank = 0; node = 0 }) within

  same : (node : ℕ) (at : Contains task.places.now (record { rank = rank_of task.tree.now node; node = node }))
      → place_at task.places.now at.0 ≡ record { rank = rank_of task.tree.now node; node = node }
  same node at =
      get_or_default task.places.now at.0 (record { rank = 0; node = 0 })
      (record { rank = rank_of task.tree.now node; node = node }) at.1 ∙ at.2

  -- where the place of a node is made its family is known
  at_place : (node : ℕ) (at : Contains task.places.now (record { rank = rank_of task.tree.now node; node = node }))
      → at.0 < to → HasFamily known task.tree.now table.references.items node
  at_place node at early =
      subst (HasFamily known task.tree.now table.references.items) (ap (λ (p : Place). p.node) (same node at))
      (is.built.each at.0 at.1 (is.made at.0 early))

  -- a node of lower rank than the next place stands before it
  is_before : to < length task.places.now → (node : ℕ) → IsNodeOf task.tree.now node
      → is_fdep task.tree.now node ≡ false → rank_of task.tree.now node < (place_at task.places.now to).rank
      → HasFamily known task.tree.now table.references.items node
  is_before within node is_node read lower =
      let at = are.has.all node is_node.0 (let u = is_node.1 in omega (arith, u)) read in
      elim (cases_lt at.0 to) [
        | inl early ↦ at_place node at early
        | inr late ↦ absurd (let up = are.sorted to at.0 (record { rank = 0; node = 0 }) late at.1 in
            let e = ap (λ (p : Place). p.rank) (same node at) in omega (arith, up, e, lower))
      ]

  below_made : (end k : ℕ) → end ≤ length task.places.now → IsRunTo task.places.now to end → to ≤ k → k < end
      → KnowsBelow known task.tree.now table.references.items (node_at task.places.now k)
  below_made end k within run low high i d inside =
      let tree = task.tree.now in
      let over : ℕ = node_at task.places.now k in
      let place : IsPlace tree (place_at task.places.now k) = place_is k (omega (arith, within, high)) in
      let node : ℕ = get_or (below tree over) i d in
      let is_node : IsNodeOf tree node = below_are_nodes are.kept over i d inside in
      let lower : rank_of tree node < rank_of tree over = below_ranks are.kept over place.is_node i d inside in
      elim (cases_Bool (is_fdep tree node)) [
        | inl fdep ↦ is.built.fdeps node is_node fdep
        | inr read ↦ is_before (omega (arith, within, low, high)) node is_node read
            (let e = place.rank in let s = run k low high in omega (arith, e, s, lower))
      ]

  -- where all places are made, each node that is no `fdep` is known
  pub all_made : to ≡ length task.places.now → (node : ℕ) → IsNodeOf task.tree.now node
      → is_fdep task.tree.now node ≡ false → HasFamily known task.tree.now table.references.items node
  all_made all node is_node read =
      let at = are.has.all node is_node.0 (let u = is_node.1 in omega (arith, u)) read in
      at_place node at (let w = at.1 in omega (arith, w, all))

  pub table_room : HasRoomFor task.places.now table
  table_room = record {
    all_places = let e = is.built.all_places in omega (arith, e);
    low = λ k within. (place_is k within).is_node.0;
    high =
        λ k within. let h = (place_is k within).is_node.1 in let e = is.built.all_nodes in omega (arith, h, e);
  }

-- where all places before a run are made, whatever it reads is known
pub can_make : {known : ℕ → ℕ} {run : Run} → IsRun run → {table : Table} → IsBuiltTo known run.task table run.from
    → CanMake known run table.references.items
can_make {run} is to = record {
  is_run = is;
  reads = λ k low high.
      let all = is.within in
      let place : IsPlace run.task.tree.now (place_at run.task.places.now k) =
      place_is is.task to k (omega (arith, all, high)) in
      record {
        is_node = place.is_node;
        read = place.read;
        all = let e = to.built.all_nodes in omega (arith, e);
        below = below_made is.task to run.to k is.within is.rank low high;
      };
}

-- what is made to a place is made to each before it
pub built_less : {known : ℕ → ℕ} {task : Task} {table : Table} {from to : ℕ} → from ≤ to → IsBuiltTo known task table to
    → IsBuiltTo known task table from
built_less low is = record {
  built = is.built;
  made = λ k below. is.made k (omega (arith, low, below));
}

-- the next place is made, too
pub built_next : {known : ℕ → ℕ} {task : Task} {table : Table} {place : ℕ} → IsBuiltTo known task table place
    → is_made table.made.items place ≡ true → IsBuiltTo known task table (place + 1)
built_next {table} {place} is marked = record {
  built = is.built;
  made = λ k below. elim (cases_lt k place) [
    | inl early ↦ is.made k early
    | inr late ↦ subst (λ (q : ℕ). is_made table.made.items q ≡ true)
        (let e : place ≡ k = omega (arith, late, below) in e) marked
  ];
}

-- ---- one node more is made

module _ {known : ℕ → ℕ} {task : Task} (are : IsTask task) {before : Table} (after : Table) (place family : ℕ) {to : ℕ}
    (is : IsBuiltTo known task before to) (within : place < length task.places.now)
    (one : KnowsOne known family (IsCutFamily task.tree.now (node_at task.places.now place)))
    (references : after.references.items ≡ set before.references.items (node_at task.places.now place - 1) family)
    (made : after.made.items ≡ set before.made.items place true) where
  abbrev here : ℕ
  here = node_at task.places.now place

  low : 1 ≤ here
  low = (place_is are is place within).is_node.0

  at_node : HasFamily known task.tree.now after.references.items here
  at_node =
      let fits : here - 1 < length before.references.items =
      let u = (place_is are is place within).is_node.1 in let e = is.built.all_nodes in
      omega (arith, low, u, e) in
      subst (λ (r : ℕ). KnowsOne known r (IsCutFamily task.tree.now here))
      (sym (ap (λ l. get_or l (here - 1) 0) references
      ∙ get_or-set_same before.references.items (here - 1) family 0 fits)) one

  other : (node : ℕ) → 1 ≤ node → HasFamily known task.tree.now before.references.items node
      → HasFamily known task.tree.now after.references.items node
  other node some has =
      elim (cases_eq node here) [
        | inl same ↦ subst (HasFamily known task.tree.now after.references.items) (sym same) at_node
        | inr differs ↦ subst (λ (r : ℕ). KnowsOne known r (IsCutFamily task.tree.now node))
            (sym (ap (λ l. get_or l (node - 1) 0) references
            ∙ get_or-set_other before.references.items (here - 1) (node - 1) family 0
            (λ same. differs (omega (arith, same, some, low))))) has
      ]

  pub put_made : is_made after.made.items place ≡ true
  put_made =
      ap (λ m. is_made m place) made
      ∙ get_or-set_same before.made.items place true false (let e = is.built.all_places in omega (arith, e, within))

  kept : {k : ℕ} → k ≢ place → is_made after.made.items k ≡ is_made before.made.items k
  kept {k} differs = ap (λ m. is_made m k) made ∙ get_or-set_other before.made.items place k true false differs

  pub put_built : IsBuiltTo known task after to
  put_built = record {
    built =
        record {
          all_nodes =
              ap (λ (l : List ℕ). length l) references ∙ length-set before.references.items (here - 1) family
              ∙ is.built.all_nodes;
          all_places =
              ap (λ (l : List Bool). length l) made ∙ length-set before.made.items place true ∙ is.built.all_places;
          each = λ k inside marked. elim (cases_eq k place) [
            | inl same ↦ subst (λ (q : ℕ). HasFamily known task.tree.now after.references.items
                (node_at task.places.now q)) (sym same) at_node
            | inr differs ↦ other (node_at task.places.now k) (place_is are is k inside).is_node.0
                (is.built.each k inside (sym (kept differs) ∙ marked))
          ];
          fdeps = λ node is_node fdep. other node is_node.0 (is.built.fdeps node is_node fdep);
        };
    made = λ k below. elim (cases_eq k place) [
      | inl same ↦ subst (λ (q : ℕ). is_made after.made.items q ≡ true) (sym same) put_made
      | inr differs ↦ kept differs ∙ is.made k below
    ];
  }

-- nothing is made yet
pub built_none : {known : ℕ → ℕ} {task : Task} → IsTree task.tree.now → {table : Table}
    → table.references.items ≡ replicate (node_count task.tree.now) 0
    → table.made.items ≡ replicate (length task.places.now) false → IsBuiltTo known task table 0
built_none {known} {task} kept {table} references made = record {
  built =
      record {
        all_nodes =
            ap (λ (l : List ℕ). length l) references ∙ length-replicate (node_count task.tree.now) 0;
        all_places = ap (λ (l : List Bool). length l) made ∙ length-replicate (length task.places.now) false;
        each =
            λ k within is. absurd (let e : false ≡ true =
            sym (get_or-replicate (length task.places.now) k false false within) ∙ sym (ap (λ m. is_made m k) made)
            ∙ is in cc);
        fdeps = λ node is_node fdep.
            let low = is_node.0 in
            let high = is_node.1 in
            let none : get_or table.references.items (node - 1) 0 ≡ 0 =
            ap (λ l. get_or l (node - 1) 0) references
            ∙ get_or-replicate (node_count task.tree.now) (node - 1) 0 0 (omega (arith, low, high)) in
            subst (λ (r : ℕ). KnowsOne known r (IsCutFamily task.tree.now node)) (sym none) (
              inl (omega arith),
              subst (IsCutFamily task.tree.now node) (sym (family-empty known)) (fdep_family kept node is_node fdep),
            );
      };
  made = λ k below. absurd (omega (arith, below));
}

-- ---- what was found

pub found_pushed : (known : ℕ → ℕ) (task : Task) (before : List Finding) {after : List Finding} (finding : Finding)
    (pushed : Bool)
    → All (IsFound known task) before → IsFound known task finding
    → after ≡ (if pushed then before ++ finding ∷ [] else before) → All (IsFound known task) after
found_pushed known task before finding true found is e =
    subst (All (IsFound known task)) (sym e) (All-push (IsFound known task) before finding found is)
found_pushed known task before finding false found is e = subst (All (IsFound known task)) (sym e) found
