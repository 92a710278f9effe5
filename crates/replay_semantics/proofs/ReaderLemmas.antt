-- How the lists of readers are filled.
use Rattle.std.proofs.Common.{◌≡◌, ℕ, suc, ◌+◌, ◌<◌, ◌≤◌, true, false, ◌==◌, List, [], ◌∷◌, ◌++◌, length, set, get_or}
use Rattle.std.proofs.Common.{All, refl, arith, ap, sym, subst, ◌∙◌, inl, inr, length-set, get_or-set_same}
use Rattle.std.proofs.Common.{get_or-set_other, replicate, zero, drop, take}
use Rattle.std.proofs.lemmas.Bool.{cases_eq, cases_lt, or_cases, or_left, or_right, eq-eqb, eqb-true}
use Rattle.std.proofs.lemmas.List.{append-nil, drop_all, length-replicate, take_all}
use Rattle.std.proofs.lemmas.List.Elements.{Contains-get_or}
use Rattle.unit_sets.specs.UnitList.{among}
use Rattle.unit_sets.proofs.UnitListLemmas.{among-from_Contains}
use Rattle.fault_definitions.specs.Tree.{FaultTree, IsNodeOf, node_count}
use Rattle.fault_definitions.specs.Trigger.{below}
use Rattle.replay_semantics.specs.Readers.{readers_in, AreReaders, MoreReaders}
use Rattle.replay_semantics.proofs.Places.{among-append, or_nothing}

-- what holds of each member holds of all
pub All-from_among : (P : ℕ → Type 0) (xs : List ℕ) → ((x : ℕ) → among xs x ≡ true → P x) → All P xs
All-from_among P xs each k d short =
    each (get_or xs k d) (among-from_Contains xs (get_or xs k d) (Contains-get_or xs k d short))

-- the last of some nodes is among them
pub one_more : (rows : List (List ℕ)) (node reader : ℕ) → node < length rows
    → MoreReaders rows (set rows node (readers_in rows node ++ reader ∷ [])) (node ∷ []) reader
one_more rows node reader short =
    let row : List ℕ = readers_in rows node ++ reader ∷ [] in
    let here : readers_in (set rows node row) node ≡ row = get_or-set_same rows node row [] short in
    let last : among row reader ≡ true =
    among-append (readers_in rows node) (reader ∷ []) reader
    ∙ or_right (among (readers_in rows node) reader) _
    (or_left (reader == reader) false (eq-eqb reader reader refl)) in
    record {
      all = length-set rows node row;
      added = λ n one.
          let same : node ≡ n = eqb-true node n (sym (or_nothing (node == n)) ∙ one) in
          subst (λ (m : ℕ). among (readers_in (set rows node row) m) reader ≡ true) same
          (ap (λ xs. among xs reader) here ∙ last);
      kept = λ n other h. elim (cases_eq n node) [
        | inl same ↦
            let was : among (readers_in rows node) other ≡ true =
            subst (λ (m : ℕ). among (readers_in rows m) other ≡ true) same h in
            subst (λ (m : ℕ). among (readers_in (set rows node row) m) other ≡ true) (sym same)
            (ap (λ xs. among xs other) here ∙ among-append (readers_in rows node) (reader ∷ []) other
            ∙ or_left (among (readers_in rows node) other) _ was)
        | inr apart ↦ ap (λ xs. among xs other) (get_or-set_other rows node n row [] apart) ∙ h
      ];
      only = λ n other h. elim (cases_eq n node) [
        | inl same ↦
            let is : among row other ≡ true =
            sym (ap (λ xs. among xs other) here) ∙ subst (λ (m : ℕ). among (readers_in (set rows node row) m) other
            ≡ true) same h in
            elim (or_cases (among (readers_in rows node) other) (among (reader ∷ []) other)
            (sym (among-append (readers_in rows node) (reader ∷ []) other) ∙ is)) [
              | inl was ↦ inl (subst (λ (m : ℕ). among (readers_in rows m) other ≡ true) (sym same) was)
              | inr new ↦ inr (sym (eqb-true reader other (sym (or_nothing (reader == other)) ∙ new)))
            ]
        | inr apart ↦ inl (sym (ap (λ xs. among xs other) (get_or-set_other rows node n row [] apart)) ∙ h)
      ];
    }

replicate_at : (count node : ℕ) → readers_in (replicate count (let none : List ℕ = [] in none)) node ≡ []
replicate_at zero node = refl
replicate_at (suc count) zero = refl
replicate_at (suc count) (suc node) = replicate_at count node

-- the readers up to a number are listed
pub record HaveReaders (tree : FaultTree) (rows : List (List ℕ)) (count : ℕ) : Type 0 where
  pub all : length rows ≡ suc (node_count tree)
  pub nodes : (node reader : ℕ) → among (readers_in rows node) reader ≡ true → IsNodeOf tree reader
  pub listed : (node reader : ℕ) → IsNodeOf tree reader → reader ≤ count → among (below tree reader) node ≡ true
      → among (readers_in rows node) reader ≡ true

pub have_none : {tree : FaultTree} {count : ℕ} {rows : List (List ℕ)} → rows ≡ replicate count []
    → count ≡ suc (node_count tree) → HaveReaders tree rows 0
have_none {count} none all = record {
  all = ap length none ∙ length-replicate count [] ∙ all;
  nodes = λ node reader h.
      let never : false ≡ true = subst (λ row. among row reader ≡ true) (ap (λ r. readers_in r node) none
      ∙ replicate_at count node) h in
      absurd cc;
  listed = λ node reader is_node low h. absurd (omega (arith, is_node.0));
}

pub have_more : {tree : FaultTree} {old new : List (List ℕ)} {count reader : ℕ} {nodes : List ℕ} → reader ≡ count + 1
    → IsNodeOf tree reader → nodes ≡ below tree reader → HaveReaders tree old count → MoreReaders old new nodes reader
    → HaveReaders tree new (count + 1)
have_more {tree} {new} {reader} {nodes} next is_node nodes_is have more = record {
  all = more.all ∙ have.all;
  nodes = λ node other h. elim (more.only node other h) [
    | inl before ↦ have.nodes node other before
    | inr same ↦ subst (IsNodeOf tree) (sym same) is_node
  ];
  listed = λ node other is low h. elim (cases_lt other reader) [
    | inl lower ↦ more.kept node other (have.listed node other is (omega arith) h)
    | inr last ↦
        let same : other ≡ reader = omega arith in
        subst (λ x. among (readers_in new node) x ≡ true) (sym same)
        (more.added node (subst (λ ns. among ns node ≡ true) (ap (below tree) same ∙ sym nodes_is) h))
  ];
}

-- lists whose items were changed in place
pub changed_all : {len : ℕ} (lists new : List (List ℕ)) → length new ≡ length lists → len ≡ length lists
    → take len (new ++ drop (length new) lists) ≡ new
changed_all {len} lists new same all =
    ap (λ rest. take len (new ++ rest)) (drop_all (length new) lists (omega arith)) ∙ ap (take len) (append-nil new)
    ∙ take_all len new (omega arith)

pub all_readers : {tree : FaultTree} {rows : List (List ℕ)} {count : ℕ} → node_count tree ≤ count
    → HaveReaders tree rows count → AreReaders tree rows
all_readers {tree} {rows} full have = record {
  all = have.all;
  nodes = λ node. All-from_among (IsNodeOf tree) (readers_in rows node) (have.nodes node);
  listed = λ node reader is_node h. have.listed node reader is_node (omega (arith, is_node.1)) h;
}
