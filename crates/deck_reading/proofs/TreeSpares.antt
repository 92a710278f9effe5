-- The spare gates of a tree share no spare.
use Rattle.std.proofs.Common.{◌≡◌, ◌≢◌, ℕ, suc, Bool, true, false, not, cond, List, [], ◌∷◌, ◌++◌}
use Rattle.std.proofs.Common.{drop, take, map, refl, sym, ap, ◌∙◌, subst, inl, inr, arith}
use Rattle.std.specs.Prelude.{◌&&◌, ◌==◌, All, AllPairs, Contains, if◌then◌else◌}
use Rattle.std.specs.List.{flat_map, list_any}
use Rattle.std.proofs.lemmas.Bool.{and_left, and_right, cases_Bool, cond-false, cond-true, ne_eqb, or_from}
use Rattle.std.proofs.lemmas.List.{get_or_default}
use Rattle.std.proofs.lemmas.List.Elements.{All-cons, All-head, All-nil, All-tail, All-weaker}
use Rattle.fault_words.specs.declared.kind.GateKind.{GateKind}
use Rattle.fault_words.specs.declared.kind.GateKind.TheVariants.{And, Or, Votes, Pand, Por, Seq, Fdep, Csp, Wsp, Hsp}
use Rattle.fault_definitions.specs.Tree.{FaultTree}
use Rattle.fault_definitions.specs.Tree as trees
use Rattle.fault_definitions.specs.WellFormed.{IsTree, primaries, primary_in, spares, spares_in}
use Rattle.tree_check.specs.Classes.{SpareUse, clash, later_uses, shared_after, shared_spares, spare_uses}
use Rattle.tree_check.specs.Classes.{spare_uses_in, uses_of}
use Rattle.deck_reading.proofs.{Anywhere.Numbered, TreeLists.node_at, TreeLists.numbered_at}

-- ---- uses by whether they are first

abbrev later_numbers : List SpareUse → List ℕ
later_numbers [] = []
later_numbers (use_of ∷ uses) = cond use_of.is_first (later_numbers uses) (use_of.input.number ∷ later_numbers uses)

abbrev first_numbers : List SpareUse → List ℕ
first_numbers [] = []
first_numbers (use_of ∷ uses) = cond use_of.is_first (use_of.input.number ∷ first_numbers uses) (first_numbers uses)

later-append : (front back : List SpareUse) → later_numbers (front ++ back) ≡ later_numbers front ++ later_numbers back
later-append [] back = refl
later-append (u ∷ front) back =
    ap (λ l. cond u.is_first l (u.input.number ∷ l)) (later-append front back) ∙ split u.is_first
  where
    split : (b : Bool) → cond b (later_numbers front ++ later_numbers back)
        (u.input.number ∷ (later_numbers front ++ later_numbers back))
        ≡ cond b (later_numbers front) (u.input.number ∷ later_numbers front) ++ later_numbers back
    split true = refl
    split false = refl

first-append : (front back : List SpareUse) → first_numbers (front ++ back) ≡ first_numbers front ++ first_numbers back
first-append [] back = refl
first-append (u ∷ front) back =
    ap (λ l. cond u.is_first (u.input.number ∷ l) l) (first-append front back) ∙ split u.is_first
  where
    split : (b : Bool) → cond b (u.input.number ∷ (first_numbers front ++ first_numbers back))
        (first_numbers front ++ first_numbers back)
        ≡ cond b (u.input.number ∷ first_numbers front) (first_numbers front) ++ first_numbers back
    split true = refl
    split false = refl

-- ---- uses that don't clash

abbrev Apart : List SpareUse → Type 0
Apart [] = Unit {0}
Apart (u ∷ uses) = All (λ v. clash u v ≡ false) uses × Apart uses

clash_apart : (u v : SpareUse) → u.input.number ≢ v.input.number → clash u v ≡ false
clash_apart u v differ = and_left (u.input.number == v.input.number) (not (u.is_first && v.is_first))
    (ne_eqb u.input.number v.input.number differ)

clash_first : (u v : SpareUse) → u.is_first ≡ true → v.is_first ≡ true → clash u v ≡ false
clash_first u v one two =
    and_right (u.input.number == v.input.number) (not (u.is_first && v.is_first))
    (ap (λ b. not (b && v.is_first)) one ∙ ap not two)

-- a first use beside uses whose later ones have other numbers
alone_first : (u : SpareUse) (uses : List SpareUse) → u.is_first ≡ true
    → All (λ s. u.input.number ≢ s) (later_numbers uses) → All (λ v. clash u v ≡ false) uses
alone_first u [] first others = All-nil (λ (v : SpareUse). clash u v ≡ false)
alone_first u (v ∷ uses) first others =
    let n = u.input.number in
    elim (cases_Bool v.is_first) [
      | inl one ↦
          let rest = subst (All (λ s. n ≢ s))
          (cond-true v.is_first (later_numbers uses) (v.input.number ∷ later_numbers uses) one) others in
          All-cons (λ (w : SpareUse). clash u w ≡ false) v uses (clash_first u v first one)
          (alone_first u uses first rest)
      | inr later ↦
          let all = subst (All (λ s. n ≢ s))
          (cond-false v.is_first (later_numbers uses) (v.input.number ∷ later_numbers uses) later) others in
          All-cons (λ (w : SpareUse). clash u w ≡ false) v uses
          (clash_apart u v (All-head (λ s. n ≢ s) v.input.number (later_numbers uses) all))
          (alone_first u uses first (All-tail (λ s. n ≢ s) v.input.number (later_numbers uses) all))
    ]

-- a use beside uses of other numbers
alone_later : (u : SpareUse) (uses : List SpareUse) → All (λ s. u.input.number ≢ s) (later_numbers uses)
    → All (λ s. u.input.number ≢ s) (first_numbers uses)
    → All (λ v. clash u v ≡ false) uses
alone_later u [] laters firsts = All-nil (λ (v : SpareUse). clash u v ≡ false)
alone_later u (v ∷ uses) laters firsts =
    let n = u.input.number in
    elim (cases_Bool v.is_first) [
      | inl one ↦
          let rest = subst (All (λ s. n ≢ s))
          (cond-true v.is_first (later_numbers uses) (v.input.number ∷ later_numbers uses) one) laters in
          let all = subst (All (λ s. n ≢ s))
          (cond-true v.is_first (v.input.number ∷ first_numbers uses) (first_numbers uses) one) firsts in
          All-cons (λ (w : SpareUse). clash u w ≡ false) v uses
          (clash_apart u v (All-head (λ s. n ≢ s) v.input.number (first_numbers uses) all))
          (alone_later u uses rest (All-tail (λ s. n ≢ s) v.input.number (first_numbers uses) all))
      | inr later ↦
          let all = subst (All (λ s. n ≢ s))
          (cond-false v.is_first (later_numbers uses) (v.input.number ∷ later_numbers uses) later) laters in
          let rest = subst (All (λ s. n ≢ s))
          (cond-false v.is_first (v.input.number ∷ first_numbers uses) (first_numbers uses) later) firsts in
          All-cons (λ (w : SpareUse). clash u w ≡ false) v uses
          (clash_apart u v (All-head (λ s. n ≢ s) v.input.number (later_numbers uses) all))
          (alone_later u uses (All-tail (λ s. n ≢ s) v.input.number (later_numbers uses) all) rest)
    ]

pairs_head : (x : ℕ) (xs : List ℕ) → AllPairs (λ earlier later. earlier ≢ later) (x ∷ xs) → All (λ y. x ≢ y) xs
pairs_head x xs pairs = λ k d short. pairs 0 (suc k) d (omega arith) (omega arith)

pairs_tail : (x : ℕ) (xs : List ℕ) → AllPairs (λ earlier later. earlier ≢ later) (x ∷ xs)
    → AllPairs (λ earlier later. earlier ≢ later) xs
pairs_tail x xs pairs = λ i j d before within. pairs (suc i) (suc j) d (omega arith) (omega arith)

turned : (n : ℕ) (xs : List ℕ) → All (λ s. s ≢ n) xs → All (λ s. n ≢ s) xs
turned n xs all = All-weaker (λ s. s ≢ n) (λ s. n ≢ s) (λ s other same. other (sym same)) xs all

apart_by : (uses : List SpareUse) → AllPairs (λ earlier later. earlier ≢ later) (later_numbers uses)
    → All (λ s. All (λ f. s ≢ f) (first_numbers uses)) (later_numbers uses) → Apart uses
apart_by [] pairs avoid = tt
apart_by (u ∷ uses) pairs avoid =
    let n = u.input.number in
    let laters = later_numbers uses in
    let firsts = first_numbers uses in
    elim (cases_Bool u.is_first) [
      | inl first ↦
          let l : cond u.is_first laters (n ∷ laters) ≡ laters = cond-true u.is_first laters (n ∷ laters) first in
          let f : cond u.is_first (n ∷ firsts) firsts ≡ n ∷ firsts = cond-true u.is_first (n ∷ firsts) firsts first in
          let avoids : All (λ s. All (λ g. s ≢ g) (n ∷ firsts)) laters =
          subst (λ xs. All (λ s. All (λ g. s ≢ g) (n ∷ firsts)) xs) l
          (subst (λ gs. All (λ s. All (λ g. s ≢ g) gs) (cond u.is_first laters (n ∷ laters))) f avoid) in (
            alone_first u uses first (turned n laters
                (All-weaker (λ s. All (λ g. s ≢ g) (n ∷ firsts)) (λ s. s ≢ n)
                (λ s all. All-head (λ g. s ≢ g) n firsts all) laters avoids)),
            apart_by uses (subst (AllPairs (λ earlier later. earlier ≢ later)) l pairs)
                (All-weaker (λ s. All (λ g. s ≢ g) (n ∷ firsts)) (λ s. All (λ g. s ≢ g) firsts)
                (λ s all. All-tail (λ g. s ≢ g) n firsts all) laters avoids),
          )
      | inr later ↦
          let l : cond u.is_first laters (n ∷ laters) ≡ n ∷ laters = cond-false u.is_first laters (n ∷ laters) later in
          let f : cond u.is_first (n ∷ firsts) firsts ≡ firsts = cond-false u.is_first (n ∷ firsts) firsts later in
          let all : AllPairs (λ earlier later. earlier ≢ later) (n ∷ laters) =
          subst (AllPairs (λ earlier later. earlier ≢ later)) l pairs in
          let avoids : All (λ s. All (λ g. s ≢ g) firsts) (n ∷ laters) =
          subst (λ xs. All (λ s. All (λ g. s ≢ g) firsts) xs) l
          (subst (λ gs. All (λ s. All (λ g. s ≢ g) gs) (cond u.is_first laters (n ∷ laters))) f avoid) in (
            alone_later u uses (pairs_head n laters all) (All-head (λ s. All (λ g. s ≢ g) firsts) n laters avoids),
            apart_by uses (pairs_tail n laters all) (All-tail (λ s. All (λ g. s ≢ g) firsts) n laters avoids),
          )
    ]

pub none_any : {X : Type 0} (p : X → Bool) (xs : List X) → All (λ x. p x ≡ false) xs → list_any p xs ≡ false
none_any p [] none = refl
none_any p (x ∷ xs) none = or_from (p x) (list_any p xs) (All-head (λ y. p y ≡ false) x xs none)
    (none_any p xs (All-tail (λ y. p y ≡ false) x xs none))

none_shared : (earlier uses : List SpareUse) → Apart uses → All (λ e. All (λ v. clash e v ≡ false) uses) earlier
    → shared_after earlier uses ≡ []
none_shared earlier [] apart cross = refl
none_shared earlier (later ∷ uses) apart cross =
    let here : list_any (λ (e : SpareUse). clash e later) earlier ≡ false =
    none_any (λ (e : SpareUse). clash e later) earlier
    (All-weaker (λ (e : SpareUse). All (λ (v : SpareUse). clash e v ≡ false) (later ∷ uses))
    (λ (e : SpareUse). clash e later ≡ false)
    (λ e all. All-head (λ (v : SpareUse). clash e v ≡ false) later uses all) earlier cross) in
    ap (λ b. (if b then later.input.place ∷ [] else []) ++ shared_after (later ∷ earlier) uses) here
    ∙ none_shared (later ∷ earlier) uses apart.1
    (All-cons (λ (e : SpareUse). All (λ (v : SpareUse). clash e v ≡ false) uses) later earlier apart.0
    (All-weaker (λ (e : SpareUse). All (λ (v : SpareUse). clash e v ≡ false) (later ∷ uses))
    (λ (e : SpareUse). All (λ (v : SpareUse). clash e v ≡ false) uses)
    (λ e all. All-tail (λ (v : SpareUse). clash e v ≡ false) later uses all) earlier cross))

-- ---- the uses of a tree's gates

module _ {tree : FaultTree} (kept : IsTree tree) where
  abbrev nodes_in : List ℕ → List Numbered
  nodes_in inputs = map (node_at tree kept) inputs

  later_all : (inputs : List ℕ) → later_numbers (later_uses (nodes_in inputs)) ≡ inputs
  later_all [] = refl
  later_all (input ∷ inputs) = ap (λ l. input ∷ l) (later_all inputs)

  later_none : (inputs : List ℕ) → first_numbers (later_uses (nodes_in inputs)) ≡ []
  later_none [] = refl
  later_none (input ∷ inputs) = later_none inputs

  uses_later : (inputs : List ℕ) → later_numbers (uses_of (nodes_in inputs)) ≡ drop 1 inputs
  uses_later [] = refl
  uses_later (input ∷ inputs) = later_all inputs

  uses_first : (inputs : List ℕ) → first_numbers (uses_of (nodes_in inputs)) ≡ take 1 inputs
  uses_first [] = refl
  uses_first (input ∷ inputs) = ap (λ l. input ∷ l) (later_none inputs)

  gate_later : (kind : GateKind) (inputs : List ℕ) → later_numbers
      (spare_uses_in (numbered_at tree kept (kind, inputs))) ≡ spares_in (kind, inputs)
  gate_later And inputs = refl
  gate_later Or inputs = refl
  gate_later (Votes least of) inputs = refl
  gate_later Pand inputs = refl
  gate_later Por inputs = refl
  gate_later Seq inputs = refl
  gate_later Fdep inputs = refl
  gate_later Csp inputs = uses_later inputs
  gate_later Wsp inputs = uses_later inputs
  gate_later Hsp inputs = uses_later inputs

  gate_first : (kind : GateKind) (inputs : List ℕ) → first_numbers
      (spare_uses_in (numbered_at tree kept (kind, inputs))) ≡ primary_in (kind, inputs)
  gate_first And inputs = refl
  gate_first Or inputs = refl
  gate_first (Votes least of) inputs = refl
  gate_first Pand inputs = refl
  gate_first Por inputs = refl
  gate_first Seq inputs = refl
  gate_first Fdep inputs = refl
  gate_first Csp inputs = uses_first inputs
  gate_first Wsp inputs = uses_first inputs
  gate_first Hsp inputs = uses_first inputs

  all_later : (gates : List (GateKind × List ℕ)) → later_numbers
      (spare_uses (map (numbered_at tree kept) gates)) ≡ flat_map spares_in gates
  all_later [] = refl
  all_later (gate ∷ gates) =
      later-append (spare_uses_in (numbered_at tree kept gate)) (spare_uses (map (numbered_at tree kept) gates))
      ∙ ap (λ l. l ++ later_numbers (spare_uses (map (numbered_at tree kept) gates))) (gate_later gate.0 gate.1)
      ∙ ap (λ l. spares_in gate ++ l) (all_later gates)

  all_first : (gates : List (GateKind × List ℕ)) → first_numbers
      (spare_uses (map (numbered_at tree kept) gates)) ≡ flat_map primary_in gates
  all_first [] = refl
  all_first (gate ∷ gates) =
      first-append (spare_uses_in (numbered_at tree kept gate)) (spare_uses (map (numbered_at tree kept) gates))
      ∙ ap (λ l. l ++ first_numbers (spare_uses (map (numbered_at tree kept) gates))) (gate_first gate.0 gate.1)
      ∙ ap (λ l. primary_in gate ++ l) (all_first gates)

  not_in : (xs : List ℕ) (s : ℕ) → ¬ (Contains xs s) → All (λ f. s ≢ f) xs
  not_in xs s none = λ k d short same. none (k, short, get_or_default xs k s d short ∙ sym same)

  -- no spare is shared
  pub no_shared : shared_spares (map (numbered_at tree kept) (trees.gates tree)) ≡ []
  no_shared =
      let uses : List SpareUse = spare_uses (map (numbered_at tree kept) (trees.gates tree)) in
      let laters : later_numbers uses ≡ spares tree = all_later (trees.gates tree) in
      let firsts : first_numbers uses ≡ primaries tree = all_first (trees.gates tree) in
      let avoid : All (λ s. All (λ f. s ≢ f) (primaries tree)) (spares tree) =
      All-weaker (λ s. ¬ (Contains (primaries tree) s)) (λ s. All (λ f. s ≢ f) (primaries tree))
      (λ s none. not_in (primaries tree) s none) (spares tree)
      kept.spares_are_no_primaries in
      none_shared [] uses
      (apart_by uses (subst (AllPairs (λ earlier later. earlier ≢ later)) (sym laters) kept.spares_differ)
      (subst (λ xs. All (λ s. All (λ f. s ≢ f) (first_numbers uses)) xs) (sym laters)
      (subst (λ fs. All (λ s. All (λ f. s ≢ f) fs) (spares tree)) (sym firsts) avoid)))
      (All-nil (λ (e : SpareUse). All (λ (v : SpareUse). clash e v ≡ false) uses))
