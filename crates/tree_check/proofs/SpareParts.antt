-- That uses without a clash give spares that all differ, none of which is a primary.
use Rattle.std.proofs.Common.{◌≡◌, ◌≢◌, ℕ, zero, suc, Bool, true, false, List, [], ◌∷◌, ◌++◌, get_or, drop, take, refl}
use Rattle.std.proofs.Common.{sym, ◌∙◌, ap, subst, ◌⊎◌, inl, inr, arith}
use Rattle.std.specs.Prelude.{if◌then◌else◌, ◌==◌, ◌&&◌, not, All, AllPairs, Contains}
use Rattle.std.specs.List.{list_any, flat_map}
use Rattle.std.proofs.lemmas.Bool.{cases_Bool, or_parts, and_cases, and_parts, not-false, eqb-false}
use Rattle.std.proofs.lemmas.List.Elements.{All-nil, All-cons, All-head, All-tail}
use Rattle.fault_words.specs.declared.kind.GateKind.{GateKind}
use Rattle.fault_words.specs.declared.kind.GateKind.TheVariants.{Csp, Wsp, Hsp}
use Rattle.fault_definitions.specs.WellFormed.{primary_in, spares_in}
use Rattle.tree_check.proofs.{NonePass.both_none, Edges.kept_gates}
use Rattle.tree_check.specs.{declared.numbered.Numbered.Numbered, declared.numbered.NumberedGate.NumberedGate}
use Rattle.tree_check.specs.{TreeOf.numbers}
use Rattle.tree_check.specs.Numbered.{is_spare_kind, is_fdep_in, kept_by, drops_fdeps}
use Rattle.tree_check.specs.Classes.{SpareUse, later_uses, uses_of, spare_uses_in, spare_uses, clash}
use Rattle.tree_check.specs.Classes.{shared_after}
use Rattle.tree_check.specs.Classes.{shared_spares}

-- ---- pairs

pub pairs-cons : {X : Type 0} (x : X) (xs : List X) → All (λ y. x ≢ y) xs
    → AllPairs (λ earlier later. earlier ≢ later) xs → AllPairs (λ earlier later. earlier ≢ later) (x ∷ xs)
pairs-cons x xs apart pairs zero zero d i j = absurd (omega arith)
pairs-cons x xs apart pairs zero (suc j) d i k = apart j d (omega arith)
pairs-cons x xs apart pairs (suc i) zero d l k = absurd (omega arith)
pairs-cons x xs apart pairs (suc i) (suc j) d l k = pairs i j d (omega arith) (omega arith)

-- ---- the uses that are no first inputs, and those that are

abbrev laters : List SpareUse → List ℕ
laters [] = []
laters (u ∷ uses) = if u.is_first then laters uses else u.input.number ∷ laters uses

abbrev firsts : List SpareUse → List ℕ
firsts [] = []
firsts (u ∷ uses) = if u.is_first then u.input.number ∷ firsts uses else firsts uses

either_append : (b : Bool) (x : ℕ) (xs ys : List ℕ)
    → (if b then xs ++ ys else x ∷ (xs ++ ys)) ≡ (if b then xs else x ∷ xs) ++ ys
either_append true x xs ys = refl
either_append false x xs ys = refl

or_append : (b : Bool) (x : ℕ) (xs ys : List ℕ)
    → (if b then x ∷ (xs ++ ys) else xs ++ ys) ≡ (if b then x ∷ xs else xs) ++ ys
or_append true x xs ys = refl
or_append false x xs ys = refl

laters-append : (us vs : List SpareUse) → laters (us ++ vs) ≡ laters us ++ laters vs
laters-append [] vs = refl
laters-append (u ∷ us) vs =
    ap (λ rest. if u.is_first then rest else u.input.number ∷ rest) (laters-append us vs)
    ∙ either_append u.is_first u.input.number (laters us) (laters vs)

firsts-append : (us vs : List SpareUse) → firsts (us ++ vs) ≡ firsts us ++ firsts vs
firsts-append [] vs = refl
firsts-append (u ∷ us) vs =
    ap (λ rest. if u.is_first then u.input.number ∷ rest else rest) (firsts-append us vs)
    ∙ or_append u.is_first u.input.number (firsts us) (firsts vs)

laters-later : (inputs : List Numbered) → laters (later_uses inputs) ≡ numbers inputs
laters-later [] = refl
laters-later (input ∷ inputs) = ap (λ rest. input.number ∷ rest) (laters-later inputs)

firsts-later : (inputs : List Numbered) → firsts (later_uses inputs) ≡ []
firsts-later [] = refl
firsts-later (input ∷ inputs) = firsts-later inputs

laters-uses : (inputs : List Numbered) → drop 1 (numbers inputs) ≡ laters (uses_of inputs)
laters-uses [] = refl
laters-uses (input ∷ inputs) = sym (laters-later inputs)

firsts-uses : (inputs : List Numbered) → take 1 (numbers inputs) ≡ firsts (uses_of inputs)
firsts-uses [] = refl
firsts-uses (input ∷ inputs) = ap (λ rest. input.number ∷ rest) (sym (firsts-later inputs))

-- a gate's spares and its primary are its uses
spares_of_kind : (kind : GateKind) (is_fdep : ℕ → Bool) (inputs : List Numbered)
    → spares_in (kind, numbers (kept_by (drops_fdeps kind) is_fdep inputs))
    ≡ laters (if is_spare_kind kind then uses_of inputs else [])
spares_of_kind Csp is_fdep inputs = laters-uses inputs
spares_of_kind Wsp is_fdep inputs = laters-uses inputs
spares_of_kind Hsp is_fdep inputs = laters-uses inputs
spares_of_kind _ is_fdep inputs = refl

primary_of_kind : (kind : GateKind) (is_fdep : ℕ → Bool) (inputs : List Numbered)
    → primary_in (kind, numbers (kept_by (drops_fdeps kind) is_fdep inputs))
    ≡ firsts (if is_spare_kind kind then uses_of inputs else [])
primary_of_kind Csp is_fdep inputs = firsts-uses inputs
primary_of_kind Wsp is_fdep inputs = firsts-uses inputs
primary_of_kind Hsp is_fdep inputs = firsts-uses inputs
primary_of_kind _ is_fdep inputs = refl

-- ---- no two uses clash

abbrev ClashFree : List SpareUse → Type 0
ClashFree [] = Unit {0}
ClashFree (u ∷ uses) = All (λ later. clash u later ≡ false) uses × ClashFree uses

abbrev IsNew : List SpareUse → SpareUse → Type 0
IsNew earlier later = list_any (λ e. clash e later) earlier ≡ false

clash_free : (earlier uses : List SpareUse) → shared_after earlier uses ≡ [] → All (IsNew earlier) uses × ClashFree uses
clash_free earlier [] none = (All-nil (IsNew earlier), tt)
clash_free earlier (u ∷ uses) none =
    let parts =
    both_none (if list_any (λ e. clash e u) earlier then u.input.place ∷ [] else [])
    (shared_after (u ∷ earlier) uses) none in
    let rest = clash_free (u ∷ earlier) uses parts.1 in (
      All-cons (IsNew earlier) u uses
          (elim (cases_Bool (list_any (λ e. clash e u) earlier)) [
            | inl some ↦ (let here : (if list_any (λ e. clash e u) earlier then u.input.place ∷ [] else [])
                ≡ u.input.place ∷ [] = ap (λ b. if b then u.input.place ∷ [] else []) some in absurd cc)
            | inr new ↦ new
          ])
          (λ k d short. (or_parts (clash u (get_or uses k d)) (list_any (λ e. clash e (get_or uses k d)) earlier)
          (rest.0 k d short)).1),
      (
        λ k d short. (or_parts (clash u (get_or uses k d)) (list_any (λ e. clash e (get_or uses k d)) earlier)
            (rest.0 k d short)).0,
        rest.1,
      ),
    )

-- two uses that don't clash, of which one is no first input, are of two events
apart : (e l : SpareUse) → clash e l ≡ false → (e.is_first ≡ false) ⊎ (l.is_first ≡ false)
    → e.input.number ≢ l.input.number
apart e l free later = elim (and_cases (e.input.number == l.input.number) (not (e.is_first && l.is_first)) free) [
  | inl other ↦ eqb-false e.input.number l.input.number other
  | inr both ↦
      let parts = and_parts e.is_first l.is_first (not-false (e.is_first && l.is_first) both) in
      λ same. elim later [
        | inl none ↦ (let one : e.is_first ≡ true = parts.0 in cc)
        | inr none ↦ (let one : l.is_first ≡ true = parts.1 in cc)
      ]
]

-- what holds of the uses holds of their numbers
laters_all : (P : ℕ → Type 0) (uses : List SpareUse) → All (λ u. u.is_first ≡ false → P u.input.number) uses
    → All P (laters uses)
laters_all P [] all = All-nil P
laters_all P (u ∷ uses) all =
    by u.is_first (λ is. All-head (λ (v : SpareUse). v.is_first ≡ false → P v.input.number) u uses all is)
    (laters_all P uses (All-tail (λ (v : SpareUse). v.is_first ≡ false → P v.input.number) u uses all))
  where
    by : (b : Bool) → (b ≡ false → P u.input.number) → All P (laters uses)
        → All P (if b then laters uses else u.input.number ∷ laters uses)
    by true here rest = rest
    by false here rest = All-cons P u.input.number (laters uses) (here refl) rest

firsts_all : (P : ℕ → Type 0) (uses : List SpareUse) → All (λ u. P u.input.number) uses → All P (firsts uses)
firsts_all P [] all = All-nil P
firsts_all P (u ∷ uses) all =
    by u.is_first (firsts_all P uses (All-tail (λ (v : SpareUse). P v.input.number) u uses all))
  where
    by : (b : Bool) → All P (firsts uses) → All P (if b then u.input.number ∷ firsts uses else firsts uses)
    by true rest =
        All-cons P u.input.number (firsts uses) (All-head (λ (v : SpareUse). P v.input.number) u uses all) rest
    by false rest = rest

laters_differ : (uses : List SpareUse) → ClashFree uses → AllPairs (λ earlier later. earlier ≢ later) (laters uses)
laters_differ [] free = λ i j d l k. absurd (omega arith)
laters_differ (u ∷ uses) free = by u.is_first refl (laters_differ uses free.1)
  where
    by : (b : Bool) → u.is_first ≡ b → AllPairs (λ earlier later. earlier ≢ later) (laters uses)
        → AllPairs (λ earlier later. earlier ≢ later) (if b then laters uses else u.input.number ∷ laters uses)
    by true is rest = rest
    by false is rest =
        pairs-cons u.input.number (laters uses) (laters_all (λ number. u.input.number ≢ number) uses
        (λ k d short none. apart u (get_or uses k d) (free.0 k d short) (inl is))) rest

abbrev IsNoneOf : List ℕ → ℕ → Type 0
IsNoneOf numbers number = All (λ other. other ≢ number) numbers

none_first : (uses : List SpareUse) → ClashFree uses → All (IsNoneOf (firsts uses)) (laters uses)
none_first [] free = All-nil (IsNoneOf [])
none_first (u ∷ uses) free = by u.is_first refl (none_first uses free.1)
  where
    by : (b : Bool) → u.is_first ≡ b → All (IsNoneOf (firsts uses)) (laters uses)
        → All (IsNoneOf (if b then u.input.number ∷ firsts uses else firsts uses))
        (if b then laters uses else u.input.number ∷ laters uses)
    by true is rest =
        let new : All (λ number. u.input.number ≢ number) (laters uses) =
        laters_all (λ number. u.input.number ≢ number) uses
        (λ k d short none. apart u (get_or uses k d) (free.0 k d short) (inr none)) in
        λ k d short. All-cons (λ other. other ≢ get_or (laters uses) k d) u.input.number (firsts uses) (new k d short)
        (rest k d short)
    by false is rest =
        All-cons (IsNoneOf (firsts uses)) u.input.number (laters uses)
        (firsts_all (λ number. number ≢ u.input.number) uses
        (λ k d short same. apart u (get_or uses k d) (free.0 k d short) (inl is) (sym same)))
        rest

-- ---- of the gates of a tree

module _ (units : ℕ) (all_kinds : List GateKind) where
  spares_of : (gates : List NumberedGate) → flat_map spares_in (kept_gates units all_kinds gates)
      ≡ laters (spare_uses gates)
  spares_of [] = refl
  spares_of (gate ∷ gates) =
      ap (λ front. front ++ flat_map spares_in (kept_gates units all_kinds gates))
      (spares_of_kind gate.kind (is_fdep_in units all_kinds) gate.inputs)
      ∙ (ap (λ rest. laters (spare_uses_in gate) ++ rest) (spares_of gates)
      ∙ sym (laters-append (spare_uses_in gate) (spare_uses gates)))

  primaries_of : (gates : List NumberedGate) → flat_map primary_in (kept_gates units all_kinds gates)
      ≡ firsts (spare_uses gates)
  primaries_of [] = refl
  primaries_of (gate ∷ gates) =
      ap (λ front. front ++ flat_map primary_in (kept_gates units all_kinds gates))
      (primary_of_kind gate.kind (is_fdep_in units all_kinds) gate.inputs)
      ∙ (ap (λ rest. firsts (spare_uses_in gate) ++ rest) (primaries_of gates)
      ∙ sym (firsts-append (spare_uses_in gate) (spare_uses gates)))

  pub differing_spares : (gates : List NumberedGate) → shared_spares gates ≡ []
      → AllPairs (λ earlier later. earlier ≢ later) (flat_map spares_in (kept_gates units all_kinds gates))
  differing_spares gates none =
      subst (λ ns. AllPairs (λ earlier later. earlier ≢ later) ns) (sym (spares_of gates))
      (laters_differ (spare_uses gates) (clash_free [] (spare_uses gates) none).1)

  pub no_primary : (gates : List NumberedGate) → shared_spares gates ≡ []
      → All (λ spare. ¬ (Contains (flat_map primary_in (kept_gates units all_kinds gates)) spare))
      (flat_map spares_in (kept_gates units all_kinds gates))
  no_primary gates none =
      subst (λ ps. All (λ spare. ¬ (Contains ps spare)) (flat_map spares_in (kept_gates units all_kinds gates)))
      (sym (primaries_of gates))
      (subst (λ ns. All (λ spare. ¬ (Contains (firsts (spare_uses gates)) spare)) ns) (sym (spares_of gates)) found)
    where
      new : All (IsNoneOf (firsts (spare_uses gates))) (laters (spare_uses gates))
      new = none_first (spare_uses gates) (clash_free [] (spare_uses gates) none).1

      found : All (λ spare. ¬ (Contains (firsts (spare_uses gates)) spare)) (laters (spare_uses gates))
      found k d short there = new k d short there.0 (get_or (laters (spare_uses gates)) k d) there.1 there.2
