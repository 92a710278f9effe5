-- The units of a take's names may be asked for.
use Rattle.std.proofs.Common.{◌≡◌, ℕ, suc, ◌-◌, ◌≤◌, Bool, true, false, not, List, [], ◌∷◌, ◌++◌, length, get_or, refl}
use Rattle.std.proofs.Common.{sym, ◌∙◌, ap, subst, arith, inl, inr, map, take, ◌+◌, ◌<◌}
use Rattle.std.specs.Prelude.{nat_le, nat_lt, ◌||◌, ◌&&◌, ◌==◌, Option, Some, None, is_none}
use Rattle.std.proofs.lemmas.Bool.{cases_lt, lt-ltb, le-ltb, leb-true, le-leb, and_parts, or_left, or_right}
use Rattle.std.proofs.lemmas.List.{length-map, length-take-le, map-append, take_more}
use lib.Pointwise.{bytes_decides}
use Rattle.fault_definitions.specs.Tree.{FaultTree}
use Rattle.unit_sets.specs.UnitList.{among}
use Rattle.fault_words.specs.Names.{same_name, has_name, all_differ}
use Rattle.crew_script.specs.Names.{are_taken, most_taken}
use Rattle.margin_policy.specs.Asked.{AskedView, has_repeat, can_be_asked, is_none_asked}
use Rattle.outage_board.specs.Requests.{unit_of, with_unit, units_of, some_unknown}
use Rattle.outage_board.proofs.NameLemmas.{named_by}

pub units_within : (tree : FaultTree) (names : List (List ℕ)) → length (units_of tree names) ≤ length names
units_within tree [] = omega arith
units_within tree (name ∷ names) = by_unit (unit_of tree name) (units_within tree names)
  where
    by_unit : (found : Option ℕ) → length (units_of tree names) ≤ length names
        → length (with_unit found (units_of tree names)) ≤ length (name ∷ names)
    by_unit None later = omega arith
    by_unit (Some unit) later = omega arith

lt_suc : (a b : ℕ) → nat_lt a b ≡ nat_lt (suc a) (suc b)
lt_suc a b = elim (cases_lt a b) [
  | inl less ↦ lt-ltb a b less ∙ sym (lt-ltb (suc a) (suc b) (omega arith))
  | inr more ↦ le-ltb a b more ∙ sym (le-ltb (suc a) (suc b) (omega arith))
]

-- some name names no unit where there are fewer units than names
pub unknown_is : (tree : FaultTree) (names : List (List ℕ))
    → some_unknown tree names ≡ nat_lt (length (units_of tree names)) (length names)
unknown_is tree [] = sym (le-ltb 0 0 (omega arith))
unknown_is tree (name ∷ names) = by_unit (unit_of tree name) (unknown_is tree names) (units_within tree names)
  where
    by_unit : (found : Option ℕ) → some_unknown tree names ≡ nat_lt (length (units_of tree names)) (length names)
        → length (units_of tree names) ≤ length names
        → (is_none found || some_unknown tree names) ≡ nat_lt (length (with_unit found (units_of tree names)))
        (length (name ∷ names))
    by_unit None later within = sym (lt-ltb (length (units_of tree names)) (suc (length names)) (omega arith))
    by_unit (Some unit) later within = later ∙ lt_suc (length (units_of tree names)) (length names)

-- a unit of a take has one of its names
among_named : (tree : FaultTree) (names : List (List ℕ)) (unit : ℕ) → among (units_of tree names) unit ≡ true
    → has_name names (get_or tree.names (unit - 1) []) ≡ true
among_named tree [] unit is = absurd cc
among_named tree (name ∷ names) unit is = by_unit (unit_of tree name) refl (among_named tree names unit) is
  where
    here : (found : ℕ) → unit_of tree name ≡ Some found → (found == unit) ≡ true
        → same_name (get_or tree.names (unit - 1) []) name ≡ true
    here found at e =
        let same : found ≡ unit = eqb_is found unit e in
        (bytes_decides (get_or tree.names (unit - 1) []) name).1
        (ap (λ k. get_or tree.names (k - 1) []) (sym same) ∙ (named_by tree name found at).1)
      where
        eqb_is : (a b : ℕ) → (a == b) ≡ true → a ≡ b
        eqb_is a b h = search (arith)

    by_unit : (found : Option ℕ) → unit_of tree name ≡ found
        → (among (units_of tree names) unit ≡ true → has_name names (get_or tree.names (unit - 1) []) ≡ true)
        → among (with_unit found (units_of tree names)) unit ≡ true
        → has_name (name ∷ names) (get_or tree.names (unit - 1) []) ≡ true
    by_unit None at later is' =
        or_right (same_name (get_or tree.names (unit - 1) []) name) (has_name names (get_or tree.names (unit - 1) []))
        (later is')
    by_unit (Some found) at later is' = by_same (found == unit) (here found at) later is'
      where
        by_same : (same : Bool) → (same ≡ true → same_name (get_or tree.names (unit - 1) []) name ≡ true)
            → (among (units_of tree names) unit ≡ true → has_name names (get_or tree.names (unit - 1) []) ≡ true)
            → (same || among (units_of tree names) unit) ≡ true
            → has_name (name ∷ names) (get_or tree.names (unit - 1) []) ≡ true
        by_same true here' later' e =
            or_left (same_name (get_or tree.names (unit - 1) []) name)
            (has_name names (get_or tree.names (unit - 1) [])) (here' refl)
        by_same false here' later' e =
            or_right (same_name (get_or tree.names (unit - 1) []) name)
            (has_name names (get_or tree.names (unit - 1) [])) (later' e)

not_true : (b : Bool) → not b ≡ true → b ≡ false
not_true true h = absurd cc
not_true false h = refl

no_repeat : (tree : FaultTree) (names : List (List ℕ)) → all_differ names ≡ true
    → has_repeat (units_of tree names) ≡ false
no_repeat tree [] differ = refl
no_repeat tree (name ∷ names) differ =
    let parts = and_parts (not (has_name names name)) (all_differ names) differ in
    by_unit (unit_of tree name) refl (no_repeat tree names parts.1) (not_true (has_name names name) parts.0)
  where
    by_unit : (found : Option ℕ) → unit_of tree name ≡ found → has_repeat (units_of tree names) ≡ false
        → has_name names name ≡ false → has_repeat (with_unit found (units_of tree names)) ≡ false
    by_unit None at later none = later
    by_unit (Some unit) at later none =
        by_among (among (units_of tree names) unit) (λ is.
        clash (ap (has_name names) (sym (named_by tree name unit at).1) ∙ among_named tree names unit is) none)
        later
      where
        clash : {b : Bool} → b ≡ true → b ≡ false → ⊥
        clash has_it none' = absurd cc

        by_among : (is : Bool) → (is ≡ true → ⊥) → has_repeat (units_of tree names) ≡ false
            → (is || has_repeat (units_of tree names)) ≡ false
        by_among true never later' = absurd (never refl)
        by_among false never later' = later'

some_asked : (units : List ℕ) (names : ℕ) → 1 ≤ names
    → (nat_lt (length units) names || not (is_none_asked units)) ≡ true
some_asked [] names some = or_left (nat_lt 0 names) false (lt-ltb 0 names (omega arith))
some_asked (unit ∷ units) names some = or_right (nat_lt (length (unit ∷ units)) names) true refl

-- so they may be asked for
pub may_be_asked : (tree : FaultTree) (names : List (List ℕ)) → are_taken names ≡ true
    → can_be_asked (units_of tree names) (nat_lt (length (units_of tree names)) (length names)) ≡ true
may_be_asked tree names taken =
    let both = and_parts (nat_le 1 (length names) && nat_le (length names) most_taken) (all_differ names) taken in
    let sizes = and_parts (nat_le 1 (length names)) (nat_le (length names) most_taken) both.0 in
    let few : length names ≤ 16 = leb-true (length names) 16 sizes.1 in
    let within = units_within tree names in
    rw (
      le-leb (length (units_of tree names)) 16 (omega arith),
      no_repeat tree names both.1,
      some_asked (units_of tree names) (length names) (leb-true 1 (length names) sizes.0),
    ) refl

pub not_refused : {asked : Bool} → false ≡ asked → asked ≡ true → ⊥
not_refused e h = absurd cc

-- ---- of the parts that `take` makes

module _ (tree : FaultTree) {names slice : List (List ℕ)} {units : List ℕ} {count : ℕ} (slice_is : slice ≡ names)
    (units_are : units ≡ units_of tree slice) (count_is : count ≡ length units) where
  whole : units ≡ units_of tree names
  whole = units_are ∙ ap (units_of tree) slice_is

  number : count ≡ length (units_of tree names)
  number = count_is ∙ ap length whole

  pub parts_may_be_asked : are_taken names ≡ true → can_be_asked units (nat_lt count (length slice)) ≡ true
  parts_may_be_asked taken =
      let P : List (List ℕ) × List ℕ × ℕ → Type 0 = λ p. can_be_asked p.1 (nat_lt p.2 (length p.0)) ≡ true in
      subst P (λ i. (sym slice_is i, sym whole i, sym number i)) (may_be_asked tree names taken)

  pub parts_are : {asked : AskedView} → asked ≡ record { units = units; unknown = nat_lt count (length slice) }
      → asked ≡ record { units = units_of tree names; unknown = some_unknown tree names }
  parts_are is =
      is
      ∙ ap (λ (p : List (List ℕ) × List ℕ × ℕ). record { units = p.1; unknown = nat_lt p.2 (length p.0) })
      (λ i. (slice_is i, whole i, number i))
      ∙ ap (λ (b : Bool). record { units = units_of tree names; unknown = b }) (sym (unknown_is tree names))

-- what was made of the first elements, with what is made of the next one put behind it
pub map_take_more : {A B : Type 0} (f : A → B) (xs : List A) (i : ℕ) (d : A) {made more : List B} {x : B}
    → i < length xs → made ≡ map f (take i xs) → x ≡ f (get_or xs i d) → more ≡ made ++ x ∷ []
    → more ≡ map f (take (i + 1) xs)
map_take_more f xs i d within before is push =
    push ∙ (λ k. before k ++ is k ∷ []) ∙ sym (map-append f (take i xs) (get_or xs i d ∷ []))
    ∙ ap (map f) (sym (take_more xs i d within))

-- as many were made as there are first elements
pub map_take_length : {A B : Type 0} (f : A → B) (xs : List A) (i : ℕ) {made : List B} → i ≤ length xs
    → made ≡ map f (take i xs) → length made ≡ i
map_take_length f xs i within are = ap length are ∙ length-map (take i xs) f ∙ length-take-le i xs within
