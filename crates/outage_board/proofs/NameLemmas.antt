-- The unit that a name names, and the units of a take.
use Rattle.std.proofs.Common.{◌≡◌, ◌≢◌, ℕ, zero, suc, ◌+◌, ◌-◌, ◌<◌, ◌≤◌, Bool, true, false, List, [], ◌∷◌, length}
use Rattle.std.proofs.Common.{get_or, AllPairs, refl, sym, ◌∙◌, ap, subst, arith}
use Rattle.std.specs.Prelude.{if◌then◌else◌, nat_le, take, position, IsSome, Option, Some, None, IfSome, IsNone, ◌↔◌}
use Rattle.std.proofs.lemmas.Bool.{leb-true, le-leb}
use lib.Pointwise.{bytes_decides}
use Rattle.fault_definitions.specs.Tree.{FaultTree, name_of, unit_count, IsUnitOf}
use Rattle.fault_definitions.specs.WellFormed.{IsTree}
use Rattle.fault_words.specs.Names.{same_name, number_in}
use Rattle.fault_words.specs.Names.{number_at as name_number}
use Rattle.fault_model.proofs.NameLemmas.{unnamed, named_unit, some_named, none_named, none_where_some}
use Rattle.unit_sets.specs.Unit.{most_units}
use Rattle.std.proofs.lemmas.List.{get_or-take, length-take}
use Rattle.outage_board.specs.Requests.{unit_from, only_unit, unit_of}

abbrev pub Differ : List (List ℕ) → Type 0
Differ names = AllPairs (λ earlier later. earlier ≢ later) names

differ_tail : (name : List ℕ) (names : List (List ℕ)) → Differ (name ∷ names) → Differ names
differ_tail name names differ i j d less short = differ (suc i) (suc j) d (omega arith) (omega arith)

-- the number of a name that stands among names that differ
number_at : (names : List (List ℕ)) {name : List ℕ} (number place : ℕ) → Differ names → place < length names
    → get_or names place [] ≡ name → unit_from number names name ≡ Some (number + place)
number_at [] number place differ short at = absurd (omega arith)
number_at (first ∷ names) {name} number zero differ short at =
    by_same (same_name first name) ((bytes_decides first name).1 at)
  where
    by_same : (same : Bool) → same ≡ true → (if same then Some number else unit_from (suc number) names name)
        ≡ Some (number + 0)
    by_same true is = ap Some (omega arith)
    by_same false is = absurd cc
number_at (first ∷ names) {name} number (suc place) differ short at =
    by_same (same_name first name) (λ same. differ 0 (suc place) [] (omega arith) short
    ((bytes_decides first name).0 same ∙ sym at))
    (number_at names (suc number) place (differ_tail first names differ) (omega arith) at)
  where
    by_same : (same : Bool) → (same ≡ true → ⊥) → unit_from (suc number) names name ≡ Some (suc number + place)
        → (if same then Some number else unit_from (suc number) names name) ≡ Some (number + suc place)
    by_same true apart later = absurd (apart refl)
    by_same false apart later = later ∙ ap Some (omega arith)

some_is : {a b : ℕ} → Some a ≡ Some b → a ≡ b
some_is e = cc

abbrev IsThere : List (List ℕ) → List ℕ → ℕ → ℕ → Type 0
IsThere names name number found =
    (number ≤ found) × (found < number + length names) × (get_or names (found - number) [] ≡ name)

-- a name with a number stands there
number_there : (names : List (List ℕ)) (name : List ℕ) (number found : ℕ) → unit_from number names name ≡ Some found
    → IsThere names name number found
number_there [] name number found is = absurd cc
number_there (first ∷ names) name number found is =
    by_same (same_name first name) (λ same. (bytes_decides first name).0 same)
    (λ later. number_there names name (suc number) found later) is
  where
    by_same : (same : Bool) → (same ≡ true → first ≡ name)
        → (unit_from (suc number) names name ≡ Some found → IsThere names name (suc number) found)
        → (if same then Some number else unit_from (suc number) names name) ≡ Some found
        → IsThere (first ∷ names) name number found
    by_same true means later is' =
        let e : number ≡ found = some_is is' in
        let z : found - number ≡ 0 = omega arith in
        (omega arith, omega arith, ap (λ k. get_or (first ∷ names) k []) z ∙ means refl)
    by_same false means later is' =
        let there = later is' in
        let low = there.0 in
        let high = there.1 in
        let z : found - number ≡ suc (found - suc number) = omega arith in
        (omega arith, omega arith, ap (λ k. get_or (first ∷ names) k []) z ∙ there.2)

unit_named : (tree : FaultTree) (unit : ℕ) {found : Option ℕ} → unit ≤ unit_count tree → found ≡ Some unit
    → Some unit ≡ only_unit tree found
unit_named tree unit inside is = rw (is, le-leb unit (unit_count tree) inside) refl

no_unit : (tree : FaultTree) (found : Option ℕ) → ((node : ℕ) → found ≡ Some node → node ≤ unit_count tree → ⊥)
    → None ≡ only_unit tree found
no_unit tree None never = refl
no_unit tree (Some node) never =
    by_inside (nat_le node (unit_count tree)) (λ inside. never node refl (leb-true node (unit_count tree) inside))
  where
    by_inside : (inside : Bool) → (inside ≡ true → ⊥) → None ≡ (if inside then Some node else None)
    by_inside true outside = absurd (outside refl)
    by_inside false outside = refl

-- what a tree tells of a name is its unit
pub named_is : {tree : FaultTree} (name : List ℕ) (told : Option ℕ) → IsTree tree
    → IfSome told (λ unit. IsUnitOf tree unit × (name_of tree unit ≡ name))
    → (IsNone told ↔ ((unit : ℕ) → IsUnitOf tree unit → name_of tree unit ≢ name))
    → told ≡ unit_of tree name
named_is {tree} name (Some unit) kept some none =
    unit_named tree unit some.0.1 (number_at tree.names 1 (unit - 1) kept.names_differ
    (let all = kept.names_all in omega (arith, some.0.0, some.0.1)) some.1 ∙ ap Some (omega (arith, some.0.0)))
named_is {tree} name None kept some none =
    no_unit tree (unit_from 1 tree.names name)
    (λ node is inside. let there = number_there tree.names name 1 node is in none.0 refl node (there.0, inside) there.2)

-- ---- the units of a take

-- a name's unit has the name
pub named_by : (tree : FaultTree) (name : List ℕ) (unit : ℕ) → unit_of tree name ≡ Some unit
    → (unit ≤ unit_count tree) × (get_or tree.names (unit - 1) [] ≡ name)
named_by tree name unit is = by_found (unit_from 1 tree.names name) refl is
  where
    by_inside : (node : ℕ) (inside : Bool) → (inside ≡ true → node ≤ unit_count tree)
        → unit_from 1 tree.names name ≡ Some node → (if inside then Some node else None) ≡ Some unit
        → (unit ≤ unit_count tree) × (get_or tree.names (unit - 1) [] ≡ name)
    by_inside node true within found e =
        let same : node ≡ unit = some_is e in (
          omega (arith, within refl),
          ap (λ k. get_or tree.names (k - 1) []) (sym same)
              ∙ (number_there tree.names name 1 node found).2,
        )
    by_inside node false within found e = absurd cc

    by_found : (found : Option ℕ) → unit_from 1 tree.names name ≡ found → only_unit tree found ≡ Some unit
        → (unit ≤ unit_count tree) × (get_or tree.names (unit - 1) [] ≡ name)
    by_found None found e = absurd cc
    by_found (Some node) found e =
        by_inside node (nat_le node (unit_count tree)) (leb-true node (unit_count tree)) found e

-- ---- the units in an index of their names

-- the first of some names that differ
pub differ_first : (count : ℕ) (names : List (List ℕ)) → Differ names → Differ (take count names)
differ_first count names differ i j d less short =
    let few = length-take count names in
    let at_i : get_or (take count names) i d ≡ get_or names i d =
    get_or-take count names i d (omega (arith, few, short, less)) in
    let at_j : get_or (take count names) j d ≡ get_or names j d =
    get_or-take count names j d (omega (arith, few, short)) in
    λ same. differ i j d less (omega (arith, few, short)) (sym at_i ∙ same ∙ at_j)

abbrev HasName : FaultTree → List ℕ → ℕ → Type 0
HasName tree name unit = IsUnitOf tree unit × (name_of tree unit ≡ name)

none_told : (told : Option ℕ) → (IsSome told → ⊥) → told ≡ None
none_told None never = refl
none_told (Some unit) never = absurd (never refl)

-- what an index of the units' names tells of a name is its unit
pub number_is : {tree : FaultTree} → IsTree tree → {index : List (List ℕ)} → index ≡ take (unit_count tree) tree.names
    → (name : List ℕ) {number : ℕ} → number ≡ number_in index name → (told : Option ℕ)
    → (IsSome told ↔ (1 ≤ number) × (number ≤ most_units)) → IfSome told (λ unit. unit ≡ number)
    → told ≡ unit_of tree name
number_is {tree} kept {index} first name {number} is told valid value = by_place (position (same_name name) index) refl
  where
    by_place : (found : Option ℕ) → position (same_name name) index ≡ found → told ≡ unit_of tree name
    by_place None none =
        let low : number ≡ 0 = is ∙ ap name_number none in
        let untold =
        none_told told (λ some. (let within = valid.0 some in absurd (omega (arith, low, within.0)))) in
        subst (λ t. t ≡ unit_of tree name) (sym untold)
        (named_is name None kept tt (none_named None _ refl (unnamed kept first name none)))
    by_place (Some place) found =
        let at : number ≡ suc place = is ∙ ap name_number found in
        let there : place + 1 ≡ number = omega (arith, at) in
        let named = named_unit kept first name place found in
        let few = kept.few_units in
        let within = named.0.1 in
        let made : IsSome told = valid.1 (omega (arith, at), omega (arith, at, few, within)) in
        named_is name told kept
        (some_named told (HasName tree name) number value (subst (HasName tree name) there named))
        (none_where_some told _ made (λ all. all (place + 1) named.0 named.1))
