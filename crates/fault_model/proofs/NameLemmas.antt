-- A unit by its name: the names of the units are the first ones.
use Rattle.std.proofs.Common.{◌≡◌, ℕ, zero, suc, ◌+◌, ◌-◌, ◌<◌, false, List, [], ◌∷◌, length, get_or}
use Rattle.std.proofs.Common.{Bool, cond, not, inl, inr, refl, sym, ◌∙◌, ap, subst, arith}
use Rattle.std.specs.Prelude.{nat_eq, nat_lt, take, position, Option, Some, None, IfSome, IsNone, IsSome, ◌↔◌}
use Rattle.std.proofs.{lemmas.List.Quantifiers.position-Some, lemmas.List.get_or-take, lemmas.List.length-take-le}
use Rattle.std.specs.List.{list_any, position_or_len}
use Rattle.std.proofs.lemmas.Bool.{cases_Bool, cond-true, lt-ltb, or_from, or_parts}
use Rattle.fault_definitions.specs.Tree.{FaultTree, name_of, unit_count, IsUnitOf}
use Rattle.fault_definitions.specs.WellFormed.{IsTree}
use lib.Pointwise.{pointwise, bytes_decides}
use Rattle.fault_words.specs.Names.{has_name, same_name}

no_such_at : {name : List ℕ} (names : List (List ℕ)) (place : ℕ) → list_any (pointwise nat_eq name) names ≡ false
    → place < length names → get_or names place [] ≡ name → ⊥
no_such_at [] place none short same = absurd (omega arith)
no_such_at {name} (first ∷ names) zero none short same =
    let apart = (or_parts (pointwise nat_eq name first) (list_any (pointwise nat_eq name) names) none).0 in
    let met = (bytes_decides name first).1 (sym same) in
    absurd cc
no_such_at {name} (first ∷ names) (suc place) none short same =
    no_such_at names place (or_parts (pointwise nat_eq name first) (list_any (pointwise nat_eq name) names) none).1
    (omega arith) same

absent : (name : List ℕ) (names : List (List ℕ)) → (position_or_len (same_name name) names < length names → ⊥)
    → has_name names name ≡ false
absent name [] never = refl
absent name (other ∷ names) never =
    let place_if : Bool → ℕ = λ b. cond (not b) (1 + position_or_len (same_name name) names) 0 in
    elim (cases_Bool (same_name name other)) [
      | inl same ↦
          let first : position_or_len (same_name name) (other ∷ names) ≡ 0 = ap place_if same in
          absurd (never (omega (arith, first)))
      | inr apart ↦
          let later : position_or_len (same_name name) (other ∷ names) ≡ 1 + position_or_len (same_name name) names =
          ap place_if apart in
          or_from (same_name name other) (has_name names name) apart
          (absent name names (λ short. never (omega (arith, later, short))))
    ]

-- a name without a place is none of these
none_there : (name : List ℕ) (names : List (List ℕ)) → position (same_name name) names ≡ None
    → has_name names name ≡ false
none_there name names none =
    let place = position_or_len (same_name name) names in
    absent name names (λ short. (let some = cond-true (nat_lt place (length names)) (Some place) None
    (lt-ltb place (length names) short) in cc))

-- the names of a tree's units are the first ones
module _ {tree : FaultTree} (kept : IsTree tree) {names : List (List ℕ)}
    (first : names ≡ take (unit_count tree) tree.names) (name : List ℕ) where
  name_at : (unit : ℕ) → IsUnitOf tree unit → get_or names (unit - 1) [] ≡ name_of tree unit
  name_at unit is_unit =
      ap (λ l. get_or l (unit - 1) []) first
      ∙ get_or-take (unit_count tree) tree.names (unit - 1) [] (omega (arith, is_unit.0, is_unit.1))

  count : length names ≡ unit_count tree
  count =
      ap length first
      ∙ length-take-le (unit_count tree) tree.names (let all = kept.names_all in omega (arith, all))

  -- no such name, no unit
  pub unnamed : position (same_name name) names ≡ None → (unit : ℕ) → IsUnitOf tree unit → name_of tree unit ≡ name → ⊥
  unnamed none unit is_unit same =
      no_such_at names (unit - 1) (none_there name names none)
      (omega (arith, count, is_unit.0, is_unit.1)) (name_at unit is_unit ∙ same)

  -- the place of a name, and its unit
  pub named_unit : (place : ℕ) → position (same_name name) names ≡ Some place
      → IsUnitOf tree (place + 1) × (name_of tree (place + 1) ≡ name)
  named_unit place found =
      let there = position-Some (same_name name) names place [] found in
      let at : place + 1 - 1 ≡ place = omega arith in
      let is_unit : IsUnitOf tree (place + 1) = (omega arith, omega (arith, count, there.0)) in (
        is_unit,
        sym (name_at (place + 1) is_unit) ∙ ap (λ i. get_or names i []) at
            ∙ sym ((bytes_decides name (get_or names place [])).0 there.1),
      )

pub some_named : (made : Option ℕ) (P : ℕ → Type 0) (number : ℕ) → IfSome made (λ u. u ≡ number) → P number
    → IfSome made P
some_named None P number is holds = tt
some_named (Some u) P number is holds = subst P (sym is) holds

pub none_named : (made : Option ℕ) (P : Type 0) → made ≡ None → P → IsNone made ↔ P
none_named made P none holds = (λ _. holds, λ _. subst IsNone (sym none) refl)

pub none_where_some : (made : Option ℕ) (P : Type 0) → IsSome made → (P → ⊥) → IsNone made ↔ P
none_where_some (Some u) P some fails = (λ none. absurd cc, λ holds. absurd (fails holds))
none_where_some None P some fails = absurd cc
