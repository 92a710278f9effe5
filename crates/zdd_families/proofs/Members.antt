-- The sets of a branch: those of lo, and those of hi with one unit more.
use Rattle.std.specs.Prelude.{◌≡◌, ◌↔◌, ◌⊎◌, ℕ, List, [], ◌∷◌, ◌++◌, Contains}
use Rattle.std.proofs.Common.{sym, subst, inl, inr}
use Rattle.std.proofs.lemmas.List.Elements.{Contains-append_cases, Contains-append_left, Contains-append_right}
use Rattle.unit_sets.proofs.Sorted.{Contains-cons_first, Contains-cons_other, Contains-cons_cases, Contains-nil}
use Rattle.zdd_families.specs.Family.{branch, each_with}

-- the set is x and a set of the family
abbrev pub HasWith : ℕ → List (List ℕ) → List ℕ → Type 0
HasWith x family set = (rest : List ℕ) × (set ≡ x ∷ rest) × Contains family rest

pub each_with-contains : (x : ℕ) (family : List (List ℕ)) (set : List ℕ) → Contains family set
    → Contains (each_with x family) (x ∷ set)
each_with-contains x [] set h = Contains-nil _ h
each_with-contains x (first ∷ others) set h =
    elim (Contains-cons_cases _ _ _ h) [
      | inl same ↦ subst (λ q. Contains (each_with x (first ∷ others)) (x ∷ q)) same
          (Contains-cons_first _ _)
      | inr later ↦ Contains-cons_other _ _ _ (each_with-contains x others set later)
    ]

pub HasWith-from_each : (x : ℕ) (family : List (List ℕ)) (set : List ℕ) → Contains (each_with x family) set
    → HasWith x family set
HasWith-from_each x [] set h = Contains-nil set h
HasWith-from_each x (first ∷ others) set h =
    elim (Contains-cons_cases (x ∷ first) set (each_with x others) h) [
      | inl same ↦ (first, sym same, Contains-cons_first first others)
      | inr later ↦
          let found : HasWith x others set = HasWith-from_each x others set later in
          (found.0, found.1, Contains-cons_other first found.0 others found.2)
    ]

-- ---- a branch has lo's sets, and hi's with x

pub branch-has_lo : (x : ℕ) (lo hi : List (List ℕ)) (set : List ℕ) → Contains lo set → Contains (branch x lo hi) set
branch-has_lo x [] hi set h = Contains-nil set h
branch-has_lo x ([] ∷ others) hi set h =
    elim (Contains-cons_cases [] set others h) [
      | inl same ↦ subst (λ q. Contains (branch x ([] ∷ others) hi) q) same
          (Contains-cons_first [] (each_with x hi ++ others))
      | inr later ↦ Contains-cons_other [] set (each_with x hi ++ others)
          (Contains-append_right (each_with x hi) others set later)
    ]
branch-has_lo x ((unit ∷ first) ∷ others) hi set h =
    Contains-append_right (each_with x hi) ((unit ∷ first) ∷ others) set h

pub branch-has_hi : (x : ℕ) (lo hi : List (List ℕ)) (set : List ℕ) → Contains hi set
    → Contains (branch x lo hi) (x ∷ set)
branch-has_hi x [] hi set h = each_with-contains x hi set h
branch-has_hi x ([] ∷ others) hi set h =
    Contains-cons_other [] (x ∷ set) (each_with x hi ++ others)
    (Contains-append_left _ _ _ (each_with-contains x hi set h))
branch-has_hi x ((unit ∷ first) ∷ others) hi set h =
    Contains-append_left _ _ _ (each_with-contains x hi set h)

-- ---- and no others

joined_cases : (x : ℕ) (hi lo : List (List ℕ)) (set : List ℕ) → Contains (each_with x hi ++ lo) set
    → Contains lo set ⊎ HasWith x hi set
joined_cases x hi lo set h =
    elim (Contains-append_cases _ _ _ h) [
      | inl with_x ↦ inr (HasWith-from_each _ _ _ with_x)
      | inr of_lo ↦ inl of_lo
    ]

pub branch-cases : (x : ℕ) (lo hi : List (List ℕ)) (set : List ℕ) → Contains (branch x lo hi) set
    → Contains lo set ⊎ HasWith x hi set
branch-cases x [] hi set h = inr (HasWith-from_each _ _ _ h)
branch-cases x ([] ∷ others) hi set h =
    elim (Contains-cons_cases [] set (each_with x hi ++ others) h) [
      | inl same ↦ inl (subst (λ q. Contains ([] ∷ others) q) same (Contains-cons_first [] others))
      | inr later ↦ elim (joined_cases x hi others set later) [
        | inl of_lo ↦ inl (Contains-cons_other [] set others of_lo)
        | inr with_x ↦ inr with_x
      ]
    ]
branch-cases x ((unit ∷ first) ∷ others) hi set h = joined_cases x hi ((unit ∷ first) ∷ others) set h

-- what holds of lo's sets, and of hi's with x, holds of each set of the branch
pub branch_each : (P : List ℕ → Type 0) (x : ℕ) (lo hi : List (List ℕ)) → ((set : List ℕ) → Contains lo set → P set)
    → ((rest : List ℕ) → Contains hi rest → P (x ∷ rest)) → (set : List ℕ) → Contains (branch x lo hi) set → P set
branch_each P x lo hi of_lo of_hi set h =
    elim (branch-cases x lo hi set h) [
      | inl has ↦ of_lo set has
      | inr (rest, same, has) ↦ subst P (sym same) (of_hi rest has)
    ]

pub branch-members : (x : ℕ) (lo hi : List (List ℕ)) (set : List ℕ)
    → Contains (branch x lo hi) set ↔ (Contains lo set ⊎ HasWith x hi set)
branch-members x lo hi set = (
  λ h. branch-cases x lo hi set h,
  λ cases. elim cases [
    | inl of_lo ↦ branch-has_lo _ _ _ _ of_lo
    | inr with_x ↦ subst (Contains (branch x lo hi)) (sym with_x.1) (branch-has_hi x lo hi with_x.0 with_x.2)
  ],
)
