-- What is left of one set of one unit without a family that has no lower unit.
use Rattle.std.proofs.Common.{◌≡◌, ◌≢◌, ℕ, [], ◌∷◌, Contains, sym, ◌∙◌, ap, subst, arith, inl, inr}
use Rattle.std.proofs.lemmas.Bool.{cases_lt}
use Rattle.unit_sets.proofs.Sorted.{Contains-nil}
use Rattle.zdd_words.specs.declared.word.Parts.{Parts}
use Rattle.zdd_families.specs.{Family.branch, Without.IsWithout}
use Rattle.zdd_families.proofs.{CutsLemmas.cut_has_lo, Ends.unit-left}
use Rattle.zdd_families.proofs.WithoutLemmas.{without-none, without-step, without-unit}
use Rattle.family_memory.specs.Memory.{Held, IsNodeOf, family_in}
use Rattle.family_memory.proofs.After.{Gave-there}
use Rattle.minimal_operations.specs.{declared.halves.Half.Half, Halves.IsHalf}
use Rattle.minimal_operations.specs.Operands.{EndsIn, HasBoth, NoneLower}
use Rattle.minimal_operations.proofs.Ends.{node_lacks, none, nothing_left, unit}

module _ {held : Held} {a b : ℕ} {one : Parts} {other : Half} (nodes : NoneLower held a b) (is : IsNodeOf held a one)
    (half : IsHalf held one.level b other) (no_lo : one.lo ≡ 0) (unit_hi : one.hi ≡ 1) where
  has : HasBoth held a b
  has = nodes.nodes.has

  f0 : family_in held one.lo ≡ []
  f0 = none held one.lo no_lo

  f1 : family_in held one.hi ≡ [] ∷ []
  f1 = unit held unit_hi

  lo_is : IsWithout (family_in held one.lo) (family_in held other.lo) []
  lo_is = subst (λ f. IsWithout f (family_in held other.lo) []) (sym f0) (without-none (family_in held other.lo))

  -- it is a set of the other family
  pub single_gone : other.hi ≡ 1 → EndsIn IsWithout held a b 0
  single_gone same =
      nothing_left has
      (without-step one.level _ _ _ _ _ _ [] [] [] is.cut half.cut lo_is
      (subst (λ g. IsWithout (family_in held one.hi) g []) (sym (unit held same))
      (without-unit (family_in held one.hi)))
      (without-none (family_in held other.lo)))

  lo_lacks : Contains (family_in held other.lo) [] → ⊥
  lo_lacks there = node_lacks b has.sound has.second nodes.nodes.second (cut_has_lo [] half.cut there)

  hi_lacks : other.hi ≢ 1 → Contains (family_in held other.hi) [] → ⊥
  hi_lacks other_than there =
      elim (cases_lt other.hi 2) [
        | inl small ↦
            Contains-nil [] (subst (λ f. Contains f []) (none held other.hi (omega (arith, small, other_than))) there)
        | inr large ↦ node_lacks other.hi has.sound half.has_hi large there
      ]

  whole : branch one.level [] ([] ∷ []) ≡ family_in held a
  whole = sym (is.cut.is ∙ ap (λ lo. branch one.level lo (family_in held one.hi)) f0 ∙ ap (branch one.level []) f1)

  -- it is none
  pub single_stays : other.hi ≢ 1 → EndsIn IsWithout held a b a
  single_stays other_than =
      Gave-there has.sound has.first (subst (IsWithout (family_in held a) (family_in held b)) whole
      (without-step one.level _ _ _ _ _ _ [] ([] ∷ []) ([] ∷ []) is.cut half.cut lo_is
      (subst (λ f. IsWithout f (family_in held other.hi) ([] ∷ [])) (sym f1)
      (unit-left (family_in held other.hi) (hi_lacks other_than)))
      (unit-left (family_in held other.lo) lo_lacks)))
