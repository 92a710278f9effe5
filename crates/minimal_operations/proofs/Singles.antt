-- The family of one set with one unit.
use Rattle.std.proofs.Common.{Result, ◌≡◌, ℕ, [], ◌∷◌, refl, sym, ◌∙◌, ap, subst, arith}
use Rattle.zdd_families.specs.{Family.IsAbove, Family.branch, Antichains.IsAntichain}
use Rattle.zdd_families.proofs.MinimalLemmas.{minimal-none, minimal-unit}
use Rattle.zdd_families.proofs.LeastNodesLemmas.{antichain-branch}
use Rattle.family_memory.specs.Memory.{Held, IsSound, family_in}
use Rattle.family_memory.proofs.After.{Went-nowhere, ended}
use Rattle.minimal_operations.specs.{Operands.Answers, Rests.CanBranch}
use Rattle.minimal_operations.proofs.Ends.{none, unit}

module _ {held : Held} (x : ℕ) (sound : IsSound held) where
  pub single_can : CanBranch held x 0 1
  single_can =
      let few = sound.terminals in
      record {
        sound = sound;
        has_lo = omega arith;
        has_hi = omega arith;
        lo_above = subst (IsAbove x) (sym (none held 0 refl)) tt;
        hi_above = subst (IsAbove x) (sym (unit held {r = 1} refl)) (tt, tt);
        antichain =
            subst (λ lo. IsAntichain (branch x lo (family_in held 1))) (sym (none held 0 refl))
            (subst (λ hi. IsAntichain (branch x [] hi)) (sym (unit held {r = 1} refl))
            (antichain-branch x tt (tt, tt) minimal-none minimal-unit (λ set has. refl)));
      }

  is_single : branch x (family_in held 0) (family_in held 1) ≡ (x ∷ []) ∷ []
  is_single = ap (λ lo. branch x lo (family_in held 1)) (none held 0 refl) ∙ ap (branch x []) (unit held {r = 1} refl)

  pub single_made : {E : Type 0} (after : Held) (result : Result ℕ E)
      → Answers (λ f. f ≡ branch x (family_in held 0) (family_in held 1)) held after result
      → Answers (λ f. f ≡ (x ∷ []) ∷ []) held after result
  single_made after result m =
      ended after (Went-nowhere sound) (λ f. f ≡ branch x (family_in held 0) (family_in held 1))
      (λ f. f ≡ (x ∷ []) ∷ []) result (λ f is. is ∙ is_single) m
