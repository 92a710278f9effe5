-- A node whose sets with the level are rid of those that include one without it.
use Rattle.std.proofs.Common.{Result, ◌≡◌, ℕ, sym, ◌∙◌, ap, subst}
use Rattle.zdd_families.specs.{Family.IsAbove, Family.branch, Without.IsWithout, Antichains.IsAntichain}
use Rattle.zdd_families.proofs.WithoutLemmas.{without-above}
use Rattle.zdd_families.proofs.LeastNodesLemmas.{antichain-branch, antichain-without, none_left}
use Rattle.family_memory.specs.Memory.{Held, Has, Gave, family_in}
use Rattle.family_memory.proofs.After.{ended, still, still_has}
use Rattle.minimal_operations.specs.Operands.{Answers}
use Rattle.minimal_operations.specs.Rests.{CanBranch, CanRid, IsRidBranch, Serves}

pub serves_itself : {held : Held} {all r : ℕ} → Has held r → Serves held all r r
serves_itself has = record { has = has; same = λ left without. without }

module _ {s0 : Held} {x lo all other : ℕ} (can : CanRid s0 x lo all other) {s1 : Held} {hi : ℕ}
    (gave : Gave (IsWithout (family_in s0 all) (family_in s0 other)) s0 s1 hi) where
  left : IsWithout (family_in s0 all) (family_in s0 lo) (family_in s1 hi)
  left = can.serves.same (family_in s1 hi) gave.is

  same_lo : family_in s1 lo ≡ family_in s0 lo
  same_lo = still can.sound gave.went lo can.has_lo

  pub rid_can : CanBranch s1 x lo hi
  rid_can =
      let hi_above = without-above x left can.all_above in
      record {
        sound = gave.went.sound;
        has_lo = still_has can.sound gave.went lo can.has_lo;
        has_hi = gave.has;
        lo_above = subst (IsAbove x) (sym same_lo) can.lo_above;
        hi_above = hi_above;
        antichain =
            subst (λ l. IsAntichain (branch x l (family_in s1 hi))) (sym same_lo)
            (antichain-branch x can.lo_above hi_above (can.sound.antichains lo can.has_lo)
            (antichain-without (family_in s0 all) (family_in s0 lo) (family_in s1 hi)
            (can.sound.antichains all can.has_all) left) (none_left left));
      }

  pub rid_made : {E : Type 0} (s2 : Held) (result : Result ℕ E)
      → Answers (λ f. f ≡ branch x (family_in s1 lo) (family_in s1 hi)) s1 s2 result
      → Answers (IsRidBranch x (family_in s0 lo) (family_in s0 all)) s0 s2 result
  rid_made s2 result m =
      ended s2 gave.went (λ f. f ≡ branch x (family_in s1 lo) (family_in s1 hi))
      (IsRidBranch x (family_in s0 lo) (family_in s0 all)) result
      (λ f e. record { hi = family_in s1 hi; left = left; is = e ∙ ap (λ l. branch x l (family_in s1 hi)) same_lo }) m
