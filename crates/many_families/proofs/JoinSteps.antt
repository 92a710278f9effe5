-- One family more in votes, call by call.
use Rattle.std.proofs.Common.{Result, IfOk, IfErr, ◌≡◌, ℕ, zero, suc, ◌-◌, ◌<◌, Bool, true, false, ◌&&◌}
use Rattle.std.proofs.Common.{◌||◌, List, [], Contains, refl, sym, ap, subst, arith}
use Rattle.unit_sets.proofs.Sorted.{Contains-cons_first}
use Rattle.unit_sets.specs.UnitList.{some_within}
use Rattle.zdd_words.specs.declared.word.Parts.{Parts}
use Rattle.zdd_families.specs.{Family.branch, Map.level_in, Antichains.IsAntichain, Least.IsLeastUnion}
use Rattle.zdd_families.specs.{Least.IsLeastProduct, Units.HasUnit, Units.LiesBelow}
use Rattle.zdd_families.proofs.{Canonical.family-filled, MapLemmas.family-empty, MapLemmas.family-unit}
use Rattle.zdd_families.proofs.{LeastLemmas.IsLeastFor-same, StepsLemmas.or_of, UnitsLemmas.below-hi}
use Rattle.zdd_families.proofs.{UnitsLemmas.cut_unit}
use Rattle.family_memory.specs.Memory.{Held, Has, IsSound, IsNodeOf, Gave, RanOut, family_in, map_of}
use Rattle.family_memory.proofs.After.{Gave-there, answers_of, at_start, ended, knows, of_start, still}
use Rattle.minimal_operations.specs.{Operands.Answers, Rests.CanBranch}
use Rattle.minimal_operations.proofs.Steps.{then_has, then_is, then_went}
use Rattle.many_families.specs.Joins.{CanJoin, IsJoined, IsBelow}
use Rattle.many_families.proofs.JoinedBelow.{below_lo, joined_above, joined_by_parts, product_above}

-- ---- any member

pub joined_any : {E : Type 0} {s0 s1 : Held} (s2 : Held) (voter same fewer : ℕ) {more : ℕ} → IsSound s0 → Has s0 same
    → Gave (IsLeastProduct (family_in s0 fewer) (family_in s0 voter)) s0 s1 more
    → (result : Result ℕ E) → IfOk result (Gave (IsLeastUnion (family_in s1 same) (family_in s1 more)) s1 s2)
    → IfErr result (λ _. RanOut s1 s2)
    → Answers (IsJoined (family_in s0 voter) (family_in s0 same) (family_in s0 fewer)) s0 s2 result
joined_any {s0} {s1} s2 voter same fewer {more} sound has gave result gives spent =
    ended s2 gave.went (IsLeastUnion (family_in s1 same) (family_in s1 more))
    (IsJoined (family_in s0 voter) (family_in s0 same) (family_in s0 fewer)) result
    (λ h is.
    IsLeastFor-same is (λ within. or_of (ap (λ f. some_within f within) (still sound gave.went same has))
    (gave.is.some_within within)))
    (answers_of (IsLeastUnion (family_in s1 same) (family_in s1 more)) s1 s2 result gives spent)

-- ---- a member below all others

none_more : (a b : Bool) → a ≡ (a || (b && false))
none_more true b = refl
none_more false true = refl
none_more false false = refl

joined_none : {same : List (List ℕ)} (fewer : List (List ℕ)) → IsAntichain same → IsJoined [] same fewer same
joined_none {same} fewer is =
    record { antichain = is; some_within = λ within. none_more (some_within same within) (some_within fewer within) }

pub joined_end : {held : Held} (voter : ℕ) {same : ℕ} (fewer : ℕ) → IsSound held → Has held same → voter < 2
    → IsBelow (family_in held voter) (family_in held same) (family_in held fewer)
    → Gave (IsJoined (family_in held voter) (family_in held same) (family_in held fewer)) held held same
joined_end {held} zero {same} fewer sound has small below =
    Gave-there sound has (subst (λ f. IsJoined f (family_in held same) (family_in held fewer) (family_in held same))
    (sym (family-empty (map_of held))) (joined_none (family_in held fewer) (sound.antichains same has)))
joined_end {held} (suc zero) fewer sound has small below =
    absurd (below.lacks (subst (λ f. Contains f []) (sym (family-unit (map_of held))) (Contains-cons_first [] [])))
joined_end (suc (suc r)) fewer sound has small below = absurd (omega arith)

-- the voter is a node, which is read, and lies below the votes of the others
module _ {s0 : Held} {voter same fewer : ℕ} {one : Parts} (has : CanJoin s0 voter same fewer)
    (node : IsNodeOf s0 voter one)
    (below : IsBelow (family_in s0 voter) (family_in s0 same) (family_in s0 fewer)) where
  has_level : HasUnit (family_in s0 voter) one.level
  has_level =
      cut_unit node.cut
      (family-filled (map_of s0) one.hi has.sound.closed (knows one.hi has.sound node.has_hi) node.filled)

  pub lo_fewer : 4096 - level_in (map_of s0) one.lo < 4096 - level_in (map_of s0) voter
  lo_fewer = let h = node.lo_above in let e = node.level in let u = node.unit.1 in omega (arith, h, e, u)

  pub lo_is_below : IsBelow (family_in s0 one.lo) (family_in s0 same) (family_in s0 fewer)
  lo_is_below = below_lo node.cut below

  module _ {s1 : Held} {lo : ℕ} (gave_lo : Gave (IsJoined (family_in s0 one.lo) (family_in s0 same)
      (family_in s0 fewer)) s0 s1 lo) where
    pub hi_lies_below : LiesBelow (family_in s1 one.hi) (family_in s1 fewer)
    hi_lies_below =
        of_start has.sound gave_lo.went LiesBelow one.hi fewer node.has_hi has.has_fewer (below-hi (family_in s0 fewer)
        node.cut below.fewer_above)

    module _ {s2 : Held} {hi : ℕ} (gave_hi : Gave (IsLeastProduct (family_in s1 one.hi) (family_in s1 fewer)) s1 s2
        hi) where
      lo_is : IsJoined (family_in s0 one.lo) (family_in s0 same) (family_in s0 fewer) (family_in s2 lo)
      lo_is = then_is gave_lo gave_hi.went

      hi_is : IsLeastProduct (family_in s0 one.hi) (family_in s0 fewer) (family_in s2 hi)
      hi_is =
          at_start has.sound gave_lo.went (λ f g. IsLeastProduct f g (family_in s2 hi)) one.hi fewer
          node.has_hi has.has_fewer gave_hi.is

      joined : IsJoined (family_in s0 voter) (family_in s0 same) (family_in s0 fewer)
          (branch one.level (family_in s2 lo) (family_in s2 hi))
      joined =
          joined_by_parts node.cut below
          (has.sound.antichains voter has.has_voter) (below.same_above one.level has_level)
          (below.fewer_above one.level has_level) lo_is hi_is

      pub joined_can : CanBranch s2 one.level lo hi
      joined_can = record {
        sound = gave_hi.went.sound;
        has_lo = then_has gave_lo gave_hi.went;
        has_hi = gave_hi.has;
        lo_above =
            joined_above node.cut below
            (has.sound.antichains voter has.has_voter) (below.same_above one.level has_level)
            (below.fewer_above one.level has_level) lo_is hi_is;
        hi_above =
            product_above node.cut below
            (has.sound.antichains voter has.has_voter) (below.same_above one.level has_level)
            (below.fewer_above one.level has_level) lo_is hi_is;
        antichain = joined.antichain;
      }

      pub joined_below : {E : Type 0} (s3 : Held) (result : Result ℕ E)
          → Answers (λ f. f ≡ branch one.level (family_in s2 lo) (family_in s2 hi)) s2 s3 result
          → Answers (IsJoined (family_in s0 voter) (family_in s0 same) (family_in s0 fewer)) s0 s3 result
      joined_below s3 result m =
          ended s3 (then_went gave_lo gave_hi.went) (λ f. f ≡ branch one.level (family_in s2 lo) (family_in s2 hi))
          (IsJoined (family_in s0 voter) (family_in s0 same) (family_in s0 fewer)) result
          (λ f same_family. subst (IsJoined (family_in s0 voter) (family_in s0 same) (family_in s0 fewer))
          (sym same_family) joined) m
