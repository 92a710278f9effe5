-- What follows from the definitions of `specs/Votes`.
use Rattle.std.specs.Prelude.{◌≡◌, ◌⊎◌, ℕ, zero, suc, List, [], ◌∷◌, ◌++◌, Contains}
use Rattle.std.proofs.Common.{refl, sym, ◌∙◌, ap, subst, inl, inr, arith}
use Rattle.unit_sets.specs.UnitList.{IsRising}
use Rattle.unit_sets.proofs.{UnitListLemmas.same_set, Sorted.Contains-nil, Sorted.Contains-cons_first}
use Rattle.zdd_families.specs.{Family.IsFamily, Sets.joined, Union.IsUnion, Product.IsProduct, Product.IsJoin}
use Rattle.zdd_families.specs.{Votes.IsChoice, Votes.IsVotes}
use Rattle.zdd_families.proofs.FamilyLemmas.{IsFamily-nil, IsFamily-unit, one_family}
use Rattle.zdd_families.proofs.CutsLemmas.{set_rises, only_empty}
use Rattle.zdd_families.proofs.SetsLemmas.{among-joined, IsRising-joined, joined-nil}

pub votes-one : (count : ℕ) (families : List (List (List ℕ))) (h h' : List (List ℕ)) → IsVotes count families h
    → IsVotes count families h' → h ≡ h'
votes-one count families h h' is is' = one_family is.is_family is'.is_family is.sets is'.sets

-- ---- before the first family

pub no_votes : IsVotes 0 [] ([] ∷ [])
no_votes =
    record {
      is_family = IsFamily-unit;
      sets = λ set.
          (λ has. sym (only_empty set has), λ same. subst (Contains ([] ∷ [])) (sym same) (Contains-cons_first [] []));
    }

pub no_more_votes : (count : ℕ) → IsVotes (suc count) [] []
no_more_votes count =
    record { is_family = IsFamily-nil; sets = λ set. (λ has. Contains-nil set has, λ none. absurd none) }

-- ---- one family more

-- a set of the last family and a choice from those before it
pub record AddsLast (families : List (List (List ℕ))) (last : List (List ℕ)) (count : ℕ) (set : List ℕ) : Type 0 where
  pub before : List ℕ
  pub added : List ℕ
  pub chosen : IsChoice families count before
  pub of_last : Contains last added
  pub is : set ≡ joined before added

pub joined-assoc : (a b c : List ℕ) → IsRising c → joined a (joined b c) ≡ joined (joined a b) c
joined-assoc a b c s =
    same_set (joined a (joined b c)) (joined (joined a b) c) (IsRising-joined a (joined b c) (IsRising-joined b c s))
    (IsRising-joined (joined a b) c s)
    (λ unit.
    let e = among-joined a (joined b c) unit in
    let e' = among-joined b c unit in
    let k = among-joined (joined a b) c unit in
    let k' = among-joined a b unit in grind (arith, e, e', k, k'))

skip : (family : List (List ℕ)) (families : List (List (List ℕ))) (count : ℕ) (set : List ℕ)
    → IsChoice families count set → IsChoice (family ∷ families) count set
skip family families zero set h = h
skip family families (suc count) set h = inl h

skipping : (family : List (List ℕ)) {families : List (List (List ℕ))} {last : List (List ℕ)} {count : ℕ} {set : List ℕ}
    → AddsLast families last count set → AddsLast (family ∷ families) last count set
skipping family {families} {count} adds = record {
  before = adds.before;
  added = adds.added;
  chosen = skip family families count adds.before adds.chosen;
  of_last = adds.of_last;
  is = adds.is;
}

none_push : (families : List (List (List ℕ))) (last : List (List ℕ)) (set : List ℕ)
    → IsChoice (families ++ last ∷ []) zero set → IsChoice families zero set
none_push [] last set h = h
none_push (family ∷ families) last set h = none_push families last set h

choice_more : (families : List (List (List ℕ))) (last : List (List ℕ)) (count : ℕ) (set : List ℕ)
    → IsChoice families count set → IsChoice (families ++ last ∷ []) count set
choice_more [] last zero set h = h
choice_more [] last (suc count) set h = absurd h
choice_more (family ∷ families) last zero set h = choice_more families last zero set h
choice_more (family ∷ families) last (suc count) set (inl skipped) =
    inl (choice_more families last (suc count) set skipped)
choice_more (family ∷ families) last (suc count) set (inr (first, rest, has, chosen, same)) =
    inr (first, rest, has, choice_more families last count rest chosen, same)

module _ (last : List (List ℕ)) (is_family : IsFamily last) where
  last_alone : (first rest : List ℕ) → Contains last first → rest ≡ [] → joined first rest ≡ first
  last_alone first rest has none = ap (joined first) none ∙ joined-nil _ (set_rises _ is_family has)

  taking : (family : List (List ℕ)) {families : List (List (List ℕ))} {count : ℕ} {set : List ℕ} (first : List ℕ)
      {rest : List ℕ}
      → Contains family first → set ≡ joined first rest → AddsLast families last count rest
      → AddsLast (family ∷ families) last (suc count) set
  taking family first has same adds = record {
    before = joined first adds.before;
    added = adds.added;
    chosen = inr (first, adds.before, has, adds.chosen, refl);
    of_last = adds.of_last;
    is =
        same ∙ ap (joined first) adds.is ∙ joined-assoc first adds.before adds.added
        (set_rises _ is_family adds.of_last);
  }

  choice_cases : (families : List (List (List ℕ))) (count : ℕ) (set : List ℕ)
      → IsChoice (families ++ last ∷ []) (suc count) set
      → IsChoice families (suc count) set ⊎ AddsLast families last count set
  choice_cases [] zero set (inl skipped) = absurd skipped
  choice_cases [] zero set (inr (first, rest, has, none, same)) =
      inr (record {
        before = [];
        added = first;
        chosen = refl;
        of_last = has;
        is = same ∙ last_alone first rest has none;
      })
  choice_cases [] (suc count) set (inl skipped) = absurd skipped
  choice_cases [] (suc count) set (inr (first, rest, has, none, same)) = absurd none
  choice_cases (family ∷ families) count set (inl skipped) =
      elim (choice_cases families count set skipped) [
        | inl before ↦ inl (inl before)
        | inr adds ↦ inr (skipping family adds)
      ]
  choice_cases (family ∷ families) zero set (inr (first, rest, has, chosen, same)) =
      inl (inr (first, rest, has, none_push families last rest chosen, same))
  choice_cases (family ∷ families) (suc count) set (inr (first, rest, has, chosen, same)) =
      elim (choice_cases families count rest chosen) [
        | inl before ↦ inl (inr (first, rest, has, before, same))
        | inr adds ↦ inr (taking family first has same adds)
      ]

  last_chosen : (families : List (List (List ℕ))) (count : ℕ) {set : List ℕ} (before added : List ℕ)
      → IsChoice families count before → Contains last added → set ≡ joined before added
      → IsChoice (families ++ last ∷ []) (suc count) set
  last_chosen [] zero before added chosen of_last same =
      inr (added, [], of_last, refl, same ∙ ap (λ q. joined q added) chosen ∙ sym (last_alone added [] of_last refl))
  last_chosen [] (suc count) before added chosen of_last same = absurd chosen
  last_chosen (family ∷ families) zero before added chosen of_last same =
      inl (last_chosen families zero before added chosen of_last same)
  last_chosen (family ∷ families) (suc count) before added (inl skipped) of_last same =
      inl (last_chosen families (suc count) before added skipped of_last same)
  last_chosen (family ∷ families) (suc count) before added (inr (first, rest, has, chosen, is)) of_last same =
      inr (
        first,
        joined rest added,
        has,
        last_chosen families count {set = joined rest added} rest added chosen of_last refl,
        same ∙ ap (λ q. joined q added) is ∙ sym (joined-assoc first rest added (set_rises _ is_family of_last)),
      )

  -- ---- the votes with one family more

  module _ (families : List (List (List ℕ))) (count : ℕ) (a b p h : List (List ℕ))
      (more : IsVotes (suc count) families a) (fewer : IsVotes count families b) (times : IsProduct b last p)
      (all : IsUnion a p h) where
    to : (set : List ℕ) → Contains a set ⊎ Contains p set → IsChoice (families ++ last ∷ []) (suc count) set
    to set (inl of_a) = choice_more families last (suc count) set ((more.sets set).0 of_a)
    to set (inr of_p) =
        let join : IsJoin b last set = (times.sets set).0 of_p in
        last_chosen families count join.first join.second ((fewer.sets join.first).0 join.of_f) join.of_g join.is

    from : (set : List ℕ) → IsChoice (families ++ last ∷ []) (suc count) set → Contains a set ⊎ Contains p set
    from set chosen =
        elim (choice_cases families count set chosen) [
          | inl before ↦ inl ((more.sets set).1 before)
          | inr adds ↦
              inr ((times.sets set).1 (record {
                first = adds.before;
                second = adds.added;
                of_f = (fewer.sets adds.before).1 adds.chosen;
                of_g = adds.of_last;
                is = adds.is;
              }))
        ]

    pub votes-step : IsVotes (suc count) (families ++ last ∷ []) h
    votes-step = record {
      is_family = all.is_family;
      sets = λ set. (λ has. to set ((all.sets set).0 has), λ chosen. (all.sets set).1 (from set chosen));
    }

pub votes-none_step : (families : List (List (List ℕ))) (last h : List (List ℕ)) → IsVotes 0 families h
    → IsVotes 0 (families ++ last ∷ []) h
votes-none_step families last h is = record {
  is_family = is.is_family;
  sets =
      λ set. (
        λ has. choice_more families last zero set ((is.sets set).0 has),
        λ chosen. (is.sets set).1 (none_push families last set chosen),
      );
}
